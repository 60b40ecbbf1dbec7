-- The front part of a list.
use Rattle.std.specs.Prelude.{◌≡◌, List, ℕ, ◌≤◌, min, length, take, ℤ}

-- rule 13.11: r places at the front of s, n if there are so many; the second and the third half follow from the first, and lending that part asks for them
abbrev pub Front : ℕ → ℕ → List ℤ → Type 0
Front n r s = (r ≡ min n (length s)) × (r ≤ length s) × (r ≡ length (take r s))
