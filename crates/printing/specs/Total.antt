-- The total of a list of places: every place counts, each with a weight of its index.
use Rattle.std.specs.Prelude.{ℕ, suc, ◌+◌, ◌*◌, ◌%◌, ◌-◌, ◌^◌, List, [], ◌∷◌, ℤ, pos, negsuc}

-- rule 13.11: a number of 32 bits as it is kept, from 0 on
abbrev pub code : ℤ → ℕ
code (pos n) = n
code (negsuc n) = 2 ^ 32 - suc n

-- rule 13.11: a place at index i, added to the sum of those before it
abbrev pub add : ℕ → ℕ → ℤ → ℕ
add sum i z = (sum + code z * (i % 1009 + 1)) % 4294967291

-- rule 13.11: the places from index i on, added to a sum
unfoldable pub total_from : ℕ → ℕ → List ℤ → ℕ
total_from sum i [] = sum
total_from sum i (z ∷ s) = total_from (add sum i z) (i + 1) s
