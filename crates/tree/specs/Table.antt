-- The tables that are served: rules 2.7 to 2.9.
use Rattle.std.specs.Prelude.{◌≡◌, Bool, true, cond, ◌&&◌, ◌||◌, List, ℕ, zero, suc, ◌+◌, ◌-◌, ◌/◌, ◌%◌, eqb, leb, length, ℤ, pos}
use Rattle.answers.specs.Range.{within}
use Rattle.tree.specs.Prototype.{Prototype, coefficient, taps, magnitudes}

-- rule 2.7: the prototype of a lent table: its entries, D in the middle
abbrev pub prototype_of : List ℤ → Prototype
prototype_of table = record { coefficients = table; centre = length table / 2 }

-- rule 2.7: 19, 27 or 55 entries
unfoldable pub length_served : ℕ → Bool
length_served n = eqb n 19 || (eqb n 27 || eqb n 55)

-- rule 2.8: the test f holds of 0, 1, .., n - 1
unfoldable pub every : ℕ → (ℕ → Bool) → Bool
every zero f = true
every (suc n) f = every n f && f n

-- rule 2.8: z is a
abbrev pub same : ℤ → ℤ → Bool
same a z = within a a z

-- rule 2.8: how far entry i is from the centre
abbrev pub from_centre : Prototype → ℕ → ℕ
from_centre p i = (i - p.centre) + (p.centre - i)

-- rule 2.8: the centre
abbrev pub centre_value : ℤ
centre_value = pos 50000

-- rule 2.8: what stands at an even distance from the centre
abbrev pub even_value : Prototype → ℕ → ℤ
even_value p i = cond (eqb i p.centre) centre_value (pos 0)

-- rule 2.8: entry i: as the one met from the other end, and at an even distance from the centre what must stand there
abbrev pub entry_served : Prototype → ℕ → Bool
entry_served p i =
    same (coefficient p (taps p - 1 - i)) (coefficient p i) && cond (eqb (from_centre p i % 2) 0) (same (even_value p i) (coefficient p i)) true

-- rule 2.9: what the magnitudes add up to at most
abbrev pub most_magnitudes : ℕ
most_magnitudes = 150000

-- rules 2.8, 2.9: every entry, and the magnitudes together
abbrev pub values_served : List ℤ → Bool
values_served table =
    let p = prototype_of table in
    every (taps p) (entry_served p) && leb (magnitudes p) most_magnitudes

-- rules 2.7 to 2.9: a table that is served
pub record Served (table : List ℤ) : Type 0 where
  pub length_served_lem : length_served (length table) ≡ true
  pub values_served_lem : values_served table ≡ true
