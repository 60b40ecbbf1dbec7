-- Worked examples: codes of floats with their samples, by one computation. Assumes nothing.
use mathlib.Core.Path.{◌≡◌, refl}
use mathlib.Core.List.{List, [], ◌∷◌, map}
use Prim.Native.Nat.{ℕ}
use lib.IntN.{pos, negsuc}
use Rattle.floats.specs.Exponent.{by_exponent}
use Rattle.std.specs.Prelude.{ℤ, Result, Ok, Err}
use Rattle.floats.specs.declared.code.NotNumber.{NotNumber}

pub record Row : Type 0 where
  pub code : ℕ
  pub sample : Result ℤ NotNumber

abbrev row : ℕ → Result ℤ NotNumber → Row
row n r = record { code = n; sample = r }

-- 0.5, 1.0, -1.0; 2 ^ -24 and its negative, half a step each; the largest float below 2 ^ -24, -0.0, the largest denormal;
-- the largest float below 1.0 and its negative; infinity, a NaN
abbrev pub table : List Row
table =
    row 1056964608 (Ok (pos 4194304)) ∷
    row 1065353216 (Ok (pos 8388607)) ∷
    row 3212836864 (Ok (negsuc 8388607)) ∷
    row 864026624 (Ok (pos 1)) ∷
    row 3011510272 (Ok (negsuc 0)) ∷
    row 864026623 (Ok (pos 0)) ∷
    row 2147483648 (Ok (pos 0)) ∷
    row 8388607 (Ok (pos 0)) ∷
    row 1065353215 (Ok (pos 8388607)) ∷
    row 3212836863 (Ok (negsuc 8388607)) ∷
    row 2139095040 (Err (record {})) ∷
    row 2143289344 (Err (record {})) ∷ []

-- each code of the table gives its sample
pub readings : map (λ (r : Row). by_exponent r.code) table ≡ map (λ (r : Row). r.sample) table
unfolding by_exponent
readings = refl
