-- The right values: the rates are small, and so is what a second takes. Assumes nothing.
use mathlib.Core.Path.{◌≡◌, subst}
use mathlib.Core.Bool.{Bool, true, ◌||◌}
use Prim.Native.Nat.{ℕ, ◌*◌, ◌<◌, ◌≤◌}
use native.Mathlib.Omega.{arith}
use native.Mathlib.Nat.{mul-le-mul}
use lib.Dec.{eqb}
use borrow.Author.Tests.{eqb-true}
use Rattle.fields.proofs.ByTest.{by-test}
use Rattle.wave_values.specs.Values.{known_rate}

-- neither rate is above 48,000
pub rate_small : (rate : ℕ) → known_rate rate ≡ true → rate ≤ 48000
unfolding known_rate
rate_small rate h =
    by-test (eqb rate 44100)
    (λ t. omega (arith, eqb-true rate 44100 t))
    (λ t. omega (arith, eqb-true rate 48000 (subst (λ (b : Bool). (b || eqb rate 48000) ≡ true) t h)))

-- the byte rate of a known rate fits
pub product_fits : (rate size : ℕ) → rate ≤ 48000 → size < 9 → rate * size < 4294967296
product_fits rate size r s =
    let eight : size ≤ 8 = omega arith in
    let l : rate * size ≤ 48000 * 8 = mul-le-mul r eight in
    omega arith
