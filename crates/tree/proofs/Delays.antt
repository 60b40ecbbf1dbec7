-- The delay t and the hold-backs. Assumes nothing.
use mathlib.Core.Path.{◌≡◌, refl}
use mathlib.Core.List.{[], ◌∷◌, map}
use Prim.Native.Nat.{ℕ, zero, suc, ◌+◌, ◌-◌, ◌*◌, ◌^◌, ◌≤◌}
use native.Mathlib.Nat.{mul-le-mul_left}
use native.Mathlib.Omega.{arith}
use lib.Pow.{pow_mono}
use Rattle.tree.specs.Prototype.{Prototype, published}
use Rattle.tree.specs.Tree.{delay, hold_back}

-- rule 3.7: 9 for two bands, .., 1,143 for eight, .., 4,599 for ten
pub delays : map (delay published) (2 ∷ 3 ∷ 4 ∷ 5 ∷ 6 ∷ 7 ∷ 8 ∷ 9 ∷ 10 ∷ []) ≡ 9 ∷ 27 ∷ 63 ∷ 135 ∷ 279 ∷ 567 ∷ 1143 ∷ 2295 ∷ 4599 ∷ []
delays = refl

-- D·(2^(M+1-m) - 1) ≤ t for m = 2..M, so the hold-back t - D·(2^(M+1-m) - 1) is not below 0
pub hold_back_whole : (p : Prototype) (M m : ℕ) → 2 ≤ m → m ≤ M → p.centre * (2 ^ (M + 1 - m) - 1) ≤ delay p M
hold_back_whole p M m l h = mul-le-mul_left p.centre (omega (arith, pow_mono {i = M + 1 - m} {j = M - 1} (omega arith)))

-- so the two add up to t, though `-` on ℕ stops at 0
pub hold_back_makes_delay : (p : Prototype) (M m : ℕ) → 2 ≤ m → m ≤ M → hold_back p M m + p.centre * (2 ^ (M + 1 - m) - 1) ≡ delay p M
unfolding hold_back
hold_back_makes_delay p M zero l h = absurd (omega arith)
hold_back_makes_delay p M (suc zero) l h = absurd (omega arith)
hold_back_makes_delay p M (suc (suc m)) l h = omega (arith, hold_back_whole p M (suc (suc m)) l h)
