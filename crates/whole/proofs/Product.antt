-- A product added to a sum, as the machine works it out: no bit is lost. Assumes nothing.
use mathlib.Core.Path.{◌≡◌}
use Prim.Native.Nat.{ℕ, ◌*◌, ◌≤◌, ◌<◌, ◌^◌}
use native.Mathlib.Nat.{mul-le-mul}
use native.Mathlib.Omega.{arith}
use lib.IntN.{ℤ, nat_abs, ◌+ℤ◌, ◌*ℤ◌}
use mir.Syntax.{w64}
use mir.Val.{SFits}
use mir.Facts.{to_z-of_z}
use Rattle.whole.proofs.Signed.{about}
use Rattle.whole.proofs.Magnitude.{abs-+ℤ, abs-*ℤ}
use Rattle.whole.proofs.Rounded.{raw}

pub fits_abs : (z : ℤ) → nat_abs z < 2 ^ 63 → SFits w64 z
fits_abs z h = record { sfits = omega (arith, about z) }

pub record Added (s c p : ℤ) : Type 0 where
  pub fits : SFits w64 (raw w64 s +ℤ raw w64 (raw w64 c *ℤ raw w64 p))
  pub answer : raw w64 (raw w64 s +ℤ raw w64 (raw w64 c *ℤ raw w64 p)) ≡ s +ℤ c *ℤ p

-- m and n bound the coefficient and what it weighs
pub added : {s c : ℤ} (p : ℤ) (m n : ℕ) → SFits w64 s → SFits w64 c → nat_abs s ≤ 2 ^ 61 → nat_abs c ≤ m → nat_abs p ≤ n → n ≤ 2 ^ 62 → m * n ≤ 2 ^ 61 → Added s c p
added {s} {c} p m n fs fc hs hc hp hn small =
    let fp : SFits w64 p = fits_abs p (omega arith) in
    let size : nat_abs (c *ℤ p) ≤ m * n = rw (abs-*ℤ c p) (mul-le-mul hc hp) in
    let product : SFits w64 (c *ℤ p) = fits_abs (c *ℤ p) (omega arith) in
    let sum : SFits w64 (s +ℤ c *ℤ p) = fits_abs (s +ℤ c *ℤ p) (omega (arith, abs-+ℤ s (c *ℤ p))) in
    record { fits = rw (to_z-of_z fs, to_z-of_z fc, to_z-of_z fp, to_z-of_z product) sum; answer = rw (to_z-of_z fs, to_z-of_z fc, to_z-of_z fp, to_z-of_z product) (to_z-of_z sum) }
