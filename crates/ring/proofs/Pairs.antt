-- Two mirror samples added first: the size of their sum, and six products are the eleven. Assumes nothing.
use mathlib.Core.Path.{◌≡◌}
use Prim.Native.Nat.{◌≤◌, ◌^◌}
use native.Mathlib.Omega.{arith}
use lib.IntN.{ℤ, pos, negsuc, nat_abs, ◌+ℤ◌, ◌*ℤ◌}
use lib.Signed.{nat_abs-le}
use mir.Syntax.{w32}
use mir.Val.{SFits}
use Rattle.whole.proofs.Signed.{var, lit, neg, ◌⊕◌, ◌⊗◌, eq_by}
use Rattle.whole.proofs.Magnitude.{abs-+ℤ}
use Rattle.ring.specs.Helpers.{eleven}

-- ---- two places

pub pair_size : {a b : ℤ} → SFits w32 a → SFits w32 b → nat_abs (a +ℤ b) ≤ 2 ^ 32
pair_size {a} {b} fa fb = omega (arith, abs-+ℤ a b, nat_abs-le a fa.sfits, nat_abs-le b fb.sfits)

-- ---- six products are the eleven

-- c(9)·x(9), and c(i)·(x(i) + x(18 - i)) at i = 8, 6, 4, 2, 0
abbrev pub six : ℤ → ℤ → ℤ → ℤ → ℤ → ℤ → ℤ → ℤ → ℤ → ℤ → ℤ → ℤ
six x0 x2 x4 x6 x8 x9 x10 x12 x14 x16 x18 =
    pos 0 +ℤ pos 50000 *ℤ x9 +ℤ pos 31158 *ℤ (x8 +ℤ x10) +ℤ negsuc 8717 *ℤ (x6 +ℤ x12) +ℤ pos 3593 *ℤ (x4 +ℤ x14) +ℤ negsuc 1337 *ℤ (x2 +ℤ x16) +ℤ pos 313 *ℤ (x0 +ℤ x18)

pub six_is : (x0 x2 x4 x6 x8 x9 x10 x12 x14 x16 x18 : ℤ) → six x0 x2 x4 x6 x8 x9 x10 x12 x14 x16 x18 ≡ eleven x0 x2 x4 x6 x8 x9 x10 x12 x14 x16 x18
six_is x0 x2 x4 x6 x8 x9 x10 x12 x14 x16 x18 =
    eq_by
    (lit 0 ⊕ lit 50000 ⊗ var x9 ⊕ lit 31158 ⊗ (var x8 ⊕ var x10) ⊕ neg (lit 8718) ⊗ (var x6 ⊕ var x12) ⊕ lit 3593 ⊗ (var x4 ⊕ var x14) ⊕ neg (lit 1338) ⊗ (var x2 ⊕ var x16) ⊕ lit 313 ⊗ (var x0 ⊕ var x18))
    (lit 0 ⊕ lit 313 ⊗ var x0 ⊕ neg (lit 1338) ⊗ var x2 ⊕ lit 3593 ⊗ var x4 ⊕ neg (lit 8718) ⊗ var x6 ⊕ lit 31158 ⊗ var x8 ⊕ lit 50000 ⊗ var x9 ⊕ lit 31158 ⊗ var x10 ⊕ neg (lit 8718) ⊗ var x12 ⊕ lit 3593 ⊗ var x14 ⊕ neg (lit 1338) ⊗ var x16 ⊕ lit 313 ⊗ var x18)
    (omega arith)
