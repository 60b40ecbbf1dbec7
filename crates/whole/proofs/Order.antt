-- The order of ℤ: what the kit's `lib.Signed` lacks. Assumes nothing.
use mathlib.Core.Path.{◌≡◌, refl}
use mathlib.Core.Logic.{◌⊎◌, inl, inr}
use mathlib.Core.Bool.{Bool, true, false}
use Prim.Native.Nat.{ℕ}
use native.Mathlib.Nat.{mul-le-mul_left}
use native.Mathlib.Omega.{arith}
use lib.IntN.{ℤ, pos, ◌+ℤ◌, ◌*ℤ◌}
use lib.Signed.{lt_z, ◌≤ℤ◌, ◌<ℤ◌}
use Rattle.whole.proofs.Signed.{var, lit, ◌⊕◌, ◌⊗◌, le_by, lt_by, read_le, signed, lt_z_yes, lt_z_no}

-- ---- two numbers

pub ≤ℤ-total : (a b : ℤ) → (a <ℤ b) ⊎ (b ≤ℤ a)
≤ℤ-total a b = by (lt_z a b) refl
  where
    by : (t : Bool) → lt_z a b ≡ t → (a <ℤ b) ⊎ (b ≤ℤ a)
    by true e = inl (lt_by (var a) (var b) (lt_z_yes a b e))
    by false e = inr (le_by (var b) (var a) (lt_z_no a b e))

-- ---- sums and products

pub +ℤ-mono-≤ℤ : {a b c d : ℤ} → a ≤ℤ b → c ≤ℤ d → (a +ℤ c) ≤ℤ (b +ℤ d)
+ℤ-mono-≤ℤ {a} {b} {c} {d} h k = le_by (var a ⊕ var c) (var b ⊕ var d) (omega signed)

pub *ℤ-monoˡ-≤ℤ : (k : ℕ) {a b : ℤ} → a ≤ℤ b → (pos k *ℤ a) ≤ℤ (pos k *ℤ b)
*ℤ-monoˡ-≤ℤ k {a} {b} h =
    le_by (lit k ⊗ var a) (lit k ⊗ var b)
    (omega (arith, mul-le-mul_left k (read_le a b h)))
