-- From eleven samples to the sum over nineteen coefficients (rule 5.7), and where the samples stand in the line. Assumes nothing.
use mathlib.Core.Path.{◌≡◌, refl, sym, ap, ◌∙◌}
use mathlib.Core.List.{List}
use Prim.Native.Nat.{ℕ, zero, suc, ◌+◌, ◌-◌, ◌*◌, ◌≤◌, ◌<◌, ◌^◌}
use native.Mathlib.Nat.{mul_comm}
use native.Mathlib.Omega.{arith}
use borrow.Author.Tests.{le-leb, lt-leb}
use lib.ListN.{get_or}
use lib.IntN.{ℤ, pos, nat_abs, ◌*ℤ◌}
use lib.Signed.{mag}
use mir.Syntax.{w32, w64}
use mir.Val.{SFits}
use mir.Facts.{to_z-of_z}
use Rattle.whole.specs.Sum.{sum}
use Rattle.whole.proofs.Signed.{var, lit, neg, ◌⊕◌, ◌⊗◌, eq_by, about}
use Rattle.whole.specs.Nearest.{nearest}
use Rattle.answers.specs.Unit.{least_place, most_place}
use Rattle.whole.specs.Limit.{limit}
use Rattle.whole.proofs.Rounded.{raw}
use Rattle.tree.specs.Prototype.{published, coefficient}
use Rattle.ring.specs.Line.{place, ago, tap, line_sum, low_value, late_value}
use Rattle.ring.specs.Helpers.{eleven, Weighed}

-- ---- eleven products are the nineteen

pub eleven-taps : (f : ℕ → ℤ) →
    eleven (f 0) (f 2) (f 4) (f 6) (f 8) (f 9) (f 10) (f 12) (f 14) (f 16) (f 18) ≡ sum 19 (λ i. coefficient published i *ℤ f i)
unfolding sum
eleven-taps f =
    eq_by
    (lit 0 ⊕ lit 313 ⊗ var (f 0) ⊕ neg (lit 1338) ⊗ var (f 2) ⊕ lit 3593 ⊗ var (f 4) ⊕ neg (lit 8718) ⊗ var (f 6) ⊕ lit 31158 ⊗ var (f 8) ⊕ lit 50000 ⊗ var (f 9) ⊕ lit 31158 ⊗ var (f 10) ⊕ neg (lit 8718) ⊗ var (f 12) ⊕ lit 3593 ⊗ var (f 14) ⊕ neg (lit 1338) ⊗ var (f 16) ⊕ lit 313 ⊗ var (f 18))
    (lit 0 ⊕ lit 313 ⊗ var (f 0) ⊕ lit 0 ⊗ var (f 1) ⊕ neg (lit 1338) ⊗ var (f 2) ⊕ lit 0 ⊗ var (f 3) ⊕ lit 3593 ⊗ var (f 4) ⊕ lit 0 ⊗ var (f 5) ⊕ neg (lit 8718) ⊗ var (f 6) ⊕ lit 0 ⊗ var (f 7) ⊕ lit 31158 ⊗ var (f 8) ⊕ lit 50000 ⊗ var (f 9) ⊕ lit 31158 ⊗ var (f 10) ⊕ lit 0 ⊗ var (f 11) ⊕ neg (lit 8718) ⊗ var (f 12) ⊕ lit 0 ⊗ var (f 13) ⊕ lit 3593 ⊗ var (f 14) ⊕ lit 0 ⊗ var (f 15) ⊕ neg (lit 1338) ⊗ var (f 16) ⊕ lit 0 ⊗ var (f 17) ⊕ lit 313 ⊗ var (f 18))
    (omega arith)

-- ---- what is read is what is weighed

-- a sample x that was read, of 32 bits, and the value y that it is
pub record Read (x y : ℤ) : Type 0 where
  pub fits : mag x < 2 ^ 31
  pub value : x ≡ y

read_raw : {x y : ℤ} → Read x y → raw w32 x ≡ y
read_raw {x} {y} d = to_z-of_z {w = w32} {z = x} (record { sfits = d.fits }) ∙ d.value

small_fits : (r : ℤ) → nat_abs r ≤ 2 ^ 51 → SFits w64 r
small_fits r h = record { sfits = omega (arith, about r) }

small_raw : (r : ℤ) → nat_abs r ≤ 2 ^ 51 → raw w64 r ≡ r
small_raw r h = to_z-of_z (small_fits r h)

pub summed : (line : List ℤ) (size at L : ℕ) (x : ℤ) {x0 x2 x4 x6 x8 x9 x10 x12 x14 x16 x18 r : ℤ} →
    let f = tap line size at L x in
    Read x0 (f 0) → Read x2 (f 2) → Read x4 (f 4) → Read x6 (f 6) → Read x8 (f 8) → Read x9 (f 9) → Read x10 (f 10) →
    Read x12 (f 12) → Read x14 (f 14) → Read x16 (f 16) → Read x18 (f 18) →
    Weighed (raw w32 x0) (raw w32 x2) (raw w32 x4) (raw w32 x6) (raw w32 x8) (raw w32 x9) (raw w32 x10) (raw w32 x12) (raw w32 x14)
    (raw w32 x16) (raw w32 x18) r →
    r ≡ line_sum published line size at L x
unfolding line_sum
summed line size at L x d0 d2 d4 d6 d8 d9 d10 d12 d14 d16 d18 w =
    w.value ∙
    simp (read_raw d0, read_raw d2, read_raw d4, read_raw d6, read_raw d8, read_raw d9, read_raw d10, read_raw d12, read_raw d14, read_raw d16, read_raw d18)
    (eleven-taps (tap line size at L x))

-- ---- the taps

pub read_new : (line : List ℤ) (size at L : ℕ) {x : ℤ} → SFits w32 x → Read x (tap line size at L x 0)
unfolding tap
read_new line size at L f = record { fits = f.sfits; value = refl }

-- the sample i·L back, as a leaf answers it
pub read-tap : (line : List ℤ) (size at L : ℕ) (x : ℤ) (i : ℕ) (r : ℤ) → 1 ≤ i → r ≡ ago line size at (i * L) → mag r < 2 ^ 31 → Read r (tap line size at L x i)
unfolding tap
read-tap line size at L x zero r s e f = absurd (omega arith)
read-tap line size at L x (suc i) r s e f = record { fits = f; value = e ∙ ap (ago line size at) (mul_comm (suc i) L) }

-- ---- from the sum to the line's new value

pub low_value_is : (line : List ℤ) (size at L : ℕ) (x : ℤ) {s n r : ℤ} → SFits w64 n → SFits w32 r → s ≡ line_sum published line size at L x → nat_abs s ≤ 2 ^ 51 →
    n ≡ nearest 100000 (raw w64 s) → r ≡ limit least_place most_place (raw w64 n) → raw w32 r ≡ low_value published line size at L x
unfolding low_value
low_value_is line size at L x {s} fn fr h b e l =
    to_z-of_z fr ∙ l ∙ ap (limit least_place most_place) (to_z-of_z fn ∙ e ∙ ap (nearest 100000) (small_raw s b ∙ h))

-- ---- the aligned sample: `size - 9·L` back is 9·L ahead, in the ring

module _ (line : List ℤ) (size at L : ℕ) (reach : 2 * (9 * L) ≤ size) where
  pub late_ahead : at + 9 * L < size → SFits w32 (get_or line (at + 9 * L) (pos 0)) → raw w32 (get_or line (at + 9 * L) (pos 0)) ≡ late_value published line size at L
  unfolding late_value
  late_ahead h f = to_z-of_z f ∙ ap (λ (k : ℕ). get_or line k (pos 0)) (sym here)
    where
      here : place size at (size - 9 * L) ≡ at + 9 * L
      here = rw (lt-leb (size - 9 * L) at (omega arith)) (omega arith)

  pub late_round : size ≤ at + 9 * L → SFits w32 (get_or line (at + 9 * L - size) (pos 0)) → raw w32 (get_or line (at + 9 * L - size) (pos 0)) ≡ late_value published line size at L
  unfolding late_value
  late_round h f = to_z-of_z f ∙ ap (λ (k : ℕ). get_or line k (pos 0)) (sym here)
    where
      here : place size at (size - 9 * L) ≡ at + 9 * L - size
      here = rw (le-leb (size - 9 * L) at (omega arith)) (omega arith)
