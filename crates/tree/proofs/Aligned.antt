-- The aligned form of the gain sum. Write a(k) for line k, late by what makes it as late as line 1 (`aligned`), and a(0) = 0. Then the
-- held-back band m is a(m) - a(m-1), so the sum of g(m)·band m is g(M)·a(M) plus the sum over k = 1..M-1 of (g(k) - g(k+1))·a(k).
-- It holds of any lines, the rounded and the exact ones alike. Assumes nothing.
use mathlib.Core.Path.{◌≡◌, sym, ap, ap₂, ◌∙◌}
use Prim.Native.Nat.{ℕ, zero, suc, ◌+◌, ◌-◌, ◌*◌, ◌^◌, ◌≤◌, ◌<◌}
use native.Mathlib.Nat.{mul-le-mul_left, mul-sub, sub_self, mul-zero, pow-succ'}
use native.Mathlib.Omega.{arith}
use lib.Pow.{pow_pos, pow_mono}
use lib.IntN.{ℤ, pos, ◌+ℤ◌, ◌-ℤ◌, ◌*ℤ◌, *ℤ-zero, +ℤ_idr}
use Rattle.whole.specs.Sum.{sum}
use Rattle.whole.proofs.Signed.{var, lit, ◌⊖◌, eq_by}
use Rattle.whole.proofs.Sums.{sum-ext, abel}
use Rattle.tree.specs.Prototype.{Prototype}
use Rattle.tree.specs.Signal.{Signal, back}
use Rattle.tree.specs.Tree.{band, hold_back, held_back, gain_sum}
use Rattle.tree.specs.Forms.{aligned, aligned_sum}
use Rattle.tree.proofs.Back.{back_zero, back-back, back--}
use Rattle.tree.proofs.Delays.{hold_back_makes_delay}

-- ---- delays

-- (here D is the centre, x is 2^(M-1), y a stretch) the hold-back h as a multiple of D, the way `aligned` has it
rest_is : (D x y h : ℕ) → 1 ≤ y → y ≤ x → h + D * (y - 1) ≡ D * (x - 1) → h ≡ D * (x - y)
rest_is D x y h l k e =
    rw (mul-sub D x y)
    (omega (arith, rw (mul-sub D y 1, mul-sub D x 1) at e, mul-le-mul_left D l, mul-le-mul_left D k))

-- the delay of a band's own line, D·y, and the hold-back, D·(x - 2·y), add up to that line's alignment
less_is : (D x y : ℕ) → 2 * y ≤ x → D * y + D * (x - 2 * y) ≡ D * (x - y)
less_is D x y l = rw (mul-sub D x (2 * y), mul-sub D x y) (omega (arith, mul-le-mul_left D l))

module _ (p : Prototype) (M : ℕ) (lines : ℕ → Signal) (n : ℕ) where
  -- ---- a held-back band

  -- band m is a(m) - a(m-1), at m = k + 2: the hold-back is what aligns line m-1, and with the band's own delay what aligns line m
  pub held_back_is : (k : ℕ) → suc (suc k) ≤ M →
      held_back p M lines (suc (suc k)) n ≡ aligned p M lines (suc (suc k)) n -ℤ aligned p M lines (suc k) n
  unfolding band
  held_back_is k h =
      back-- (λ i. back (lines (suc (suc k))) i (p.centre * 2 ^ (M - suc (suc k)))) (lines (suc k)) n (hold_back p M (suc (suc k))) ∙
      ap₂ ◌-ℤ◌
      (back-back (lines (suc (suc k))) n (p.centre * 2 ^ (M - suc (suc k))) (hold_back p M (suc (suc k))) ∙
      ap (back (lines (suc (suc k))) n) upper) (ap (back (lines (suc k)) n) lower)
    where
      e : M - suc k ≡ suc (M - suc (suc k))
      e = omega arith

      e' : M + 1 - suc (suc k) ≡ suc (M - suc (suc k))
      e' = omega arith

      fits : 2 ^ suc (M - suc (suc k)) ≤ 2 ^ (M - 1)
      fits = pow_mono (omega arith)

      lower : hold_back p M (suc (suc k)) ≡ p.centre * (2 ^ (M - 1) - 2 ^ (M - suc k))
      lower =
          rw e
          (rest_is p.centre (2 ^ (M - 1)) (2 ^ suc (M - suc (suc k))) (hold_back p M (suc (suc k)))
          (pow_pos (suc (M - suc (suc k)))) fits
          (rw e' at (hold_back_makes_delay p M (suc (suc k)) (omega arith) h)))

      upper : p.centre * 2 ^ (M - suc (suc k)) + hold_back p M (suc (suc k)) ≡ p.centre * (2 ^ (M - 1) - 2 ^ (M - suc (suc k)))
      upper =
          rw (lower, e, pow-succ' 2 (M - suc (suc k)))
          (less_is p.centre (2 ^ (M - 1)) (2 ^ (M - suc (suc k))) (rw (pow-succ' 2 (M - suc (suc k))) at fits))

  -- band 1 is a(1): line 1 is the latest of all, so nothing is added to its delay
  pub lowest_is : held_back p M lines 1 n ≡ aligned p M lines 1 n
  unfolding band hold_back
  lowest_is =
      back_zero (lines 1) n ∙
      sym (ap (back (lines 1) n) (ap (λ (k : ℕ). p.centre * k) (sub_self (2 ^ (M - 1))) ∙ mul-zero p.centre) ∙ back_zero (lines 1) n)

  -- ---- the gain sum

  -- a(k), with a(0) = 0
  unfoldable pub rising : ℕ → ℤ
  rising zero = pos 0
  rising (suc k) = aligned p M lines (suc k) n

  -- band m is a(m) - a(m-1), at m = i + 1
  pub band_rises : (i : ℕ) → i < M → held_back p M lines (suc i) n ≡ rising (suc i) -ℤ rising i
  unfolding rising
  band_rises zero h = lowest_is ∙ eq_by (var (aligned p M lines 1 n)) (var (aligned p M lines 1 n) ⊖ lit 0) (omega arith)
  band_rises (suc k) h = held_back_is k h

-- the gain sum by differences of neighbouring gains
pub aligned_form : (p : Prototype) (M : ℕ) (g : ℕ → ℕ → ℤ) (lines : ℕ → Signal) (n : ℕ) → 1 ≤ M →
    gain_sum p M g lines n ≡ aligned_sum p M (g n) lines n
unfolding gain_sum aligned_sum rising
aligned_form p zero g lines n h = absurd (omega arith)
aligned_form p (suc N) g lines n h =
    sum-ext (suc N) (λ i l. ap (λ (z : ℤ). g n (suc i) *ℤ z) (band_rises p (suc N) lines n i l)) ∙
    abel N (λ i. g n (suc i)) (rising p (suc N) lines n) ∙
    rw (*ℤ-zero (g n 1), +ℤ_idr (g n (suc N) *ℤ aligned p (suc N) lines (suc N) n))
    (ap (λ (k : ℕ). g n (suc N) *ℤ aligned p (suc N) lines (suc N) n +ℤ sum k (λ i. (g n (suc i) -ℤ g n (suc (suc i))) *ℤ aligned p (suc N) lines (suc i) n)) one_less)
  where
    one_less : N ≡ suc N - 1
    one_less = omega arith
