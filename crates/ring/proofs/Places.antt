-- The places of a ring: where a sample stands, and that reads of the first ring see nothing behind it. Over any prototype that the rings hold.
-- Assumes nothing.
use mathlib.Core.Path.{◌≡◌, refl, ap}
use mathlib.Core.Bool.{Bool, true, false, cond}
use mathlib.Core.List.{List, ◌++◌}
use Prim.Native.Nat.{ℕ, zero, suc, ◌+◌, ◌-◌, ◌*◌, ◌≤◌, ◌<◌}
use native.Mathlib.Nat.{mul-le-mul, mul-le-mul_left, le_trans}
use native.Mathlib.Omega.{arith}
use borrow.Author.Tests.{leb-true, leb-false}
use lib.Dec.{leb, lit≤}
use lib.ListN.{length, get_or-append}
use lib.IntN.{ℤ, pos, ◌*ℤ◌}
use Rattle.answers.specs.Unit.{least_place, most_place}
use Rattle.whole.specs.Nearest.{nearest}
use Rattle.whole.specs.Limit.{limit}
use Rattle.whole.proofs.Sums.{sum-ext}
use Rattle.tree.specs.Prototype.{Prototype, scale, coefficient, taps, published}
use Rattle.ring.specs.Line.{place, ago, tap, line_sum, low_value, late_value}
use Rattle.ring.specs.Helpers.{Centred}

-- the rings hold the prototype in use
pub published_centred : Centred published
published_centred = record { reach = lit≤ tt; some = lit≤ tt }

pub place_cases : (size at d : ℕ) (P : ℕ → Type 0) → (d ≤ at → P (at - d)) → (at < d → P (at + size - d)) → P (place size at d)
place_cases size at d P inside around = by (leb d at) refl
  where
    by : (t : Bool) → leb d at ≡ t → P (cond t (at - d) (at + size - d))
    by true e = inside (leb-true d at e)
    by false e = around (leb-false d at e)

pub place_inside : (size at d : ℕ) → 1 ≤ d → d ≤ size → at < size → place size at d < size
place_inside size at d l h i = place_cases size at d (λ k. k < size) (λ q. omega arith) (λ q. omega arith)

ago-same : (size at d : ℕ) (s t : List ℤ) → 1 ≤ d → d ≤ size → length s ≡ size → at < size → ago (s ++ t) size at d ≡ ago s size at d
ago-same size at d s t o r e h = get_or-append s t (pos 0) (place size at d) (rw e (place_inside size at d o r h))

module _ (p : Prototype) (is : Centred p) (size : ℕ) where
  -- a tap is within the ring
  pub tap-within : (L i : ℕ) → suc i < taps p → 2 * (p.centre * L) ≤ size → L * suc i ≤ size
  tap-within L i h r = le_trans (mul-le-mul_left {m = suc i} {n = 2 * p.centre} L (omega (arith, is.reach))) (omega arith)

  tap-same : (L at : ℕ) (s t : List ℤ) (x : ℤ) → 1 ≤ L → 2 * (p.centre * L) ≤ size → length s ≡ size → at < size → (i : ℕ) → i < taps p →
      tap (s ++ t) size at L x i ≡ tap s size at L x i
  unfolding tap
  tap-same L at s t x o r e h zero i = refl
  tap-same L at s t x o r e h (suc i) l = ago-same size at (L * suc i) s t (mul-le-mul {n₁ = 1} {m₁ = 1} o (omega arith)) (tap-within L i l r) e h

  pub low_same : (L at : ℕ) (s t : List ℤ) (x : ℤ) → 1 ≤ L → 2 * (p.centre * L) ≤ size → length s ≡ size → at < size →
      low_value p (s ++ t) size at L x ≡ low_value p s size at L x
  unfolding low_value line_sum
  low_same L at s t x o r e h =
      ap (λ (z : ℤ). limit least_place most_place (nearest scale z))
      (sum-ext (taps p) (λ i l. ap (λ (z : ℤ). coefficient p i *ℤ z) (tap-same L at s t x o r e h i l)))

  pub late-same : (L at : ℕ) (s t : List ℤ) → 1 ≤ L → 2 * (p.centre * L) ≤ size → length s ≡ size → at < size → late_value p (s ++ t) size at L ≡ late_value p s size at L
  unfolding late_value
  late-same L at s t o r e h =
      ago-same size at (size - p.centre * L) s t (omega (arith, mul-le-mul {n₁ = 1} {m₁ = 1} {n₂ = p.centre} {m₂ = L} is.some o)) (omega arith) e h
