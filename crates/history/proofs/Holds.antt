-- The lines hold a history: each shows its level of the signal up to now. A step with the next sample keeps that, and its aligned samples are
-- the levels' at the tree's delays. Over any prototype that the rings hold and whose new values the 32-bit limit does not move.
-- Assumes nothing.
use mathlib.Core.Path.{◌≡◌, refl, sym, ap, ap₂, subst, ◌∙◌}
use mathlib.Core.List.{List, [], ◌∷◌, ◌++◌}
use Prim.Native.Nat.{ℕ, zero, suc, ◌+◌, ◌-◌, ◌*◌, ◌^◌, ◌<◌}
use native.Mathlib.Nat.{pow-succ', mul-le-mul, mul-zero}
use native.Mathlib.Omega.{arith}
use lib.ListN.{get_or, take, drop, set, length-set}
use lib.Seq.{drop_at, get_or-drop, length-take-le}
use lib.IntN.{ℤ, pos, ◌*ℤ◌}
use Rattle.answers.specs.Unit.{least_place, most_place}
use Rattle.whole.specs.Nearest.{nearest}
use Rattle.whole.specs.Limit.{limit}
use Rattle.whole.proofs.Sums.{sum-ext}
use Rattle.tree.specs.Prototype.{Prototype, scale, coefficient, taps}
use Rattle.tree.specs.Signal.{Signal, back}
use Rattle.tree.specs.Tree.{weighted, low_pass, level}
use Rattle.tree.specs.Forms.{tree_delay}
use Rattle.tree.proofs.Back.{back_zero}
use Rattle.ring.specs.Line.{next, tap, line_sum, low_value, late_value}
use Rattle.lines.specs.Cascade.{Stepped, step}
use Rattle.ring.specs.Helpers.{Centred, Within}
use Rattle.lines.specs.Helpers.{Region}
use Rattle.ring.proofs.Places.{tap-within}
use Rattle.lines.proofs.Regions.{behind_it}
use Rattle.history.proofs.Rings.{Shows, shows_next, shows_none}
use Rattle.history.proofs.Regions.{within, delay_is}

module _ (p : Prototype) where
  -- where the 32-bit limit does not act, the new value is the low-pass
  unfoldable pub Unlimited : ℕ → Signal → ℕ → Type 0
  Unlimited L s n = limit least_place most_place (low_pass p L s n) ≡ low_pass p L s n

  module _ (x : Signal) where
    -- k lines that show level j and those below it
    unfoldable pub Holds : ℕ → ℕ → ℕ → ℕ → List ℤ → ℕ → Type 0
    Holds zero j size at lines n = Unit {0}
    Holds (suc k) j size at lines n = Shows lines size at (level p j x) n × Holds k (suc j) size at (drop size lines) n

    -- no new value of these lines is limited at n
    unfoldable pub Free : ℕ → ℕ → ℕ → Type 0
    Free zero j n = Unit {0}
    Free (suc k) j n = Unlimited (2 ^ j) (level p j x) n × Free k (suc j) n

    -- level j and those below it, each late by the tree's delay there
    unfoldable pub aligned_at : ℕ → ℕ → ℕ → List ℤ
    aligned_at zero j n = level p j x n ∷ []
    aligned_at (suc k) j n = back (level p j x) n (tree_delay p (suc (suc k)) (2 ^ j)) ∷ aligned_at k (suc j) n

    -- .. where none of the levels is
    pub free_of : (k j n : ℕ) → ((i : ℕ) → i < k + j → Unlimited (2 ^ i) (level p i x) n) → Free k j n
    unfolding Free
    free_of zero j n u = tt
    free_of (suc k) j n u = (u j (omega arith), free_of k (suc j) n (λ i h. u i (omega arith)))

    -- zeros hold the empty history
    pub holds_none : (k j size : ℕ) (lines : List ℤ) → ((i : ℕ) → get_or lines i (pos 0) ≡ pos 0) → Holds k j size 0 lines 0
    unfolding Holds
    holds_none zero j size lines z = tt
    holds_none (suc k) j size lines z =
        (shows_none lines size (level p j x) z, holds_none k (suc j) size (drop size lines) (λ i. get_or-drop size lines i (pos 0) ∙ z (size + i)))

-- ---- the low-pass on a line that shows a signal

module _ (p : Prototype) (is : Centred p) where
  module _ (line : List ℤ) (size at L : ℕ) (s : Signal) (n : ℕ) (w : Within p line size at L) (shows : Shows line size at s n) where
    tap_is : (i : ℕ) → i < taps p → tap line size at L (s n) i ≡ back s n (L * i)
    unfolding tap Shows
    tap_is zero h = sym (ap (back s n) (mul-zero L) ∙ back_zero s n)
    tap_is (suc i) h = shows (L * suc i) (mul-le-mul {n₁ = 1} {m₁ = 1} w.some (omega arith)) (tap-within p is size L i h w.reach)

    low_value_is : Unlimited p L s n → low_value p line size at L (s n) ≡ low_pass p L s n
    unfolding low_value line_sum low_pass weighted Unlimited
    low_value_is u =
        ap (λ (z : ℤ). limit least_place most_place (nearest scale z))
        (sum-ext (taps p) (λ i h. ap (λ (z : ℤ). coefficient p i *ℤ z) (tap_is i h))) ∙ u

    late_value_is : late_value p line size at L ≡ back s n (size - p.centre * L)
    unfolding late_value Shows
    late_value_is =
        shows (size - p.centre * L) (omega (arith, w.reach, mul-le-mul {n₁ = 1} {m₁ = 1} {n₂ = p.centre} {m₂ = L} is.some w.some)) (omega arith)

  -- ---- one sample

  module _ (x : Signal) where
    pub record Kept (k j size at : ℕ) (lines : List ℤ) (n : ℕ) : Type 0 where
      pub aligned_are : (step p size k (2 ^ j) at lines (level p j x n)).aligned ≡ aligned_at p x k j n
      pub holds : Holds p x k j size (next size at) (step p size k (2 ^ j) at lines (level p j x n)).places (suc n)

    pub step_keeps : (k j size at : ℕ) (lines : List ℤ) (n : ℕ) → at < size → Region p (suc k) size (2 ^ j) lines → Free p x k j n →
        Holds p x k j size at lines n → Kept k j size at lines n
    unfolding step Holds Free aligned_at level
    step_keeps zero j size at lines n i r f h = record { aligned_are = refl; holds = tt }
    step_keeps (suc k) j size at lines n i r f h =
        let s = level p j x in
        let w : Within p lines size at (2 ^ j) = within p size k at (2 ^ j) lines i r in
        let below = step p size k (2 * 2 ^ j) at (drop size lines) (low_value p lines size at (2 ^ j) (s n)) in
        let r' : Region p (suc k) size (2 ^ suc j) (drop size lines) = rw (pow-succ' 2 j) (behind_it p size (2 ^ j) lines k r) in
        let q = step_keeps k (suc j) size at (drop size lines) n i r' f.1 h.1 in
        let same : below ≡ step p size k (2 ^ suc j) at (drop size lines) (level p (suc j) x n) =
        ap₂ (λ (L : ℕ) (v : ℤ). step p size k L at (drop size lines) v) (sym (pow-succ' 2 j)) (low_value_is lines size at (2 ^ j) s n w h.0 f.0) in
        let put = take size (set lines at (s n)) in
        let behind : drop size (put ++ below.places) ≡ (step p size k (2 ^ suc j) at (drop size lines) (level p (suc j) x n)).places =
        drop_at put below.places size (length-take-le size (set lines at (s n)) (simp length-set w.held)) ∙ ap (λ (t : Stepped). t.places) same in
        record {
          aligned_are =
              ap₂ (λ (u : ℤ) (v : List ℤ). u ∷ v)
              (late_value_is lines size at (2 ^ j) s n w h.0 ∙ ap (back s n) (delay_is p size k (2 ^ j) lines r))
              (ap (λ (t : Stepped). t.aligned) same ∙ q.aligned_are);
          holds = (
            shows_next lines below.places size at s n i w.held h.0,
            subst (λ (l : List ℤ). Holds p x k (suc j) size (next size at) l (suc n)) (sym behind) q.holds,
          );
        }
