-- Lines in their region: what the first line's reads ask, the tree's delay, and that samples keep the region. Over any prototype p.
-- Assumes nothing.
use mathlib.Core.Path.{◌≡◌, sym, ap, ap₂, ◌∙◌}
use mathlib.Core.List.{List, [], ◌∷◌}
use Prim.Native.Nat.{ℕ, zero, suc, ◌+◌, ◌-◌, ◌*◌, ◌^◌, ◌<◌}
use native.Mathlib.Nat.{mul-sub, mul-one}
use native.Mathlib.Omega.{arith}
use lib.ListN.{length, take, drop, set, length-append, length-drop, length-set}
use lib.Seq.{length-take-le}
use lib.IntN.{ℤ}
use Rattle.tree.specs.Prototype.{Prototype}
use Rattle.tree.specs.Forms.{tree_delay}
use Rattle.ring.specs.Line.{next, low_value}
use Rattle.lines.specs.Cascade.{step, run}
use Rattle.ring.specs.Helpers.{Within}
use Rattle.lines.specs.Helpers.{Region}
use Rattle.lines.proofs.Regions.{reach_of, held_of, region_same}
use Rattle.history.proofs.Rings.{next_inside}

module _ (p : Prototype) (size : ℕ) where
  -- ---- the first line

  pub within : (k at L : ℕ) (lines : List ℤ) → at < size → Region p (suc (suc k)) size L lines → Within p lines size at L
  within k at L lines h r =
      record { inside = h; reach = reach_of p size L lines k r; some = r.stretch; held = held_of p size L lines k r; small = r.small }

  -- the tree's delay is how far back the aligned sample stands: all of the ring but D·L
  pub delay_is : (k L : ℕ) (lines : List ℤ) → Region p (suc (suc k)) size L lines → size - p.centre * L ≡ tree_delay p (suc (suc k)) L
  delay_is k L lines r =
      let whole = 2 ^ (suc (suc k) - 1) in
      ap (λ (j : ℕ). j - p.centre * L) r.sized ∙ sym (mul-sub p.centre (L * whole) L) ∙
      ap (λ (j : ℕ). p.centre * j) (sym (mul-sub L whole 1 ∙ ap (λ (j : ℕ). L * whole - j) (mul-one L)))

  -- ---- samples keep the number of places, and the position in the ring

  step_length : (k L at : ℕ) (lines : List ℤ) (x : ℤ) → length lines ≡ k * size → length (step p size k L at lines x).places ≡ k * size
  unfolding step
  step_length zero L at lines x e = e
  step_length (suc k) L at lines x e =
      let low = low_value p lines size at L x in
      length-append (take size (set lines at x)) (step p size k (2 * L) at (drop size lines) low).places ∙
      ap₂ ◌+◌ (length-take-le size (set lines at x) (simp length-set (omega arith)))
      (step_length k (2 * L) at (drop size lines) low (simp length-drop (omega arith))) ∙
      omega arith

  pub step_region : (k L at : ℕ) (lines : List ℤ) (x : ℤ) → Region p (suc k) size L lines →
      Region p (suc k) size L (step p size k L at lines x).places
  step_region k L at lines x r =
      let less : suc k - 1 ≡ k = omega arith in
      let whole : length lines ≡ k * size = r.whole ∙ ap (λ (j : ℕ). j * size) less in
      region_same (step_length k L at lines x whole ∙ sym whole) r

  pub run_region : (k at : ℕ) (lines xs : List ℤ) → Region p (suc k) size 1 lines → Region p (suc k) size 1 (run p size k at lines xs).places
  unfolding run
  run_region k at lines [] r = r
  run_region k at lines (x ∷ xs) r = run_region k (next size at) (step p size k 1 at lines x).places xs (step_region k 1 at lines x r)

  pub run_inside : (k at : ℕ) (lines xs : List ℤ) → at < size → (run p size k at lines xs).position < size
  unfolding run
  run_inside k at lines [] h = h
  run_inside k at lines (x ∷ xs) h = run_inside k (next size at) (step p size k 1 at lines x).places xs (next_inside size at h)
