-- What samples through the lines leave as it is: the number of places; and how far the position moves. Assumes nothing.
use mathlib.Core.Path.{◌≡◌, refl, ap, ◌∙◌}
use mathlib.Core.List.{List, [], ◌∷◌}
use Prim.Native.Nat.{ℕ, zero, suc, ◌+◌, ◌*◌}
use native.Mathlib.Nat.{suc-mul}
use native.Mathlib.Omega.{arith}
use lib.ListN.{length, take, drop, set, length-append, length-drop, length-set}
use lib.Seq.{length-take-le}
use lib.IntN.{ℤ}
use Rattle.tree.specs.Prototype.{Prototype}
use Rattle.ring.specs.Line.{next, low_value}
use Rattle.lines.specs.Cascade.{step, run}

module _ (p : Prototype) (size : ℕ) where
  step_length : (k L at : ℕ) (lines : List ℤ) (x : ℤ) → length lines ≡ k * size → length (step p size k L at lines x).places ≡ k * size
  unfolding step
  step_length zero L at lines x e = e
  step_length (suc k) L at lines x e =
      let more : suc k * size ≡ k * size + size = suc-mul k size in
      let below = step p size k (2 * L) at (drop size lines) (low_value p lines size at L x) in
      let first : length (take size (set lines at x)) ≡ size = length-take-le size (set lines at x) (omega (arith, length-set lines at x)) in
      let rest : length below.places ≡ k * size =
      step_length k (2 * L) at (drop size lines) (low_value p lines size at L x) (length-drop size lines ∙ omega arith) in
      length-append (take size (set lines at x)) below.places ∙ omega arith

  -- as many places as before
  pub run_places : (k at : ℕ) (lines xs : List ℤ) → length lines ≡ k * size → length (run p size k at lines xs).places ≡ k * size
  unfolding run
  run_places k at lines [] e = e
  run_places k at lines (x ∷ xs) e = run_places k (next size at) (step p size k 1 at lines x).places xs (step_length k 1 at lines x e)

  -- as many aligned samples as samples
  pub run_length : (k at : ℕ) (lines xs : List ℤ) → length (run p size k at lines xs).aligned ≡ length xs
  unfolding run
  run_length k at lines [] = refl
  run_length k at lines (x ∷ xs) = ap suc (run_length k (next size at) (step p size k 1 at lines x).places xs)

  -- as many samples move the position as far, whatever they are
  pub run_position : (k at : ℕ) (lines ls xs ys : List ℤ) → length xs ≡ length ys → (run p size k at lines xs).position ≡ (run p size k at ls ys).position
  unfolding run
  run_position k at lines ls [] [] e = refl
  run_position k at lines ls [] (y ∷ ys) e = absurd (omega arith)
  run_position k at lines ls (x ∷ xs) [] e = absurd (omega arith)
  run_position k at lines ls (x ∷ xs) (y ∷ ys) e =
      run_position k (next size at) (step p size k 1 at lines x).places (step p size k 1 at ls y).places xs ys (omega arith)
