-- Samples in turn, row after row: what is left after a row is the run from the position after it. Assumes nothing.
use mathlib.Core.Path.{◌≡◌, refl, sym, ap, ◌∙◌}
use mathlib.Core.List.{List, [], ◌∷◌, ◌++◌}
use Prim.Native.Nat.{ℕ, suc, ◌+◌, ◌*◌, ◌^◌, ◌≤◌, ◌<◌}
use native.Mathlib.Omega.{arith}
use borrow.Author.Tests.{lt-ltb}
use lib.ListN.{length}
use lib.IntN.{ℤ}
use Rattle.tree.specs.Prototype.{Prototype}
use Rattle.ring.specs.Line.{next}
use Rattle.lines.specs.Cascade.{Ran, step, run}
use Rattle.lines.specs.Rows.{wrapped, columns, rowed}
use Rattle.ring.specs.Helpers.{Centred}
use Rattle.lines.proofs.Interchange.{Passed, passed, rows_are}

-- a run after some samples have passed
abbrev pub after : Passed → Ran → Ran
after r t = record { places = t.places; position = t.position; aligned = r.aligned ++ t.aligned }

module _ (p : Prototype) (size : ℕ) where
  -- within a row the positions only count up
  run_append : (k at : ℕ) (lines xs ys : List ℤ) → at < size → at + length xs ≤ size →
      run p size k at lines (xs ++ ys) ≡ (let r = passed p size k 1 at lines xs in after r (run p size k (wrapped size (at + length xs)) r.places ys))
  unfolding run passed
  run_append k at lines [] ys o h =
      let here : wrapped size (at + 0) ≡ at = rw (lt-ltb (at + 0) size (omega arith)) (omega arith) in
      sym (ap (λ (j : ℕ). run p size k j lines ys) here)
  run_append k at lines (x ∷ []) ys o h = refl
  run_append k at lines (x ∷ y ∷ xs) ys o h =
      let s = step p size k 1 at lines x in
      let on : next size at ≡ suc at = rw (lt-ltb (at + 1) size (omega arith)) (omega arith) in
      let r = passed p size k 1 (suc at) s.places (y ∷ xs) in
      let far : suc at + length (y ∷ xs) ≡ at + length (x ∷ y ∷ xs) = omega arith in
      ap (λ (q : Ran). record { places = q.places; position = q.position; aligned = s.aligned ∷ q.aligned })
      (ap (λ (j : ℕ). run p size k j s.places ((y ∷ xs) ++ ys)) on ∙
      run_append k (suc at) s.places (y ∷ xs) ys (omega arith) (omega arith) ∙
      ap (λ (j : ℕ). after r (run p size k (wrapped size j) r.places ys)) far)

  -- a turn of the block's loop
  pub turn : Centred p → (k at : ℕ) (lines xs ys : List ℤ) → p.centre * (1 * 2 ^ k) ≤ size → length lines ≡ k * size → at < size → at + length xs ≤ size →
      run p size k at lines (xs ++ ys) ≡
      (let r = rowed p size k 1 at lines xs in
      record {
        places = (run p size k (wrapped size (at + length xs)) r.places ys).places;
        position = (run p size k (wrapped size (at + length xs)) r.places ys).position;
        aligned = columns r.rows ++ (run p size k (wrapped size (at + length xs)) r.places ys).aligned;
      })
  turn is k at lines xs ys r e a h =
      run_append k at lines xs ys a h ∙
      ap (λ (q : Passed). after q (run p size k (wrapped size (at + length xs)) q.places ys)) (rows_are p size is k 1 at lines xs (omega arith) r e h)
