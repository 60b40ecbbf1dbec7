-- The samples of a block through lines that hold a history: the lines hold them too, and each sample's aligned samples are the levels' at the
-- tree's delays. Over any prototype that the rings hold; no gain enters. Assumes nothing.
use mathlib.Core.Path.{◌≡◌, refl, sym, ap, ap₂, subst, ◌∙◌}
use mathlib.Core.List.{List, [], ◌∷◌}
use Prim.Native.Nat.{ℕ, suc, ◌+◌, ◌<◌, suc-le-suc}
use native.Mathlib.Nat.{add-zero, add-suc, suc-add}
use native.Mathlib.Numerals.{add-one}
use native.Mathlib.Omega.{arith}
use lib.ListN.{length, get_or}
use lib.IntN.{ℤ, pos}
use Rattle.tree.specs.Prototype.{Prototype}
use Rattle.tree.specs.Signal.{Signal}
use Rattle.tree.specs.Tree.{level}
use Rattle.ring.specs.Line.{next}
use Rattle.lines.specs.Cascade.{Ran, step, run}
use Rattle.ring.specs.Helpers.{Centred}
use Rattle.lines.specs.Helpers.{Region}
use Rattle.history.specs.History.{from}
use Rattle.history.proofs.Rings.{next_inside}
use Rattle.history.proofs.Regions.{step_region}
use Rattle.history.proofs.Holds.{Holds, Free, aligned_at, step_keeps}

module _ (p : Prototype) (is : Centred p) (x : Signal) (k size : ℕ) where
  -- ---- one sample

  record One (at n : ℕ) (lines : List ℤ) (y : ℤ) : Type 0 where
    aligned_are : (step p size k 1 at lines y).aligned ≡ aligned_at p x k 0 n
    holds : Holds p x k 0 size (next size at) (step p size k 1 at lines y).places (suc n)

  one_sample : (at n : ℕ) (lines : List ℤ) {y : ℤ} → y ≡ x n → at < size → Region p (suc k) size 1 lines → Free p x k 0 n →
      Holds p x k 0 size at lines n → One at n lines y
  unfolding level
  one_sample at n lines e i r f h =
      let q = step_keeps p is x k 0 size at lines n i r f h in
      subst (λ (z : ℤ). One at n lines z) (sym e) (record { aligned_are = q.aligned_are; holds = q.holds })

  -- ---- some samples

  -- what c samples leave that follow the first n
  pub record After (n c : ℕ) (r : Ran) : Type 0 where
    pub aligned_are : r.aligned ≡ from n c (aligned_at p x k 0)
    pub inside : r.position < size
    pub region : Region p (suc k) size 1 r.places
    pub holds : Holds p x k 0 size r.position r.places (n + c)

  pub run_keeps : ((n : ℕ) → Free p x k 0 n) → (xs lines : List ℤ) (at n : ℕ) → at < size → Region p (suc k) size 1 lines →
      Holds p x k 0 size at lines n → ((i : ℕ) → i < length xs → get_or xs i (pos 0) ≡ x (n + i)) → After n (length xs) (run p size k at lines xs)
  unfolding run from
  run_keeps free [] lines at n i r h e =
      record { aligned_are = refl; inside = i; region = r; holds = subst (λ (j : ℕ). Holds p x k 0 size at lines j) (sym (add-zero n)) h }
  run_keeps free (y ∷ xs) lines at n i r h e =
      let s = step p size k 1 at lines y in
      let rest = run p size k (next size at) s.places xs in
      let o = one_sample at n lines (e 0 (omega arith) ∙ ap x (add-zero n)) i r (free n) h in
      let later : (j : ℕ) → j < length xs → get_or xs j (pos 0) ≡ x (suc n + j) =
      λ j l. e (suc j) (suc-le-suc l) ∙ ap x (add-suc n j ∙ sym (suc-add n j)) in
      let a = run_keeps free xs s.places (next size at) (suc n) (next_inside size at i) (step_region p size k 1 at lines y r) o.holds later in
      record {
        aligned_are =
            ap₂ (λ (u : List ℤ) (v : List (List ℤ)). u ∷ v) o.aligned_are
            (a.aligned_are ∙ ap (λ (j : ℕ). from j (length xs) (aligned_at p x k 0)) (sym (add-one n)));
        inside = a.inside;
        region = a.region;
        holds = subst (λ (j : ℕ). Holds p x k 0 size rest.position rest.places j) (suc-add n (length xs) ∙ sym (add-suc n (length xs))) a.holds;
      }
