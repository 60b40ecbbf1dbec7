-- The aligned samples weighed: their band sum is the tree's sum, so the outputs are the tree's, for any prototype and any gains of each sample.
-- Assumes nothing.
use mathlib.Core.Path.{◌≡◌, refl, sym, ap, ap₂, subst, ◌∙◌}
use mathlib.Core.List.{List, [], ◌∷◌}
use Prim.Native.Nat.{ℕ, zero, suc, ◌+◌, ◌*◌, ◌^◌, ◌<◌}
use native.Mathlib.Nat.{pow-succ', mul-zero, add-zero}
use native.Mathlib.Omega.{arith}
use lib.ListN.{length, get_or}
use lib.IntN.{ℤ, pos, ◌+ℤ◌, ◌-ℤ◌, ◌*ℤ◌}
use Rattle.whole.proofs.Sums.{sum-ext}
use Rattle.tree.specs.Prototype.{Prototype}
use Rattle.tree.specs.Signal.{Signal, back}
use Rattle.tree.specs.Tree.{level, line, held_back, gain_sum, output}
use Rattle.tree.specs.Forms.{tree_delay, tree_sum}
use Rattle.tree.proofs.Back.{back_zero}
use Rattle.tree.proofs.Recursive.{recursive_form}
use Rattle.lines.specs.Cascade.{run}
use Rattle.ring.specs.Helpers.{Centred}
use Rattle.lines.specs.Helpers.{Region}
use Rattle.weighing.specs.Weighing.{out_of, band_sum, outputs}
use Rattle.history.specs.History.{from}
use Rattle.history.proofs.Holds.{Holds, Free, aligned_at}
use Rattle.history.proofs.From.{from-ext}
use Rattle.history.proofs.Samples.{run_keeps}

-- ---- one sample

-- a line on top of others, the first of which shows b
one_more : (g : ℕ → ℤ) (a b : ℤ) (below rest : List ℤ) → below ≡ b ∷ rest →
    band_sum g (a ∷ below) ≡ band_sum g below +ℤ g (suc (length below)) *ℤ (a -ℤ b)
unfolding band_sum
one_more g a b below rest e = subst (λ (l : List ℤ). band_sum g (a ∷ l) ≡ band_sum g l +ℤ g (suc (length l)) *ℤ (a -ℤ b)) (sym e) refl

module _ (p : Prototype) (x : Signal) where
  aligned_length : (k j n : ℕ) → length (aligned_at p x k j n) ≡ suc k
  unfolding aligned_at
  aligned_length zero j n = refl
  aligned_length (suc k) j n = ap suc (aligned_length k (suc j) n)

  -- all but the first
  rest : ℕ → ℕ → ℕ → List ℤ
  rest zero j n = []
  rest (suc k) j n = aligned_at p x k (suc j) n

  first_is : (k j n : ℕ) → aligned_at p x k j n ≡ back (level p j x) n (tree_delay p (suc k) (2 ^ j)) ∷ rest k j n
  unfolding aligned_at rest
  first_is zero j n =
      let none : p.centre * (2 ^ j * 0) ≡ 0 = simp mul-zero in
      ap (λ (z : ℤ). z ∷ []) (sym (ap (back (level p j x) n) none ∙ back_zero (level p j x) n))
  first_is (suc k) j n = refl

  pub band_sum_is : (g : ℕ → ℤ) (k j n : ℕ) → band_sum g (aligned_at p x k j n) ≡ tree_sum p (suc k) (2 ^ j) (level p j x) g n
  unfolding aligned_at tree_sum level band_sum
  band_sum_is g zero j n = refl
  band_sum_is g (suc k) j n =
      let s = level p (suc j) x in
      let a = back (level p j x) n (tree_delay p (suc (suc k)) (2 ^ j)) in
      let b = back s n (tree_delay p (suc k) (2 ^ suc j)) in
      one_more g a b (aligned_at p x k (suc j) n) (rest k (suc j) n) (first_is k (suc j) n) ∙
      ap₂ (λ (u : ℤ) (m : ℕ). u +ℤ g (suc m) *ℤ (a -ℤ b)) (band_sum_is g k (suc j) n) (aligned_length k (suc j) n) ∙
      ap (λ (L : ℕ). tree_sum p (suc k) L s g n +ℤ g (suc (suc k)) *ℤ (a -ℤ back s n (tree_delay p (suc k) L))) (pow-succ' 2 j)

-- ---- the outputs

-- gains h of a block's samples that are the gains g from sample n on
outputs-from : (c n : ℕ) (h g : ℕ → ℕ → ℤ) (f : ℕ → List ℤ) → ((i : ℕ) → h i ≡ g (n + i)) →
    outputs h (from n c f) ≡ from n c (λ i. out_of (band_sum (g i) (f i)))
unfolding outputs from
outputs-from zero n h g f e = refl
outputs-from (suc c) n h g f e =
    ap₂ (λ (u : ℤ) (v : List ℤ). u ∷ v) (ap (λ (q : ℕ → ℤ). out_of (band_sum q (f n))) (e 0 ∙ ap g (add-zero n)))
    (outputs-from c (n + 1) (λ i. h (suc i)) g f (λ i. e (suc i) ∙ ap g (omega arith)))

-- the tree's output from the recursive sum
out_is : (p : Prototype) (k : ℕ) (g : ℕ → ℕ → ℤ) (x : Signal) (n : ℕ) → out_of (tree_sum p (suc k) 1 x (g n) n) ≡ output p (suc k) g x n
unfolding output
out_is p k g x n = ap out_of (sym (recursive_form p (suc k) g x n (omega arith)))

-- the output at n depends only on the gains of sample n
pub output_ext : (p : Prototype) (M : ℕ) (g h : ℕ → ℕ → ℤ) (x : Signal) (n : ℕ) → ((m : ℕ) → g n m ≡ h n m) →
    output p M g x n ≡ output p M h x n
unfolding output gain_sum
output_ext p M g h x n e = ap out_of (sum-ext M (λ i _. ap (λ (z : ℤ). z *ℤ held_back p M (line p M x) (suc i) n) (e (suc i))))

-- samples that follow the first n of x, on lines that hold those: the tree's outputs, each under its own gains
pub run_outputs : (p : Prototype) → Centred p → (x : Signal) (k size : ℕ) → ((n : ℕ) → Free p x k 0 n) → (xs lines : List ℤ) (at n : ℕ) → at < size →
    Region p (suc k) size 1 lines → Holds p x k 0 size at lines n → ((i : ℕ) → i < length xs → get_or xs i (pos 0) ≡ x (n + i)) → (g : ℕ → ℕ → ℤ) →
    outputs (λ i. g (n + i)) (run p size k at lines xs).aligned ≡ from n (length xs) (output p (suc k) g x)
unfolding level
run_outputs p is x k size free xs lines at n i r h e g =
    ap (outputs (λ j. g (n + j))) (run_keeps p is x k size free xs lines at n i r h e).aligned_are ∙
    outputs-from (length xs) n (λ j. g (n + j)) g (aligned_at p x k 0) (λ j. refl) ∙
    from-ext n (length xs) (λ j _ _. ap out_of (band_sum_is p x (g j) k 0 j) ∙ out_is p k g x j)
