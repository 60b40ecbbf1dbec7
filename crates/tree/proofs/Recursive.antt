-- The recursive reading of the gain sum (rule 3.12).
-- Assumes nothing.
use mathlib.Core.Path.{◌≡◌, sym, ap, ap₂, ◌∙◌}
use Prim.Native.Nat.{ℕ, zero, suc, ◌+◌, ◌-◌, ◌*◌, ◌^◌, ◌≤◌}
use native.Mathlib.Nat.{pow-succ', mul-sub, mul-one, mul-zero}
use native.Mathlib.Omega.{arith}
use lib.Pow.{pow-add}
use lib.IntN.{ℤ, ◌+ℤ◌, ◌-ℤ◌, ◌*ℤ◌}
use Rattle.whole.specs.Sum.{sum}
use Rattle.whole.proofs.Signed.{var, lit, ◌⊕◌, ◌⊖◌, ◌⊗◌, eq_by}
use Rattle.whole.proofs.Sums.{sum-ext}
use Rattle.tree.specs.Prototype.{Prototype}
use Rattle.tree.specs.Signal.{Signal, back}
use Rattle.tree.specs.Tree.{level, line, gain_sum}
use Rattle.tree.specs.Forms.{tree_delay, tree_sum, aligned}
use Rattle.tree.proofs.Back.{back_zero}
use Rattle.tree.proofs.Aligned.{rising, band_rises}

-- ---- delays

-- with b + 1 bands left after j low-passes, 2^j·(2^b - 1) is 2^(M-1) - 2^j
stretch_is : (b j M : ℕ) → suc b + j ≡ M → 2 ^ j * (2 ^ (suc b - 1) - 1) ≡ 2 ^ (M - 1) - 2 ^ (M - suc b)
stretch_is b j M e =
    rw (b_is, j_is, mul-sub (2 ^ j) (2 ^ b) 1, mul-one (2 ^ j), M_is, pow-add 2 j b)
  where
    b_is : suc b - 1 ≡ b
    b_is = omega arith

    j_is : M - suc b ≡ j
    j_is = omega arith

    M_is : M - 1 ≡ j + b
    M_is = omega arith

module _ (p : Prototype) (x : Signal) (n : ℕ) where
  -- the tree of b + 1 bands below level j delays its line by what aligns it
  pub aligned_level : (b j M : ℕ) → suc b + j ≡ M →
      back (level p j x) n (tree_delay p (suc b) (2 ^ j)) ≡ aligned p M (line p M x) (suc b) n
  aligned_level b j M e =
      ap₂ (λ (i d : ℕ). back (level p i x) n (p.centre * d)) j_is (stretch_is b j M e)
    where
      j_is : j ≡ M - suc b
      j_is = omega arith

  -- its gain sum is that of bands 1 to b + 1, each as a(m) - a(m-1) (`Aligned`)
  pub tree_below : (g : ℕ → ℤ) (b j M : ℕ) → suc b + j ≡ M →
      tree_sum p (suc b) (2 ^ j) (level p j x) g n ≡
      sum (suc b) (λ i. g (suc i) *ℤ (rising p M (line p M x) n (suc i) -ℤ rising p M (line p M x) n i))
  unfolding tree_sum sum rising level
  tree_below g zero j M e =
      ap (λ (z : ℤ). g 1 *ℤ z) (sym (back_zero (level p j x) n) ∙ ap (back (level p j x) n) (sym none) ∙ aligned_level zero j M e) ∙
      eq_by (var (g 1) ⊗ var (aligned p M (line p M x) 1 n)) (lit 0 ⊕ var (g 1) ⊗ (var (aligned p M (line p M x) 1 n) ⊖ lit 0))
      (omega arith)
    where
      none : p.centre * (2 ^ j * 0) ≡ 0
      none = simp mul-zero
  tree_below g (suc b) j M e =
      ap₂ ◌+ℤ◌
      (ap (λ (L : ℕ). tree_sum p (suc b) L (level p (suc j) x) g n) (sym (pow-succ' 2 j)) ∙ tree_below g b (suc j) M (omega arith))
      (ap₂ (λ (y z : ℤ). g (suc (suc b)) *ℤ (y -ℤ z)) (aligned_level (suc b) j M e)
      (ap (λ (L : ℕ). back (level p (suc j) x) n (tree_delay p (suc b) L)) (sym (pow-succ' 2 j)) ∙ aligned_level b (suc j) M (omega arith)))

-- the gain sum is the recursive tree's, from the input at stretch 1
pub recursive_form : (p : Prototype) (M : ℕ) (g : ℕ → ℕ → ℤ) (x : Signal) (n : ℕ) → 1 ≤ M →
    gain_sum p M g (line p M x) n ≡ tree_sum p M 1 x (g n) n
unfolding gain_sum level
recursive_form p zero g x n h = absurd (omega arith)
recursive_form p (suc N) g x n h =
    sum-ext (suc N) (λ i l. ap (λ (z : ℤ). g n (suc i) *ℤ z) (band_rises p (suc N) (line p (suc N) x) n i l)) ∙
    sym (tree_below p x n (g n) N 0 (suc N) (omega arith))
