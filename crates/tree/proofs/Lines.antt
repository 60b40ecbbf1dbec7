-- The lines from the top down, and what a line at n can depend on. Assumes nothing.
use mathlib.Core.Path.{◌≡◌, refl, ap, ◌∙◌}
use Prim.Native.Nat.{ℕ, zero, suc, ◌-◌, ◌*◌, ◌^◌, ◌≤◌, ◌<◌}
use native.Mathlib.Nat.{sub_self}
use native.Mathlib.Omega.{arith}
use lib.IntN.{ℤ, pos, ◌*ℤ◌, *ℤ-zero}
use Rattle.whole.specs.Nearest.{nearest}
use Rattle.whole.proofs.Nearest.{nearest_zero}
use Rattle.whole.proofs.Sums.{sum-ext, sum_none}
use Rattle.tree.specs.Prototype.{Prototype, scale, coefficient, taps}
use Rattle.tree.specs.Signal.{Signal}
use Rattle.tree.specs.Tree.{weighted, low_pass, level, line}
use Rattle.tree.proofs.Back.{back_cases, back-ext}

module _ (p : Prototype) where
  -- ---- the walk from line M down

  -- rule 3.2
  pub line_top : (M : ℕ) (x : Signal) → line p M x M ≡ x
  unfolding level
  line_top M x = rw (sub_self M)

  -- rule 3.5
  pub line_below : (M : ℕ) (x : Signal) (k : ℕ) → k < M → line p M x k ≡ low_pass p (2 ^ (M - suc k)) (line p M x (suc k))
  unfolding level
  line_below M x k h = ap (λ (j : ℕ). level p j x) steps
    where
      steps : M - k ≡ suc (M - suc k)
      steps = omega arith

  -- ---- no look ahead

  -- two signals that agree up to n have the same weighted sum at n
  pub weighted_upto : (L : ℕ) {s r : Signal} (n : ℕ) → ((k : ℕ) → k ≤ n → s k ≡ r k) → weighted p L s n ≡ weighted p L r n
  unfolding weighted
  weighted_upto L n e = sum-ext (taps p) (λ i _. ap (λ (z : ℤ). coefficient p i *ℤ z) (back-ext n (L * i) e))

  -- .. and the same level at n
  pub level_upto : (j : ℕ) {x y : Signal} (n : ℕ) → ((k : ℕ) → k ≤ n → x k ≡ y k) → level p j x n ≡ level p j y n
  unfolding level low_pass
  level_upto zero n e = e n (omega arith)
  level_upto (suc j) n e = ap (nearest scale) (weighted_upto (2 ^ j) n (λ k h. level_upto j k (λ i l. e i (omega arith))))

  -- ---- silence

  -- a signal that is 0 up to n has the weighted sum 0 at n
  pub weighted_silent : (L : ℕ) {s : Signal} (n : ℕ) → ((k : ℕ) → k ≤ n → s k ≡ pos 0) → weighted p L s n ≡ pos 0
  unfolding weighted
  weighted_silent L {s} n e =
      sum_none (taps p)
      (λ i _. ap (λ (z : ℤ). coefficient p i *ℤ z)
      (back_cases s n (L * i) (λ z. z ≡ pos 0) (λ h. e (n - L * i) (omega arith)) (λ _. refl)) ∙ *ℤ-zero (coefficient p i))

  -- a level of a signal that is 0 before n is 0 before n
  pub level_silent : (j : ℕ) {x : Signal} (n : ℕ) → ((k : ℕ) → k < n → x k ≡ pos 0) → (k : ℕ) → k < n → level p j x k ≡ pos 0
  unfolding level low_pass
  level_silent zero n e k h = e k h
  level_silent (suc j) n e k h =
      ap (nearest scale) (weighted_silent (2 ^ j) k (λ i l. level_silent j n e i (omega arith))) ∙ nearest_zero scale
