-- What a weighted sum at stretch L gives after a single sample a: c(i)·a at L·i, and 0 between (rule 3.3): a
-- stretch that repeats coefficients is ruled out. Assumes nothing.
use mathlib.Core.Path.{◌≡◌, refl, ap, ◌∙◌}
use mathlib.Core.List.{[], ◌∷◌, map}
use Prim.Native.Nat.{ℕ, zero, suc, ◌-◌, ◌*◌, ◌<◌}
use native.Mathlib.Nat.{eq_of_mul-eq-mul_left, sub_self, le_refl}
use native.Mathlib.Omega.{arith}
use lib.IntN.{ℤ, pos, negsuc, ◌*ℤ◌, *ℤ-zero}
use Rattle.whole.specs.Sum.{sum}
use Rattle.whole.proofs.Sums.{sum_none, sum_only}
use Rattle.tree.specs.Prototype.{Prototype, coefficient, taps, published}
use Rattle.tree.specs.Signal.{back, signal_of}
use Rattle.tree.specs.Tree.{weighted}
use Rattle.tree.proofs.Back.{back_cases, back_in}

-- ---- values

-- the published table at stretch 2, n = 0..8: 313, -1,338 and 3,593 stand four apart, for the odd coefficients are 0 too
pub stretched : map (weighted published 2 (signal_of (pos 1 ∷ []))) (0 ∷ 1 ∷ 2 ∷ 3 ∷ 4 ∷ 5 ∷ 6 ∷ 7 ∷ 8 ∷ []) ≡
    pos 313 ∷ pos 0 ∷ pos 0 ∷ pos 0 ∷ negsuc 1337 ∷ pos 0 ∷ pos 0 ∷ pos 0 ∷ pos 3593 ∷ []
unfolding weighted sum
stretched = refl

-- ---- any prototype, stretch and sample

module _ (p : Prototype) (a : ℤ) where
  single_later : (k : ℕ) → 0 < k → signal_of (a ∷ []) k ≡ pos 0
  single_later zero h = absurd (omega arith)
  single_later (suc k) h = refl

  -- the sample stands at 0, so d back from n it is met only if d = n
  pub unmet : (n d : ℕ) → (d ≡ n → ⊥) → back (signal_of (a ∷ [])) n d ≡ pos 0
  unmet n d h =
      back_cases (signal_of (a ∷ [])) n d (λ z. z ≡ pos 0) (λ l. single_later (n - d) (omega arith)) (λ _. refl)

  pub gaps_are_zeros : (L n : ℕ) → ((i : ℕ) → i < taps p → L * i ≡ n → ⊥) → weighted p L (signal_of (a ∷ [])) n ≡ pos 0
  unfolding weighted
  gaps_are_zeros L n h =
      sum_none (taps p) (λ i l. ap (λ (z : ℤ). coefficient p i *ℤ z) (unmet n (L * i) (h i l)) ∙ *ℤ-zero (coefficient p i))

  pub coefficient_at : (L i : ℕ) → 0 < L → i < taps p → weighted p L (signal_of (a ∷ [])) (L * i) ≡ coefficient p i *ℤ a
  unfolding weighted
  coefficient_at L i h l =
      sum_only (taps p) i {f = λ k. coefficient p k *ℤ back (signal_of (a ∷ [])) (L * i) (L * k)} l
      (λ k _ o. ap (λ (z : ℤ). coefficient p k *ℤ z) (unmet (L * i) (L * k) (λ e. o (eq_of_mul-eq-mul_left L h k i e))) ∙ *ℤ-zero (coefficient p k)) ∙
      ap (λ (z : ℤ). coefficient p i *ℤ z)
      (back_in (signal_of (a ∷ [])) (le_refl (L * i)) ∙ ap (signal_of (a ∷ [])) (sub_self (L * i)))
