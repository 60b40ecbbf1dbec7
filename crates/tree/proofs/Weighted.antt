-- The weighted sum of a signal is linear in the signal, and no larger than the magnitudes' sum times the signal. Assumes nothing.
use mathlib.Core.Path.{◌≡◌, ap, ◌∙◌}
use Prim.Native.Nat.{ℕ, ◌*◌, ◌≤◌}
use lib.IntN.{ℤ, nat_abs, ◌-ℤ◌, ◌*ℤ◌}
use Rattle.whole.proofs.Ring.{*ℤ-distribˡ--ℤ, *ℤ-left_comm}
use Rattle.whole.proofs.Sums.{sum-ext, sum--, sum-*, abs_sum-*}
use Rattle.tree.specs.Prototype.{Prototype, coefficient, taps, magnitudes}
use Rattle.tree.specs.Signal.{Signal, back}
use Rattle.tree.specs.Tree.{weighted}
use Rattle.tree.proofs.Back.{back--, back-*, back-abs}

module _ (p : Prototype) (L : ℕ) where
  pub weighted-- : (s r : Signal) (n : ℕ) → weighted p L (λ k. s k -ℤ r k) n ≡ weighted p L s n -ℤ weighted p L r n
  unfolding weighted
  weighted-- s r n =
      sum-ext (taps p)
      (λ i _. ap (λ (z : ℤ). coefficient p i *ℤ z) (back-- s r n (L * i)) ∙ *ℤ-distribˡ--ℤ (coefficient p i) (back s n (L * i)) (back r n (L * i))) ∙
      sum-- (taps p) (λ i. coefficient p i *ℤ back s n (L * i)) (λ i. coefficient p i *ℤ back r n (L * i))

  pub weighted-* : (c : ℤ) (s : Signal) (n : ℕ) → weighted p L (λ k. c *ℤ s k) n ≡ c *ℤ weighted p L s n
  unfolding weighted
  weighted-* c s n =
      sum-ext (taps p)
      (λ i _. ap (λ (z : ℤ). coefficient p i *ℤ z) (back-* c s n (L * i)) ∙ *ℤ-left_comm (coefficient p i) c (back s n (L * i))) ∙
      sum-* (taps p) c (λ i. coefficient p i *ℤ back s n (L * i))

  pub weighted_abs : (s : Signal) (n X : ℕ) → ((k : ℕ) → k ≤ n → nat_abs (s k) ≤ X) → nat_abs (weighted p L s n) ≤ magnitudes p * X
  unfolding weighted
  weighted_abs s n X h = abs_sum-* (taps p) (coefficient p) (λ i. back s n (L * i)) X (λ i _. back-abs s n (L * i) X h)
