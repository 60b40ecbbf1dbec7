-- Equal gains (rule 11.7): that gain times the delayed input, rounded once and limited; no error of the lines is left. Assumes nothing.
use mathlib.Core.Path.{◌≡◌, ap, ap₂, ◌∙◌}
use Prim.Native.Nat.{ℕ, suc, ◌-◌, ◌*◌, ◌^◌, ◌≤◌}
use native.Mathlib.Nat.{sub_self}
use native.Mathlib.Omega.{arith}
use lib.IntN.{ℤ, ◌+ℤ◌, ◌-ℤ◌, ◌*ℤ◌, +ℤ_idr, zero-*ℤ}
use Rattle.answers.specs.Unit.{least_sample, most_sample, unity}
use Rattle.whole.specs.Nearest.{nearest}
use Rattle.whole.specs.Limit.{limit}
use Rattle.whole.proofs.Ring.{minus_self}
use Rattle.whole.proofs.Sums.{sum_none}
use Rattle.tree.specs.Prototype.{Prototype}
use Rattle.tree.specs.Signal.{Signal, back}
use Rattle.tree.specs.Tree.{level, line, delay, gain_sum, output}
use Rattle.tree.specs.Forms.{aligned, aligned_sum}
use Rattle.tree.proofs.Aligned.{aligned_form}

module _ (p : Prototype) (M : ℕ) (G : ℤ) (g : ℕ → ℕ → ℤ) (x : Signal) (n : ℕ) (some : 1 ≤ M) (equal : (m : ℕ) → 1 ≤ m → m ≤ M → g n m ≡ G) where
  -- the top line, aligned, is the input late by t
  top_is_late : aligned p M (line p M x) M n ≡ back x n (delay p M)
  unfolding level
  top_is_late = ap (λ (j : ℕ). back (level p j x) n (p.centre * (2 ^ (M - 1) - 2 ^ j))) (sub_self M)

  pub equal_gain_sum : gain_sum p M g (line p M x) n ≡ G *ℤ back x n (delay p M)
  unfolding aligned_sum
  equal_gain_sum =
      aligned_form p M g (line p M x) n some ∙
      ap₂ ◌+ℤ◌ (ap₂ ◌*ℤ◌ (equal M some (omega arith)) top_is_late)
      (sum_none (M - 1)
      (λ i h. ap (λ (z : ℤ). z *ℤ aligned p M (line p M x) (suc i) n)
      (ap₂ ◌-ℤ◌ (equal (suc i) (omega arith) (omega arith)) (equal (suc (suc i)) (omega arith) (omega arith)) ∙ minus_self G) ∙
      zero-*ℤ (aligned p M (line p M x) (suc i) n))) ∙
      +ℤ_idr (G *ℤ back x n (delay p M))

  pub equal_gains : output p M g x n ≡ limit least_sample most_sample (nearest unity (G *ℤ back x n (delay p M)))
  unfolding output
  equal_gains = ap (λ (z : ℤ). limit least_sample most_sample (nearest unity z)) equal_gain_sum
