-- The gain sum in two other forms, over any prototype p. The gains are those of one sample, `g m` for band m.
use Rattle.std.specs.Prelude.{ℕ, zero, suc, ◌-◌, ◌*◌, ◌^◌, ℤ, pos, ◌+ℤ◌, ◌-ℤ◌, ◌*ℤ◌}
use Rattle.whole.specs.Sum.{sum}
use Rattle.tree.specs.Prototype.{Prototype}
use Rattle.tree.specs.Signal.{Signal, back}
use Rattle.tree.specs.Tree.{low_pass}

module _ (p : Prototype) where
  -- rule 3.12: the delay of the tree with b bands at stretch L
  abbrev pub tree_delay : ℕ → ℕ → ℕ
  tree_delay b L = p.centre * (L * (2 ^ (b - 1) - 1))

  -- rule 3.12: the gain sum of the tree with b bands over the line s at stretch L: the tree below, and this line's band
  unfoldable pub tree_sum : ℕ → ℕ → Signal → (ℕ → ℤ) → ℕ → ℤ
  tree_sum zero L s g n = pos 0
  tree_sum (suc zero) L s g n = g 1 *ℤ s n
  tree_sum (suc (suc b)) L s g n =
      tree_sum (suc b) (2 * L) (low_pass p L s) g n +ℤ
      g (suc (suc b)) *ℤ (back s n (tree_delay (suc (suc b)) L) -ℤ back (low_pass p L s) n (tree_delay (suc b) (2 * L)))

  -- rule 3.13: line k, late by what aligns it with the others: by D·(2^(M-1) - 2^(M-k))
  abbrev pub aligned : ℕ → (ℕ → Signal) → ℕ → Signal
  aligned M lines k n = back (lines k) n (p.centre * (2 ^ (M - 1) - 2 ^ (M - k)))

  -- rule 3.13: the gain sum by differences of neighbouring gains: only the top line carries a gain of its own
  unfoldable pub aligned_sum : ℕ → (ℕ → ℤ) → (ℕ → Signal) → ℕ → ℤ
  aligned_sum M g lines n =
      g M *ℤ aligned M lines M n +ℤ sum (M - 1) (λ i. (g (suc i) -ℤ g (suc (suc i))) *ℤ aligned M lines (suc i) n)
