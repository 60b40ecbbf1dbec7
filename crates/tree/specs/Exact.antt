-- The exact tree and the allowance, over any prototype p.
use Rattle.std.specs.Prelude.{ℕ, zero, suc, ◌+◌, ◌-◌, ◌*◌, ◌/◌, ◌^◌, ℤ, pos, nat_abs, ◌-ℤ◌, ◌*ℤ◌}
use Rattle.answers.specs.Unit.{least_sample, most_sample, unity}
use Rattle.whole.specs.Limit.{limit}
use Rattle.whole.specs.Sum.{sumℕ}
use Rattle.tree.specs.Prototype.{Prototype, scale, magnitudes}
use Rattle.tree.specs.Signal.{Signal}
use Rattle.tree.specs.Tree.{weighted, gain_sum}

-- rule 11.6, for the table in use
abbrev pub farthest : ℕ
farthest = 302

-- rule 4.3: P = 100,000^(M-1)
abbrev pub common_scale : ℕ → ℕ
common_scale M = scale ^ (M - 1)

module _ (p : Prototype) where
  -- rule 4.1: the weighted sums, not divided
  unfoldable pub exact_level : ℕ → Signal → Signal
  exact_level zero x = x
  exact_level (suc j) x = weighted p (2 ^ j) (exact_level j x)

  -- rules 4.1, 4.2: exact line k, on the scale 100,000^(M-k)
  abbrev pub exact_line : ℕ → Signal → ℕ → Signal
  exact_line M x k = exact_level (M - k) x

  -- rule 4.3: exact line k on the common scale P
  abbrev pub on_whole : ℕ → Signal → ℕ → Signal
  on_whole M x k n = pos (scale ^ (k - 1)) *ℤ exact_line M x k n

  -- rule 4.4: the gain sum of the exact lines, a numerator over 4,096·P
  abbrev pub exact_sum : ℕ → (ℕ → ℕ → ℤ) → Signal → Signal
  exact_sum M g x n = gain_sum p M g (on_whole M x) n

  -- rule 4.5: 4,096·P times the exact output
  unfoldable pub exact_output : ℕ → (ℕ → ℕ → ℤ) → Signal → Signal
  exact_output M g x n = limit (pos (unity * common_scale M) *ℤ least_sample) (pos (unity * common_scale M) *ℤ most_sample) (exact_sum M g x n)

  -- rule 4.6: E by level, E(M) = 0 and E(k-1) = A·E(k) + 50,000·100,000^(M-k), A the sum of the magnitudes
  unfoldable pub allowance_at : ℕ → ℕ
  allowance_at zero = 0
  allowance_at (suc j) = magnitudes p * allowance_at j + scale / 2 * scale ^ j

  -- rule 4.6: E(k)
  abbrev pub allowance : ℕ → ℕ → ℕ
  allowance M k = allowance_at (M - k)

  -- rule 4.8: Σ over k = 1..M-1 of |g(k+1) - g(k)|·E(k)·100,000^(k-1); k is i + 1
  unfoldable pub slack : ℕ → (ℕ → ℕ → ℤ) → ℕ → ℕ
  slack M g n = sumℕ (M - 1) (λ i. nat_abs (g n (suc (suc i)) -ℤ g n (suc i)) * (allowance M (suc i) * scale ^ i))

  -- rule 4.7: the sum of E(k)·100,000^(k-1), on the common scale P
  unfoldable pub together : ℕ → ℕ
  together M = sumℕ (M - 1) (λ i. allowance M (suc i) * scale ^ i)
