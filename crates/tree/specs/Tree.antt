-- The tree, over any prototype p. Bands are counted from 1, the lowest; the gain of band m at sample n is `g n m`.
use Rattle.std.specs.Prelude.{ℕ, zero, suc, ◌+◌, ◌-◌, ◌*◌, ◌^◌, ℤ, pos, ◌-ℤ◌, ◌*ℤ◌}
use Rattle.answers.specs.Unit.{least_sample, most_sample, unity}
use Rattle.whole.specs.Nearest.{nearest}
use Rattle.whole.specs.Limit.{limit}
use Rattle.whole.specs.Sum.{sum}
use Rattle.tree.specs.Prototype.{Prototype, scale, coefficient, taps}
use Rattle.tree.specs.Signal.{Signal, back}

module _ (p : Prototype) where
  -- rule 3.3: Σ over i of c(i)·s(n - L·i)
  unfoldable pub weighted : ℕ → Signal → Signal
  weighted L s n = sum (taps p) (λ i. coefficient p i *ℤ back s n (L * i))

  -- rule 3.4: over 100,000, rounded
  unfoldable pub low_pass : ℕ → Signal → Signal
  low_pass L s n = nearest scale (weighted L s n)

  -- rule 3.5: the input after j low-passes, the stretch doubling
  unfoldable pub level : ℕ → Signal → Signal
  level zero x = x
  level (suc j) x = low_pass (2 ^ j) (level j x)

  -- rules 3.2, 3.5: line k of M, the input after M - k low-passes
  abbrev pub line : ℕ → Signal → ℕ → Signal
  line M x k = level (M - k) x

  -- rule 3.7: t = D·(2^(M-1) - 1)
  abbrev pub delay : ℕ → ℕ
  delay M = p.centre * (2 ^ (M - 1) - 1)

  -- rule 3.6: band 1 is line 1, band m is (line m at n - D·2^(M-m)) - (line m-1 at n); there is no band 0
  unfoldable pub band : ℕ → (ℕ → Signal) → ℕ → Signal
  band M lines zero n = pos 0
  band M lines (suc zero) n = lines 1 n
  band M lines (suc (suc m)) n = back (lines (suc (suc m))) n (p.centre * 2 ^ (M - suc (suc m))) -ℤ lines (suc m) n

  -- rule 3.8: by t - D·(2^(M+1-m) - 1); band 1 by nothing
  unfoldable pub hold_back : ℕ → ℕ → ℕ
  hold_back M zero = 0
  hold_back M (suc zero) = 0
  hold_back M (suc (suc m)) = delay M - p.centre * (2 ^ (M + 1 - suc (suc m)) - 1)

  -- rule 3.8: band m, held back
  abbrev pub held_back : ℕ → (ℕ → Signal) → ℕ → Signal
  held_back M lines m n = back (band M lines m) n (hold_back M m)

  -- rule 3.9: Σ over m = 1..M of gain·(held-back band)
  unfoldable pub gain_sum : ℕ → (ℕ → ℕ → ℤ) → (ℕ → Signal) → Signal
  gain_sum M g lines n = sum M (λ i. g n (suc i) *ℤ held_back M lines (suc i) n)

  -- rule 3.11: over unity, rounded once, limited
  unfoldable pub output : ℕ → (ℕ → ℕ → ℤ) → Signal → Signal
  output M g x n = limit least_sample most_sample (nearest unity (gain_sum M g (line M x) n))
