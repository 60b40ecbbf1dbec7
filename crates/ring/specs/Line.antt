-- A line in the memory: a ring of `size` places, `at` the place of the next sample (docs/LAYOUT.md). Over any prototype p.
use Rattle.std.specs.Prelude.{cond, List, ℕ, zero, suc, ◌+◌, ◌-◌, ◌*◌, leb, ltb, get_or, ℤ, pos, ◌*ℤ◌}
use Rattle.answers.specs.Unit.{least_place, most_place}
use Rattle.whole.specs.Nearest.{nearest}
use Rattle.whole.specs.Limit.{limit}
use Rattle.whole.specs.Sum.{sum}
use Rattle.tree.specs.Prototype.{Prototype, scale, coefficient, taps}

-- rule 5.6: the place of the sample d back, 1 ≤ d ≤ size
abbrev pub place : ℕ → ℕ → ℕ → ℕ
place size at d = cond (leb d at) (at - d) (at + size - d)

-- rule 5.6: what the line shows d back
abbrev pub ago : List ℤ → ℕ → ℕ → ℕ → ℤ
ago line size at d = get_or line (place size at d) (pos 0)

-- rule 5.9: the place after `at` in a ring
abbrev pub next : ℕ → ℕ → ℕ
next size at = cond (ltb (at + 1) size) (at + 1) 0

-- rule 5.7: what coefficient i weighs at stretch L, the new sample itself or the line L·i back
unfoldable pub tap : List ℤ → ℕ → ℕ → ℕ → ℤ → ℕ → ℤ
tap line size at L x zero = x
tap line size at L x (suc i) = ago line size at (L * suc i)

module _ (p : Prototype) where
  -- rule 5.7: the weighted sum
  unfoldable pub line_sum : List ℤ → ℕ → ℕ → ℕ → ℤ → ℤ
  line_sum line size at L x = sum (taps p) (λ i. coefficient p i *ℤ tap line size at L x i)

  -- rule 5.7: over 100,000, rounded, and limited to 32 bits
  unfoldable pub low_value : List ℤ → ℕ → ℕ → ℕ → ℤ → ℤ
  low_value line size at L x = limit least_place most_place (nearest scale (line_sum line size at L x))

  -- rule 5.8: the aligned sample, D·(2^(M-1) - L) back; size = D·2^(M-1)
  unfoldable pub late_value : List ℤ → ℕ → ℕ → ℕ → ℤ
  late_value line size at L = ago line size at (size - p.centre * L)
