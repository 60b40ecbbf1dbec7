-- Finite sums.
use Rattle.std.specs.Prelude.{ℕ, zero, suc, ◌+◌, ℤ, pos, ◌+ℤ◌}

-- rule 1.9: f 0 + f 1 + .. + f (n - 1)
unfoldable pub sum : ℕ → (ℕ → ℤ) → ℤ
sum zero f = pos 0
sum (suc n) f = sum n f +ℤ f n

-- rule 1.9: the same over whole numbers that are not negative
unfoldable pub sumℕ : ℕ → (ℕ → ℕ) → ℕ
sumℕ zero f = 0
sumℕ (suc n) f = sumℕ n f + f n
