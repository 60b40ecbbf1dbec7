-- Rounding.
use Rattle.std.specs.Prelude.{ℕ, suc, ◌+◌, ◌/◌, ℤ, pos, negsuc, neg_ℤ}

-- rule 1.5: the nearest whole number of z / d, a tie away from zero: at z ≥ 0 the quotient of z + d/2, below 0 its mirror image
abbrev pub nearest : ℕ → ℤ → ℤ
nearest d (pos a) = pos ((a + d / 2) / d)
nearest d (negsuc a) = neg_ℤ (pos ((suc a + d / 2) / d))
