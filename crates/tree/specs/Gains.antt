-- The gains that the calls allow.
use Rattle.std.specs.Prelude.{ℕ, ◌≤◌, ℤ, pos, ◌≤ℤ◌}
use Rattle.answers.specs.Unit.{largest_gain}

-- rule 1.2
pub record IsGain (z : ℤ) : Type 0 where
  pub least : pos 0 ≤ℤ z
  pub most : z ≤ℤ pos largest_gain

-- rule 1.2, of the gains of sample n for bands 1 to M
abbrev pub AllowedGains : ℕ → (ℕ → ℕ → ℤ) → ℕ → Type 0
AllowedGains M g n = (m : ℕ) → 1 ≤ m → m ≤ M → IsGain (g n m)
