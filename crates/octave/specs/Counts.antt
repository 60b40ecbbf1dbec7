-- How many bands and channels a memory is for.
use Rattle.std.specs.Prelude.{ℕ, ◌≤◌}

-- rules 1.3, 1.10: the counts
pub record Counts : Type 0 where
  pub bands : ℕ
  pub channels : ℕ

-- rules 1.3, 1.10: 2 to 10 bands, one or two channels
pub record AllowedCounts (bands channels : ℕ) : Type 0 where
  pub two_bands : 2 ≤ bands
  pub ten_bands : bands ≤ 10
  pub one_channel : 1 ≤ channels
  pub two_channels : channels ≤ 2
