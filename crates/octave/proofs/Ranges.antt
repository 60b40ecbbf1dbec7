-- What it says of a number to be within a range. Assumes nothing.
use mathlib.Core.Path.{◌≡◌}
use mathlib.Core.Bool.{true}
use Prim.Native.Nat.{ℕ, suc, ◌+◌, ◌≤◌}
use native.Mathlib.Omega.{arith}
use lib.Dec.{T}
use lib.IntN.{ℤ, pos, negsuc, nat_abs}
use lib.Signed.{non_neg}
use Rattle.answers.specs.Range.{within}
use Rattle.answers.specs.Unit.{fewest_bands, most_bands, fewest_channels, most_channels}
use Rattle.answers.proofs.Ranges.{within_ends}
use Rattle.whole.proofs.Signed.{up, down, le_z_yes, lt_z_no}

pub within_parts : (lo hi z : ℤ) → within lo hi z ≡ true → (up lo + down z ≤ up z + down lo) × (up z + down hi ≤ up hi + down z)
within_parts lo hi z e = (lt_z_no z lo (within_ends lo hi z e).0, le_z_yes z hi (within_ends lo hi z e).1)

-- an allowed count
pub record Count (least most : ℕ) (z : ℤ) : Type 0 where
  pub not_negative : T (non_neg z)
  pub from : least ≤ nat_abs z
  pub to : nat_abs z ≤ most

pub count_of_lem : (least most : ℕ) (z : ℤ) → within (pos (suc least)) (pos most) z ≡ true → Count (suc least) most z
count_of_lem least most z e = by z (within_parts (pos (suc least)) (pos most) z e)
  where
    by : (z : ℤ) → (suc least + down z ≤ up z + 0) × (up z + 0 ≤ most + down z) → Count (suc least) most z
    by (pos n) h = record { not_negative = tt; from = omega arith; to = omega arith }
    by (negsuc n) h = absurd (omega arith)

-- 2 to 10 bands
pub bands_of : (z : ℤ) → within fewest_bands most_bands z ≡ true → Count 2 10 z
bands_of = count_of_lem 1 10

-- one or two channels
pub channels_of_lem : (z : ℤ) → within fewest_channels most_channels z ≡ true → Count 1 2 z
channels_of_lem = count_of_lem 0 2
