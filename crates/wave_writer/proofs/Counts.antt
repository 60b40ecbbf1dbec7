-- The channel count that the writer is told. Assumes nothing.
use mathlib.Core.Path.{◌≡◌, refl}
use mathlib.Core.Bool.{true, false, false≢true}
use Prim.Native.Nat.{ℕ, zero, suc, ◌<◌}
use native.Mathlib.Omega.{arith}
use borrow.Author.Tests.{leb-true, ne_eqb, le-ltb, lt-leb}
use lib.Dec.{lit<}
use lib.IntN.{ℤ, pos, negsuc}
use Rattle.answers.specs.Range.{within}
use Rattle.answers.specs.Unit.{fewest_channels, most_channels}
use Rattle.answers.proofs.Ranges.{within_ends}
use Rattle.samples.specs.Channels.{count_of}
use Rattle.samples.specs.declared.channels.Channels.{Channels}
use Rattle.samples.specs.declared.channels.Channels.TheVariants.{One, Two}
use Rattle.wave_values.specs.Values.{channels_of}
use Rattle.std.specs.Prelude.{Option, Some, MatchOption}

-- one and two channels are allowed
pub count_allowed_lem : (channels : Channels) → within fewest_channels most_channels (pos (count_of channels)) ≡ true
count_allowed_lem One = refl
count_allowed_lem Two = refl

-- .. few, and read back from their number
pub count_small : (channels : Channels) → count_of channels < 3
count_small One = lit< tt
count_small Two = lit< tt

pub count_back : (channels : Channels) → Some channels ≡ channels_of (count_of channels)
unfolding channels_of
count_back One = refl
count_back Two = refl

-- what a number tells of the channels
pub sides_are : (n : ℕ) (z : ℤ) (r : Option Channels) → z ≡ pos n → r ≡ channels_of n →
    MatchOption r (within fewest_channels most_channels z ≡ false) (λ channels. z ≡ pos (count_of channels))
unfolding channels_of
sides_are zero z r e d = rw (e, d) refl
sides_are (suc zero) z r e d = rw (e, d) refl
sides_are (suc (suc zero)) z r e d = rw (e, d) refl
sides_are (suc (suc (suc n))) z r e d =
    let m = suc (suc (suc n)) in
    rw (e, d)
    (rw (ne_eqb m 1 (λ q. omega arith), ne_eqb m 2 (λ q. omega arith), le-ltb m 1 (omega arith), lt-leb m 2 (omega arith)) refl)

-- an allowed number of channels
pub record Count (z : ℤ) : Type 0 where
  pub sides : Channels
  pub is : z ≡ pos (count_of sides)

pub count_of_lem : (z : ℤ) → within fewest_channels most_channels z ≡ true → Count z
count_of_lem (pos zero) e = absurd (false≢true e)
count_of_lem (pos (suc zero)) e = record { sides = One; is = refl }
count_of_lem (pos (suc (suc zero))) e = record { sides = Two; is = refl }
count_of_lem (pos (suc (suc (suc n)))) e =
    absurd (omega (arith, leb-true (suc (suc (suc n))) 2 (within_ends fewest_channels most_channels (pos (suc (suc (suc n)))) e).1))
count_of_lem (negsuc n) e = absurd (false≢true e)
