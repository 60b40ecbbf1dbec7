-- The turns of the plan. Assumes nothing.
use mathlib.Core.Path.{◌≡◌, refl}
use mathlib.Core.Bool.{Bool, true, false, cond}
use Prim.Native.Nat.{ℕ, ◌-◌, ◌*◌, ◌≤◌, ◌<◌, min}
use native.Mathlib.Nat.{mul-le-mul, mul-le-mul_right, mul-le-mul_left}
use native.Mathlib.Omega.{arith}
use Rattle.samples.specs.Channels.{count_of}
use Rattle.samples.specs.declared.channels.Channels.{Channels}
use Rattle.samples.specs.declared.channels.Channels.TheVariants.{One, Two}
use Rattle.samples.specs.Format.{size_of}
use Rattle.samples.specs.declared.format.Format.{Format}
use Rattle.samples.specs.declared.format.Format.TheVariants.{Bits16, Bits24, Float32}
use Rattle.wave_values.specs.Values.{frame_size}
use Rattle.answers.specs.Unit.{turn_limit, turn_room}
use Rattle.tree.specs.Prototype.{published}
use Rattle.tree.specs.Tree.{delay}
use Rattle.eqfile.specs.declared.turn.Turn.{Turn}
use Rattle.arguments.specs.Arguments.{bands}
use Rattle.eqfile.specs.Turn.{late, fed_in_all, all_read, wanted_of, turn_of}

-- output n + `late` is frame n: the program waits for the delay of its bands
pub late_is_the_delay : late ≡ delay published bands
late_is_the_delay = refl

pub few_bytes : (format : Format) → (2 ≤ size_of format) × (size_of format ≤ 4)
few_bytes Bits16 = (omega arith, omega arith)
few_bytes Bits24 = (omega arith, omega arith)
few_bytes Float32 = (omega arith, omega arith)

pub few_channels : (channels : Channels) → (1 ≤ count_of channels) × (count_of channels ≤ 2)
few_channels One = (omega arith, omega arith)
few_channels Two = (omega arith, omega arith)

-- the samples of a turn's frames have room
pub samples_most : (count k : ℕ) → count ≤ 2 → k ≤ turn_limit → count * k ≤ turn_room
samples_most count k c h = mul-le-mul c h

-- ---- what a caller's buffers have to hold

pub record Bounds (count frames at : ℕ) (t : Turn) : Type 0 where
  pub fed_most : count * t.fed ≤ turn_room
  pub fed_few : t.fed ≤ turn_limit
  pub fed_some : at < fed_in_all frames → 0 < t.fed
  pub wanted_most : t.wanted ≤ 4 * (count * t.fed)
  pub skipped_most : t.skipped ≤ t.fed
  pub written_most : t.written ≤ 3 * turn_room

-- no more bytes than those of the block
pub wanted_few : (size frames at read fed : ℕ) → wanted_of size frames at read fed ≤ size * fed
unfolding wanted_of
wanted_few size frames at read fed = by (all_read size frames at read)
  where
    by : (b : Bool) → cond b (size * min fed (frames - at)) 0 ≤ size * fed
    by true = mul-le-mul_left size (omega arith)
    by false = omega arith

module _ (format : Format) (channels : Channels) (frames at read : ℕ) where
  turn_bounds : Bounds (count_of channels) frames at (turn_of (count_of channels) (frame_size (count_of channels) format) frames at read)
  unfolding turn_of
  turn_bounds =
      let count = count_of channels in
      let fed = min turn_limit (fed_in_all frames - at) in
      let skipped = min fed (late - at) in
      let bytes : frame_size count format * fed ≤ count * 4 * fed = mul-le-mul_right fed (mul-le-mul_left count (few_bytes format).1) in
      record {
        fed_most = samples_most count fed (few_channels channels).1 (omega arith);
        fed_few = omega arith;
        fed_some = λ h. omega arith;
        wanted_most = omega (arith, wanted_few (frame_size count format) frames at read fed);
        skipped_most = omega arith;
        written_most = omega (arith, samples_most count (fed - skipped) (few_channels channels).1 (omega arith));
      }

  pub bounds : (t : Turn) → t ≡ turn_of (count_of channels) (frame_size (count_of channels) format) frames at read → Bounds (count_of channels) frames at t
  bounds t p = rw p turn_bounds
