-- The largest length that a header states is just what 32 bits of RIFF length allow, the pad counted. Assumes nothing.
use mathlib.Core.Path.{◌≡◌, refl, sym, ◌∙◌}
use mathlib.Core.Bool.{true}
use Prim.Native.Nat.{ℕ, ◌%◌, ◌≤◌, ◌^◌}
use native.Mathlib.Omega.{arith}
use lib.Dec.{leb, ltb}
use borrow.Author.Tests.{leb-true, leb-false, lt-ltb, le-ltb}
use Rattle.answers.specs.Unit.{largest_data}
use Rattle.fields.proofs.ByTest.{by-test}
use Rattle.samples.specs.Channels.{count_of}
use Rattle.samples.specs.declared.channels.Channels.{Channels}
use Rattle.samples.specs.declared.channels.Channels.TheVariants.{One, Two}
use Rattle.wave_values.specs.Values.{frame_size}
use Rattle.wave_writer.specs.Header.{written, riff_size}

pub largest_is : (size : ℕ) → leb size largest_data ≡ ltb (riff_size size) (2 ^ 32)
largest_is size =
    by-test (leb size largest_data)
    (λ t. t ∙ sym (lt-ltb (riff_size size) (2 ^ 32) (omega (arith, leb-true size largest_data t))))
    (λ t. t ∙ sym (le-ltb (riff_size size) (2 ^ 32) (omega (arith, leb-false size largest_data t))))

-- of whole frames the largest is one number, for one channel and for two
pub record LargestFrames (channels : Channels) : Type 0 where
  pub whole : 4294967256 % frame_size (count_of channels) written ≡ 0
  pub stated : leb 4294967256 largest_data ≡ true
  pub no_more : (size : ℕ) → size % frame_size (count_of channels) written ≡ 0 → size ≤ largest_data → size ≤ 4294967256

pub largest_frames : (channels : Channels) → LargestFrames channels
largest_frames One = record { whole = refl; stated = refl; no_more = λ size whole few. omega arith }
largest_frames Two = record { whole = refl; stated = refl; no_more = λ size whole few. omega arith }
