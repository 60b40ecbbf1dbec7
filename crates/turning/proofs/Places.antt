-- The places that a file's channels take are what the memory length call tells. Assumes nothing.
use mathlib.Core.Path.{◌≡◌, refl, sym, ap, ◌∙◌}
use Prim.Native.Nat.{ℕ}
use native.Mathlib.Omega.{arith}
use mir.Syntax.{w32}
use mir.Val.{to_z}
use mir.Facts.{to_z_pos}
use lib.IntN.{pos}
use Rattle.std.specs.Prelude.{Result, Ok, is_ok, IsOk}
use Rattle.answers.specs.Checks.{choose}
use Rattle.samples.specs.Channels.{count_of}
use Rattle.samples.specs.declared.channels.Channels.{Channels}
use Rattle.samples.specs.declared.channels.Channels.TheVariants.{One, Two}
use Rattle.octave.specs.Memory.{memory_length, memory_length_of}
use Rattle.octave.specs.declared.memory.CountError.{CountError}
use Rattle.arguments.specs.Arguments.{bands}
use Rattle.eqfile.proofs.Turns.{few_channels}

module _ (channels : Channels) {n : ℕ} (e : n ≡ count_of channels) where
  -- their number, signed
  pub signed : to_z w32 n ≡ pos (count_of channels)
  signed = to_z_pos w32 (omega (arith, few_channels channels)) ∙ ap pos e

  module _ {r : Result ℕ CountError} (told : r ≡ memory_length_of (pos bands) (to_z w32 n)) where
    told_is : r ≡ Ok (memory_length bands (count_of channels))
    unfolding choose
    told_is = told ∙ ap (memory_length_of (pos bands)) signed ∙ by channels
      where
        by : (c : Channels) → memory_length_of (pos bands) (pos (count_of c)) ≡ Ok (memory_length bands (count_of c))
        by One = refl
        by Two = refl

    pub not_refused : IsOk r
    not_refused = ap is_ok told_is

    pub places_are : {k : ℕ} → r ≡ Ok k → k ≡ memory_length bands (count_of channels)
    places_are {k} is = let same : ◌≡◌ {A = Result ℕ CountError} (Ok k) (Ok (memory_length bands (count_of channels))) = sym is ∙ told_is in cc
