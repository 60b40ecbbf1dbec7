-- A `fmt ` chunk: its values as they are read, and its length. Assumes nothing.
use mathlib.Core.Path.{◌≡◌, sym, subst}
use mathlib.Core.Bool.{Bool, true, ◌||◌}
use mathlib.Core.List.{List}
use Prim.Native.Nat.{ℕ, ◌≤◌}
use native.Mathlib.Omega.{arith}
use lib.Dec.{eqb}
use borrow.Author.Tests.{eqb-true}
use Rattle.fields.proofs.ByTest.{by-test}
use Rattle.answers.specs.Answer.{Answer}
use Rattle.fields.specs.Bytes.{lowest, field}
use Rattle.chunks.specs.Walk.{size_in, Step}
use Rattle.std.specs.Prelude.{Option}
use Rattle.samples.specs.declared.channels.Channels.{Channels}
use Rattle.samples.specs.declared.format.Format.{Format}
use Rattle.wave_values.specs.Values.{fmt_length, long_fmt_length, known_length, coding_of, channels_of}
use Rattle.wave.specs.Walk.{Found, Seen, judged, extra_in, values}

-- the six values, as they were read
pub values_of : (rest : List ℕ) (size extra tag bits count rate byteRate block : ℕ) (coding : Option Format) (sides : Option Channels) (step : Step Seen (Answer Found)) →
    size ≡ size_in lowest rest → extra ≡ extra_in rest → tag ≡ field lowest rest 8 2 → bits ≡ field lowest rest 22 2 → coding ≡ coding_of size extra tag bits → count ≡ field lowest rest 10 2 → sides ≡ channels_of count →
    rate ≡ field lowest rest 12 4 → byteRate ≡ field lowest rest 16 4 → block ≡ field lowest rest 20 2 →
    step ≡ judged coding sides rate byteRate block → step ≡ values rest
unfolding values
values_of rest size extra tag bits count rate byteRate block coding sides step l x t b k c s r y f e =
    rw (sym l, sym x, sym t, sym b, sym k, sym c, sym s, sym r, sym y, sym f) e

-- a `fmt ` has sixteen bytes, or more
pub known_long : (size : ℕ) → known_length size ≡ true → fmt_length ≤ size
unfolding known_length
known_long size h =
    by-test (eqb size fmt_length) (λ t. omega (arith, eqb-true size fmt_length t))
    (λ t. omega (arith, eqb-true size long_fmt_length (subst (λ (b : Bool). (b || eqb size long_fmt_length) ≡ true) t h)))
