-- What a chunk may come to: on with a known rate, a refusal, or the samples behind a `data` header. Assumes nothing.
use mathlib.Core.Path.{◌≡◌}
use mathlib.Core.Bool.{true, ◌&&◌}
use mathlib.Core.List.{List}
use Prim.Native.Nat.{ℕ, ◌+◌, ◌*◌, ◌≤◌}
use lib.Dec.{eqb, lit≤}
use Rattle.answers.specs.Answer.{Answer, accepted, refused}
use Rattle.answers.proofs.Laws.{and_left}
use Rattle.fields.specs.Bytes.{lowest, field}
use Rattle.fields.proofs.ByTest.{cond-case}
use Rattle.chunks.specs.Walk.{header_length, size_in, named, contained, Step, ends, on}
use Rattle.samples.specs.Channels.{count_of}
use Rattle.samples.specs.declared.channels.Channels.{Channels}
use Rattle.samples.specs.declared.format.Format.{Format}
use Rattle.wave.specs.Names.{fmt, data'}
use Rattle.std.specs.Prelude.{Option, Some, None}
use Rattle.wave_values.specs.Values.{known_length, frame_size, coding_of, channels_of, known_rate, right}
use Rattle.wave.specs.Walk.{Found, Seen, first, judged, extra_in, values, fmt_chunk, data_chunk, chunk}

-- a `fmt ` that was met has a known rate
abbrev pub Good : Seen → Type 0
Good None = Unit
Good (Some s) = known_rate s.rate ≡ true

-- the samples that a `data` chunk at a place starts
abbrev pub found_at : ℕ → Format → Channels → List ℕ → ℕ → Found
found_at rate format channels rest at =
    record { rate = rate; format = format; channels = channels; size = size_in lowest rest; start = at + header_length }

pub data Says (rest : List ℕ) (at : ℕ) (seen : Seen) : Step Seen (Answer Found) → Type 0 where
  goes : {met : Seen} → (Good seen → Good met) → Says rest at seen (on met)
  refuses : {n : ℕ} → 21 ≤ n → n ≤ 24 → Says rest at seen (ends (refused n 0))
  lands : {rate : ℕ} {format : Format} {channels : Channels} → named rest data' ≡ true → (Good seen → known_rate rate ≡ true) →
      Says rest at seen (ends (accepted (found_at rate format channels rest at)))

right_rate : (format : Format) (channels : Channels) (rate byteRate block : ℕ) → right format channels rate byteRate block ≡ true → known_rate rate ≡ true
unfolding right
right_rate format channels rate byteRate block h =
    let size = frame_size (count_of channels) format in
    and_left (known_rate rate) (eqb block size && eqb byteRate (rate * size)) h

module _ (rest : List ℕ) (at : ℕ) (seen : Seen) where
  judged_says : (coding : Option Format) (sides : Option Channels) (rate byteRate block : ℕ) → Says rest at seen (judged coding sides rate byteRate block)
  unfolding judged
  judged_says (Some format) (Some channels) rate byteRate block =
      cond-case (Says rest at seen) _ _ (right format channels rate byteRate block)
      (λ h. goes (λ _. right_rate format channels rate byteRate block h)) (λ _. refuses (lit≤ tt) (lit≤ tt))
  judged_says (Some format) None rate byteRate block = refuses (lit≤ tt) (lit≤ tt)
  judged_says None sides rate byteRate block = refuses (lit≤ tt) (lit≤ tt)

  first_says : (before : Seen) → Says rest at seen (first before (values rest))
  unfolding first values
  first_says None =
      judged_says (coding_of (size_in lowest rest) (extra_in rest) (field lowest rest 8 2) (field lowest rest 22 2)) (channels_of (field lowest rest 10 2))
      (field lowest rest 12 4) (field lowest rest 16 4) (field lowest rest 20 2)
  first_says (Some before) = refuses (lit≤ tt) (lit≤ tt)

data_says : (rest : List ℕ) (at : ℕ) (seen : Seen) → named rest data' ≡ true → Says rest at seen (ends (data_chunk (size_in lowest rest) at seen))
unfolding data_chunk
data_says rest at None h = refuses (lit≤ tt) (lit≤ tt)
data_says rest at (Some s) h = lands h (λ good. good)

pub chunk_says : (rest : List ℕ) (at : ℕ) (seen : Seen) → Says rest at seen (chunk rest at seen)
unfolding chunk fmt_chunk
chunk_says rest at seen =
    cond-case (Says rest at seen) _ _ (named rest fmt)
    (λ _. cond-case (Says rest at seen) _ _ (known_length (size_in lowest rest))
    (λ _. cond-case (Says rest at seen) _ _ (contained lowest rest) (λ _. first_says rest at seen seen) (λ _. refuses (lit≤ tt) (lit≤ tt)))
    (λ _. refuses (lit≤ tt) (lit≤ tt)))
    (λ _. cond-case (Says rest at seen) _ _ (named rest data') (data_says rest at seen) (λ _. goes (λ good. good)))
