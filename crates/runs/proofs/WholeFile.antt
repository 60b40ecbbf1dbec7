-- The file that a run writes: its length, and what it is read back as. Assumes nothing.
use mathlib.Core.Path.{◌≡◌, refl, sym, ap, ◌∙◌}
use mathlib.Core.List.{List, ◌++◌}
use Prim.Native.Nat.{ℕ, ◌+◌, ◌*◌}
use native.Mathlib.Omega.{arith}
use lib.ListN.{length, take, drop, replicate, length-append}
use lib.Seq.{take_at, drop_at}
use lib.IntN.{ℤ}
use Rattle.answers.specs.Answer.{accepted}
use Rattle.answers.specs.Checks.{Outcome}
use Rattle.samples.specs.Samples.{bytes_of}
use Rattle.samples.specs.Channels.{count_of}
use Rattle.samples.specs.declared.channels.Channels.{Channels}
use Rattle.fields.specs.Bytes.{lowest, number, little, ordered, number_in, field, row}
use Rattle.fields.proofs.Rows.{number-row}
use Rattle.chunks.specs.Walk.{chunk_header, padded, pad}
use Rattle.wave_writer.specs.Header.{riff_size, header}
use Rattle.wave.specs.Walk.{read_of}
use Rattle.samples.specs.declared.format.Format.{Format}
use Rattle.samples.specs.declared.format.Format.TheVariants.{Bits24}
use Rattle.std.specs.Prelude.{Result}
use Rattle.wave_writer.specs.declared.writer.WriteError.{WriteError}
use Rattle.wave_writer.proofs.Writing.{length-header}
use Rattle.wave_writer.proofs.RoundTrips.{found_in, header-read-back}
use Rattle.runs.specs.Program.{fresh, handed, ByPlan, program_writes, frames_out, samples_read}
use Rattle.runs.specs.Started.{Started, body_of, file_of}
use Rattle.runs.proofs.Starting.{few_enough, header_accepted}
use Rattle.runs.proofs.Program.{program_writes_lem, turns_length, program_length}
use Rattle.runs.proofs.GivenBack.{outputs-read-back}

module _ {gains : List ℤ} {front : List ℕ} {rate : ℕ} {format : Format} {channels : Channels} {frames start : ℕ} (s : Started gains front rate format channels frames start)
    (us : List (List ℕ)) (turns : ByPlan gains format channels frames (fresh channels) us) where
  abbrev size : ℕ
  size = 3 * (count_of channels * frames)

  abbrev head : List ℕ
  head = header rate size (count_of channels)

  abbrev written : List ℕ
  written = program_writes gains format channels frames (fresh channels) us

  abbrev body : List ℕ
  body = body_of gains format channels frames us

  -- the header of 24 bits, then on each side the bytes of outputs 1,143 and on for the samples read, and the pad
  pub file_is : file_of gains rate format channels frames us ≡ head ++ (bytes_of (frames_out gains channels frames (samples_read format channels frames (handed us))) ++ pad size)
  file_is = ap (λ (l : List ℕ). head ++ (l ++ pad size)) (program_writes_lem s.texts gains s.taken format channels frames us turns)

  pub file_length : length (file_of gains rate format channels frames us) ≡ 44 + padded size
  file_length =
      length-append head body ∙
      omega (arith, length-header rate size (count_of channels), program_length s.texts gains s.taken format channels frames us turns)

  -- .. which its RIFF length states: the bytes behind that length
  pub riff-length : field lowest (file_of gains rate format channels frames us) 4 4 + 8 ≡ length (file_of gains rate format channels frames us)
  unfolding header chunk_header row ordered little field number_in number
  riff-length =
      let stated : number (row lowest 4 (riff_size size)) ≡ riff_size size = number-row lowest 4 (riff_size size) (omega (arith, few_enough s)) in
      omega (arith, stated, file_length)

  -- its header is read back ..
  pub file_read_back : read_of (file_of gains rate format channels frames us) ≡ accepted (found_in rate size channels)
  file_read_back =
      let buffer : List ℕ = replicate 44 0 in
      let is = header_accepted s buffer refl in
      header-read-back buffer head body 44 rate size channels
      (record { result_is = sym (ap (λ (o : Outcome (Result ℕ WriteError) (List ℕ)). o.result) is); lent_is = sym (ap (λ (o : Outcome (Result ℕ WriteError) (List ℕ)). o.lent) is) })

  -- .. and its samples, in as many bytes as that says, are the outputs
  pub file_samples_back : samples_read Bits24 channels frames (take size (drop 44 (file_of gains rate format channels frames us))) ≡
      frames_out gains channels frames (samples_read format channels frames (handed us))
  file_samples_back =
      ap (λ (l : List ℕ). samples_read Bits24 channels frames (take size l)) (drop_at head body 44 (length-header rate size (count_of channels))) ∙
      ap (samples_read Bits24 channels frames) (take_at written (pad size) size (turns_length s.texts gains s.taken format channels frames us turns)) ∙
      outputs-read-back s.texts gains s.taken format channels frames us turns
