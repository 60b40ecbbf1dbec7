-- Eight noughts give a whole 24-bit file back, byte for byte, its pad included. Assumes nothing.
use mathlib.Core.Path.{◌≡◌, refl, sym, ap, ◌∙◌}
use mathlib.Core.Bool.{true}
use mathlib.Core.List.{List, ◌∷◌, [], ◌++◌}
use Prim.Native.Nat.{ℕ, ◌*◌, ◌/◌, ◌%◌, ◌≤◌}
use native.Mathlib.Nat.{mul-mod_right}
use native.Mathlib.Omega.{arith}
use lib.ListN.{length, take, replicate, length-take}
use lib.Seq.{take-take}
use lib.Dec.{lit≤}
use lib.IntN.{pos}
use Rattle.answers.specs.Answer.{Answer, accepted}
use Rattle.answers.specs.Checks.{Outcome}
use Rattle.answers.specs.Unit.{unity, largest_data, front_length}
use Rattle.chunks.specs.Walk.{pad}
use Rattle.samples.specs.Channels.{count_of}
use Rattle.samples.specs.declared.channels.Channels.{Channels}
use Rattle.samples.specs.declared.channels.Channels.TheVariants.{One, Two}
use Rattle.samples.specs.declared.format.Format.TheVariants.{Bits24}
use Rattle.wave_values.specs.Values.{frame_size, known_rate}
use Rattle.wave.specs.Walk.{read_of}
use Rattle.wave.proofs.Unread.{past_4096}
use Rattle.wave_writer.specs.Header.{header}
use Rattle.std.specs.Prelude.{Result}
use Rattle.wave_writer.specs.declared.writer.WriteError.{WriteError}
use Rattle.wave_writer.proofs.Writing.{write_accepts}
use Rattle.wave_writer.proofs.RoundTrips.{found_in, header-read-back}
use Rattle.arguments.specs.Arguments.{bands}
use Rattle.eqfile.specs.declared.plan.Plan.{Plan}
use Rattle.eqfile.specs.Start.{plan_of}
use Rattle.eqfile.proofs.StartOrder.{to_be_written, eight}
use Rattle.runs.specs.Program.{fresh, handed, ByPlan}
use Rattle.runs.specs.Started.{Started, file_of}
use Rattle.runs.proofs.Written.{noughts_are_unity}
use Rattle.runs.proofs.GivenBack.{noughts_write_back}

-- the frames of a length of three bytes for each sample
counted : (channels : Channels) (frames : ℕ) → 3 * (count_of channels * frames) / frame_size (count_of channels) Bits24 ≡ frames
counted One frames = omega arith
counted Two frames = omega arith

few : (channels : Channels) (frames : ℕ) → 3 * (count_of channels * frames) ≤ largest_data → frames ≤ largest_data / 3 / count_of channels
few One frames h = omega arith
few Two frames h = omega arith

module _ (rate : ℕ) (channels : Channels) (frames : ℕ) (samples : List ℕ) (known : known_rate rate ≡ true) (small : 3 * (count_of channels * frames) ≤ largest_data) where
  abbrev count : ℕ
  count = count_of channels

  abbrev size : ℕ
  size = 3 * (count * frames)

  -- a file of 24 bits: its header, the bytes of its samples, the pad
  abbrev pub padded_file : List ℕ
  padded_file = header rate size count ++ (samples ++ pad size)

  abbrev front : List ℕ
  front = take front_length padded_file

  front_read : read_of front ≡ accepted (found_in rate size channels)
  front_read =
      let buffer : List ℕ = replicate 44 0 in
      let in-frames : size ≡ count * 3 * frames = omega arith in
      let is = write_accepts buffer rate size channels refl known (ap (λ (n : ℕ). n % (count * 3)) in-frames ∙ mul-mod_right (count * 3) frames) small in
      past_4096 front padded_file (take-take front_length front_length padded_file (lit≤ tt)) ∙
      header-read-back buffer (header rate size count) (samples ++ pad size) 44 rate size channels
      (record { result_is = sym (ap (λ (o : Outcome (Result ℕ WriteError) (List ℕ)). o.result) is); lent_is = sym (ap (λ (o : Outcome (Result ℕ WriteError) (List ℕ)). o.lent) is) })

  -- with eight noughts its front starts a run
  pub noughts_start : Started (replicate bands (pos unity)) front rate Bits24 channels frames 44
  unfolding plan_of
  noughts_start =
      let frame = frame_size count Bits24 in
      let all = counted channels frames in
      let plan : ℕ → Answer Plan = λ n. accepted (record { rate = rate; format = Bits24; channels = channels; frames = n; start = 44 }) in
      let planned : plan frames ≡ plan_of (read_of front) =
      ap plan (sym all) ∙ to_be_written (found_in rate size channels) frame count refl refl (rw all (few channels frames small)) ∙ ap plan_of (sym front_read) in
      record {
        texts = replicate bands (48 ∷ []);
        taken = noughts_are_unity;
        few = omega (arith, length-take front_length padded_file);
        begins = eight bands front (plan frames) refl planned;
      }

  -- .. which writes the file, if all its samples come
  pub noughts_file_back : length samples ≡ size → (us : List (List ℕ)) → ByPlan (replicate bands (pos unity)) Bits24 channels frames (fresh channels) us → handed us ≡ samples →
      file_of (replicate bands (pos unity)) rate Bits24 channels frames us ≡ padded_file
  noughts_file_back long us turns all =
      ap (λ (l : List ℕ). header rate size count ++ (l ++ pad size))
      (noughts_write_back channels frames us turns (ap length all ∙ long) ∙ all)
