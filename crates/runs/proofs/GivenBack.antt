-- What a run writes is read back as its outputs, and eight noughts give the data of a 24-bit file back, whatever the pieces it was read in. Assumes nothing.
use mathlib.Core.Path.{◌≡◌, sym, ap, ap₂, ◌∙◌}
use mathlib.Core.Bool.{true}
use mathlib.Core.List.{List, [], ◌∷◌, ◌++◌, append-nil}
use Prim.Native.Nat.{ℕ, zero, suc, ◌+◌, ◌-◌, ◌*◌, ◌/◌, ◌<◌, min}
use native.Mathlib.Nat.{add_comm}
use native.Mathlib.Omega.{arith}
use lib.ListN.{length, get_or, replicate}
use lib.Seq.{ext_get_or}
use lib.IntN.{ℤ, pos}
use Rattle.whole.proofs.Signed.{var, le_by}
use Rattle.frames.specs.Frames.{side, side_of, woven}
use Rattle.frames.proofs.Laws.{side-length, side-woven, woven-length, woven_is, side_of_lem}
use Rattle.tree.specs.Prototype.{published}
use Rattle.tree.specs.Signal.{Signal, signal_of, gain_of}
use Rattle.tree.specs.Tree.{line, gain_sum, output}
use Rattle.answers.specs.Unit.{least_sample, most_sample, unity}
use Rattle.answers.proofs.Ranges.{all_at, cons_all}
use Rattle.octave.proofs.Ranges.{within_parts}
use Rattle.history.specs.History.{from}
use Rattle.history.proofs.From.{from_at}
use Rattle.history.proofs.OneSide.{side_in_range}
use Rattle.answers.specs.Answer.{accepted}
use Rattle.samples.specs.Samples.{samples_of, bytes_of}
use Rattle.samples.specs.Channels.{count_of}
use Rattle.samples.specs.declared.channels.Channels.{Channels}
use Rattle.samples.specs.declared.channels.Channels.TheVariants.{One}
use Rattle.samples.specs.declared.format.Format.{Format}
use Rattle.samples.specs.declared.format.Format.TheVariants.{Bits24}
use Rattle.fields.specs.Bytes.{Bytes}
use Rattle.samples.proofs.Singles.{block_there_and_back, bytes_there_and_back}
use Rattle.arguments.specs.Arguments.{bands, arguments_of}
use Rattle.eqfile.specs.Data.{samples_from}
use Rattle.eqfile.specs.Turn.{late}
use Rattle.eqfile.proofs.Turns.{few_channels}
use Rattle.runs.specs.Program.{State, fresh, handed, next, Followed, ByPlan, program_writes, outputs_of, frames_out, samples_read}
use Rattle.runs.proofs.SamplesInPieces.{length_from}
use Rattle.blocks.proofs.Outputs.{all_in_range, none_within, out_in_range, woven_in_range}
use Rattle.runs.proofs.InRange.{from-within}
use Rattle.runs.proofs.Written.{from_long, unity_output, noughts_are_unity, all_unity}
use Rattle.runs.proofs.EachSide.{only_side_out}
use Rattle.runs.proofs.Program.{program_writes_lem, turns_length}

-- ---- samples

-- outputs 1,143 and on of samples in range are the samples
outputs-back : (xs : List ℤ) → all_in_range xs ≡ true →
    from late (length xs) (output published bands (λ _. gain_of (replicate bands (pos unity))) (signal_of xs)) ≡ xs
outputs-back xs e =
    let f = output published bands (λ _. gain_of (replicate bands (pos unity))) (signal_of xs) in
    let long = from_long late (length xs) f in
    ext_get_or (pos 0) (from late (length xs) f) xs long
    (λ n h.
    let i : n < length xs = omega arith in
    let z = get_or xs n (pos 0) in
    let r = within_parts least_sample most_sample z (all_at least_sample most_sample xs e n i) in
    from_at late (length xs) f n i ∙ ap f (add_comm late n) ∙
    unity_output (replicate bands (pos unity)) (signal_of xs) all_unity n (le_by (var least_sample) (var z) r.0) (le_by (var z) (var most_sample) r.1))

-- .. and so are those of all sides
frames_back : (channels : Channels) (frames : ℕ) (xs : List ℤ) → length xs ≡ count_of channels * frames → all_in_range xs ≡ true →
    frames_out (replicate bands (pos unity)) channels frames xs ≡ xs
frames_back channels frames xs long e =
    let c = count_of channels in
    let some = (few_channels channels).0 in
    let gains : List ℤ = replicate bands (pos unity) in
    sym
    (woven_is c frames (λ s. outputs_of gains frames (side_of c s xs)) xs some long
    (λ s h. from_long late frames (output published bands (λ _. gain_of gains) (signal_of (side_of c s xs))))
    (λ s h.
    let own = side c s frames xs in
    let is : side_of c s xs ≡ own = side_of_lem c s frames xs some long in
    sym
    (ap (outputs_of gains frames) is ∙ ap (λ (n : ℕ). outputs_of gains n own) (sym (side-length c s frames xs)) ∙
    outputs-back own (side_in_range c s frames xs h long e))))

-- ---- bytes

-- all samples are wholly there
all_there : (samples : ℕ) (s : List ℕ) → length s ≡ 3 * samples → samples_from samples Bits24 s ≡ samples_of samples Bits24 s
unfolding samples_from
all_there samples s e =
    let k : min (length s / 3) samples ≡ samples = omega arith in
    let none : samples - samples ≡ 0 = omega arith in
    ap (λ (k : ℕ). samples_of k Bits24 s ++ replicate (samples - k) (pos 0)) k ∙ ap (λ (k : ℕ). samples_of samples Bits24 s ++ replicate k (pos 0)) none ∙
    append-nil (samples_of samples Bits24 s)

-- what turns hand over are bytes
bytes_append : (s t : List ℕ) → Bytes s → Bytes t → Bytes (s ++ t)
bytes_append [] t b c i = c i
bytes_append (x ∷ s) t b c zero = b 0
bytes_append (x ∷ s) t b c (suc i) = bytes_append s t (λ j. b (suc j)) c i

bytes_handed : (gains : List ℤ) (format : Format) (channels : Channels) (frames : ℕ) (s : State) (us : List (List ℕ)) → Followed gains format channels frames s us → Bytes (handed us)
unfolding Followed handed
bytes_handed gains format channels frames s [] h = λ i. omega arith
bytes_handed gains format channels frames s (u ∷ us) h =
    bytes_append u (handed us) h.0.arrives.bytes (bytes_handed gains format channels frames (next gains format channels frames s u) us h.1)

-- ---- the theorems

outputs_in_range : (g : ℕ → ℕ → ℤ) (x : Signal) (n k : ℕ) → all_in_range (from n k (output published bands g x)) ≡ true
unfolding from output
outputs_in_range g x n zero = none_within least_sample most_sample
outputs_in_range g x n (suc k) = cons_all least_sample most_sample (output published bands g x n) (from (n + 1) k (output published bands g x)) (out_in_range (gain_sum published bands g (line published bands x) n)) (outputs_in_range g x (n + 1) k)

frames_in_range : (gains : List ℤ) (channels : Channels) (frames : ℕ) (xs : List ℤ) → all_in_range (frames_out gains channels frames xs) ≡ true
frames_in_range gains channels frames xs =
    woven_in_range (count_of channels) frames (λ s. outputs_of gains frames (side_of (count_of channels) s xs))
    (λ s. outputs_in_range (λ _. gain_of gains) (signal_of (side_of (count_of channels) s xs)) late frames)

module _ (texts : List (List ℕ)) (gains : List ℤ) (taken : arguments_of texts ≡ accepted gains) (format : Format) (channels : Channels) (frames : ℕ) (us : List (List ℕ))
    (turns : ByPlan gains format channels frames (fresh channels) us) where
  abbrev written : List ℕ
  written = program_writes gains format channels frames (fresh channels) us

  abbrev xs : List ℤ
  xs = samples_read format channels frames (handed us)

  -- what is written is read back the same; the header before it is read back whatever follows, `header-read-back`
  pub outputs-read-back : samples_read Bits24 channels frames written ≡ frames_out gains channels frames xs
  outputs-read-back =
      let c = count_of channels in
      let os = frames_out gains channels frames xs in
      all_there (c * frames) written (turns_length texts gains taken format channels frames us turns) ∙
      ap₂ (λ (n : ℕ) (s : List ℕ). samples_of n Bits24 s) (sym (woven-length c frames (λ s. outputs_of gains frames (side_of c s xs)))) (program_writes_lem texts gains taken format channels frames us turns) ∙
      block_there_and_back os (frames_in_range gains channels frames xs)

  -- .. and one side of it as the outputs of one channel for that side of what was read
  pub side-read-back : (s : ℕ) → s < count_of channels →
      side_of (count_of channels) s (samples_read Bits24 channels frames written) ≡ outputs_of gains frames (side_of (count_of channels) s xs)
  side-read-back s h =
      let c = count_of channels in
      let sides : ℕ → List ℤ = λ t. outputs_of gains frames (side_of c t xs) in
      ap (side_of c s) outputs-read-back ∙ side_of_lem c s frames (woven c frames sides) (few_channels channels).0 (woven-length c frames sides) ∙
      side-woven c frames s sides h (from_long late frames (output published bands (λ _. gain_of gains) (signal_of (side_of c s xs))))

-- .. so a file of one channel with one side's samples is written as that side
pub side_alone : (texts : List (List ℕ)) (gains : List ℤ) → arguments_of texts ≡ accepted gains → (format one : Format) (channels : Channels) (frames : ℕ) (us vs : List (List ℕ)) →
    ByPlan gains format channels frames (fresh channels) us → ByPlan gains one One frames (fresh One) vs → (s : ℕ) → s < count_of channels →
    samples_read one One frames (handed vs) ≡ side_of (count_of channels) s (samples_read format channels frames (handed us)) →
    samples_read Bits24 One frames (program_writes gains one One frames (fresh One) vs) ≡
    side_of (count_of channels) s (samples_read Bits24 channels frames (program_writes gains format channels frames (fresh channels) us))
side_alone texts gains taken format one channels frames us vs both alone s h e =
    outputs-read-back texts gains taken one One frames vs alone ∙ only_side_out gains frames (samples_read one One frames (handed vs)) ∙ ap (outputs_of gains frames) e ∙
    sym (side-read-back texts gains taken format channels frames us both s h)

-- eight noughts
pub noughts_write_back : (channels : Channels) (frames : ℕ) (us : List (List ℕ)) → ByPlan (replicate bands (pos unity)) Bits24 channels frames (fresh channels) us →
    length (handed us) ≡ 3 * (count_of channels * frames) → program_writes (replicate bands (pos unity)) Bits24 channels frames (fresh channels) us ≡ handed us
noughts_write_back channels frames us turns all =
    let n = count_of channels * frames in
    let bytes = bytes_handed (replicate bands (pos unity)) Bits24 channels frames (fresh channels) us turns.0 in
    program_writes_lem (replicate bands (48 ∷ [])) (replicate bands (pos unity)) noughts_are_unity Bits24 channels frames us turns ∙
    ap bytes_of
    (frames_back channels frames (samples_from n Bits24 (handed us)) (length_from n Bits24 (handed us)) (from-within n Bits24 (handed us) bytes) ∙ all_there n (handed us) all) ∙
    bytes_there_and_back n (handed us) bytes all
