-- A run that stops: what it has written is the header and the outputs of the blocks before, which were all read. Assumes nothing.
use mathlib.Core.Path.{◌≡◌, refl, sym, ap, ◌∙◌}
use mathlib.Core.Bool.{Bool, true, false, cond, true≢false}
use mathlib.Core.List.{List, ◌++◌}
use Prim.Native.Nat.{ℕ, zero, suc, ◌-◌, ◌*◌, ◌/◌, ◌<◌, min}
use native.Mathlib.Nat.{mul-zero}
use native.Mathlib.Omega.{arith}
use borrow.Author.Tests.{eqb-true, le-leb}
use lib.Dec.{leb}
use lib.ListN.{length}
use lib.IntN.{ℤ}
use Rattle.samples.specs.Channels.{count_of}
use Rattle.samples.specs.Format.{size_of}
use Rattle.samples.specs.Samples.{first_bad, bytes_of}
use Rattle.samples.specs.declared.channels.Channels.{Channels}
use Rattle.samples.specs.declared.format.Format.{Format}
use Rattle.samples.specs.declared.format.Format.TheVariants.{Bits16, Bits24, Float32}
use Rattle.samples.specs.Sample.{is_sample_in}
use Rattle.samples.proofs.Pieces.{all_passed}
use Rattle.wave_writer.specs.Header.{header}
use Rattle.eqfile.specs.Data.{there_of, samples_from, numbers_from}
use Rattle.eqfile.specs.Turn.{late, all_read, wanted_of, turn_of}
use Rattle.runs.specs.Program.{State, fresh, handed, frame_bytes, turn_at, after, frames_out}
use Rattle.runs.specs.Started.{Started}
use Rattle.runs.specs.Stopped.{Stops, stopped_file}
use Rattle.runs.proofs.BlockCalls.{read_is}
use Rattle.runs.proofs.SamplesInPieces.{none}
use Rattle.runs.proofs.Program.{turns_write}

-- ---- which blocks

-- samples of whole numbers are all numbers
pub whole_numbers : (n : ℕ) (format : Format) (s : List ℕ) → size_of format < 4 → numbers_from n format s ≡ true
unfolding numbers_from is_sample_in
whole_numbers n Bits16 s few = let k = there_of n Bits16 s in le-leb k (first_bad k Bits16 s) (omega (arith, all_passed (is_sample_in Bits16) (λ t. refl) k 2 s))
whole_numbers n Bits24 s few = let k = there_of n Bits24 s in le-leb k (first_bad k Bits24 s) (omega (arith, all_passed (is_sample_in Bits24) (λ t. refl) k 3 s))
whole_numbers n Float32 s few = absurd (omega arith)

-- no bytes, no sample that is none
pub no_numbers : (n : ℕ) (format : Format) (s : List ℕ) → length s ≡ 0 → numbers_from n format s ≡ true
unfolding numbers_from
no_numbers n format s e =
    let nothing : there_of n format s ≡ 0 = ap (λ (k : ℕ). min (k / size_of format) n) e ∙ none n format in
    ap (λ (k : ℕ). leb k (first_bad k format s)) nothing ∙ le-leb 0 (first_bad 0 format s) (omega arith)

-- a block that asks for bytes asks for those of the file's next frames
asked : (size frames at read fed : ℕ) → 0 < wanted_of size frames at read fed → (read ≡ size * min at frames) × (at < frames)
unfolding wanted_of
asked size frames at read fed h = by (all_read size frames at read) refl h
  where
    by : (b : Bool) → all_read size frames at read ≡ b → 0 < cond b (size * min fed (frames - at)) 0 → (read ≡ size * min at frames) × (at < frames)
    by true e l =
        let left : 0 < frames - at =
        some (frames - at) (λ z. let n : min fed (frames - at) ≡ 0 = omega arith in omega (arith, ap (λ (k : ℕ). size * k) n ∙ mul-zero size)) in
        (eqb-true read (size * min at frames) e, omega arith)
      where
        some : (k : ℕ) → (k ≡ 0 → ⊥) → 0 < k
        some zero n = absurd (n refl)
        some (suc k) n = omega arith
    by false e l = absurd (omega arith)

module _ {gains : List ℤ} {format : Format} {channels : Channels} {frames : ℕ} {us : List (List ℕ)} {u : List ℕ} (st : Stops gains format channels frames us u) where
  abbrev end : State
  end = after gains format channels frames (fresh channels) us

  -- only a file of floats stops
  pub floats_stop : size_of format < 4 → ⊥
  floats_stop few = true≢false (sym (whole_numbers (count_of channels * (turn_at format channels frames end).fed) format u few) ∙ st.bad)

  came : (n : ℕ) → length u ≡ n → 0 < n
  came zero e = absurd (true≢false (sym (no_numbers (count_of channels * (turn_at format channels frames end).fed) format u e) ∙ st.bad))
  came (suc n) e = omega arith

  pub stop_asks : (end.read ≡ frame_bytes format channels * min end.at frames) × (end.at < frames)
  unfolding turn_of
  stop_asks = asked (frame_bytes format channels) frames end.at end.read (turn_at format channels frames end).fed (omega (arith, came (length u) refl, st.arrives.read_most))

  -- the block holds frames of the file, and all bytes of the frames before it were read
  pub stop_reads : (length (handed us) ≡ frame_bytes format channels * end.at) × (end.at < frames)
  stop_reads =
      let here : min end.at frames ≡ end.at = omega (arith, stop_asks.1) in
      (omega (arith, read_is gains format channels frames (fresh channels) us, stop_asks.0 ∙ ap (λ (k : ℕ). frame_bytes format channels * k) here), stop_asks.1)

-- ---- what was written

-- the header, and the outputs of the blocks before: of as many frames as were fed, but the delay
pub stopped_is : {gains : List ℤ} {front : List ℕ} {rate : ℕ} {format : Format} {channels : Channels} {frames start : ℕ} → Started gains front rate format channels frames start →
    (us : List (List ℕ)) (u : List ℕ) → Stops gains format channels frames us u → let at = (after gains format channels frames (fresh channels) us).at in
    stopped_file gains format channels frames rate us ≡
    header rate (3 * (count_of channels * frames)) (count_of channels) ++
    bytes_of (frames_out gains channels (at - late) (samples_from (count_of channels * at) format (handed us)))
stopped_is {gains} {front} {rate} {format} {channels} {frames} s us u st =
    ap (λ (l : List ℕ). header rate (3 * (count_of channels * frames)) (count_of channels) ++ l) (turns_write s.texts gains s.taken format channels frames us st.followed)
