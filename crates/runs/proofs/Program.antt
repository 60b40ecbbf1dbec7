-- A run's turns are all accepted, and together they write frame n as output n + 1,143 on each side, however the bytes were handed over. Assumes nothing.
use mathlib.Core.Path.{◌≡◌, refl, sym, ap, ap₂, subst, ◌∙◌}
use mathlib.Core.List.{List, [], ◌∷◌, ◌++◌}
use Prim.Native.Nat.{ℕ, ◌+◌, ◌-◌, ◌*◌, ◌%◌, ◌≤◌, ◌<◌, min}
use native.Mathlib.Nat.{mul-zero, mul-sub, mul-mod_right, mul-le-mul_left}
use native.Mathlib.Decide.{dec_lt}
use native.Mathlib.Omega.{arith}
use lib.ListN.{length, drop, replicate, length-append, length-replicate, drop_of_length-le}
use lib.Seq.{drop-nil, drop-length, drop-append-le, drop-append-add}
use Rattle.std.proofs.lemmas.List.{nil_from_length}
use lib.IntN.{ℤ}
use Rattle.std.specs.Prelude.{Option, Some}
use Rattle.frames.specs.Frames.{side_of}
use Rattle.frames.proofs.Laws.{woven-length}
use Rattle.octave.specs.Memory.{prepared}
use Rattle.octave.specs.Answer.{block_answer}
use Rattle.history.specs.History.{Call, played, AllAccepted, joined}
use Rattle.history.proofs.Sides.{as_long}
use Rattle.history.proofs.WholeHistory.{played_accepted}
use Rattle.answers.specs.Answer.{accepted}
use Rattle.answers.specs.Checks.{Outcome}
use Rattle.chunks.specs.Walk.{padding, padded, pad}
use Rattle.samples.specs.Samples.{bytes_of}
use Rattle.samples.specs.Channels.{count_of}
use Rattle.samples.specs.declared.channels.Channels.{Channels}
use Rattle.samples.specs.declared.channels.Channels.TheVariants.{One, Two}
use Rattle.samples.specs.declared.format.Format.{Format}
use Rattle.samples.proofs.Storing.{length_bytes, bytes_append}
use Rattle.arguments.specs.Arguments.{bands, arguments_of}
use Rattle.eqfile.specs.Data.{samples_from}
use Rattle.eqfile.specs.Turn.{late, turn_of}
use Rattle.eqfile.proofs.Turns.{few_channels, samples_most}
use Rattle.blocks.specs.Equalise.{zeros, block_for}
use Rattle.runs.specs.Program.{State, fresh, Follows, handed, turn_at, turn_samples, block_done, next, after, Followed, ByPlan, program_writes, outputs_of, frames_out, samples_read}
use Rattle.runs.specs.Started.{body_of}
use Rattle.runs.proofs.Written.{SameGains}
use Rattle.runs.proofs.EachSide.{frames_so_far, frames_written}
use Rattle.runs.proofs.BlockCalls.{calls, calls_so_far, calls_join}
use Rattle.runs.proofs.NeverRefused.{Ready, prepared_ready, BlockTaken, Allowed, block_taken}
use Rattle.runs.proofs.SamplesInPieces.{length_from}
use Rattle.runs.proofs.InRange.{from-within}
use Rattle.runs.proofs.AllowedGains.{arguments_allowed}

-- ---- the turns, from any memory that a block takes

drop-append : (n k r : ℕ) (xs ys : List ℤ) → k ≡ min (length xs) n → r ≡ n - length xs → drop n (xs ++ ys) ≡ drop k xs ++ drop r ys
drop-append n k r xs ys e f = by (dec_lt (length xs) n)
  where
    by : Dec (length xs < n) → drop n (xs ++ ys) ≡ drop k xs ++ drop r ys
    by (yes l) =
        let all : n ≡ length xs + r = omega arith in
        let none : k ≡ length xs = omega arith in
        ap (λ (i : ℕ). drop i (xs ++ ys)) all ∙ drop-append-add xs ys r ∙ ap (λ (z : List ℤ). z ++ drop r ys) (sym (ap (λ (i : ℕ). drop i xs) none ∙ drop-length xs))
    by (no l) =
        let here : n ≡ k = omega arith in
        let none : 0 ≡ r = omega arith in
        drop-append-le n xs ys (omega arith) ∙ ap₂ (λ (i j : ℕ). drop i xs ++ drop j ys) here none

none_played : (m : List ℤ) → (played m []).output ≡ []
unfolding played
none_played m = refl

-- frames counted in samples
scaled : (channels : Channels) (a b : ℕ) → count_of channels * min a b ≡ min (count_of channels * a) (count_of channels * b)
scaled One a b = omega arith
scaled Two a b = omega arith

module _ (gains : List ℤ) (allowed : Allowed gains) (format : Format) (channels : Channels) (frames : ℕ) where
  turn_taken : (s : State) (u : List ℕ) → Ready channels s.memory → Follows format channels frames s u → let t = turn_at format channels frames s in
      BlockTaken channels s.memory gains (turn_samples format channels frames s u) (count_of channels * t.skipped) (replicate t.written 0)
  unfolding turn_of
  turn_taken s u r f =
      let t = turn_at format channels frames s in
      let c = count_of channels in
      let long = length_from (c * t.fed) format u in
      let framed : length (turn_samples format channels frames s u) % c ≡ 0 = ap (λ (n : ℕ). n % c) long ∙ mul-mod_right c t.fed in
      let within : c * t.skipped ≤ c * t.fed = mul-le-mul_left c (omega arith) in
      block_taken channels s.memory gains (turn_samples format channels frames s u) (c * t.skipped) (replicate t.written 0) r allowed framed
      (omega (arith, long, samples_most c t.fed (few_channels channels).1 (omega arith))) (from-within (c * t.fed) format u f.arrives.bytes) (omega (arith, long))
      (length-replicate t.written 0 ∙ ap (λ (n : ℕ). 3 * n) (mul-sub c t.fed t.skipped ∙ ap (λ (n : ℕ). n - c * t.skipped) (sym long)))

  next_ready : (s : State) (u : List ℕ) → Ready channels s.memory → Follows format channels frames s u → Ready channels (next gains format channels frames s u).memory
  next_ready s u r f =
      let d = turn_taken s u r f in
      subst (λ (b : Outcome (Option ℕ) (List ℤ × List ℕ)). Ready channels b.lent.0) (sym d.is) d.ready

  -- wherever a run stands, the next block finds a memory that it takes
  pub after_ready : (s : State) (us : List (List ℕ)) → Ready channels s.memory → Followed gains format channels frames s us → Ready channels (after gains format channels frames s us).memory
  unfolding Followed after
  after_ready s [] r h = r
  after_ready s (u ∷ us) r h = after_ready (next gains format channels frames s u) us (next_ready s u r h.0) h.1

  all_accepted : (s : State) (us : List (List ℕ)) → Ready channels s.memory → Followed gains format channels frames s us → AllAccepted s.memory (calls gains format channels frames s us)
  unfolding Followed calls AllAccepted
  all_accepted s [] r h = tt
  all_accepted s (u ∷ us) r h =
      let d = turn_taken s u r h.0 in
      let same = ap (λ (b : Outcome (Option ℕ) (List ℤ × List ℕ)). b.lent.0) d.is in
      (ap block_answer d.accepts, subst (λ (m : List ℤ). AllAccepted m (calls gains format channels frames (next gains format channels frames s u) us)) same (all_accepted (next gains format channels frames s u) us (next_ready s u r h.0) h.1))

  all_written : (s : State) (us : List (List ℕ)) → Ready channels s.memory → Followed gains format channels frames s us →
      program_writes gains format channels frames s us ≡ bytes_of (drop (count_of channels * (late - s.at)) (played s.memory (calls gains format channels frames s us)).output)
  unfolding Followed calls program_writes turn_of bytes_of
  all_written s [] r h = sym (ap bytes_of (ap (drop (count_of channels * (late - s.at))) (none_played s.memory) ∙ drop-nil (count_of channels * (late - s.at))))
  all_written s (u ∷ us) r h =
      let t = turn_at format channels frames s in
      let c = count_of channels in
      let early = late - s.at in
      let then = late - (s.at + t.fed) in
      let input = turn_samples format channels frames s u in
      let b = block_for s.memory gains input in
      let d = turn_taken s u r h.0 in
      let n = next gains format channels frames s u in
      let same = ap (λ (b : Outcome (Option ℕ) (List ℤ × List ℕ)). b.lent.0) d.is in
      let rest = (played b.lent.0 (calls gains format channels frames n us)).output in
      let long : length b.lent.1 ≡ c * t.fed = d.long ∙ length_from (c * t.fed) format u in
      let dropped : c * t.skipped ≡ min (length b.lent.1) (c * early) = scaled channels t.fed early ∙ ap (λ (k : ℕ). min k (c * early)) (sym long) in
      let left : c * then ≡ c * early - length b.lent.1 = ap (λ (k : ℕ). c * k) (omega arith) ∙ mul-sub c early t.fed ∙ ap (λ (k : ℕ). c * early - k) (sym long) in
      ap₂ ◌++◌ (ap (λ (b : Outcome (Option ℕ) (List ℤ × List ℕ)). b.lent.1) d.is)
      (all_written n us (next_ready s u r h.0) h.1 ∙
      ap (λ (m : List ℤ). bytes_of (drop (c * then) (played m (calls gains format channels frames n us)).output)) same) ∙
      sym (bytes_append (drop (c * t.skipped) b.lent.1) (drop (c * then) rest)) ∙
      ap bytes_of
      (sym
      (ap (drop (c * early)) (played_accepted s.memory (record { gains = gains; input = input; before = zeros input }) (calls gains format channels frames n us) (ap block_answer d.accepts)) ∙
      drop-append (c * early) (c * t.skipped) (c * then) b.lent.1 rest dropped left))

same-gains : (gains : List ℤ) (format : Format) (channels : Channels) (frames : ℕ) (s : State) (us : List (List ℕ)) → SameGains gains (calls gains format channels frames s us)
unfolding SameGains calls
same-gains gains format channels frames s [] = tt
same-gains gains format channels frames s (u ∷ us) = (refl, same-gains gains format channels frames (next gains format channels frames s u) us)

-- ---- the theorem

module _ (texts : List (List ℕ)) (gains : List ℤ) (taken : arguments_of texts ≡ accepted gains) (format : Format) (channels : Channels) (frames : ℕ) (us : List (List ℕ)) where
  -- no block of a run is refused: it stores all that its turn writes
  pub block_accepted : Followed gains format channels frames (fresh channels) us → (u : List ℕ) → let s = after gains format channels frames (fresh channels) us in
      Follows format channels frames s u → (block_done gains format channels frames s u).result ≡ Some (turn_at format channels frames s).written
  block_accepted h u f =
      let s = after gains format channels frames (fresh channels) us in
      let allowed = arguments_allowed texts gains taken in
      ap (λ (b : Outcome (Option ℕ) (List ℤ × List ℕ)). b.result)
      (turn_taken gains allowed format channels frames s u (after_ready gains allowed format channels frames (fresh channels) us (prepared_ready channels) h) f).is ∙
      ap (λ (n : ℕ). Some n) (length-replicate (turn_at format channels frames s).written 0)

  -- some turns of a run: what they hand over is as many of its outputs as the frames fed, but the delay, for the samples of the bytes read so far
  pub turns_write : Followed gains format channels frames (fresh channels) us → let at = (after gains format channels frames (fresh channels) us).at in
      program_writes gains format channels frames (fresh channels) us ≡
      bytes_of (frames_out gains channels (at - late) (samples_from (count_of channels * at) format (handed us)))
  turns_write h =
      all_written gains allowed format channels frames (fresh channels) us (prepared_ready channels) h ∙ ap bytes_of (by (dec_lt (late + 0) (at + 1)))
    where
      c : ℕ
      c = count_of channels

      at : ℕ
      at = (after gains format channels frames (fresh channels) us).at

      allowed : Allowed gains
      allowed = arguments_allowed texts gains taken

      xs : List ℤ
      xs = samples_from (c * at) format (handed us)

      cs : List Call
      cs = calls gains format channels frames (fresh channels) us

      out : List ℤ
      out = (played (prepared bands c) cs).output

      accepts : AllAccepted (prepared bands c) cs
      accepts = all_accepted gains allowed format channels frames (fresh channels) us (prepared_ready channels) h

      fed : joined cs ≡ xs
      fed = calls_so_far gains format channels frames us h

      by : Dec (late + 0 < at + 1) → drop (c * late) out ≡ frames_out gains channels (at - late) xs
      by (yes l) =
          let all : at ≡ late + (at - late) = omega arith in
          frames_so_far gains c (at - late) xs cs (length_from (c * at) format (handed us) ∙ ap (λ (n : ℕ). c * n) all) accepts
          (same-gains gains format channels frames (fresh channels) us) fed (few_channels channels).0
      by (no l) =
          let none : at - late ≡ 0 = omega arith in
          let few : c * at ≤ c * late = mul-le-mul_left c (omega arith) in
          let long : length out ≡ c * at = as_long bands c 0 (few_channels channels).0 cs accepts ∙ ap length fed ∙ length_from (c * at) format (handed us) in
          drop_of_length-le out {i = c * late} (omega arith) ∙
          sym (nil_from_length (frames_out gains channels (at - late) xs) (woven-length c (at - late) (λ s. outputs_of gains (at - late) (side_of c s xs)) ∙ ap (λ (n : ℕ). c * n) none ∙ mul-zero c))

  module _ (turns : ByPlan gains format channels frames (fresh channels) us) where
    -- no block call of a run is refused
    pub turns_accepted : AllAccepted (prepared bands (count_of channels)) (calls gains format channels frames (fresh channels) us)
    turns_accepted = all_accepted gains (arguments_allowed texts gains taken) format channels frames (fresh channels) us (prepared_ready channels) turns.0

    -- what is written after the header: on each side, frame n is output n + 1,143 for that side of the samples of the bytes read, whatever the pieces they were read in
    pub program_writes_lem : program_writes gains format channels frames (fresh channels) us ≡ bytes_of (frames_out gains channels frames (samples_read format channels frames (handed us)))
    program_writes_lem =
        let c = count_of channels in
        all_written gains (arguments_allowed texts gains taken) format channels frames (fresh channels) us (prepared_ready channels) turns.0 ∙
        ap bytes_of
        (frames_written gains c frames (samples_read format channels frames (handed us)) (calls gains format channels frames (fresh channels) us) (length_from (c * frames) format (handed us))
        turns_accepted (same-gains gains format channels frames (fresh channels) us) (calls_join gains format channels frames us turns) (few_channels channels).0)

    -- .. which is as long as the header says
    pub turns_length : length (program_writes gains format channels frames (fresh channels) us) ≡ 3 * (count_of channels * frames)
    turns_length =
        let out = frames_out gains channels frames (samples_read format channels frames (handed us)) in
        ap length program_writes_lem ∙ length_bytes out ∙ ap (λ (n : ℕ). 3 * n) (woven-length (count_of channels) frames _)

    -- .. and with the pad an even number of bytes
    pub program_length : length (body_of gains format channels frames us) ≡ padded (3 * (count_of channels * frames))
    program_length =
        let size = 3 * (count_of channels * frames) in
        length-append (program_writes gains format channels frames (fresh channels) us) (pad size) ∙ omega (arith, turns_length, length-replicate {A = ℕ} (padding size) 0)

-- the same bytes in other pieces: the same bytes are written
pub pieces_do_not_matter : (texts : List (List ℕ)) (gains : List ℤ) → arguments_of texts ≡ accepted gains → (format : Format) (channels : Channels) (frames : ℕ) (us vs : List (List ℕ)) →
    ByPlan gains format channels frames (fresh channels) us → ByPlan gains format channels frames (fresh channels) vs → handed us ≡ handed vs →
    program_writes gains format channels frames (fresh channels) us ≡ program_writes gains format channels frames (fresh channels) vs
pieces_do_not_matter texts gains taken format channels frames us vs t u e =
    program_writes_lem texts gains taken format channels frames us t ∙ ap (λ (s : List ℕ). bytes_of (frames_out gains channels frames (samples_read format channels frames s))) e ∙
    sym (program_writes_lem texts gains taken format channels frames vs u)
