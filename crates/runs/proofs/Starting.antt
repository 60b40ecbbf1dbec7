-- A run that has started: its header is accepted, and its frames are those of the `data` that the header states. Assumes nothing.
use mathlib.Core.Path.{◌≡◌, refl, sym, ap, subst, ◌∙◌}
use mathlib.Core.Bool.{Bool, true, false, cond}
use mathlib.Core.List.{List}
use Prim.Native.Nat.{ℕ, ◌*◌, ◌/◌, ◌%◌, ◌≤◌}
use native.Mathlib.Nat.{mul-mod_right}
use native.Mathlib.Omega.{arith}
use lib.Dec.{ltb}
use lib.ListN.{length}
use lib.IntN.{ℤ, pos}
use Rattle.std.specs.Prelude.{Option, Some, Ok}
use Rattle.frames.proofs.Laws.{whole_frames_lem}
use Rattle.answers.specs.Answer.{Answer, accepted, refused}
use Rattle.answers.specs.Unit.{largest_data, front_length}
use Rattle.wave_writer.specs.Header.{header, write_of}
use Rattle.samples.specs.Channels.{count_of}
use Rattle.samples.specs.declared.channels.Channels.{Channels}
use Rattle.wave_values.specs.Values.{known_rate}
use Rattle.wave.specs.declared.found.Found.{Found}
use Rattle.wave.specs.Walk.{read_of}
use Rattle.samples.specs.declared.format.Format.{Format}
use Rattle.wave.proofs.Answers.{accepted_rate, accepted_whole, accepted_start}
use Rattle.wave_writer.proofs.Writing.{write_accepts}
use Rattle.arguments.specs.Arguments.{bands, all_of, arguments_of}
use Rattle.eqfile.specs.declared.plan.Plan.{Plan}
use Rattle.eqfile.specs.Start.{plan_for, plan_of, start_of, start_answer}
use Rattle.eqfile.proofs.StartOrder.{Writable, writable}
use Rattle.eqfile.proofs.AllArguments.{Promised, arguments_promise}
use Rattle.runs.specs.Program.{frame_bytes}
use Rattle.runs.specs.Started.{Started}

clash : {A B : Type 0} {k p : ℕ} {b : B} → accepted b ≡ refused k p → A
clash e = let z : ◌≡◌ {A = ℕ} 0 1 = cc in absurd (omega arith)

-- what the program begins with: the arguments taken in turn into eight places, and a start that is a run
pub started : (texts : List (List ℕ)) (before gains : List ℤ) (a : Option ℕ) (front : List ℕ) (rate : ℕ) (format : Format) (channels : Channels) (frames start : ℕ) → length before ≡ bands →
    length front ≤ front_length → (a, gains) ≡ all_of (Some 0, before) texts → start_answer (Ok (record { rate = rate; format = format; channels = channels; frames = frames; start = start })) ≡ start_of a front → Started gains front rate format channels frames start
started texts before gains a front rate format channels frames start eight few all begins = by (arguments_of texts) refl (arguments_promise texts before eight)
  where
    by : (q : Answer (List ℤ)) → arguments_of texts ≡ q → Promised q (all_of (Some 0, before) texts) → Started gains front rate format channels frames start
    by (accepted gs) e p =
        let same : gains ≡ gs = ap (λ (s : Option ℕ × List ℤ). s.1) (all ∙ p) in
        let done : a ≡ Some bands = ap (λ (s : Option ℕ × List ℤ). s.0) (all ∙ p) in
        record { texts = texts; taken = e ∙ ap accepted (sym same); few = few; begins = begins ∙ ap (λ (x : Option ℕ). start_of x front) done }
    by (refused k n) e p = clash (begins ∙ ap (λ (s : Option ℕ × List ℤ). start_of s.0 front) all ∙ p front)

-- ---- what the header states

-- the plan's numbers, from those that were read
pub record Stated (front : List ℕ) (rate : ℕ) (format : Format) (channels : Channels) (frames start : ℕ) : Type 0 where
  pub found : Found
  pub read : read_of front ≡ accepted found
  pub start_is : found.start ≡ start
  pub known : known_rate rate ≡ true
  -- the length of `data`
  pub size_is : found.size ≡ frame_bytes format channels * frames

stated_plan : (front : List ℕ) (f : Found) → read_of front ≡ accepted f → (rate : ℕ) (format : Format) (channels : Channels) (frames start : ℕ) →
    ◌≡◌ {A = Answer Plan} (accepted (record { rate = rate; format = format; channels = channels; frames = frames; start = start })) (plan_for f) →
    Stated front rate format channels frames start
stated_plan front f read rate format channels frames start = by (ltb largest_data (3 * (count_of f.channels * in_data)))
  where
    size : ℕ
    size = frame_bytes f.format f.channels

    in_data : ℕ
    in_data = f.size / size

    plan_in : Answer Plan → Plan
    plan_in (accepted p) = p
    plan_in (refused k n) = record { rate = 0; format = format; channels = channels; frames = 0; start = 0 }

    by : (b : Bool) → ◌≡◌ {A = Answer Plan} (accepted (record { rate = rate; format = format; channels = channels; frames = frames; start = start }))
        (cond b (refused 26 0) (accepted (record { rate = f.rate; format = f.format; channels = f.channels; frames = in_data; start = f.start }))) →
        Stated front rate format channels frames start
    by true e = clash e
    by false e =
        let r : rate ≡ f.rate = ap (λ (a : Answer Plan). (plan_in a).rate) e in
        let n : frames ≡ in_data = ap (λ (a : Answer Plan). (plan_in a).frames) e in
        let same : frame_bytes format channels ≡ size = ap (λ (a : Answer Plan). frame_bytes (plan_in a).format (plan_in a).channels) e in
        record {
          found = f;
          read = read;
          start_is = sym (ap (λ (a : Answer Plan). (plan_in a).start) e);
          known = subst (λ (k : ℕ). known_rate k ≡ true) (sym r) (accepted_rate front f read);
          size_is = whole_frames_lem f.size size (accepted_whole front f read) n ∙ ap (λ (k : ℕ). k * frames) (sym same);
        }

module _ {gains : List ℤ} {front : List ℕ} {rate : ℕ} {format : Format} {channels : Channels} {frames start : ℕ} (s : Started gains front rate format channels frames start) where
  pub stated : Stated front rate format channels frames start
  unfolding start_of plan_of
  stated = by (read_of front) refl s.begins
    where
      by : (a : Answer Found) → read_of front ≡ a → start_answer (Ok (record { rate = rate; format = format; channels = channels; frames = frames; start = start })) ≡ plan_of a → Stated front rate format channels frames start
      by (accepted f) read e = stated_plan front f read rate format channels frames start e
      by (refused k n) read e = clash e

  -- the data starts in the front, or right behind it
  pub start_within : start ≤ front_length
  start_within = subst (λ (n : ℕ). n ≤ front_length) stated.start_is (accepted_start front stated.found stated.read)

  pub few_enough : 3 * (count_of channels * frames) ≤ largest_data
  few_enough = subst Writable (sym s.begins) (writable (Some bands) front)

  -- the writer accepts the rate, the length and the channels of every run that starts, and writes just its header
  pub header_accepted : (buffer : List ℕ) → length buffer ≡ 44 →
      let size = 3 * (count_of channels * frames) in
      write_of buffer rate size (pos (count_of channels)) ≡ record { result = Ok 44; lent = header rate size (count_of channels) }
  header_accepted buffer l =
      let count = count_of channels in
      let in-frames : 3 * (count * frames) ≡ count * 3 * frames = omega arith in
      write_accepts buffer rate (3 * (count * frames)) channels l stated.known (ap (λ (n : ℕ). n % (count * 3)) in-frames ∙ mul-mod_right (count * 3) frames) few_enough
