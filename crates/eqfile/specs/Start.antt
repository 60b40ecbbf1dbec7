-- How a run starts: 30 for the arguments, then the reader's refusals, then 26 for the length to be written.
use Rattle.std.specs.Prelude.{cond, List, ℕ, ◌*◌, ◌/◌, eqb, ltb, Option, Some, None, Result}
use Rattle.answers.specs.Answer.{Answer, accepted, refused, plain, answered}
use Rattle.answers.specs.declared.refused.Refused.{Refused}
use Rattle.answers.specs.Unit.{largest_data}
use Rattle.samples.specs.Channels.{count_of}
use Rattle.wave_values.specs.Values.{frame_size}
use Rattle.wave.specs.declared.found.Found.{Found}
use Rattle.wave.specs.Walk.{read_of}
use Rattle.wave.specs.Walk as wave
use Rattle.arguments.specs.Arguments.{bands}
use Rattle.eqfile.specs.declared.refusal.Refusal.{Refusal}
use Rattle.eqfile.specs.declared.refusal.Refusal.TheVariants as refusal
use Rattle.eqfile.specs.declared.plan.Plan.{Plan}

-- rule 6.8: the rule book's number of a refusal, and its place: none
abbrev pub refusal_of : Refusal → Refused
refusal_of refusal.Arguments = plain 30
refusal_of (refusal.Header r) = wave.refusal_of r
refusal_of refusal.TooLong = plain 26
refusal_of refusal.NotNumber = plain 41

-- rule 10.6: the frames in the data, if a header can state the bytes that they are written in
abbrev pub plan_for : Found → Answer Plan
plan_for f =
    let count = count_of f.channels in
    let frames = f.size / frame_size count f.format in
    cond (ltb largest_data (3 * (count * frames))) (refused 26 0)
    (accepted (record { rate = f.rate; format = f.format; channels = f.channels; frames = frames; start = f.start }))

-- rule 10.5: then the reader's; then 26
unfoldable pub plan_of : Answer Found → Answer Plan
plan_of (accepted f) = plan_for f
plan_of (refused n p) = refused n p

-- rules 10.3, 10.5: first 30: refused arguments, and any other number than eight
unfoldable pub start_of : Option ℕ → List ℕ → Answer Plan
unfolding plan_of
start_of (Some n) front = cond (eqb n bands) (plan_of (read_of front)) (refused 30 0)
start_of None front = refused 30 0

-- rule 6.8: in the rule book's numbers
abbrev pub start_answer : Result Plan Refusal → Answer Plan
start_answer = answered refusal_of
