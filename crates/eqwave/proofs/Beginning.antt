-- How a run begins: its header, and its place and memory before the first turn. Assumes nothing.
use mathlib.Core.Path.{◌≡◌, ap, ap₂, ◌∙◌}
use mathlib.Core.List.{List, [], ◌++◌}
use Prim.Native.Nat.{ℕ, ◌*◌, ◌≤◌}
use native.Mathlib.Omega.{arith}
use borrow.Author.Tests.{eq-eqb}
use mir.Syntax.{w32}
use mir.Val.{to_z}
use lib.ListN.{length, take, drop, length-replicate, replicate}
use lib.Seq.{take_at, length-take-le}
use lib.IntN.{ℤ, pos}
use Rattle.answers.specs.Checks.{Outcome, decide, Done}
use Rattle.answers.specs.Unit.{largest_data}
use Rattle.samples.specs.Channels.{count_of}
use Rattle.samples.specs.declared.channels.Channels.{Channels}
use Rattle.std.specs.Prelude.{Result, Ok, is_ok, IsOk}
use Rattle.eqfile.specs.Turn.{late}
use Rattle.octave.specs.declared.memory.PrepareError.{PrepareError}
use Rattle.octave.specs.Memory.{side_places, memory_length, prepared, prepare_of}
use Rattle.wave_writer.specs.Header.{header, write_of}
use Rattle.wave_writer.specs.declared.writer.WriteError.{WriteError}
use Rattle.wave_writer.proofs.Counts.{count_allowed_lem}
use Rattle.arguments.specs.Arguments.{bands}
use Rattle.eqfile.proofs.Turns.{few_channels}
use Rattle.runs.specs.Program.{after, Followed, AllFetched}
use Rattle.runs.proofs.Starting.{few_enough, header_accepted}
use Rattle.eqfile.specs.declared.plan.Plan.{Plan}
use Rattle.turning.specs.Running.{HasStarted, Running}
use Rattle.turning.proofs.Places.{signed}

-- ---- the header

-- the writer's answer for a run that has started is its header, told the channels as a signed number
module _ {plan : Plan} {gains : List ℤ} {front : List ℕ} (s : HasStarted plan gains front) {n : ℕ} (sides : n ≡ count_of plan.channels) where
  written_is : (buffer : List ℕ) → length buffer ≡ 44 →
      write_of buffer plan.rate (3 * (n * plan.frames)) (to_z w32 n) ≡
      record { result = Ok 44; lent = header plan.rate (3 * (count_of plan.channels * plan.frames)) (count_of plan.channels) }
  written_is buffer l = ap₂ (λ (k : ℕ) (z : ℤ). write_of buffer plan.rate (3 * (k * plan.frames)) z) sides (signed plan.channels sides) ∙ header_accepted s buffer l

  module _ (buffer : List ℕ) (long : length buffer ≡ 44) {r : Result ℕ WriteError} {after : List ℕ} (d : Done (write_of buffer plan.rate (3 * (n * plan.frames)) (to_z w32 n)) r after) where
    pub header_taken : IsOk r
    header_taken = ap is_ok (d.result_is ∙ ap (λ (o : Outcome (Result ℕ WriteError) (List ℕ)). o.result) (written_is buffer long))

    pub header_is : after ≡ header plan.rate (3 * (count_of plan.channels * plan.frames)) (count_of plan.channels)
    header_is = d.lent_is ∙ ap (λ (o : Outcome (Result ℕ WriteError) (List ℕ)). o.lent) (written_is buffer long)

  pub few_samples : 3 * (n * plan.frames) ≤ largest_data
  few_samples = rw sides (few_enough s)

-- ---- the first place

-- the part of the places that a file's channels take, prepared for n channels
module _ (channels : Channels) {places : ℕ} (counted : places ≡ memory_length bands (count_of channels)) where
  pub part_fits : places ≤ memory_length bands 2
  part_fits = omega (arith, few_channels channels)

  module _ {n : ℕ} {r : Result ℕ PrepareError} {m : List ℤ} (sides : n ≡ count_of channels)
      (d : Done (prepare_of (pos bands) (to_z w32 n) (take places (replicate (memory_length bands 2) (pos 0)))) r m) where
    accepted_is : prepare_of (pos bands) (to_z w32 n) (take places (replicate (memory_length bands 2) (pos 0))) ≡
        record { result = Ok late; lent = prepared bands (count_of channels) }
    unfolding decide
    accepted_is =
        let cleared : List ℤ = replicate (memory_length bands 2) (pos 0) in
        let long : length (take places cleared) ≡ memory_length bands (count_of channels) =
        length-take-le places cleared (omega (arith, part_fits, length-replicate (memory_length bands 2) (pos 0))) ∙ counted in
        ap (λ (z : ℤ). prepare_of (pos bands) z (take places cleared)) (signed channels sides) ∙
        rw (count_allowed_lem channels, eq-eqb (length (take places cleared)) (memory_length bands (count_of channels)) long)

    pub memory_taken : IsOk r
    memory_taken = ap is_ok (d.result_is ∙ ap (λ (o : Outcome (Result ℕ PrepareError) (List ℤ)). o.result) accepted_is)

    prepared_is : m ≡ prepared bands (count_of channels)
    prepared_is = d.lent_is ∙ ap (λ (o : Outcome (Result ℕ PrepareError) (List ℤ)). o.lent) accepted_is

    as_long : length m ≡ places
    as_long = ap length prepared_is ∙ omega (arith, length-replicate {A = ℤ} (count_of channels * side_places bands) (pos 0))

    pub part_prepared : take places (m ++ drop places (replicate (memory_length bands 2) (pos 0))) ≡ prepared bands (count_of channels)
    part_prepared = take_at m (drop places (replicate (memory_length bands 2) (pos 0))) places as_long ∙ prepared_is

pub at_start : {plan : Plan} {gains : List ℤ} {front : List ℕ} {memory : List ℤ} → HasStarted plan gains front → memory ≡ prepared bands (count_of plan.channels) →
    Running plan gains front (record { at = 0; read = 0 }) memory
unfolding Followed AllFetched after
at_start {plan} s e = record { rate = plan.rate; started = s; pieces = []; followed = tt; fetched = tt; stands = λ i. record { at = 0; read = 0; memory = e i } }
