-- The block of a turn is never refused, and what it stores is due. Assumes nothing.
use mathlib.Core.Path.{◌≡◌, refl, sym, ap, subst, ◌∙◌}
use mathlib.Core.Bool.{true}
use mathlib.Core.List.{List, ◌++◌}
use Prim.Native.Nat.{ℕ, ◌*◌, ◌≤◌}
use native.Mathlib.Nat.{mul-le-mul_left}
use native.Mathlib.Omega.{arith}
use lib.ListN.{length, take, drop, replicate, length-append, length-replicate}
use lib.Seq.{take_at, length-take-le}
use lib.IntN.{ℤ, pos}
use Rattle.std.specs.Prelude.{Option, Some, IsSome, is_some, Result, Ok, Err, is_ok, IsErrAnd}
use Rattle.std.specs.Option.{unwrap_or}
use Rattle.std.specs.declared.io.Error.{Error}
use Rattle.eqfile.specs.declared.refusal.Refusal.{Refusal}
use Rattle.std.proofs.lemmas.List.{take-replicate}
use Rattle.answers.specs.Checks.{Outcome, Done}
use Rattle.answers.specs.Unit.{turn_room}
use Rattle.samples.specs.Channels.{count_of}
use Rattle.eqfile.specs.declared.turn.Turn.{Turn}
use Rattle.eqfile.specs.Data.{samples_from, numbers_from, taken_from}
use Rattle.blocks.specs.Equalise.{equalise_of}
use Rattle.eqfile.proofs.Turns.{Bounds, bounds}
use Rattle.eqfile.proofs.WholeSamples.{taken_answer_lem, taken-samples}
use Rattle.runs.specs.Program.{State, Arrives, turn_at, turn_numbers, Follows, block_done}
use Rattle.runs.proofs.SamplesInPieces.{length_from}
use Rattle.runs.proofs.Program.{block_accepted}
use Rattle.eqfile.specs.declared.plan.Plan.{Plan}
use Rattle.eqfile.specs.declared.place.Place.{Place}
use Rattle.turning.specs.declared.turn.Stop.{Stop}
use Rattle.turning.specs.declared.turn.Stop.TheVariants.{NotANumber, OutputFailed}
use Rattle.turning.specs.Running.{state_at, Arrived, Came, Stopped, Due, PutDone, Further}

equalised-same : (memory gains : List ℤ) {xs ys : List ℤ} {k j : ℕ} {s t : List ℕ} → xs ≡ ys → k ≡ j → s ≡ t → equalise_of memory gains xs k s ≡ equalise_of memory gains ys j t
equalised-same memory gains e f g = λ i. equalise_of memory gains (e i) (f i) (g i)

-- a block that was there to be handed over, and of which standard output took no more
pub not_taken : {plan : Plan} {gains : List ℤ} {front : List ℕ} {place : Place} {memory : List ℤ} {turn : Turn} {piece : List ℕ} (error : Error) (after' : List ℤ)
    (r : Result (Unit {0}) Stop) → IsErrAnd r (λ e. e ≡ OutputFailed error) → Came plan gains front place memory turn piece → PutDone plan gains front place memory piece r after'
not_taken error after' (Ok done) e came = absurd e
not_taken {plan} {gains} {front} {place} {memory} {turn} {piece} error after' (Err stop) e came =
    subst (λ (s : Stop). PutDone plan gains front place memory piece (Err s) after') (sym e) came.numbers

-- a run stops with the block of its turn
pub stops : {plan : Plan} {gains : List ℤ} {front : List ℕ} {place : Place} {memory : List ℤ} {turn : Turn} {piece : List ℕ} {put : Result (Unit {0}) Stop}
    (after' : List ℤ) (stop : Stop) (r : Result Place Stop) → put ≡ Err stop → IsErrAnd r (λ e. e ≡ stop) → Arrived plan gains front place memory turn piece →
    PutDone plan gains front place memory piece put after' → Further plan gains front place r after'
stops after' stop (Ok further) is e arrived done = absurd e
stops {plan} {gains} {front} {place} {memory} {turn} {piece} after' stop (Err last) is e arrived done =
    subst (λ (s : Stop). Further plan gains front place (Err s) after') (sym e)
    (by stop (subst (λ (p : Result (Unit {0}) Stop). PutDone plan gains front place memory piece p after') is done))
  where
    by : (s : Stop) → PutDone plan gains front place memory piece (Err s) after' → Further plan gains front place (Err s) after'
    by NotANumber bad = bad
    by (OutputFailed error) numbers = record { place = place; memory = memory; turn = turn; piece = piece; came = record { arrived = arrived; numbers = numbers } }

-- what came for a turn, as the samples that the code reads it to, n channels of them
pub record Read (plan : Plan) (gains : List ℤ) (front : List ℕ) (place : Place) (memory : List ℤ) (turn : Turn) (piece : List ℕ) (n : ℕ) (xs : List ℤ) : Type 0 where
  pub came : Came plan gains front place memory turn piece
  pub sides : n ≡ count_of plan.channels
  pub is : xs ≡ samples_from (n * turn.fed) plan.format piece

module _ {plan : Plan} {gains : List ℤ} {front : List ℕ} {place : Place} {memory : List ℤ} {turn : Turn} {piece : List ℕ} (arrived : Arrived plan gains front place memory turn piece) where
  pub planned : Bounds (count_of plan.channels) plan.frames place.at turn
  planned = bounds plan.format plan.channels plan.frames place.at place.read turn arrived.turn_is

  module _ {n : ℕ} (sides : n ≡ count_of plan.channels) where
    pub samples_few : n * turn.fed ≤ turn_room
    samples_few = rw sides planned.fed_most

    pub skipped_few : n * turn.skipped ≤ turn_room
    skipped_few = let l : n * turn.skipped ≤ n * turn.fed = mul-le-mul_left n planned.skipped_most in omega (arith, samples_few)

    -- the cleared places that the samples are read to
    pub input_long : length (take (n * turn.fed) (replicate turn_room (pos 0))) ≡ n * turn.fed
    input_long = length-take-le (n * turn.fed) (replicate turn_room (pos 0)) (omega (arith, samples_few, length-replicate turn_room (pos 0)))

    module _ {r : Result (Unit {0}) Refusal} {xs : List ℤ} (d : Done (taken_from piece plan.format (take (n * turn.fed) (replicate turn_room (pos 0)))) r xs) where
      numbers_are : is_ok r ≡ turn_numbers plan.format plan.channels plan.frames (state_at place memory) piece
      numbers_are =
          taken_answer_lem piece plan.format (take (n * turn.fed) (replicate turn_room (pos 0))) r xs d ∙ ap (λ (k : ℕ). numbers_from k plan.format piece) input_long ∙
          (λ i. numbers_from (sides i * (arrived.turn_is i).fed) plan.format piece)

      -- the code asks the same with another error
      module _ {m : Result (Unit {0}) Stop} (same : is_ok m ≡ is_ok r) where
        pub stopped : {stop : Stop} → m ≡ Err stop → Stopped plan gains front
        stopped e = record { place = place; memory = memory; turn = turn; piece = piece; arrived = arrived; bad = sym numbers_are ∙ sym same ∙ ap is_ok e }

        pub read : {done : Unit {0}} → m ≡ Ok done → Read plan gains front place memory turn piece n xs
        read e =
            let numbers : is_ok r ≡ true = sym same ∙ ap is_ok e in
            record {
              came = record { arrived = arrived; numbers = sym numbers_are ∙ numbers };
              sides = sides;
              is =
                  taken-samples piece plan.format (take (n * turn.fed) (replicate turn_room (pos 0))) r xs d numbers ∙
                  ap (λ (k : ℕ). samples_from k plan.format piece) input_long;
            }

module _ {plan : Plan} {gains : List ℤ} {front : List ℕ} {place : Place} {memory : List ℤ} {turn : Turn} {piece : List ℕ} {n : ℕ} {xs : List ℤ}
    (all : Read plan gains front place memory turn piece n xs) where
  abbrev here : Arrived plan gains front place memory turn piece
  here = all.came.arrived

  -- the block of the run's turn
  abbrev block_is : Outcome (Option ℕ) (List ℤ × List ℕ)
  block_is = block_done gains plan.format plan.channels plan.frames (state_at place memory) piece

  -- no block of a run is refused
  taken_block : block_is.result ≡ Some turn.written
  taken_block =
      let r = here.running in
      let f : Follows plan.format plan.channels plan.frames (state_at place memory) piece =
      record { arrives = subst (λ (t : Turn). Arrives t piece) here.turn_is here.arrives; numbers = all.came.numbers } in
      subst (λ (s : State). Follows plan.format plan.channels plan.frames s piece →
      (block_done gains plan.format plan.channels plan.frames s piece).result ≡ Some (turn_at plan.format plan.channels plan.frames s).written) (sym r.stands)
      (block_accepted r.started.texts gains r.started.taken plan.format plan.channels plan.frames r.pieces r.followed piece) f ∙
      ap (λ (t : Turn). Some t.written) (sym here.turn_is)

  xs_long : length xs ≡ n * turn.fed
  xs_long = ap length all.is ∙ length_from (n * turn.fed) plan.format piece

  pub samples_there : n * turn.fed ≤ length (xs ++ drop (n * turn.fed) (replicate turn_room (pos 0)))
  samples_there = omega (arith, length-append xs (drop (n * turn.fed) (replicate turn_room (pos 0))), xs_long)

  -- .. and the cleared places that its bytes are stored to
  pub bytes_there : turn.written ≤ 4 * turn_room
  bytes_there = omega (arith, (planned here).written_most)

  pub bytes_long : length (take turn.written (replicate {A = ℕ} (4 * turn_room) 0)) ≡ turn.written
  bytes_long = length-take-le turn.written (replicate {A = ℕ} (4 * turn_room) 0) (omega (arith, bytes_there, length-replicate {A = ℕ} (4 * turn_room) 0))

  -- what the code hands to `equalise`, and what it answers
  module _ {r : Option ℕ} {m : List ℤ} {s : List ℕ}
      (d : Done (equalise_of memory gains (take (n * turn.fed) (xs ++ drop (n * turn.fed) (replicate turn_room (pos 0)))) (n * turn.skipped) (take turn.written (replicate (4 * turn_room) 0))) r (m, s)) where
    is : equalise_of memory gains (take (n * turn.fed) (xs ++ drop (n * turn.fed) (replicate turn_room (pos 0)))) (n * turn.skipped) (take turn.written (replicate (4 * turn_room) 0)) ≡ block_is
    is =
        equalised-same memory gains
        (take_at xs (drop (n * turn.fed) (replicate turn_room (pos 0))) (n * turn.fed) xs_long ∙ all.is)
        refl
        (take-replicate turn.written (4 * turn_room) 0 bytes_there) ∙
        (λ i.
        let t = here.turn_is i in
        equalise_of memory gains (samples_from (all.sides i * t.fed) plan.format piece) (all.sides i * t.skipped) (replicate t.written 0))

    answer_is : r ≡ Some turn.written
    answer_is = d.result_is ∙ ap (λ (o : Outcome (Option ℕ) (List ℤ × List ℕ)). o.result) is ∙ taken_block

    pub memory_is : m ≡ block_is.lent.0
    memory_is = ap (λ (x : List ℤ × List ℕ). x.0) (d.lent_is ∙ ap (λ (o : Outcome (Option ℕ) (List ℤ × List ℕ)). o.lent) is)

    pub not_refused : IsSome r
    not_refused = ap is_some answer_is

    -- all bytes stored are handed over
    module _ {k : ℕ} (e : r ≡ Some k) (l : length s ≡ length (take turn.written (replicate {A = ℕ} (4 * turn_room) 0))) where
      long : length s ≡ k
      long = l ∙ bytes_long ∙ ap (λ (o : Option ℕ). unwrap_or o 0) (sym answer_is ∙ e)

      pub stored_there : k ≤ length (s ++ drop turn.written (replicate (4 * turn_room) 0))
      stored_there = omega (arith, long, length-append s (drop turn.written (replicate (4 * turn_room) 0)))

      pub due : Due plan gains front (take k (s ++ drop turn.written (replicate (4 * turn_room) 0)))
      due =
          record {
            place = place;
            memory = memory;
            turn = turn;
            piece = piece;
            came = all.came;
            is =
                take_at s (drop turn.written (replicate (4 * turn_room) 0)) k long ∙
                ap (λ (x : List ℤ × List ℕ). x.1) (d.lent_is ∙ ap (λ (o : Outcome (Option ℕ) (List ℤ × List ℕ)). o.lent) is);
          }
