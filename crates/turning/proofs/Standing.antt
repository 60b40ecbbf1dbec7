-- Where a run stands: within its bounds, further on after each turn, and at its end. Assumes nothing.
use mathlib.Core.Path.{◌≡◌, sym, ap, subst, ◌∙◌}
use mathlib.Core.List.{List, [], ◌∷◌, ◌++◌}
use Prim.Native.Nat.{ℕ, ◌+◌, ◌*◌, ◌≤◌, min}
use native.Mathlib.Nat.{mul-le-mul_right, mul-le-mul_left, zero-add}
use native.Mathlib.Omega.{arith}
use mir.Syntax.{w64}
use mir.Val.{Fits}
use lib.ListN.{length, take, drop, replicate, length-append, length-replicate}
use lib.Seq.{take-append-le, length-take-le}
use lib.IntN.{ℤ}
use Rattle.std.specs.Prelude.{Ok}
use Rattle.answers.specs.Unit.{turn_limit, turn_room, largest_data}
use Rattle.samples.specs.Channels.{count_of}
use Rattle.fields.specs.Bytes as fields
use Rattle.eqfile.specs.declared.turn.Turn.{Turn}
use Rattle.eqfile.specs.Turn.{fed_in_all, turn_of}
use Rattle.eqfile.proofs.Turns.{Bounds, bounds, few_bytes, few_channels}
use Rattle.runs.specs.Program.{State, fresh, Arrives, Follows, handed, frame_bytes, turn_at, block_done, next, Fetched}
use Rattle.runs.proofs.BlockCalls.{read-within, read_is}
use Rattle.runs.proofs.OneMore.{after_more, followed_more, fetched_more, at_within}
use Rattle.runs.proofs.Starting.{few_enough, start_within}
use Rattle.eqfile.specs.declared.plan.Plan.{Plan}
use Rattle.eqfile.specs.declared.place.Place.{Place}
use Rattle.turning.specs.Running.{state_at, Running, Arrived, Came, Further, Ended}
use Rattle.turning.proofs.Storing.{planned}

module _ {plan : Plan} {gains : List ℤ} {front : List ℕ} {place : Place} {memory : List ℤ} (run : Running plan gains front place memory) where
  few : 3 * (count_of plan.channels * plan.frames) ≤ largest_data
  few = few_enough run.started

  few_frames : plan.frames ≤ largest_data
  few_frames = omega (arith, few, mul-le-mul_right plan.frames (few_channels plan.channels).0)

  at_most : place.at ≤ fed_in_all plan.frames
  at_most =
      subst (λ (s : State). s.at ≤ fed_in_all plan.frames) (sym run.stands)
      (at_within gains plan.format plan.channels plan.frames (fresh plan.channels) run.pieces (omega arith))

  -- a block more can be counted
  pub at_fits : (n : ℕ) → n ≤ turn_limit → Fits w64 (place.at + n)
  at_fits n h = omega (arith, at_most, few_frames)

  read_most : place.read ≤ 4 * (count_of plan.channels * plan.frames)
  read_most =
      let most : place.read ≤ frame_bytes plan.format plan.channels * min place.at plan.frames =
      subst (λ (s : State). s.read ≤ frame_bytes plan.format plan.channels * min s.at plan.frames) (sym run.stands)
      (read-within gains plan.format plan.channels plan.frames (fresh plan.channels) run.pieces (omega arith) run.followed) in
      let count = count_of plan.channels in
      let fed = min place.at plan.frames in
      let own : frame_bytes plan.format plan.channels * fed ≤ count * 4 * fed = mul-le-mul_right fed (mul-le-mul_left count (few_bytes plan.format).1) in
      let all : count * 4 * fed ≤ count * 4 * plan.frames = mul-le-mul_left (count * 4) (omega arith) in
      omega arith

  -- the place of the next data byte can be counted
  pub start_fits : Fits w64 (plan.start + place.read)
  start_fits = omega (arith, start_within run.started, read_most, few)

  module _ {turn : Turn} (is : turn ≡ turn_of (count_of plan.channels) (frame_bytes plan.format plan.channels) plan.frames place.at place.read) where
    pub limits : Bounds (count_of plan.channels) plan.frames place.at turn
    limits = bounds plan.format plan.channels plan.frames place.at place.read turn is

    pub read_fits : (got : ℕ) → got ≤ turn.wanted → Fits w64 (place.read + got)
    read_fits got h = omega (arith, limits.fed_most, limits.wanted_most, read_most, few)

    -- the cleared places that the bytes are read to
    pub wanted_there : turn.wanted ≤ 4 * turn_room
    wanted_there = omega (arith, limits.fed_most, limits.wanted_most)

    pub wanted_long : length (take turn.wanted (replicate {A = ℕ} (4 * turn_room) 0)) ≡ turn.wanted
    wanted_long = length-take-le turn.wanted (replicate {A = ℕ} (4 * turn_room) 0) (omega (arith, wanted_there, length-replicate {A = ℕ} (4 * turn_room) 0))

    module _ (got : ℕ) (new : List ℕ) (long : length new ≡ length (take turn.wanted (replicate {A = ℕ} (4 * turn_room) 0)))
        (most : got ≤ length (take turn.wanted (replicate {A = ℕ} (4 * turn_room) 0))) where
      abbrev rest : List ℕ
      rest = drop turn.wanted (replicate (4 * turn_room) 0)

      pub got_few : got ≤ turn.wanted
      got_few = omega (arith, wanted_long)

      piece_is : take got (new ++ rest) ≡ take got new
      piece_is = take-append-le got new rest (omega arith)

      pub piece_long : length (take got (new ++ rest)) ≡ got
      piece_long = length-take-le got (new ++ rest) (omega (arith, length-append new rest))

      pub piece_came : Fetched front (plan.start + place.read) (length (take turn.wanted (replicate {A = ℕ} (4 * turn_room) 0))) (take got new) → fields.Bytes (take got new) →
          Arrived plan gains front place memory turn (take got (new ++ rest))
      piece_came fetched bytes =
          record {
            running = run;
            turn_is = is;
            arrives = record { read_most = omega (arith, piece_long, got_few); bytes = subst fields.Bytes (sym piece_is) bytes };
            fetched =
                subst (λ (l : List ℕ). Fetched front (plan.start + place.read) turn.wanted l) (sym piece_is)
                (subst (λ (n : ℕ). Fetched front (plan.start + place.read) n (take got new)) wanted_long fetched);
          }

-- a turn for which bytes came leaves the run further on
pub further : {plan : Plan} {gains : List ℤ} {front : List ℕ} {place : Place} {memory after' : List ℤ} {turn : Turn} {piece : List ℕ} (got : ℕ) →
    (came : Came plan gains front place memory turn piece) → length piece ≡ got → after' ≡ (block_done gains plan.format plan.channels plan.frames (state_at place memory) piece).lent.0 →
    Further plan gains front place (Ok (record { at = place.at + turn.fed; read = place.read + got })) after'
further {plan} {gains} {front} {place} {memory} {after'} {turn} {piece} got came long e = (
  record {
    rate = run.rate;
    started = run.started;
    pieces = run.pieces ++ piece ∷ [];
    followed =
        followed_more gains plan.format plan.channels plan.frames (fresh plan.channels) run.pieces piece run.followed
        (subst (λ (s : State). Follows plan.format plan.channels plan.frames s piece) run.stands
        (record { arrives = subst (λ (t : Turn). Arrives t piece) here.turn_is here.arrives; numbers = came.numbers }));
    fetched =
        fetched_more gains plan.format plan.channels plan.frames front plan.start (fresh plan.channels) run.pieces piece run.fetched
        (subst (λ (s : State). Fetched front (plan.start + s.read) (turn_at plan.format plan.channels plan.frames s).wanted piece) run.stands
        (subst (λ (t : Turn). Fetched front (plan.start + place.read) t.wanted piece) here.turn_is here.fetched));
    stands =
        (λ i. record { at = place.at + (here.turn_is i).fed; read = place.read + sym long i; memory = e i }) ∙
        ap (λ (s : State). next gains plan.format plan.channels plan.frames s piece) run.stands ∙ sym (after_more gains plan.format plan.channels plan.frames (fresh plan.channels) run.pieces piece);
  },
  λ h. omega (arith, (planned here).fed_some h),
)
  where
    run : Running plan gains front place memory
    run = came.arrived.running

    here : Arrived plan gains front place memory turn piece
    here = came.arrived

-- all is fed: the run has ended by its plan
pub ended : (plan : Plan) (gains : List ℤ) (front : List ℕ) (place : Place) (memory : List ℤ) → Running plan gains front place memory → fed_in_all plan.frames ≤ place.at →
    Ended plan gains front place.read
ended plan gains front place memory run h =
    record {
      rate = run.rate;
      started = run.started;
      pieces = run.pieces;
      by_plan = (run.followed, subst (λ (s : State). fed_in_all plan.frames ≤ s.at) run.stands h);
      fetched = run.fetched;
      read_is = ap (λ (s : State). s.read) run.stands ∙ read_is gains plan.format plan.channels plan.frames (fresh plan.channels) run.pieces ∙ zero-add (length (handed run.pieces));
    }
