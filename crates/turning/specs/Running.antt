-- A run of the program, as its functions hand it on: nothing is known of the bytes that standard input hands over, so there are some.
use Rattle.std.specs.Prelude.{◌≡◌, true, false, List, ℕ, ◌+◌, ◌<◌, length, ℤ, Result, Ok, Err}
use Rattle.eqfile.specs.declared.turn.Turn.{Turn}
use Rattle.eqfile.specs.Turn.{fed_in_all}
use Rattle.runs.specs.Program.{State, fresh, Arrives, handed, turn_at, turn_numbers, block_done, after, Followed, ByPlan, Fetched, AllFetched}
use Rattle.runs.specs.Started.{Started}
use Rattle.eqfile.specs.declared.plan.Plan.{Plan}
use Rattle.eqfile.specs.declared.place.Place.{Place}
use Rattle.turning.specs.declared.turn.Stop.{Stop}
use Rattle.turning.specs.declared.turn.Stop.TheVariants.{NotANumber, OutputFailed}

-- rule 10.10: where a run stands
abbrev pub state_at : Place → List ℤ → State
state_at place memory = record { at = place.at; read = place.read; memory = memory }

-- rules 10.3, 10.5: a run by this plan has started
abbrev pub HasStarted : Plan → List ℤ → List ℕ → Type 0
HasStarted plan gains front = Started gains front plan.rate plan.format plan.channels plan.frames plan.start

-- rules 10.10, 10.11: a run has started, and after some turns by the plan, whose bytes came from the front and standard input, it stands at a place with a memory
pub record Running (plan : Plan) (gains : List ℤ) (front : List ℕ) (place : Place) (memory : List ℤ) : Type 0 where
  pub rate : ℕ
  pub started : Started gains front rate plan.format plan.channels plan.frames plan.start
  pub pieces : List (List ℕ)
  pub followed : Followed gains plan.format plan.channels plan.frames (fresh plan.channels) pieces
  pub fetched : AllFetched gains plan.format plan.channels plan.frames front plan.start (fresh plan.channels) pieces
  pub stands : state_at place memory ≡ after gains plan.format plan.channels plan.frames (fresh plan.channels) pieces

-- rule 10.11: .. and these bytes came for its next turn
pub record Arrived (plan : Plan) (gains : List ℤ) (front : List ℕ) (place : Place) (memory : List ℤ) (turn : Turn) (piece : List ℕ) : Type 0 where
  pub running : Running plan gains front place memory
  pub turn_is : turn ≡ turn_at plan.format plan.channels plan.frames (state_at place memory)
  pub arrives : Arrives turn piece
  pub fetched : Fetched front (plan.start + place.read) turn.wanted piece

-- rule 10.19: .. each sample of which is a number
pub record Came (plan : Plan) (gains : List ℤ) (front : List ℕ) (place : Place) (memory : List ℤ) (turn : Turn) (piece : List ℕ) : Type 0 where
  pub arrived : Arrived plan gains front place memory turn piece
  pub numbers : turn_numbers plan.format plan.channels plan.frames (state_at place memory) piece ≡ true

-- rule 10.19: .. or one of them is none
pub record Stopped (plan : Plan) (gains : List ℤ) (front : List ℕ) : Type 0 where
  pub place : Place
  pub memory : List ℤ
  pub turn : Turn
  pub piece : List ℕ
  pub arrived : Arrived plan gains front place memory turn piece
  pub bad : turn_numbers plan.format plan.channels plan.frames (state_at place memory) piece ≡ false

-- rule 10.15: a block whose samples are numbers was there to be handed over
pub record Tried (plan : Plan) (gains : List ℤ) (front : List ℕ) : Type 0 where
  pub place : Place
  pub memory : List ℤ
  pub turn : Turn
  pub piece : List ℕ
  pub came : Came plan gains front place memory turn piece

-- rule 10.8: these bytes are just those that the block of a run's next turn stores
pub record Due (plan : Plan) (gains : List ℤ) (front : List ℕ) (bytes : List ℕ) : Type 0 where
  pub place : Place
  pub memory : List ℤ
  pub turn : Turn
  pub piece : List ℕ
  pub came : Came plan gains front place memory turn piece
  pub is : bytes ≡ (block_done gains plan.format plan.channels plan.frames (state_at place memory) piece).lent.1

-- rules 10.8, 10.19: what the block of a turn comes to, with the memory afterwards
abbrev pub PutDone : Plan → List ℤ → List ℕ → Place → List ℤ → List ℕ → Result (Unit {0}) Stop → List ℤ → Type 0
PutDone plan gains front place memory piece (Ok done) after' =
    (turn_numbers plan.format plan.channels plan.frames (state_at place memory) piece ≡ true) ×
    (after' ≡ (block_done gains plan.format plan.channels plan.frames (state_at place memory) piece).lent.0)
PutDone plan gains front place memory piece (Err NotANumber) after' = Stopped plan gains front
PutDone plan gains front place memory piece (Err (OutputFailed error)) after' = turn_numbers plan.format plan.channels plan.frames (state_at place memory) piece ≡ true

-- rule 10.10: a turn leaves a run that has fed more
abbrev pub Further : Plan → List ℤ → List ℕ → Place → Result Place Stop → List ℤ → Type 0
Further plan gains front place (Ok further) memory = Running plan gains front further memory × (place.at < fed_in_all plan.frames → place.at < further.at)
Further plan gains front place (Err NotANumber) memory = Stopped plan gains front
Further plan gains front place (Err (OutputFailed error)) memory = Tried plan gains front

-- rule 10.13: a run has ended by its plan, and so many bytes were read
pub record Ended (plan : Plan) (gains : List ℤ) (front : List ℕ) (read : ℕ) : Type 0 where
  pub rate : ℕ
  pub started : Started gains front rate plan.format plan.channels plan.frames plan.start
  pub pieces : List (List ℕ)
  pub by_plan : ByPlan gains plan.format plan.channels plan.frames (fresh plan.channels) pieces
  pub fetched : AllFetched gains plan.format plan.channels plan.frames front plan.start (fresh plan.channels) pieces
  pub read_is : read ≡ length (handed pieces)
