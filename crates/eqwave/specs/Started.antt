-- How the program begins, and what a run of it comes to: nothing is known of the bytes that standard input hands over, so there are some.
use Rattle.std.specs.Prelude.{List, ℕ, ◌≤◌, length, replicate, ℤ, pos, Option, Result, Ok, Err}
use Rattle.answers.specs.Unit.{front_length}
use Rattle.arguments.specs.Arguments.{bands}
use Rattle.eqfile.specs.declared.plan.Plan.{Plan}
use Rattle.turning.specs.declared.turn.Stop.{Stop}
use Rattle.turning.specs.declared.turn.Stop.TheVariants.{NotANumber, OutputFailed}
use Rattle.turning.specs.Running.{Stopped, Ended}
use Rattle.arguments.specs.Given.{AllTaken}

-- rule 10.5: what is known before the front is judged
pub record Before (arguments : Option ℕ) (front : List ℕ) (gains : List ℤ) : Type 0 where
  pub all_taken : AllTaken (replicate bands (pos 0)) arguments gains
  pub few : length front ≤ front_length

-- rules 10.13, 10.15, 10.19: what a run comes to: it has ended by its plan after so many bytes, or a sample was no number, or standard output took no more
abbrev pub Comes : Plan → List ℤ → List ℕ → Result ℕ Stop → Type 0
Comes plan gains front (Ok read) = Ended plan gains front read
Comes plan gains front (Err NotANumber) = Stopped plan gains front
Comes plan gains front (Err (OutputFailed error)) = Unit {0}
