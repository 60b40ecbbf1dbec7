-- One answer: two results that meet `begin`'s promise are equal. The other calls promise their result by an equation. Assumes nothing.
use mathlib.Core.Path.{◌≡◌, refl, ap}
use mathlib.Core.Bool.{cond}
use mathlib.Core.List.{List}
use Prim.Native.Nat.{ℕ}
use Rattle.std.specs.Prelude.{Option, Result, Ok, Err}
use lib.Dec.{eqb}
use Rattle.answers.specs.Answer.{Answer, accepted, refused}
use Rattle.answers.proofs.Laws.{one_case}
use Rattle.wave.specs.declared.refusal.Refusal.TheVariants as header
use Rattle.wave.proofs.OneAnswer.{refusal_back_lem}
use Rattle.eqfile.specs.declared.refusal.Refusal.{Refusal}
use Rattle.eqfile.specs.declared.refusal.Refusal.TheVariants as refusal
use Rattle.eqfile.specs.declared.plan.Plan.{Plan}
use Rattle.eqfile.specs.Start.{refusal_of, start_of, start_answer}

-- ---- the way back

refusal_back : ℕ → Refusal
refusal_back n = cond (eqb n 30) refusal.Arguments (cond (eqb n 26) refusal.TooLong (cond (eqb n 41) refusal.NotNumber (refusal.Header (refusal_back_lem n))))

start_back : Answer Plan → Result Plan Refusal
start_back (accepted p) = Ok p
start_back (refused n p) = Err (refusal_back n)

refusal_way : (r : Refusal) → refusal_back (refusal_of r).number ≡ r
unfolding refusal_back
refusal_way refusal.Arguments = refl
refusal_way (refusal.Header header.NotWave) = refl
refusal_way (refusal.Header header.NoFormat) = refl
refusal_way (refusal.Header header.WrongFormat) = refl
refusal_way (refusal.Header header.CutOff) = refl
refusal_way (refusal.Header header.PartFrame) = refl
refusal_way refusal.TooLong = refl
refusal_way refusal.NotNumber = refl

start_way : (r : Result Plan Refusal) → start_back (start_answer r) ≡ r
unfolding start_back
start_way (Ok p) = refl
start_way (Err r) = ap Err (refusal_way r)

-- ---- one answer

pub one_start : (so_far : Option ℕ) (front : List ℕ) (r q : Result Plan Refusal) → start_answer r ≡ start_of so_far front → start_answer q ≡ start_of so_far front → r ≡ q
one_start so_far front r q = one_case start_answer start_back start_way
