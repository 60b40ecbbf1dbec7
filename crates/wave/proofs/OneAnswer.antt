-- No second answer of `find` or `read` fits (`write` promises its case itself: answers' `one_answer` serves it). Assumes nothing.
use mathlib.Core.Path.{◌≡◌, refl, ap}
use mathlib.Core.List.{List, [], ◌∷◌}
use Prim.Native.Nat.{ℕ, ◌-◌}
use lib.ListN.{get_or}
use Rattle.std.specs.Prelude.{Result, Ok, Err}
use Rattle.answers.specs.Answer.{Answer, accepted, refused}
use Rattle.answers.proofs.Laws.{one_case}
use Rattle.wave.specs.Walk.{Found, refusal_of, find_of, read_of, found_answer}
use Rattle.wave.specs.declared.refusal.Refusal.{Refusal}
use Rattle.wave.specs.declared.refusal.Refusal.TheVariants as refusal

abbrev pub refusal_back_lem : ℕ → Refusal
refusal_back_lem n = get_or (refusal.NotWave ∷ refusal.NoFormat ∷ refusal.WrongFormat ∷ refusal.CutOff ∷ refusal.PartFrame ∷ []) (n - 21) refusal.NotWave

refusal_way : (r : Refusal) → refusal_back_lem (refusal_of r).number ≡ r
refusal_way refusal.NotWave = refl
refusal_way refusal.NoFormat = refl
refusal_way refusal.WrongFormat = refl
refusal_way refusal.CutOff = refl
refusal_way refusal.PartFrame = refl

abbrev found_back : Answer Found → Result Found Refusal
found_back (accepted f) = Ok f
found_back (refused n place) = Err (refusal_back_lem n)

found_way : (r : Result Found Refusal) → found_back (found_answer r) ≡ r
found_way (Ok f) = refl
found_way (Err r) = ap Err (refusal_way r)

pub one_find : (front : List ℕ) {r q : Result Found Refusal} → found_answer r ≡ find_of front → found_answer q ≡ find_of front → r ≡ q
one_find front = one_case found_answer found_back found_way

pub one_read : (front : List ℕ) {r q : Result Found Refusal} → found_answer r ≡ read_of front → found_answer q ≡ read_of front → r ≡ q
one_read front = one_case found_answer found_back found_way
