-- Refused calls, plain or crossover, stand between accepted ones and change nothing (rules 11.4, 16.7). Assumes nothing.
use mathlib.Core.Path.{◌≡◌, refl, sym, ap, subst, ◌∙◌}
use mathlib.Core.Bool.{Bool, true, false, cond}
use mathlib.Core.List.{List, [], ◌∷◌}
use borrow.Author.Tests.{eqb-true, eqb-false}
use lib.IntN.{ℤ}
use Rattle.std.specs.Prelude.{ℕ, Result}
use Rattle.answers.specs.Answer.{accepted, number_in}
use Rattle.answers.specs.Checks.{Outcome}
use Rattle.octave.specs.Block.{frames_of}
use Rattle.history.proofs.RefusedBetween.{accepted_length, refused_memory}
use Rattle.crossover.specs.declared.cross.CrossError.{CrossError}
use Rattle.crossover.specs.Answer.{cross_answer}
use Rattle.crossover.specs.Feeds.{Feed, bass, horn}
use Rattle.crossover.proofs.Refusals.{cross_keeps}
use Rattle.feeds.specs.Mixed.{AnyCall, plain, cross, as_plain, answered, after_any, fed_by, taken, mixed, AllTaken, taken_of}
use Rattle.feeds.proofs.Crossings.{crossing_ran}
use Rattle.feeds.proofs.Runs.{joining}

-- ---- one call

-- an accepted call answers the number of its frames
pub taken_answers : (m : List ℤ) (a : AnyCall) → taken m a ≡ true → answered m a ≡ accepted (frames_of m (as_plain a).input)
taken_answers m (plain c) e = accepted_length m c e
taken_answers m (cross x) e =
    ap (λ (o : Outcome (Result ℕ CrossError) (List ℤ × List ℤ × List ℤ)). cross_answer o.result)
    (crossing_ran m x (eqb-true (number_in (answered m (cross x))) 0 e)).is

-- a refused one leaves the memory
pub refused_any : (m : List ℤ) (a : AnyCall) → taken m a ≡ false → after_any m a ≡ m
refused_any m (plain c) e = refused_memory m c e
refused_any m (cross x) e =
    ap (λ (l : List ℤ × List ℤ × List ℤ). l.0)
    (cross_keeps m x.gains x.split x.input (x.before bass) (x.before horn) (eqb-false (number_in (answered m (cross x))) 0 e))

-- ---- any calls

-- the accepted ones among them are all accepted by themselves
pub all_taken : (m : List ℤ) (xs : List AnyCall) → AllTaken m (taken_of m xs)
unfolding taken_of AllTaken
all_taken m [] = tt
all_taken m (a ∷ xs) = by (taken m a) refl (all_taken (after_any m a) xs)
  where
    by : (t : Bool) → taken m a ≡ t → AllTaken (after_any m a) (taken_of (after_any m a) xs) →
        AllTaken m (cond t (a ∷ taken_of (after_any m a) xs) (taken_of (after_any m a) xs))
    by true e rest = (taken_answers m a e, rest)
    by false e rest = subst (λ (k : List ℤ). AllTaken k (taken_of (after_any m a) xs)) (refused_any m a e) rest

-- the memory, and a feed's outputs of the accepted ones, are those of the accepted calls alone
pub mixed_between : (f : Feed) (m : List ℤ) (xs : List AnyCall) → mixed f m xs ≡ mixed f m (taken_of m xs)
unfolding taken_of mixed
mixed_between f m [] = refl
mixed_between f m (a ∷ xs) = by (taken m a) refl (mixed_between f (after_any m a) xs)
  where
    by : (t : Bool) → taken m a ≡ t → mixed f (after_any m a) xs ≡ mixed f (after_any m a) (taken_of (after_any m a) xs) →
        joining t (fed_by f m a) (mixed f (after_any m a) xs) ≡ mixed f m (cond t (a ∷ taken_of (after_any m a) xs) (taken_of (after_any m a) xs))
    by true e rest = ap (joining true (fed_by f m a)) rest ∙ ap (λ (t : Bool). joining t (fed_by f m a) (mixed f (after_any m a) (taken_of (after_any m a) xs))) (sym e)
    by false e rest = rest ∙ ap (λ (k : List ℤ). mixed f k (taken_of (after_any m a) xs)) (refused_any m a e)
