-- Wherever plain calls are accepted, crossover calls with their gains and samples are, whatever allowed split each has, and the memory is the plain calls' (rules
-- 16.3, 16.7): a memory prepared for the equaliser serves. Assumes nothing.
use mathlib.Core.Path.{◌≡◌, refl, sym, ap, subst, ◌∙◌}
use mathlib.Core.List.{List, [], ◌∷◌}
use Prim.Native.Nat.{ℕ}
use borrow.Author.Tests.{eqb-true}
use lib.ListN.{length}
use lib.IntN.{ℤ}
use Rattle.std.specs.Prelude.{Result}
use Rattle.answers.specs.Answer.{accepted, number_in}
use Rattle.answers.specs.Checks.{Outcome}
use Rattle.octave.specs.declared.block.BlockError.{BlockError}
use Rattle.octave.specs.Answer.{block_answer}
use Rattle.octave.specs.Memory.{bands_in}
use Rattle.octave.specs.Block.{frames_of}
use Rattle.history.specs.History.{Call, called, after_call, played, AllAccepted}
use Rattle.history.proofs.Accepted.{unnumbered_ran}
use Rattle.crossover.specs.Feeds.{Feed, bass}
use Rattle.feeds.specs.Mixed.{AnyCall, plain, cross, answered, after_any, mixed, AllTaken, as_plain, plain_calls, Ready, AllReady}
use Rattle.feeds.proofs.Crossings.{crossing_ran, crossing_accepted, memory_same_as, plain_accepted}

-- ---- one call

-- the memory after an accepted call is the plain call's
pub plain_after : (m : List ℤ) (a : AnyCall) → number_in (answered m a) ≡ 0 → after_any m a ≡ after_call m (as_plain a)
plain_after m (plain c) e = refl
plain_after m (cross x) e =
    let ran = crossing_ran m x e in
    memory_same_as m x ran x.gains ∙
    sym
    (ap (λ (o : Outcome (Result ℕ BlockError) (List ℤ × List ℤ)). o.lent.0)
    (plain_accepted m x ran (x.before bass) (eqb-true (length (x.before bass)) (length x.input) (ran.long bass))))

served : (m : List ℤ) (a : AnyCall) → block_answer (called m (as_plain a)).result ≡ accepted (frames_of m (as_plain a).input) → Ready (bands_in m) a →
    answered m a ≡ accepted (frames_of m (as_plain a).input)
served m (plain c) h r = h
served m (cross x) h r = crossing_accepted m x (x.before bass) (ap number_in h) r.0 r.1

-- the memory keeps its number of bands
bands_kept : (m : List ℤ) (c : Call) → number_in (block_answer (called m c).result) ≡ 0 → bands_in (after_call m c) ≡ bands_in m
bands_kept m c e = ap (λ (o : Outcome (Result ℕ BlockError) (List ℤ × List ℤ)). bands_in o.lent.0) (unnumbered_ran m c.gains c.input c.before e).is

-- ---- calls in turn

pub all_served : (m : List ℤ) (xs : List AnyCall) → AllAccepted m (plain_calls xs) → AllReady (bands_in m) xs → AllTaken m xs
unfolding AllAccepted AllReady AllTaken
all_served m [] all ready = tt
all_served m (a ∷ xs) all ready =
    let h = served m a all.0 ready.0 in
    let same = plain_after m a (ap number_in h) in
    let bands : bands_in m ≡ bands_in (after_any m a) = sym (ap bands_in same ∙ bands_kept m (as_plain a) (ap number_in all.0)) in (
      h,
      all_served (after_any m a) xs (subst (λ (k : List ℤ). AllAccepted k (plain_calls xs)) (sym same) all.1)
          (subst (λ (M : ℕ). AllReady M xs) bands ready.1),
    )

-- rule 16.7: the memory after accepted calls is that of the plain calls
pub plain_memory : (f : Feed) (m : List ℤ) (xs : List AnyCall) → AllTaken m xs → (mixed f m xs).memory ≡ (played m (plain_calls xs)).memory
unfolding AllTaken mixed played
plain_memory f m [] all = refl
plain_memory f m (a ∷ xs) all =
    plain_memory f (after_any m a) xs all.1 ∙ ap (λ (k : List ℤ). (played k (plain_calls xs)).memory) (plain_after m a (ap number_in all.0))
