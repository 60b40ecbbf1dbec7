-- Runs of accepted plain and crossover calls: to one feed they are plain calls, all accepted, that leave the same memory and write that feed's outputs
-- (rules 16.4, 16.7). From any memory. Assumes nothing.
use mathlib.Core.Path.{◌≡◌, refl, sym, ap, ap₂, subst, ◌∙◌}
use mathlib.Core.Bool.{Bool, cond}
use mathlib.Core.List.{List, [], ◌∷◌, ◌++◌}
use Prim.Native.Nat.{ℕ}
use lib.Dec.{eqb}
use lib.IntN.{ℤ, nat_abs}
use Rattle.std.specs.Prelude.{Result}
use Rattle.answers.specs.Answer.{Answer, accepted, number_in}
use Rattle.answers.specs.Checks.{Outcome}
use Rattle.octave.specs.declared.block.BlockError.{BlockError}
use Rattle.octave.specs.Answer.{block_answer}
use Rattle.octave.specs.Block.{frames_of}
use Rattle.history.specs.History.{called, after_call, is_accepted, Played, played, AllAccepted, joined}
use Rattle.crossover.specs.declared.cross.CrossError.{CrossError}
use Rattle.crossover.specs.Answer.{cross_answer}
use Rattle.crossover.specs.Feeds.{Feed, feed_gains}
use Rattle.feeds.specs.Mixed.{AnyCall, plain, cross, answered, after_any, fed_by, taken, mixed, as_plain, as_feed, feed_calls, samples, AllTaken}
use Rattle.feeds.proofs.Crossings.{crossing_ran, as_feed_lem, feed_same, memory_same_as}

-- ---- one call

-- what an accepted call is to one feed: a plain call with the same answer, samples and memory, whose output is that feed's
pub record Seen (f : Feed) (m : List ℤ) (a : AnyCall) : Type 0 where
  pub answer : block_answer (called m (as_feed f a)).result ≡ answered m a
  pub input : (as_feed f a).input ≡ (as_plain a).input
  pub memory : after_any m a ≡ after_call m (as_feed f a)
  pub output : fed_by f m a ≡ (called m (as_feed f a)).lent.1

pub seen : (f : Feed) (m : List ℤ) (a : AnyCall) → number_in (answered m a) ≡ 0 → Seen f m a
seen f m (plain c) e = record { answer = refl; input = refl; memory = refl; output = refl }
seen f m (cross x) e =
    let ran = crossing_ran m x e in
    let is = as_feed_lem m x ran f in
    record {
      answer =
          ap (λ (o : Outcome (Result ℕ BlockError) (List ℤ × List ℤ)). block_answer o.result) is ∙
          sym (ap (λ (o : Outcome (Result ℕ CrossError) (List ℤ × List ℤ × List ℤ)). cross_answer o.result) ran.is);
      input = refl;
      memory = memory_same_as m x ran (feed_gains f (nat_abs x.split) x.gains) ∙ sym (ap (λ (o : Outcome (Result ℕ BlockError) (List ℤ × List ℤ)). o.lent.0) is);
      output = feed_same m x ran f;
    }

-- ---- calls in turn

-- an output in front of what the later calls gave
abbrev pub joining : Bool → List ℤ → Played → Played
joining t out p = record { memory = p.memory; output = cond t (out ++ p.output) p.output }

pub feeds_accepted : (f : Feed) (m : List ℤ) (xs : List AnyCall) → AllTaken m xs → AllAccepted m (feed_calls f xs)
unfolding AllTaken AllAccepted
feeds_accepted f m [] all = tt
feeds_accepted f m (a ∷ xs) all =
    let s = seen f m a (ap number_in all.0) in (
      s.answer ∙ all.0 ∙ ap (λ (l : List ℤ). accepted (frames_of m l)) (sym s.input),
      subst (λ (k : List ℤ). AllAccepted k (feed_calls f xs)) s.memory (feeds_accepted f (after_any m a) xs all.1),
    )

-- rule 16.4: the memory and the feed's outputs are those of the plain calls
pub feeds_played : (f : Feed) (m : List ℤ) (xs : List AnyCall) → AllTaken m xs → mixed f m xs ≡ played m (feed_calls f xs)
unfolding AllTaken mixed played
feeds_played f m [] all = refl
feeds_played f m (a ∷ xs) all =
    let s = seen f m a (ap number_in all.0) in
    let c = as_feed f a in
    let rest : mixed f (after_any m a) xs ≡ played (after_call m c) (feed_calls f xs) =
    feeds_played f (after_any m a) xs all.1 ∙ ap (λ (k : List ℤ). played k (feed_calls f xs)) s.memory in
    let same : taken m a ≡ is_accepted m c = ap (λ (r : Answer ℕ). eqb (number_in r) 0) (sym s.answer) in
    ap₂ (joining (taken m a)) s.output rest ∙ ap (λ (t : Bool). joining t (called m c).lent.1 (played (after_call m c) (feed_calls f xs))) same

-- the samples are the run's, of either feed
pub feeds_joined : (f : Feed) (xs : List AnyCall) → joined (feed_calls f xs) ≡ samples xs
unfolding joined
feeds_joined f [] = refl
feeds_joined f (plain c ∷ xs) = ap (λ (l : List ℤ). c.input ++ l) (feeds_joined f xs)
feeds_joined f (cross x ∷ xs) = ap (λ (l : List ℤ). x.input ++ l) (feeds_joined f xs)

-- one memory serves both feeds
pub one_memory : (f g : Feed) (m : List ℤ) (xs : List AnyCall) → (mixed f m xs).memory ≡ (mixed g m xs).memory
unfolding mixed
one_memory f g m [] = refl
one_memory f g m (a ∷ xs) = one_memory f g (after_any m a) xs
