-- Refused calls stand between accepted ones and change nothing (rule 11.4): for any calls, the memory and the outputs of the accepted ones
-- are those of the accepted calls alone. So the whole history and the distance hold of any calls from prepared memory. Assumes nothing.
use mathlib.Core.Path.{◌≡◌, refl, sym, ap, subst, ◌∙◌}
use mathlib.Core.Bool.{Bool, true, false, cond}
use mathlib.Core.List.{List, [], ◌∷◌, ◌++◌}
use Prim.Native.Nat.{ℕ, ◌+◌, ◌*◌, ◌≤◌, ◌<◌}
use borrow.Author.Tests.{eqb-true, eqb-false}
use lib.ListN.{length, get_or}
use lib.IntN.{ℤ, pos, nat_abs, ◌-ℤ◌, ◌*ℤ◌}
use Rattle.std.specs.Prelude.{Result, Ok}
use Rattle.answers.specs.Answer.{accepted, number_in}
use Rattle.answers.specs.Checks.{Outcome}
use Rattle.answers.proofs.Laws.{refused_keeps}
use Rattle.answers.specs.Unit.{unity}
use Rattle.tree.specs.Prototype.{published}
use Rattle.tree.specs.Signal.{signal_of}
use Rattle.tree.specs.Tree.{output}
use Rattle.tree.specs.Exact.{common_scale, slack}
use Rattle.octave.specs.declared.block.BlockError.{BlockError}
use Rattle.octave.specs.Answer.{block_answer}
use Rattle.octave.specs.Memory.{prepared}
use Rattle.octave.specs.Block.{frames_of, block_checks, equalised}
use Rattle.history.specs.History.{Call, called, after_call, is_accepted, Played, played, accepted_of, AllAccepted, joined, carried, from, written, exact}
use Rattle.history.proofs.Accepted.{unnumbered_ran}
use Rattle.history.proofs.WholeHistory.{whole_history}
use Rattle.history.proofs.Demands.{written_near}

-- ---- one call

-- an accepted call answers the number of its frames
pub accepted_length : (m : List ℤ) (c : Call) → is_accepted m c ≡ true → block_answer (called m c).result ≡ accepted (frames_of m c.input)
accepted_length m c e =
    ap (λ (o : Outcome (Result ℕ BlockError) (List ℤ × List ℤ)). block_answer o.result)
    (unnumbered_ran m c.gains c.input c.before (eqb-true (number_in (block_answer (called m c).result)) 0 e)).is

-- a refused call leaves the memory
pub refused_memory : (m : List ℤ) (c : Call) → is_accepted m c ≡ false → after_call m c ≡ m
refused_memory m c e =
    ap (λ (l : List ℤ × List ℤ). l.0)
    (refused_keeps block_answer (block_checks m c.gains c.input c.before) (m, c.before) (equalised m c.gains c.input) (Ok (frames_of m c.input))
    (eqb-false (number_in (block_answer (called m c).result)) 0 e) refl)

-- ---- any calls

-- the accepted ones among them are all accepted by themselves
pub all_accepted : (m : List ℤ) (cs : List Call) → AllAccepted m (accepted_of m cs)
unfolding accepted_of AllAccepted
all_accepted m [] = tt
all_accepted m (c ∷ cs) = by (is_accepted m c) refl (all_accepted (after_call m c) cs)
  where
    by : (t : Bool) → is_accepted m c ≡ t → AllAccepted (after_call m c) (accepted_of (after_call m c) cs) →
        AllAccepted m (cond t (c ∷ accepted_of (after_call m c) cs) (accepted_of (after_call m c) cs))
    by true e rest = (accepted_length m c e, rest)
    by false e rest = subst (λ (k : List ℤ). AllAccepted k (accepted_of (after_call m c) cs)) (refused_memory m c e) rest

-- the memory, and the outputs of the accepted ones, are those of the accepted calls alone
pub refused_between : (m : List ℤ) (cs : List Call) → played m cs ≡ played m (accepted_of m cs)
unfolding accepted_of played
refused_between m [] = refl
refused_between m (c ∷ cs) = by (is_accepted m c) refl (refused_between (after_call m c) cs)
  where
    -- a call in front of what the others played
    joining : Bool → Played → Played
    joining t p = record { memory = p.memory; output = cond t ((called m c).lent.1 ++ p.output) p.output }

    by : (t : Bool) → is_accepted m c ≡ t → played (after_call m c) cs ≡ played (after_call m c) (accepted_of (after_call m c) cs) →
        joining t (played (after_call m c) cs) ≡ played m (cond t (c ∷ accepted_of (after_call m c) cs) (accepted_of (after_call m c) cs))
    by true e rest = ap (joining true) rest ∙ ap (λ (t : Bool). joining t (played (after_call m c) (accepted_of (after_call m c) cs))) (sym e)
    by false e rest = rest ∙ ap (λ (k : List ℤ). played k (accepted_of (after_call m c) cs)) (refused_memory m c e)

-- ---- from prepared memory

module _ (M : ℕ) (least : 2 ≤ M) (most : M ≤ 10) (cs : List Call) where
  abbrev taken : List Call
  taken = accepted_of (prepared M 1) cs

  -- the outputs of the accepted ones are the tree's for their samples
  pub history_of_any : (played (prepared M 1) cs).output ≡ from 0 (length (joined taken)) (output published M (carried taken) (signal_of (joined taken)))
  history_of_any =
      ap (λ (p : Played). p.output) (refused_between (prepared M 1) cs) ∙ whole_history M least most taken (all_accepted (prepared M 1) cs)

  -- .. each within the distance of rule 4.9
  pub near_of_any : (n : ℕ) → n < length (joined taken) →
      nat_abs (pos (unity * common_scale M) *ℤ written M cs n -ℤ exact M taken n) ≤ 2048 * common_scale M + slack published M (carried taken) n
  near_of_any n inside =
      subst
      (λ (p : Played). nat_abs (pos (unity * common_scale M) *ℤ get_or p.output n (pos 0) -ℤ exact M taken n) ≤ 2048 * common_scale M + slack published M (carried taken) n)
      (sym (refused_between (prepared M 1) cs)) (written_near M least most taken (all_accepted (prepared M 1) cs) n inside)
