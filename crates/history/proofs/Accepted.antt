-- An accepted block call ran its samples, and they and its gains were in range; so no line's value is ever limited. Assumes nothing.
use mathlib.Core.Path.{◌≡◌, ap}
use mathlib.Core.Bool.{true}
use mathlib.Core.List.{List, [], ◌∷◌, ◌++◌}
use Prim.Native.Nat.{ℕ, zero, suc, ◌≤◌, ◌<◌}
use native.Mathlib.Decide.{dec_lt}
use native.Mathlib.Omega.{arith}
use lib.ListN.{length, get_or, get_or-eq_default}
use lib.IntN.{ℤ, pos, nat_abs}
use Rattle.std.specs.Prelude.{Ok}
use Rattle.answers.specs.Answer.{accepted, number_in}
use Rattle.answers.specs.Checks.{all_hold}
use Rattle.answers.specs.Range.{within, all_within}
use Rattle.answers.specs.Unit.{least_sample, most_sample, largest_sample, largest_gain}
use Rattle.answers.proofs.Laws.{and_left, and_right, all_accept}
use Rattle.answers.proofs.Ranges.{all_at}
use Rattle.whole.proofs.Signed.{about}
use Rattle.tree.specs.Prototype.{published}
use Rattle.tree.specs.Signal.{Signal, signal_of}
use Rattle.tree.proofs.NeverLimited.{published_low_pass_never_limited}
use Rattle.octave.specs.Answer.{block_answer}
use Rattle.octave.specs.Block.{frames_of, block_checks, equalised, block_of}
use Rattle.octave.proofs.Ranges.{within_parts}
use Rattle.octave.proofs.Refusals.{block_held}
use Rattle.history.specs.History.{Call, after_call, AllAccepted, joined}
use Rattle.history.proofs.Holds.{Unlimited, Free, free_of}

-- ---- an accepted call

-- an accepted call ran its samples: every check held
pub record RanIt (m gains input before : List ℤ) : Type 0 where
  pub is : block_of m gains input before ≡ record { result = Ok (frames_of m input); lent = equalised m gains input }
  pub held : all_hold (block_checks m gains input before) ≡ true
  pub gains_allowed : all_within (pos 0) (pos largest_gain) gains ≡ true
  pub in_range : all_within least_sample most_sample input ≡ true

module _ (m gains input before : List ℤ) where
  gains_held : all_hold (block_checks m gains input before) ≡ true → all_within (pos 0) (pos largest_gain) gains ≡ true
  unfolding all_hold
  gains_held h = search (and_left, and_right) depth 12

  input_held : all_hold (block_checks m gains input before) ≡ true → all_within least_sample most_sample input ≡ true
  unfolding all_hold
  input_held h = search (and_left, and_right) depth 12

  pub unnumbered_ran : number_in (block_answer (block_of m gains input before).result) ≡ 0 → RanIt m gains input before
  unnumbered_ran e =
      let cs = block_checks m gains input before in
      let after = equalised m gains input in
      let r = Ok (frames_of m input) in
      let held = block_held m gains input before e in
      record { is = all_accept (m, before) after r cs held; held = held; gains_allowed = gains_held held; in_range = input_held held }

  pub accepted_ran : (k : ℕ) → block_answer (block_of m gains input before).result ≡ accepted k → RanIt m gains input before
  accepted_ran k e = unnumbered_ran (ap number_in e)

-- ---- the samples of accepted calls are in range, so no line's value is ever limited

sample_small : (z : ℤ) → within least_sample most_sample z ≡ true → nat_abs z ≤ largest_sample
sample_small z e = omega (arith, about z, within_parts least_sample most_sample z e)

all_small : (xs : List ℤ) → all_within least_sample most_sample xs ≡ true → (k : ℕ) → nat_abs (signal_of xs k) ≤ largest_sample
all_small xs e k = by (dec_lt k (length xs))
  where
    by : Dec (k < length xs) → nat_abs (signal_of xs k) ≤ largest_sample
    by (yes h) = sample_small (get_or xs k (pos 0)) (all_at least_sample most_sample xs e k h)
    by (no n) = rw (get_or-eq_default xs (pos 0) {n = k} (omega arith)) (omega arith)

-- two lists that are small are small when joined
append_small : (xs ys : List ℤ) → ((k : ℕ) → nat_abs (signal_of xs k) ≤ largest_sample) → ((k : ℕ) → nat_abs (signal_of ys k) ≤ largest_sample) →
    (k : ℕ) → nat_abs (signal_of (xs ++ ys) k) ≤ largest_sample
append_small [] ys hx hy k = hy k
append_small (x ∷ xs) ys hx hy zero = hx 0
append_small (x ∷ xs) ys hx hy (suc k) = append_small xs ys (λ i. hx (suc i)) hy k

pub samples_small : (m : List ℤ) (cs : List Call) → AllAccepted m cs → (k : ℕ) → nat_abs (signal_of (joined cs) k) ≤ largest_sample
unfolding AllAccepted joined
samples_small m [] a k = omega arith
samples_small m (c ∷ cs) a k =
    append_small c.input (joined cs)
    (all_small c.input (accepted_ran m c.gains c.input c.before (frames_of m c.input) a.0).in_range)
    (samples_small (after_call m c) cs a.1) k

pub free_always : (x : Signal) → ((k : ℕ) → nat_abs (x k) ≤ largest_sample) → (k n : ℕ) → k ≤ 9 → Free published x k 0 n
unfolding Unlimited
free_always x small k n h = free_of published x k 0 n (λ i l. published_low_pass_never_limited x n (λ j _. small j) i (omega arith))
