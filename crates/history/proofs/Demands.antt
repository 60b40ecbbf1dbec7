-- The third demand over the second's outputs: each output of accepted calls from prepared memory. Assumes nothing.
use mathlib.Core.Path.{◌≡◌, sym, subst, ◌∙◌}
use mathlib.Core.Bool.{true}
use mathlib.Core.List.{List, [], ◌∷◌}
use Prim.Native.Nat.{ℕ, ◌+◌, ◌-◌, ◌*◌, ◌^◌, ◌≤◌, ◌<◌}
use native.Mathlib.Decide.{dec_lt}
use native.Mathlib.Omega.{arith}
use lib.ListN.{length, length-append, get_or-eq_default}
use lib.IntN.{ℤ, pos, neg_ℤ, nat_abs, ◌-ℤ◌, ◌*ℤ◌}
use lib.Signed.{◌<ℤ◌, le_z_yes}
use Rattle.whole.specs.Nearest.{nearest}
use Rattle.answers.specs.Unit.{least_sample, most_sample, least_place, most_place, largest_gain, unity}
use Rattle.answers.proofs.Ranges.{all_at}
use Rattle.whole.specs.Limit.{limit}
use Rattle.whole.proofs.Signed.{var, lit, le_by}
use Rattle.tree.specs.Prototype.{published}
use Rattle.tree.specs.Signal.{back, signal_of, gain_of}
use Rattle.tree.specs.Tree.{low_pass, level, delay, output}
use Rattle.tree.specs.Exact.{common_scale, slack, farthest}
use Rattle.tree.specs.Gains.{IsGain, AllowedGains}
use Rattle.tree.proofs.Distance.{distance}
use Rattle.tree.proofs.Farthest.{never_past_302}
use Rattle.tree.proofs.EqualGains.{equal_gains}
use Rattle.tree.proofs.NeverLimited.{reach, published_reach, published_low_pass_never_limited}
use Rattle.tree.proofs.NoCrack.{above_stays_above, below_stays_below}
use Rattle.answers.specs.Range.{all_within}
use Rattle.octave.specs.Memory.{prepared}
use Rattle.octave.specs.Block.{frames_of}
use Rattle.history.specs.History.{Call, after_call, AllAccepted, joined, carried, written, exact}
use Rattle.octave.proofs.Ranges.{within_parts}
use Rattle.history.proofs.Accepted.{accepted_ran, samples_small}
use Rattle.history.proofs.WholeHistory.{output_at, carried_here, carried_later}

-- ---- the gains of accepted calls are allowed

gain_is : (gains : List ℤ) → all_within (pos 0) (pos largest_gain) gains ≡ true → (m : ℕ) → IsGain (gain_of gains m)
gain_is gains e m = by (dec_lt (m - 1) (length gains))
  where
    by : Dec (m - 1 < length gains) → IsGain (gain_of gains m)
    by (yes h) =
        let p = within_parts (pos 0) (pos largest_gain) (gain_of gains m) (all_at (pos 0) (pos largest_gain) gains e (m - 1) h) in
        record { least = le_by (lit 0) (var (gain_of gains m)) p.0; most = le_by (var (gain_of gains m)) (lit largest_gain) p.1 }
    by (no n) =
        rw (get_or-eq_default gains (pos 0) {n = m - 1} (omega arith)) (record { least = le_z_yes tt; most = le_z_yes tt })

pub carried_allowed : (m : List ℤ) (cs : List Call) → AllAccepted m cs → (n : ℕ) → n < length (joined cs) → (k : ℕ) → IsGain (carried cs n k)
unfolding AllAccepted joined
carried_allowed m [] a n h k = absurd (omega arith)
carried_allowed m (c ∷ cs) a n h k = by (dec_lt n (length c.input)) (λ l. carried_allowed (after_call m c) cs a.1 (n - length c.input) l k)
  where
    by : Dec (n < length c.input) → (n - length c.input < length (joined cs) → IsGain (carried cs (n - length c.input) k)) →
        IsGain (carried (c ∷ cs) n k)
    by (yes l) rest =
        subst IsGain (sym (carried_here c cs n k l))
        (gain_is c.gains (accepted_ran m c.gains c.input c.before (frames_of m c.input) a.0).gains_allowed k)
    by (no q) rest = subst IsGain (sym (carried_later c cs n k (omega arith))) (rest (omega (arith, length-append c.input (joined cs))))

-- ---- the 32-bit limit

-- rule 5.11: line M - j of accepted calls is within its reach, far within 32 bits, and so is each new value of the line below it before the
-- limit
module _ (m : List ℤ) (cs : List Call) (all : AllAccepted m cs) (n : ℕ) where
  pub line_within : (j : ℕ) → nat_abs (level published j (signal_of (joined cs)) n) ≤ reach 140240 j
  line_within j = published_reach (signal_of (joined cs)) n (λ k _. samples_small m cs all k) j

  pub limit_never_acts : (j : ℕ) → j < 9 →
      limit least_place most_place (low_pass published (2 ^ j) (level published j (signal_of (joined cs))) n) ≡
      low_pass published (2 ^ j) (level published j (signal_of (joined cs))) n
  limit_never_acts = published_low_pass_never_limited (signal_of (joined cs)) n (λ k _. samples_small m cs all k)

-- ---- the demands, for the output at n of accepted calls from prepared memory

module _ (M : ℕ) (least : 2 ≤ M) (most : M ≤ 10) (cs : List Call) (all : AllAccepted (prepared M 1) cs) (n : ℕ) (inside : n < length (joined cs)) where
  is : written M cs n ≡ output published M (carried cs) (signal_of (joined cs)) n
  is = output_at M least most cs all n inside

  allowed : AllowedGains M (carried cs) n
  allowed m _ _ = carried_allowed (prepared M 1) cs all n inside m

  -- rule 11.5: |4,096·P·(output - exact output)| ≤ 2,048·P + slack
  pub written_near : nat_abs (pos (unity * common_scale M) *ℤ written M cs n -ℤ exact M cs n) ≤ 2048 * common_scale M + slack published M (carried cs) n
  written_near = rw is (distance published M (carried cs) (signal_of (joined cs)) n (omega arith))

  -- rule 11.6: never past 302 steps
  pub written_within_302 : nat_abs (pos (unity * common_scale M) *ℤ written M cs n -ℤ exact M cs n) ≤ farthest * (unity * common_scale M)
  written_within_302 = rw is (never_past_302 M least most (carried cs) (signal_of (joined cs)) n allowed)

  -- rule 11.7: equal gains
  pub written_equal : (G : ℤ) → ((m : ℕ) → 1 ≤ m → m ≤ M → carried cs n m ≡ G) →
      written M cs n ≡ limit least_sample most_sample (nearest unity (G *ℤ back (signal_of (joined cs)) n (delay published M)))
  written_equal G e = is ∙ equal_gains published M G (carried cs) (signal_of (joined cs)) n (omega arith) e

  -- rule 11.8, no crack: a loud sample never turns over
  pub loud_above : pos (farthest * (unity * common_scale M)) <ℤ exact M cs n → pos 0 <ℤ written M cs n
  loud_above h = rw is (above_stays_above M least most (carried cs) (signal_of (joined cs)) n allowed h)

  pub loud_below : exact M cs n <ℤ neg_ℤ (pos (farthest * (unity * common_scale M))) → written M cs n <ℤ pos 0
  loud_below h = rw is (below_stays_below M least most (carried cs) (signal_of (joined cs)) n allowed h)
