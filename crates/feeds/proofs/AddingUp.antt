-- With every gain 4,096 and neither feed limited, the two feeds add up to the delayed input, exactly (rule 16.5): for each frame of a crossover call among
-- any accepted calls from prepared memory. Assumes nothing.
use mathlib.Core.Path.{◌≡◌, refl, ap, ap₂, ◌∙◌}
use mathlib.Core.Bool.{cond}
use mathlib.Core.List.{List}
use Prim.Native.Nat.{ℕ, ◌+◌, ◌/◌, ◌≤◌, ◌<◌}
use native.Mathlib.Omega.{arith}
use lib.ListN.{length, length-append}
use lib.IntN.{ℤ, pos, nat_abs, ◌+ℤ◌}
use lib.Signed.{◌<ℤ◌}
use Rattle.answers.specs.Unit.{least_sample, most_sample, unity}
use Rattle.whole.specs.Nearest.{nearest}
use Rattle.whole.specs.Limit.{limit}
use Rattle.whole.proofs.Signed.{signed}
use Rattle.whole.proofs.Limit.{limit_cases}
use Rattle.frames.specs.Frames.{side_of}
use Rattle.frames.proofs.Laws.{side-length}
use Rattle.tree.specs.Prototype.{published}
use Rattle.tree.specs.Signal.{back, gain_of}
use Rattle.tree.specs.Tree.{line, delay, gain_sum, output}
use Rattle.octave.specs.Memory.{prepared}
use Rattle.history.specs.History.{joined, carried, side_call, side_calls}
use Rattle.history.proofs.WholeHistory.{carried_here, carried_later}
use Rattle.crossover.specs.Feeds.{Feed, bass, horn, goes}
use Rattle.crossover.proofs.Feeds.{feed_gain_lem}
use Rattle.feeds.specs.Mixed.{Crossing, AnyCall, plain, cross, as_plain, AllTaken, samples, Carries, here, later, fed_on, as_feed, feed_calls, feed_gain, heard}
use Rattle.feeds.proofs.Demands.{side-samples, feed_output}
use Rattle.feeds.proofs.Parts.{rounded_part, parts_add_up}

-- ---- the call that carried a frame

module _ (f : Feed) (c s : ℕ) where
  frames_are : (a : AnyCall) → length (side_of c s (as_feed f a).input) ≡ length (as_plain a).input / c
  frames_are (plain d) = side-length c s (length d.input / c) d.input
  frames_are (cross x) = side-length c s (length x.input / c) x.input

  -- it has the frame's gains
  pub carries_gains : {a : AnyCall} {n : ℕ} {xs : List AnyCall} → Carries c a n xs → (m : ℕ) → feed_gain f c s xs n m ≡ gain_of (as_feed f a).gains m
  unfolding side_calls
  carries_gains {a = a} (here {n = n} {xs = xs} h) m =
      carried_here (side_call c s (as_feed f a)) (side_calls c s (feed_calls f xs)) n m (omega (arith, frames_are a))
  carries_gains {a = a} (later {n = n} {b = b} {xs = xs} w) m =
      let k = length (as_plain b).input / c in
      carried_later (side_call c s (as_feed f b)) (side_calls c s (feed_calls f xs)) (k + n) m (omega (arith, frames_are b)) ∙
      ap (λ (j : ℕ). carried (side_calls c s (feed_calls f xs)) j m) (omega (arith, frames_are b)) ∙ carries_gains w m

  -- the frame is one of the run
  carries_inside : {a : AnyCall} {n : ℕ} {xs : List AnyCall} → Carries c a n xs → n < length (joined (side_calls c s (feed_calls f xs)))
  unfolding side_calls joined
  carries_inside {a = a} (here {n = n} {xs = xs} h) =
      omega (arith, frames_are a, length-append (side_of c s (as_feed f a).input) (joined (side_calls c s (feed_calls f xs))))
  carries_inside (later {n = n} {b = b} {xs = xs} w) =
      omega (arith, frames_are b, carries_inside w, length-append (side_of c s (as_feed f b).input) (joined (side_calls c s (feed_calls f xs))))

-- ---- a value that is at neither end was not limited

not_limited : (lo hi z : ℤ) → lo <ℤ limit lo hi z → limit lo hi z <ℤ hi → limit lo hi z ≡ z
not_limited lo hi z =
    limit_cases lo hi z (λ w. lo <ℤ w → w <ℤ hi → w ≡ z) (λ _ l _. absurd (omega signed)) (λ _ _ h. absurd (omega signed)) (λ _ _ _ _. refl)

-- ---- the two feeds

module _ (M c s : ℕ) (least : 2 ≤ M) (most : M ≤ 10) (below : s < c) (xs : List AnyCall) (all : AllTaken (prepared M c) xs) (n : ℕ) where
  -- a feed's sum over 4,096, rounded, before the limit
  abbrev pub rounded : Feed → ℤ
  rounded f = nearest unity (gain_sum published M (feed_gain f c s xs) (line published M (heard c s xs)) n)

  module _ (x : Crossing) (carries : Carries c (cross x) n xs) (flat : (m : ℕ) → 1 ≤ m → m ≤ M → gain_of x.gains m ≡ pos unity) where
    inside : n < length (side_of c s (samples xs))
    inside = rw (side-samples bass M c s least most below xs all) at (carries_inside bass c s carries)

    -- what was written is the rounded sum, limited
    pub fed_limited : (f : Feed) → fed_on f M c s xs n ≡ limit least_sample most_sample (rounded f)
    unfolding output
    fed_limited f = feed_output f M c s least most below xs all n inside

    gains_are : (f : Feed) (m : ℕ) → 1 ≤ m → m ≤ M → feed_gain f c s xs n m ≡ cond (goes f (nat_abs x.split) m) (pos unity) (pos 0)
    gains_are f m l h =
        carries_gains f c s carries m ∙ feed_gain_lem f (nat_abs x.split) x.gains m l ∙ ap (λ (z : ℤ). cond (goes f (nat_abs x.split) m) z (pos 0)) (flat m l h)

    -- where the limit moved neither
    pub adds_up : ((f : Feed) → limit least_sample most_sample (rounded f) ≡ rounded f) →
        fed_on bass M c s xs n +ℤ fed_on horn M c s xs n ≡ back (heard c s xs) n (delay published M)
    adds_up free =
        let k = nat_abs x.split in
        ap₂ ◌+ℤ◌ (fed_limited bass ∙ free bass ∙ rounded_part published M k (heard c s xs) n bass (feed_gain bass c s xs) (gains_are bass))
        (fed_limited horn ∙ free horn ∙ rounded_part published M k (heard c s xs) n horn (feed_gain horn c s xs) (gains_are horn)) ∙
        parts_add_up published M k (heard c s xs) n (omega arith)

    -- .. as it shows: what was written is at neither end of the sample range
    pub adds_up_inside : ((f : Feed) → (least_sample <ℤ fed_on f M c s xs n) × (fed_on f M c s xs n <ℤ most_sample)) →
        fed_on bass M c s xs n +ℤ fed_on horn M c s xs n ≡ back (heard c s xs) n (delay published M)
    adds_up_inside between =
        adds_up (λ f. not_limited least_sample most_sample (rounded f) (rw (fed_limited f) at (between f).0) (rw (fed_limited f) at (between f).1))
