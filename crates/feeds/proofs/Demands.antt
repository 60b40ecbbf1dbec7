-- The demands for each feed and each side of it, over any accepted plain and crossover calls from prepared memory (rule 16.4): what holds of the equaliser
-- holds of a feed, whose gains are 0 at the bands of the other. Assumes nothing.
use mathlib.Core.Path.{◌≡◌, sym, ap, ◌∙◌}
use mathlib.Core.List.{List}
use Prim.Native.Nat.{ℕ, ◌+◌, ◌*◌, ◌^◌, ◌≤◌, ◌<◌}
use native.Mathlib.Nat.{zero-add}
use native.Mathlib.Omega.{arith}
use lib.ListN.{length, get_or}
use lib.IntN.{ℤ, pos, neg_ℤ, nat_abs, ◌-ℤ◌, ◌*ℤ◌}
use lib.Signed.{◌<ℤ◌}
use Rattle.answers.specs.Unit.{least_place, most_place, unity}
use Rattle.whole.specs.Limit.{limit}
use Rattle.frames.specs.Frames.{side_of}
use Rattle.tree.specs.Prototype.{published}
use Rattle.tree.specs.Signal.{signal_of}
use Rattle.tree.specs.Tree.{low_pass, level, output}
use Rattle.tree.specs.Exact.{common_scale, slack, farthest}
use Rattle.octave.specs.Memory.{prepared}
use Rattle.history.specs.History.{Played, played, AllAccepted, joined, from, side_calls, written_on}
use Rattle.history.proofs.From.{from-ext}
use Rattle.history.proofs.Weighed.{output_ext}
use Rattle.history.proofs.WholeHistory.{output_at}
use Rattle.history.proofs.Sides.{side_accepted, side-joined}
use Rattle.history.proofs.SideDemands.{side_history, side_never_limited, side-written, side_near, side_within_302, side_loud_above, side_loud_below}
use Rattle.crossover.specs.Feeds.{Feed}
use Rattle.feeds.specs.Mixed.{AnyCall, mixed, AllTaken, samples, fed_on, feed_calls, feed_gain, heard, exact_on}
use Rattle.feeds.proofs.Runs.{feeds_accepted, feeds_played, feeds_joined}

module _ (f : Feed) (M c s : ℕ) (least : 2 ≤ M) (most : M ≤ 10) (below : s < c) (xs : List AnyCall) (all : AllTaken (prepared M c) xs) where
  takes : AllAccepted (prepared M c) (feed_calls f xs)
  takes = feeds_accepted f (prepared M c) xs all

  is : mixed f (prepared M c) xs ≡ played (prepared M c) (feed_calls f xs)
  is = feeds_played f (prepared M c) xs all

  -- one side of the samples
  pub side-samples : joined (side_calls c s (feed_calls f xs)) ≡ side_of c s (samples xs)
  side-samples = side-joined M c s below (feed_calls f xs) takes ∙ ap (side_of c s) (feeds_joined f xs)

  -- ---- the second demand

  -- rule 11.2: a side of a feed's outputs joined is the tree's for that side of the samples
  pub feed_history : side_of c s (mixed f (prepared M c) xs).output ≡ from 0 (length (side_of c s (samples xs))) (output published M (feed_gain f c s xs) (heard c s xs))
  feed_history =
      ap (λ (p : Played). side_of c s p.output) is ∙ (rw side-samples at (side_history M c s least most below (feed_calls f xs) takes))

  -- ---- the 32-bit limit

  -- rule 5.11: it never acts
  pub feed_never_limited : (n j : ℕ) → j < 9 →
      limit least_place most_place (low_pass published (2 ^ j) (level published j (heard c s xs)) n) ≡ low_pass published (2 ^ j) (level published j (heard c s xs)) n
  feed_never_limited n j h = rw side-samples at (side_never_limited M c s least most below (feed_calls f xs) takes n j h)

  -- ---- the third demand, for the output of frame n

  module _ (n : ℕ) (inside : n < length (side_of c s (samples xs))) where
    among : n < length (joined (side_calls c s (feed_calls f xs)))
    among = rw side-samples inside

    fed_is : fed_on f M c s xs n ≡ written_on M c s (feed_calls f xs) n
    fed_is = ap (λ (p : Played). get_or p.output (c * n + s) (pos 0)) is

    -- rule 11.2, frame by frame
    pub feed_output : fed_on f M c s xs n ≡ output published M (feed_gain f c s xs) (heard c s xs) n
    feed_output =
        let mine = side_calls c s (feed_calls f xs) in
        fed_is ∙ side-written M c s least most below (feed_calls f xs) takes n among ∙
        (rw side-samples at (output_at M least most mine (side_accepted M c s below (feed_calls f xs) takes) n among))

    -- rule 11.5: |4,096·P·(output - exact output)| ≤ 2,048·P + slack
    pub feed_near : nat_abs (pos (unity * common_scale M) *ℤ fed_on f M c s xs n -ℤ exact_on f M c s xs n) ≤ 2048 * common_scale M + slack published M (feed_gain f c s xs) n
    feed_near = rw fed_is (rw side-samples at (side_near M c s least most below (feed_calls f xs) takes n among))

    -- rule 11.6: never past 302 steps
    pub feed_within_302 : nat_abs (pos (unity * common_scale M) *ℤ fed_on f M c s xs n -ℤ exact_on f M c s xs n) ≤ farthest * (unity * common_scale M)
    feed_within_302 = rw fed_is (rw side-samples at (side_within_302 M c s least most below (feed_calls f xs) takes n among))

    -- rule 11.8, no crack: a loud sample never turns over
    pub feed_loud_above : pos (farthest * (unity * common_scale M)) <ℤ exact_on f M c s xs n → pos 0 <ℤ fed_on f M c s xs n
    feed_loud_above h = rw fed_is (side_loud_above M c s least most below (feed_calls f xs) takes n among (rw side-samples h))

    pub feed_loud_below : exact_on f M c s xs n <ℤ neg_ℤ (pos (farthest * (unity * common_scale M))) → fed_on f M c s xs n <ℤ pos 0
    feed_loud_below h = rw fed_is (side_loud_below M c s least most below (feed_calls f xs) takes n among (rw side-samples h))

-- rules 11.3, 16.7: how the samples were cut into calls makes no difference to a feed, if each has the same gains in it
pub feed_cut : (f : Feed) (M c s : ℕ) → 2 ≤ M → M ≤ 10 → s < c → (xs ys : List AnyCall) → AllTaken (prepared M c) xs → AllTaken (prepared M c) ys → samples xs ≡ samples ys →
    ((n m : ℕ) → n < length (side_of c s (samples xs)) → feed_gain f c s xs n m ≡ feed_gain f c s ys n m) →
    side_of c s (mixed f (prepared M c) xs).output ≡ side_of c s (mixed f (prepared M c) ys).output
feed_cut f M c s least most below xs ys all others e g =
    let heard-in : List ℤ = side_of c s (samples xs) in
    feed_history f M c s least most below xs all ∙
    from-ext 0 (length heard-in) (λ i _ h. output_ext published M (feed_gain f c s xs) (feed_gain f c s ys) (heard c s xs) i (λ m. g i m (omega (arith, zero-add (length heard-in))))) ∙
    ap (λ (l : List ℤ). from 0 (length (side_of c s l)) (output published M (feed_gain f c s ys) (signal_of (side_of c s l)))) e ∙
    sym (feed_history f M c s least most below ys others)
