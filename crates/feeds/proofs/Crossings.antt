-- One crossover call that is accepted: it is accepted as a plain call of either feed, and leaves that call's memory and output (rules 16.3, 16.4).
-- Assumes nothing.
use mathlib.Core.Path.{◌≡◌, refl, sym, ap, ◌∙◌}
use mathlib.Core.Bool.{true}
use mathlib.Core.List.{List}
use Prim.Native.Nat.{ℕ, ◌%◌}
use borrow.Author.Tests.{eq-eqb}
use lib.Dec.{eqb, leb}
use lib.ListN.{length}
use lib.IntN.{ℤ, pos, nat_abs}
use Rattle.std.specs.Prelude.{Result, Ok}
use Rattle.answers.specs.Answer.{accepted, number_in}
use Rattle.answers.specs.Checks.{all_hold, Outcome}
use Rattle.answers.specs.Range.{all_within}
use Rattle.answers.specs.Unit.{least_sample, most_sample, largest_gain, block_limit}
use Rattle.answers.proofs.Laws.{and_left, and_right, all_accept}
use Rattle.octave.specs.declared.block.BlockError.{BlockError}
use Rattle.octave.specs.Answer.{block_answer}
use Rattle.octave.specs.Memory.{bands_in, channels_in, accepts}
use Rattle.octave.specs.Block.{frames_of, block_checks, equalised, block_of}
use Rattle.octave.proofs.Refusals.{block_held}
use Rattle.history.specs.History.{called}
use Rattle.crossover.specs.Answer.{cross_answer}
use Rattle.crossover.specs.Feeds.{Feed, bass, horn, goes, feed_gains}
use Rattle.crossover.specs.Cross.{split_allowed, cross_checks, crossed}
use Rattle.crossover.proofs.Feeds.{gains-length, gains-within, feed_is}
use Rattle.crossover.proofs.Refusals.{cross_held}
use Rattle.feeds.specs.Mixed.{Crossing, cross, crossing, places_in, as_feed}

-- ---- what both calls ask

-- all that a crossover call checks but its split and its places, for any gains
record Good (m gains input : List ℤ) : Type 0 where
  kept : accepts m ≡ true
  counted : eqb (length gains) (bands_in m) ≡ true
  allowed : all_within (pos 0) (pos largest_gain) gains ≡ true
  whole : eqb (length input % channels_in m) 0 ≡ true
  short : leb (frames_of m input) block_limit ≡ true
  in_range : all_within least_sample most_sample input ≡ true

module _ (m gains input : List ℤ) where
  block_good : (before : List ℤ) → all_hold (block_checks m gains input before) ≡ true → Good m gains input
  unfolding all_hold
  block_good before h =
      record {
        kept = search and_left depth 12;
        counted = search (and_left, and_right) depth 12;
        allowed = search (and_left, and_right) depth 12;
        whole = search (and_left, and_right) depth 12;
        short = search (and_left, and_right) depth 12;
        in_range = search (and_left, and_right) depth 12;
      }

  good_block : (before : List ℤ) → Good m gains input → eqb (length before) (length input) ≡ true → all_hold (block_checks m gains input before) ≡ true
  unfolding all_hold
  good_block before g e = rw (g.kept, g.counted, g.allowed, e, g.whole, g.short, g.in_range) refl

-- the gains of a feed are as good
good_for : (f : Feed) (m gains input : List ℤ) (s : ℕ) → Good m gains input → Good m (feed_gains f s gains) input
good_for f m gains input s g =
    record {
      kept = g.kept;
      counted = ap (λ (k : ℕ). eqb k (bands_in m)) (gains-length 1 (goes f s) gains) ∙ g.counted;
      allowed = gains-within f s gains g.allowed;
      whole = g.whole;
      short = g.short;
      in_range = g.in_range;
    }

-- ---- an accepted crossover call

module _ (m : List ℤ) (x : Crossing) where
  abbrev checks_hold : Type 0
  checks_hold = all_hold (cross_checks m x.gains x.split x.input (x.before bass) (x.before horn)) ≡ true

  -- it ran its samples: every check held
  pub record Ran : Type 0 where
    pub is : crossing m x ≡ record { result = Ok (frames_of m x.input); lent = crossed m x.gains (nat_abs x.split) x.input }
    good : Good m x.gains x.input
    pub long : (f : Feed) → eqb (length (x.before f)) (length x.input) ≡ true

  good_of : checks_hold → Good m x.gains x.input
  unfolding all_hold
  good_of h =
      record {
        kept = search and_left depth 14;
        counted = search (and_left, and_right) depth 14;
        allowed = search (and_left, and_right) depth 14;
        whole = search (and_left, and_right) depth 14;
        short = search (and_left, and_right) depth 14;
        in_range = search (and_left, and_right) depth 14;
      }

  long_of : checks_hold → (f : Feed) → eqb (length (x.before f)) (length x.input) ≡ true
  unfolding all_hold
  long_of h bass = search (and_left, and_right) depth 14
  long_of h horn = search (and_left, and_right) depth 14

  pub crossing_ran : number_in (cross_answer (crossing m x).result) ≡ 0 → Ran
  crossing_ran e =
      let h = cross_held m x.gains x.split x.input (x.before bass) (x.before horn) e in
      record {
        is =
            all_accept (m, x.before bass, x.before horn) (crossed m x.gains (nat_abs x.split) x.input) (Ok (frames_of m x.input))
            (cross_checks m x.gains x.split x.input (x.before bass) (x.before horn)) h;
        good = good_of h;
        long = long_of h;
      }

-- ---- as a plain call

module _ (m : List ℤ) (x : Crossing) (ran : Ran m x) where
  -- rule 16.4: as a plain call of either feed it is accepted, and does this
  pub as_feed_lem : (f : Feed) → called m (as_feed f (cross x)) ≡
      record { result = Ok (frames_of m x.input); lent = equalised m (feed_gains f (nat_abs x.split) x.gains) x.input }
  as_feed_lem f =
      let gains = feed_gains f (nat_abs x.split) x.gains in
      all_accept (m, x.before f) (equalised m gains x.input) (Ok (frames_of m x.input)) (block_checks m gains x.input (x.before f))
      (good_block m gains x.input (x.before f) (good_for f m x.gains x.input (nat_abs x.split) ran.good) (ran.long f))

  -- rule 16.4: that feed of its outputs is the plain call's output
  pub feed_same : (f : Feed) → places_in f (crossing m x).lent ≡ (called m (as_feed f (cross x))).lent.1
  feed_same f =
      ap (λ (o : Outcome _ (List ℤ × List ℤ × List ℤ)). places_in f o.lent) ran.is ∙ of f ∙ sym (ap (λ (o : Outcome (Result ℕ BlockError) (List ℤ × List ℤ)). o.lent.1) (as_feed_lem f))
    where
      of : (f : Feed) → places_in f (crossed m x.gains (nat_abs x.split) x.input) ≡ (equalised m (feed_gains f (nat_abs x.split) x.gains) x.input).1
      of bass = feed_is bass m x.gains (nat_abs x.split) x.input
      of horn = feed_is horn m x.gains (nat_abs x.split) x.input

  -- rule 16.3: the memory afterwards is that of the plain call with the same samples, whatever its gains
  pub memory_same_as : (gains : List ℤ) → (crossing m x).lent.0 ≡ (equalised m gains x.input).0
  memory_same_as gains = ap (λ (o : Outcome _ (List ℤ × List ℤ × List ℤ)). o.lent.0) ran.is

  -- rule 16.3: and that plain call is accepted: a crossover call may stand where a plain one may
  pub plain_accepted : (before : List ℤ) → length before ≡ length x.input →
      block_of m x.gains x.input before ≡ record { result = Ok (frames_of m x.input); lent = equalised m x.gains x.input }
  plain_accepted before e =
      all_accept (m, before) (equalised m x.gains x.input) (Ok (frames_of m x.input)) (block_checks m x.gains x.input before)
      (good_block m x.gains x.input before ran.good (eq-eqb (length before) (length x.input) e))

-- rule 16.3: where a plain call is accepted, so is a crossover call with its gains and samples, whatever allowed split; it answers the same number
pub crossing_accepted : (m : List ℤ) (x : Crossing) (before : List ℤ) → number_in (block_answer (block_of m x.gains x.input before).result) ≡ 0 →
    split_allowed (bands_in m) x.split ≡ true → ((f : Feed) → length (x.before f) ≡ length x.input) → cross_answer (crossing m x).result ≡ accepted (frames_of m x.input)
unfolding all_hold
crossing_accepted m x before e split long =
    let g = block_good m x.gains x.input before (block_held m x.gains x.input before e) in
    let l = eq-eqb (length (x.before bass)) (length x.input) (long bass) in
    let h = eq-eqb (length (x.before horn)) (length x.input) (long horn) in
    ap (λ (o : Outcome _ (List ℤ × List ℤ × List ℤ)). cross_answer o.result)
    (all_accept (m, x.before bass, x.before horn) (crossed m x.gains (nat_abs x.split) x.input) (Ok (frames_of m x.input))
    (cross_checks m x.gains x.split x.input (x.before bass) (x.before horn))
    (rw (g.kept, g.counted, split, g.allowed, l, h, g.whole, g.short, g.in_range) refl))
