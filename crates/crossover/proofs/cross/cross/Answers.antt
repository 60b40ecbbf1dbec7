-- Each return has the checks that led there.
use Rattle.std.proofs.Common.{◌≡◌, Bool, true, false, cond, ◌&&◌, zero, suc, leb, eqb, ◌≤◌, ◌<◌, lt-ltb, le-ltb, le-leb, Equal, Greater, w64, ℕ, ◌%◌, ◌-◌, ◌∙◌, ap, ap₂, refl, sym, length, List, ℤ, pos, nat_abs, FitsSigned, w32, to_z, of_z, to_z-of_z, arith}
use Rattle.std.specs.Prelude.{Result, Ok, Err}
use Rattle.std.proofs.lemmas.Result.{err_from_is_err_and}
use Rattle.std.proofs.lemmas.Bool.{lt-leb}
use Rattle.std.specs.Ordering.{is_lt, is_le, nat_cmp}
use Rattle.std.specs.Int.{FitsUnsignedBits}
use native.Mathlib.Decide.{dec_lt}
use lib.IntN.{negsuc}
use borrow.Author.Tests.{eqb-true}
use mir.Val.{Fits}
use mir.Facts.{Fits-nat_abs}
use Rattle.answers.specs.Range.{within}
use Rattle.answers.specs.Unit.{largest_gain}
use Rattle.answers.proofs.Laws.{refuses, goes_on}
use Rattle.answers.proofs.Branches.{branches, judging, none_fails}
use Rattle.octave.specs.declared.memory.Fault.{Fault}
use Rattle.octave.specs.Counts.{Counts}
use Rattle.octave.specs.Helpers.{KeptCounts}
use Rattle.octave.specs.Memory.{bands_in, channels_in}
use Rattle.octave.specs.Block.{frames_of}
use Rattle.octave.proofs.Memories.{kept_wrong, kept_right, counts_few, bands_kept}
use Rattle.octave.proofs.Ranges.{count_of_lem}
use Rattle.octave.proofs.Inputs.{input_refused, input_accepted, input_right, input_kept}
use Rattle.crossover.specs.declared.cross.CrossError.{CrossError}
use Rattle.crossover.specs.declared.cross.CrossError.TheVariants.{Memory, Input}
use Rattle.crossover.specs.Cross.{split_allowed, crossed}
use Rattle.crossover.proofs.cross.cross.Goals as goal

-- ---- the split, as it is tried

not_less : (t : Bool) → is_lt (cond t Equal Greater) ≡ false
not_less true = refl
not_less false = refl

below_is : (n s : ℕ) → 1 ≤ s → is_lt (nat_cmp s n) ≡ leb s (n - 1)
below_is n s some = by (dec_lt s n)
  where
    by : Dec (s < n) → is_lt (nat_cmp s n) ≡ leb s (n - 1)
    by (yes l) = rw (lt-ltb s n l, le-leb s (n - 1) (omega arith)) refl
    by (no q) = rw (le-ltb s n (omega arith), lt-leb s (n - 1) (omega arith)) (not_less (eqb s n))

tested : (n s : ℕ) → (is_le (nat_cmp 1 s) && is_lt (nat_cmp s n)) ≡ split_allowed n (pos s)
tested n zero = refl
tested n (suc zero) = below_is n 1 (omega arith)
tested n (suc (suc k)) = rw (lt-ltb 1 (suc (suc k)) (omega arith), le-ltb (suc (suc k)) 1 (omega arith)) (below_is n (suc (suc k)) (omega arith))

s-is : {s : ℕ} {split : ℤ} → FitsSigned w32 split → FitsUnsignedBits 64 (to_z w32 (of_z w32 split)) × (s ≡ nat_abs (to_z w32 (of_z w32 split))) → s ≡ nat_abs split
s-is f e = e.1 ∙ ap nat_abs (to_z-of_z f)

-- a place in the row of gains, or not
split-held : {m : List ℤ} {k : Counts} {n s : ℕ} {split : ℤ} {r t : Bool} → KeptCounts k m → n ≡ k.bands → FitsSigned w32 split →
    FitsUnsignedBits 64 (to_z w32 (of_z w32 split)) × (s ≡ nat_abs (to_z w32 (of_z w32 split))) → r ≡ (is_le (nat_cmp 1 s) && is_lt (nat_cmp s n)) → r ≡ t →
    split_allowed (bands_in m) split ≡ t
split-held {m} {k} {n} {s} {split} {r} {t} kept b f e is told = by split (rw (to_z-of_z f) at e)
  where
    by : (z : ℤ) → FitsUnsignedBits 64 z × (s ≡ nat_abs z) → split_allowed (bands_in m) z ≡ t
    by (pos i) h = ap₂ (λ (M x : ℕ). split_allowed M (pos x)) (sym (bands_kept kept b)) (sym h.1) ∙ sym (tested n s) ∙ sym is ∙ told
    by (negsuc i) h = absurd h.0

-- .. or below 0
split-below : (M : ℕ) (z : ℤ) → FitsSigned w32 z → (FitsUnsignedBits 64 (to_z w32 (of_z w32 z)) → ⊥) → split_allowed M z ≡ false
split-below M z f n = by z (Fits-nat_abs tt f) (rw (to_z-of_z f) at n)
  where
    by : (z : ℤ) → Fits w64 (nat_abs z) → (FitsUnsignedBits 64 z → ⊥) → split_allowed M z ≡ false
    by (pos i) g h = absurd (h g.fits)
    by (negsuc i) g h = refl

abbrev faulty : Fault → Result ℕ CrossError
faulty f = Err (Memory f)

abbrev written : ℕ → Result ℕ CrossError
written n = Ok n

pub returns-in_err-counts : goal.returns-in_err-counts
returns-in_err-counts c =
    let p = err_from_is_err_and c.from_residual.result c.from_residual.ensures.1 in
    let wrong = kept_wrong c.args.memory.now _ c.in_err-counts.ensures in
    let told = wrong.0 in
    let is = ap faulty wrong.1 in
    rw (p.1, p.2) (search refuses depth 12)

pub returns-then-gains-bands : goal.returns-then-gains-bands
returns-then-gains-bands c =
    let k = kept_right c.args.memory.now c.in_ok-counts.counts c.in_ok-counts.ensures in
    let b = bands_kept k c.bands.ensures in
    search judging depth 12

pub returns-in_default : goal.returns-in_default
returns-in_default c =
    let k = kept_right c.args.memory.now c.in_ok-counts.counts c.in_ok-counts.ensures in
    let b = bands_kept k c.bands.ensures in
    let w = split-held k (c.if-gains-bands.false ∙ c.bands.ensures) c.ranges.split c.in-Ok.ensures c.contains.ensures.value c.if-contains.false in
    search judging depth 12

pub returns-in_default-2 : goal.returns-in_default-2
returns-in_default-2 c =
    let k = kept_right c.args.memory.now c.in_ok-counts.counts c.in_ok-counts.ensures in
    let b = bands_kept k c.bands.ensures in
    let w = split-below (bands_in c.args.memory.now) c.args.split c.ranges.split (rw c.in_default.is at c.try_from.ensures) in
    search judging depth 12

pub returns-then-is_some : goal.returns-then-is_some
returns-then-is_some c =
    let k = kept_right c.args.memory.now c.in_ok-counts.counts c.in_ok-counts.ensures in
    let b = bands_kept k c.bands.ensures in
    let w = split-held k (c.if-gains-bands.false ∙ c.bands.ensures) c.ranges.split c.in-Ok.ensures c.contains.ensures.value c.if-contains.true in
    search judging depth 12

pub returns-then-bass-input : goal.returns-then-bass-input
returns-then-bass-input c =
    let k = kept_right c.args.memory.now c.in_ok-counts.counts c.in_ok-counts.ensures in
    let b = bands_kept k c.bands.ensures in
    let w = split-held k (c.if-gains-bands.false ∙ c.bands.ensures) c.ranges.split c.in-Ok.ensures c.contains.ensures.value c.if-contains.true in
    search judging depth 14

pub returns-then-horn-input : goal.returns-then-horn-input
returns-then-horn-input c =
    let k = kept_right c.args.memory.now c.in_ok-counts.counts c.in_ok-counts.ensures in
    let b = bands_kept k c.bands.ensures in
    let w = split-held k (c.if-gains-bands.false ∙ c.bands.ensures) c.ranges.split c.in-Ok.ensures c.contains.ensures.value c.if-contains.true in
    search judging depth 14

pub returns-in_err-frames : goal.returns-in_err-frames
returns-in_err-frames c =
    let m = c.args.memory.now in
    let gains = c.args.gains.now in
    let input = c.args.input.now in
    let k = kept_right m c.in_ok-counts.counts c.in_ok-counts.ensures in
    let b = bands_kept k c.bands.ensures in
    let w = split-held k (c.if-gains-bands.false ∙ c.bands.ensures) c.ranges.split c.in-Ok.ensures c.contains.ensures.value c.if-contains.true in
    let p = err_from_is_err_and c.from_residual-in_err-frames.result c.from_residual-in_err-frames.ensures.1 in
    let rest =
    input_refused (m, c.args.bass.now, c.args.horn.now) (crossed m gains (nat_abs c.args.split) input) (written (frames_of m input)) (λ e. Err (Input e)) (channels_in m) input _
    (input_kept k input c.in_err-frames.ensures) in
    rw (p.1, p.2) (search (goes_on, branches) depth 14)

pub feed_both-requires : goal.feed_both-requires
feed_both-requires c =
    let gains = c.args.gains.now in
    let input = c.args.input.now in
    let counts = c.in_ok-counts.counts in
    let right = input_right counts.channels input c.in_ok-frames.frames c.in_ok-frames.ensures in
    let k = kept_right c.args.memory.now counts c.in_ok-counts.ensures in
    let w = split-held k (c.if-gains-bands.false ∙ c.bands.ensures) c.ranges.split c.in-Ok.ensures c.contains.ensures.value c.if-contains.true in
    record {
      memory_kept = k;
      counted = omega arith;
      below = omega (arith, counts_few k, bands_kept k refl, (count_of_lem 0 (bands_in c.args.memory.now - 1) c.args.split w).to, s-is c.ranges.split c.in-Ok.ensures);
      allowed = none_fails (within (pos 0) (pos largest_gain)) gains c.first_outside.result c.first_outside.ensures (sym c.is_some.ensures ∙ c.if-is_some.false);
      low_alike = omega arith;
      high_alike = omega arith;
      whole = eqb-true (length input % counts.channels) 0 right.whole;
    }

pub returns : goal.returns
returns c =
    let m = c.args.memory.now in
    let gains = c.args.gains.now in
    let input = c.args.input.now in
    let k = kept_right m c.in_ok-counts.counts c.in_ok-counts.ensures in
    let b = bands_kept k c.bands.ensures in
    let w = split-held k (c.if-gains-bands.false ∙ c.bands.ensures) c.ranges.split c.in-Ok.ensures c.contains.ensures.value c.if-contains.true in
    let right = input_right (channels_in m) input c.in_ok-frames.frames (input_kept k input c.in_ok-frames.ensures) in
    let fed = rw (s-is c.ranges.split c.in-Ok.ensures) at c.feed_both.ensures in
    let rest =
    input_accepted (m, c.args.bass.now, c.args.horn.now) (crossed m gains (nat_abs c.args.split) input) (written (frames_of m input)) (λ e. Err (Input e)) (channels_in m) input right
    (ap written right.frames_are) fed in
    search (goes_on, branches) depth 14
