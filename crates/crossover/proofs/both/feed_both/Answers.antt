-- What is lent to the pass are each feed's gains.
use Rattle.std.proofs.Common.{◌≡◌, ◌∙◌, ◌≤◌, ap, ℕ, List, length, take, ℤ, arith}
use lib.Seq.{length-take-le}
use Rattle.octave.specs.Counts.{Counts}
use Rattle.octave.specs.Helpers.{KeptCounts}
use Rattle.octave.proofs.Memories.{counts_few}
use Rattle.crossover.specs.Feeds.{horn, goes}
use Rattle.crossover.specs.Helpers.{FromOn}
use Rattle.crossover.proofs.Feeds.{gains-length, gains-within, first-within, crossed_is}
use Rattle.crossover.proofs.Keeping.{low_are, high_are}
use Rattle.crossover.proofs.both.feed_both.Goals as goal

-- as many of the horn's gains as there are bands
high-long : {m : List ℤ} {k : Counts} → KeptCounts k m → (gains r : List ℤ) (s : ℕ) → length gains ≡ k.bands → FromOn s gains r → length (take (length gains) r) ≡ length gains
high-long k gains r s counted f = ap length (high_are gains r (omega (arith, counts_few k)) s f) ∙ gains-length 1 (goes horn s) gains

pub pass-requires : goal.pass-requires
pass-requires c =
    let p = c.requires in
    let s = c.args.s in
    let gains = c.args.gains.now in
    let high = c.from_on-high in
    let first : s ≤ length gains = omega arith in
    let high-is = high_are gains high.result (omega (arith, counts_few p.memory_kept)) s high.ensures in (
      record {
        memory_kept = p.memory_kept;
        counted = omega (arith, length-take-le s gains first, p.below);
        allowed = first-within s gains p.allowed;
        alike = omega arith;
        whole = p.whole;
      },
      record {
        counted = λ _. omega (arith, high-long p.memory_kept gains high.result s p.counted high.ensures);
        allowed = rw high-is (gains-within horn s gains p.allowed);
        alike = λ _. omega arith;
      },
    )

pub returns : goal.returns
returns c =
    let p = c.requires in
    let a = c.args in
    let gains = a.gains.now in
    let high = c.from_on-high in
    let first : a.s ≤ length gains = omega arith in
    let high-is = high_are gains high.result (omega (arith, counts_few p.memory_kept)) a.s high.ensures in
    crossed_is a.memory.now gains a.s a.input.now (take a.s gains) (low_are gains a.s first) c.pass.ensures.first
    (rw high-is at (c.pass.ensures.again (omega (arith, high-long p.memory_kept gains high.result a.s p.counted high.ensures, counts_few p.memory_kept))))
