use Rattle.std.proofs.Common.{refl, ap₂, ◌∙◌, ◌-ℤ◌}
use Rattle.weighing.proofs.Differing.{lessened, found_on, differ, small, above, below_starts}
use Rattle.weighing.proofs.weights.Weights.of.Goals as goal

pub loop-i-preserved : goal.loop-i-preserved
loop-i-preserved c =
    let a = c.gain in
    let b = c.gain-in-loop-i in
    let less = lessened a.result b.result (record { sfits = a.type_inv }) (record { sfits = b.type_inv }) a.ensures.1 b.ensures.1 in
    found_on c.args.gains.now c.loop-i.difference-items c.loop-i.i _ c.loop-i-test.true (less.value ∙ ap₂ ◌-ℤ◌ a.ensures.0 b.ensures.0) c.loop-i.invariant

pub invariant_of-result : goal.invariant_of-result
invariant_of-result c =
    let l = c.loop-i in
    record {
      few = c.requires.counted;
      small = small c.args.gains.now l.difference-items c.requires l.invariant c.loop-i-test.false;
      above = above c.args.gains.now l.difference-items c.requires l.invariant c.loop-i-test.false;
      below = below_starts _ _;
    }

pub returns : goal.returns
returns c = (differ c.args.gains.now c.loop-i.difference-items c.requires c.loop-i.invariant c.loop-i-test.false, refl)
