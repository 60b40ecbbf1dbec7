-- The product with 8,192 is exact, its whole part counts the half steps of gain, and half of one more than that is the nearest
-- gain, a tie upward.
use Rattle.std.proofs.Common.{◌≡◌, ◌+◌, ◌/◌, ◌≤◌, pos, sym, ap, ◌∙◌, arith, ℕ, to_z-of_z, w32, Ok}
use lib.Ieee.{of_bits}
use Rattle.gain.proofs.Factors.{refused, not_refused, Accepted, half_steps, few_steps, steps_cut, accepted_steps}
use Rattle.gain.proofs.factor.factor.Goals as goal

pub returns-then-not-contains : goal.returns-then-not-contains
unfolding of_bits
returns-then-not-contains c =
    let r = c.new.ensures in
    sym (refused c.args.x _ _ _ c.contains.result r.start r.end r.exhausted c.contains.ensures.value c.if-not-contains.true)

pub truncating_f32_to_u64-half_steps-requires-clause-lower_bound : goal.truncating_f32_to_u64-half_steps-requires-clause-lower_bound
unfolding of_bits
truncating_f32_to_u64-half_steps-requires-clause-lower_bound c =
    let r = c.new.ensures in
    (steps_cut c.args.x c.well_formed.0.1 (not_refused c.args.x _ _ _ c.contains.result r.start r.end r.exhausted c.contains.ensures.value c.if-not-contains.false)).above

pub truncating_f32_to_u64-half_steps-requires-clause-upper_bound : goal.truncating_f32_to_u64-half_steps-requires-clause-upper_bound
unfolding of_bits
truncating_f32_to_u64-half_steps-requires-clause-upper_bound c =
    let r = c.new.ensures in
    (steps_cut c.args.x c.well_formed.0.1 (not_refused c.args.x _ _ _ c.contains.result r.start r.end r.exhausted c.contains.ensures.value c.if-not-contains.false)).under

kept : (c : goal.After-truncating_f32_to_u64-half_steps) → Accepted c.args.x
unfolding of_bits
kept c =
    let r = c.new.ensures in
    not_refused c.args.x _ _ _ c.contains.result r.start r.end r.exhausted c.contains.ensures.value c.if-not-contains.false

-- what was cut off the product, and how large it can be
steps : (c : goal.After-truncating_f32_to_u64-half_steps) → (c.truncating_f32_to_u64-half_steps.result ≡ half_steps c.args.x) × (half_steps c.args.x ≤ 32768)
unfolding of_bits
steps c = (c.truncating_f32_to_u64-half_steps.ensures ∙ (steps_cut c.args.x c.well_formed.0.1 (kept c)).whole, few_steps c.args.x (kept c))

pub overflow_add-result : goal.overflow_add-result
overflow_add-result c = omega (arith, steps c)

pub overflow_cast-result : goal.overflow_cast-result
overflow_cast-result c = record { sfits = omega (arith, steps c) }

pub returns : goal.returns
unfolding of_bits
returns c =
    ap Ok (to_z-of_z {w = w32} (record { sfits = omega (arith, steps c) }) ∙ ap (λ (t : ℕ). pos ((t + 1) / 2)) (steps c).0) ∙
    sym (accepted_steps c.args.x (kept c))
