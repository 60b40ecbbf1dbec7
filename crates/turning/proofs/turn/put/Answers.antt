-- The block is that of the run's turn, and its bytes are due.
use Rattle.std.proofs.Common.{rules, ◌≡◌, ap, sym, ◌∙◌, arith}
use Rattle.std.proofs.lemmas.Result.{err_from_is_err_and}
use Rattle.std.specs.Prelude.{is_ok}
use lib.Seq.{length-take-le}
use Rattle.eqfile.proofs.WholeSamples.{on_refusal}
use Rattle.turning.specs.declared.turn.Stop.TheVariants.{NotANumber}
use Rattle.turning.proofs.Storing.{samples_few, skipped_few, input_long, stopped, read, samples_there, bytes_there, bytes_long, memory_is, not_refused, stored_there, due, not_taken}
use Rattle.turning.proofs.turn.put.Goals as goal

pub overflow_mul-fed : goal.overflow_mul-fed
overflow_mul-fed g c = omega (arith, samples_few c.requires c.count-sides.ensures.0)

pub overflow_mul-skipped : goal.overflow_mul-skipped
overflow_mul-skipped g c = omega (arith, skipped_few c.requires c.count-sides.ensures.0)

pub slice_bounds-input-end : goal.slice_bounds-input-end
slice_bounds-input-end g c = omega (arith, samples_few c.requires c.count-sides.ensures.0)

pub slice_bounds-samples_from-end : goal.slice_bounds-samples_from-end
slice_bounds-samples_from-end g c = sym (input_long c.requires c.count-sides.ensures.0)

pub returns-in_err-map_err : goal.returns-in_err-map_err
returns-in_err-map_err g c =
    let refused = sym c.map_err.ensures.variant ∙ ap is_ok c.in_err-map_err.was in
    let told : c.in_err-map_err.field-0.0 ≡ NotANumber = on_refusal c.samples_from.result _ _ refused c.in_err-map_err.ensures.cases (λ e h. search rules) in
    let p = err_from_is_err_and c.from_residual.result c.from_residual.ensures.1 in
    rw (p.1, p.2, told) (stopped c.requires c.count-sides.ensures.0 c.samples_from.ensures c.map_err.ensures.variant c.in_err-map_err.was)

pub slice_bounds-input-end-2 : goal.slice_bounds-input-end-2
slice_bounds-input-end-2 g c = samples_there (read c.requires c.count-sides.ensures.0 c.samples_from.ensures c.map_err.ensures.variant c.in_ok-map_err.was)

pub slice_bounds-equalise-end : goal.slice_bounds-equalise-end
slice_bounds-equalise-end g c =
    sym (length-take-le _ _ (samples_there (read c.requires c.count-sides.ensures.0 c.samples_from.ensures c.map_err.ensures.variant c.in_ok-map_err.was)))

pub slice_bounds-stored-end : goal.slice_bounds-stored-end
slice_bounds-stored-end g c = bytes_there (read c.requires c.count-sides.ensures.0 c.samples_from.ensures c.map_err.ensures.variant c.in_ok-map_err.was)

pub slice_bounds-equalise-end-2 : goal.slice_bounds-equalise-end-2
slice_bounds-equalise-end-2 g c = sym (bytes_long (read c.requires c.count-sides.ensures.0 c.samples_from.ensures c.map_err.ensures.variant c.in_ok-map_err.was))

pub unwrap-n-requires : goal.unwrap-n-requires
unwrap-n-requires g c = not_refused (read c.requires c.count-sides.ensures.0 c.samples_from.ensures c.map_err.ensures.variant c.in_ok-map_err.was) c.equalise.ensures

pub slice_bounds-stored-end-2 : goal.slice_bounds-stored-end-2
slice_bounds-stored-end-2 g c =
    let all = read c.requires c.count-sides.ensures.0 c.samples_from.ensures c.map_err.ensures.variant c.in_ok-map_err.was in
    stored_there all c.equalise.ensures c.unwrap-n.ensures c.equalise.auto.stored

pub slice_bounds-hand-end : goal.slice_bounds-hand-end
slice_bounds-hand-end g c =
    let all = read c.requires c.count-sides.ensures.0 c.samples_from.ensures c.map_err.ensures.variant c.in_ok-map_err.was in
    sym (length-take-le _ _ (stored_there all c.equalise.ensures c.unwrap-n.ensures c.equalise.auto.stored))

pub hand-requires : goal.hand-requires
hand-requires g c =
    let all = read c.requires c.count-sides.ensures.0 c.samples_from.ensures c.map_err.ensures.variant c.in_ok-map_err.was in
    due all c.equalise.ensures c.unwrap-n.ensures c.equalise.auto.stored

pub returns-in_err-hand : goal.returns-in_err-hand
returns-in_err-hand g c =
    let all = read c.requires c.count-sides.ensures.0 c.samples_from.ensures c.map_err.ensures.variant c.in_ok-map_err.was in
    not_taken c.in_err-hand.field-0.0 c.equalise.new.memory c.from_residual-in_err-hand.result c.from_residual-in_err-hand.ensures.1 all.came

pub returns : goal.returns
returns g c =
    let all = read c.requires c.count-sides.ensures.0 c.samples_from.ensures c.map_err.ensures.variant c.in_ok-map_err.was in
    (all.came.numbers, memory_is all c.equalise.ensures)
