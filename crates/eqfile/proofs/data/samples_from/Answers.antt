use Rattle.std.proofs.Common.{rules, ◌≡◌, ap, sym, ◌∙◌}
use Rattle.std.proofs.lemmas.Result.{err_from_is_err_and}
use Rattle.std.specs.Prelude.{is_ok}
use Rattle.eqfile.specs.declared.refusal.Refusal.TheVariants.{NotNumber}
use Rattle.eqfile.proofs.WholeSamples.{taken_yes, taken_no, on_refusal, not_taken, all_taken, joined}
use Rattle.eqfile.proofs.data.samples_from.Goals as goal

pub returns-in_err-map_err : goal.returns-in_err-map_err
returns-in_err-map_err c =
    let a = c.args in
    let size = c.bytes-size.ensures.0 in
    let t = c.bytes_to_samples in
    let refused = sym c.map_err.ensures.variant ∙ ap is_ok c.in_err-map_err.was in
    let no = taken_no a.format a.bytes.now a.samples.now c.bytes-size.result c.min-whole.result size c.min-whole.ensures t.ensures refused in
    let told : c.in_err-map_err.field-0.0 ≡ NotNumber = on_refusal t.result _ _ refused c.in_err-map_err.ensures.cases (λ e h. search rules) in
    let p = err_from_is_err_and c.from_residual.result c.from_residual.ensures.1 in
    rw (p.1, p.2, told)
    (not_taken a.format a.bytes.now a.samples.now c.bytes-size.result c.min-whole.result size c.min-whole.ensures t.new.samples no.0 no.1)

pub returns : goal.returns
returns c =
    let a = c.args in
    let size = c.bytes-size.ensures.0 in
    let t = c.bytes_to_samples in
    let accepted = sym c.map_err.ensures.variant ∙ ap is_ok c.in_ok-map_err.was in
    let yes = taken_yes a.format a.bytes.now a.samples.now c.bytes-size.result c.min-whole.result size c.min-whole.ensures t.ensures accepted in
    all_taken a.format a.bytes.now a.samples.now c.bytes-size.result c.min-whole.result size c.min-whole.ensures _ yes.0
    (joined a.format a.bytes.now a.samples.now c.bytes-size.result c.min-whole.result size c.min-whole.ensures
    t.new.samples c.fill.new.self yes.1 (c.fill.ensures.after (λ y e. e)))
