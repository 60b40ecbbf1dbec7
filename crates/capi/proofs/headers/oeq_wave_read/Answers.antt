-- The reader's answer can be encoded, and what was found stored.
use Rattle.std.proofs.Common.{sym, ap, subst, ◌∙◌}
use Rattle.answers.specs.Answer.{Answer}
use Rattle.wave.specs.Walk.{refusal_of}
use Rattle.wave.specs.declared.found.Found.{Found}
use Rattle.parts.specs.Found.{of_found}
use Rattle.capi.specs.Found.{found_after}
use Rattle.capi.specs.Private.{StartFits}
use Rattle.encoding.proofs.Encoding.{count_fits}
use Rattle.capi.proofs.Reading.{read_counted, start_fits}
use Rattle.capi.proofs.headers.oeq_wave_read.Goals as goal

pub store-requires : goal.store-requires
store-requires c = subst StartFits (sym c.read-answer.ensures) (start_fits c.args.front.now)

pub count-requires : goal.count-requires
count-requires c = count_fits refusal_of c.found.result (c.found.ensures ∙ ap of_found c.read-answer.ensures) (read_counted c.args.front.now)

pub returns-clause-found_after : goal.returns-clause-found_after
returns-clause-found_after c = c.store.ensures ∙ ap (λ (f : Answer Found). found_after f c.args.found.now) c.read-answer.ensures
