use Rattle.std.proofs.Common.{◌≡◌, refl, sym, ap, subst, ◌∙◌, List, ℕ, length, take, replicate, ℤ, pos}
use Rattle.std.proofs.lemmas.List.{take-replicate}
use Rattle.answers.specs.Checks.{Done}
use Rattle.answers.specs.Unit.{turn_room}
use Rattle.answers.proofs.Branches.{judging}
use Rattle.octave.specs.Block.{block_of}
use Rattle.std.specs.Prelude.{Result}
use Rattle.octave.specs.declared.block.BlockError.{BlockError}
use Rattle.blocks.specs.Equalise.{block_for, equalise_of}
use Rattle.blocks.proofs.OneBlock.{Lengths, lengths, call_refused, call_stored}
use Rattle.blocks.proofs.block.equalise.Goals as goal

-- the call on the part that is lent of the cleared outputs, as if on the zeros alone
called : (memory gains input cleared : List ℤ) (skipped bytes : ℕ) (b : Result ℕ BlockError) (m o : List ℤ) → Lengths (length input) skipped bytes → cleared ≡ replicate turn_room (pos 0) →
    Done (block_of memory gains input (take (length input) cleared)) b (m, o) → Done (block_for memory gains input) b (m, o)
called memory gains input cleared skipped bytes b m o l e d =
    subst (λ (t : List ℤ). Done (block_of memory gains input t) b (m, o)) (ap (take (length input)) e ∙ take-replicate (length input) turn_room (pos 0) l.short) d

pub returns-then-not-fits : goal.returns-then-not-fits
unfolding equalise_of
returns-then-not-fits c = search judging depth 12

pub returns-in_err-ok : goal.returns-in_err-ok
returns-in_err-ok c =
    let a = c.args in
    let right = lengths (length a.input.now) a.skipped (length a.stored.now) (sym c.fits.ensures ∙ c.if-not-fits.false) in
    let call = called a.memory.now a.gains.now a.input.now (replicate turn_room (pos 0)) a.skipped (length a.stored.now) c.block.result c.block.new.memory c.block.new.output
    right refl c.block.ensures in
    let done = call_refused a.memory.now a.gains.now a.input.now a.skipped a.stored.now right c.block.result c.block.new.memory c.block.new.output call
    (sym c.in_err-ok.ensures.variant) in
    record { result_is = c.from_residual.ensures ∙ done.result_is; lent_is = done.lent_is }

pub returns : goal.returns
returns c =
    let a = c.args in
    let right = lengths (length a.input.now) a.skipped (length a.stored.now) (sym c.fits.ensures ∙ c.if-not-fits.false) in
    let call = called a.memory.now a.gains.now a.input.now (replicate turn_room (pos 0)) a.skipped (length a.stored.now) c.block.result c.block.new.memory c.block.new.output
    right refl c.block.ensures in
    call_stored a.memory.now a.gains.now a.input.now a.skipped a.stored.now right c.block.result c.block.new.memory c.block.new.output call
    (sym c.in_ok-ok.ensures.variant) _ c.samples_to_bytes.result c.ok-2.result c.samples_to_bytes.new.buffer c.ok-2.ensures.value c.samples_to_bytes.ensures
