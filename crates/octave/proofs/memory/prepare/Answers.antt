use Rattle.std.proofs.Common.{◌≡◌, true, false, ap, ap₂, sym, ◌∙◌, List, length, eqb, ℕ, ℤ, set, nat_abs, to_z-of_z}
use Rattle.std.specs.Prelude.{Result, Ok}
use Rattle.std.proofs.lemmas.Result.{err_from_is_err_and}
use lib.Signed.{pos-nat_abs}
use Rattle.answers.proofs.Branches.{other, judging}
use Rattle.octave.specs.declared.memory.PrepareError.{PrepareError}
use Rattle.octave.specs.Counts.{Counts}
use Rattle.octave.specs.Memory.{line_length, memory_length, count_allowed, channels_allowed, counts_of}
use Rattle.octave.proofs.Ranges.{bands_of, channels_of_lem}
use Rattle.octave.proofs.Memories.{counts_are, prepare_refused, prepared_is, delay_is}
use Rattle.octave.proofs.memory.prepare.Goals as goal

abbrev delayed : ℕ → Result ℕ PrepareError
delayed n = Ok n

pub returns-in_err-counts : goal.returns-in_err-counts
returns-in_err-counts c =
    let p = err_from_is_err_and c.from_residual.result c.from_residual.ensures.1 in
    rw (p.1, p.2) (prepare_refused c.args.bands c.args.channels c.args.memory.now _ (c.in_err-counts.ensures ∙ ap₂ counts_of (to_z-of_z c.ranges.bands) (to_z-of_z c.ranges.channels)))

pub returns-then-memory-memory_length : goal.returns-then-memory-memory_length
returns-then-memory-memory_length c =
    let k = counts_are c.args.bands c.args.channels c.in_ok-counts.counts (c.in_ok-counts.ensures ∙ ap₂ counts_of (to_z-of_z c.ranges.bands) (to_z-of_z c.ranges.channels)) in
    let b : count_allowed c.args.bands ≡ true = k.bands_allowed in
    let n : channels_allowed c.args.channels ≡ true = k.channels_allowed_lem in
    let l : eqb (length c.args.memory.now) (memory_length (nat_abs c.args.bands) (nat_abs c.args.channels)) ≡ false =
    other (length c.args.memory.now) (memory_length (nat_abs c.args.bands) (nat_abs c.args.channels)) c.memory_length.result
    (c.memory_length.ensures ∙ ap (λ (x : Counts). memory_length x.bands x.channels) k.counts_are) c.if-memory-memory_length.true in
    search judging depth 12

pub returns : goal.returns
returns c =
    let k = counts_are c.args.bands c.args.channels c.in_ok-counts.counts (c.in_ok-counts.ensures ∙ ap₂ counts_of (to_z-of_z c.ranges.bands) (to_z-of_z c.ranges.channels)) in
    let b : count_allowed c.args.bands ≡ true = k.bands_allowed in
    let n : channels_allowed c.args.channels ≡ true = k.channels_allowed_lem in
    let long : length c.args.memory.now ≡ memory_length (nat_abs c.args.bands) (nat_abs c.args.channels) =
    c.if-memory-memory_length.false ∙ c.memory_length.ensures ∙ ap (λ (x : Counts). memory_length x.bands x.channels) k.counts_are in
    let late = ap delayed (delay_is (nat_abs c.args.bands) (c.line_length.ensures ∙ ap (λ (x : Counts). line_length x.bands) k.counts_are)) in
    let bands-back = to_z-of_z c.ranges.bands ∙ sym (pos-nat_abs c.args.bands (bands_of c.args.bands b).not_negative) in
    let channels-back = to_z-of_z c.ranges.channels ∙ sym (pos-nat_abs c.args.channels (channels_of_lem c.args.channels n).not_negative) in
    let cleared = ap₂ (λ (l : List ℤ) (z : ℤ). set l 1 z) (ap₂ (λ (l : List ℤ) (z : ℤ). set l 0 z) (c.fill.ensures.after (λ y h. h)) bands-back) channels-back ∙ prepared_is (nat_abs c.args.bands) (nat_abs c.args.channels) long in
    search judging depth 12
