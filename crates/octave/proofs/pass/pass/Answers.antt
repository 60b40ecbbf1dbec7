use Rattle.std.proofs.Common.{◌≡◌, ℕ, ◌-◌, ◌≤◌, ◌<◌, length, List, ℤ, nat_abs, FitsSigned, w32, ap, sym, subst, arith, rules}
use borrow.Rule.Slice.PartMut.{put_mid, same_len_mid}
use mir.Facts.{to_z-of_z, Fits-nat_abs}
use Rattle.whole.proofs.Rounded.{raw}
use Rattle.octave.specs.Counts.{Counts}
use Rattle.octave.specs.Helpers.{Judged, JudgedAgain}
use Rattle.octave.specs.Memory.{held_in, line_length}
use Rattle.octave.proofs.Memories.{not_negative, counts_accepted, bands_few}
use Rattle.octave.proofs.Blocking.{allowed_gains, asked_again, sides_are, from_inside, position_small, equalised_is}
use Rattle.octave.proofs.Layouts.{line_small}
use Rattle.octave.proofs.pass.pass.Goals as goal

-- the counts as they are read, by their fields
abbrev these : (bands channels : ℕ) → Counts
these bands channels = record { bands = bands; channels = channels }

seen : {bands channels : ℕ} {k : Counts} {m gains input output : List ℤ} → these bands channels ≡ k → Judged k m gains input output → Judged (these bands channels) m gains input output
seen {m = m} {gains = gains} {input = input} {output = output} e = subst (λ (x : Counts). Judged x m gains input output) (sym e)

again : {bands channels : ℕ} {k : Counts} {others input second : List ℤ} → these bands channels ≡ k → JudgedAgain k.bands others input second → JudgedAgain bands others input second
again {others = others} {input = input} {second = second} e = subst (λ (x : Counts). JudgedAgain x.bands others input second) (sym e)

sized : {bands channels size : ℕ} {k : Counts} → these bands channels ≡ k → size ≡ line_length k.bands → size ≡ line_length bands
sized {size = size} e = subst (λ (x : Counts). size ≡ line_length x.bands) (sym e)

from_is : {z : ℤ} → FitsSigned w32 z → nat_abs (raw w32 z) ≡ nat_abs z
from_is f = ap nat_abs (to_z-of_z f)

pub slice_copy_out-from : goal.slice_copy_out-from
slice_copy_out-from c = omega (arith, (counts_accepted c.requires.0.memory_kept).long)

pub overflow_cast-from : goal.overflow_cast-from
overflow_cast-from c =
    let m = c.args.memory.now in
    let fits : FitsSigned w32 (held_in m).position = search rules in
    rw (to_z-of_z fits) (not_negative (held_in m).position (counts_accepted c.requires.0.memory_kept).not_below, Fits-nat_abs tt fits)

pub slice_bounds-run-count : goal.slice_bounds-run-count
slice_bounds-run-count c = omega (arith, (counts_accepted c.requires.0.memory_kept).long)

pub slice_bounds-run-start : goal.slice_bounds-run-start
slice_bounds-run-start c =
    let long : 3 ≤ length c.args.memory.now = omega (arith, (counts_accepted c.requires.0.memory_kept).long) in
    long

pub run-at-requires : goal.run-at-requires
run-at-requires c =
    let q = seen c.counts.view_is c.requires.0 in
    let kept = counts_accepted q.memory_kept in
    let size_is = sized c.counts.view_is c.line_length-size.ensures in
    let fits : FitsSigned w32 (held_in c.args.memory.now).position = search rules in (
      sides_are kept size_is (from_is fits) q.alike q.whole,
      from_inside kept size_is (from_is fits),
      allowed_gains c.args.gains.now q.counted q.allowed,
      asked_again (again c.counts.view_is c.requires.1),
    )

pub overflow_cast-memory : goal.overflow_cast-memory
overflow_cast-memory c =
    let fits : FitsSigned w32 (held_in c.args.memory.now).position = search rules in
    let kept = counts_accepted (seen c.counts.view_is c.requires.0).memory_kept in
    let size_is = sized c.counts.view_is c.line_length-size.ensures in
    let before = from_inside kept size_is (from_is fits) in
    let after = position_small kept size_is (from_is fits) c.args.gains.now c.args.input.now c.run-at.ensures.first in
    record { sfits = omega (arith, before, after, size_is, line_small c.counts.inside.bands (bands_few kept).1) }

pub bounds-memory-2 : goal.bounds-memory-2
bounds-memory-2 c =
    let m = c.args.memory.now in
    let long : length (put_mid 3 (length m - 3) m c.run-at.new.lines) ≡ length m = same_len_mid 3 (length m - 3) m c.run-at.new.lines c.run-at.auto.lines in
    let inside : 2 < length m = omega (arith, (counts_accepted c.requires.0.memory_kept).long) in
    subst (λ (k : ℕ). 2 < k) (sym long) inside

pub returns : goal.returns
returns c =
    let a = c.args in
    let kept = counts_accepted (seen c.counts.view_is c.requires.0).memory_kept in
    let size_is = sized c.counts.view_is c.line_length-size.ensures in
    let fits : FitsSigned w32 (held_in a.memory.now).position = search rules in
    let from = from_is fits in
    record {
      first = equalised_is kept size_is from a.gains.now a.input.now c.run-at.ensures.first;
      again = λ asked. ap (λ (p : List ℤ × List ℤ). p.1) (equalised_is kept size_is from a.others.now a.input.now (c.run-at.ensures.again asked));
    }
