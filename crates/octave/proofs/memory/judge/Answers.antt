-- Each return has the tests that led there.
use Rattle.std.proofs.Common.{◌≡◌, ◌∙◌, refl, ◌≤◌, w64, true, false, ap, ap₂, ℕ, ℤ, List, length, arith, eqb, pos, nat_abs, le-ltb, eq-eqb, to_z-of_z, w32, get_or}
use Rattle.std.specs.Prelude.{Result, Ok}
use Rattle.std.proofs.lemmas.Result.{err_from_is_err_and}
use lib.Signed.{lt_z}
use mir.Val.{SFits, Fits, to_z, of_z}
use mir.Facts.{Fits-nat_abs}
use lib.IntN.{negsuc}
use Rattle.std.specs.Int.{FitsUnsignedBits}
use borrow.Author.Rules.{sfits_of}
use Rattle.answers.specs.Judging.{here, later}
use Rattle.answers.proofs.Branches.{other}
use Rattle.octave.specs.declared.memory.CountError.{CountError}
use Rattle.octave.specs.declared.memory.Fault.{Fault}
use Rattle.octave.specs.declared.memory.Fault.TheVariants.{CountWrong, LengthWrong, PositionOutside}
use Rattle.octave.specs.Counts.{Counts}
use Rattle.octave.specs.Memory.{line_length, memory_length, bands_in, channels_in, held_in, position_within, counts_of}
use Rattle.octave.proofs.Memories.{CountsAre, counts_are, counts_first, accepts_is, wrong_is, right_is, too_short}
use Rattle.octave.proofs.memory.judge.Goals as goal
use Rattle.octave.proofs.memory.judge.Goals.{in_default-via-in-Ok+else-at-line_length, in_default-via-in_default}

abbrev holds : Counts → Result Counts Fault
holds k = Ok k

-- the counts, as they are read
read : (m : List ℤ) {r : Result Counts CountError} → r ≡ counts_of (to_z w32 (of_z w32 (get_or m 0 (pos 0)))) (to_z w32 (of_z w32 (get_or m 1 (pos 0)))) →
    SFits w32 (get_or m 0 (pos 0)) → SFits w32 (get_or m 1 (pos 0)) → r ≡ counts_of (held_in m).count (held_in m).channels
read m e f g = e ∙ ap₂ counts_of (to_z-of_z f) (to_z-of_z g)

-- the position, as it is tried
not_below : (at : ℤ) → FitsUnsignedBits 64 at → lt_z at (pos 0) ≡ false
not_below (pos n) h = le-ltb n 0 (omega arith)
not_below (negsuc n) h = absurd h

past : (size : ℕ) (at : ℤ) → FitsUnsignedBits 64 at → size ≤ nat_abs at → position_within size at ≡ false
past size at h l = rw (not_below at h, le-ltb (nat_abs at) size l)

below : (size : ℕ) (at : ℤ) → Fits w64 (nat_abs at) → (FitsUnsignedBits 64 at → ⊥) → position_within size at ≡ false
below size (pos n) f h = absurd (h f.fits)
below size (negsuc n) f h = refl

-- the length that a memory of these counts has
size : (m : List ℤ) {k : Counts} {n : ℕ} → n ≡ memory_length k.bands k.channels → CountsAre (held_in m).count (held_in m).channels k → n ≡ memory_length (bands_in m) (channels_in m)
size m e a = e ∙ ap (λ (x : Counts). memory_length x.bands x.channels) a.counts_are

pub returns-then-memory-lt-POSITION : goal.returns-then-memory-lt-POSITION
returns-then-memory-lt-POSITION c = wrong_is c.args.memory.now CountWrong (too_short c.args.memory.now c.if-memory-lt-POSITION.true)

pub returns-in_err-counts : goal.returns-in_err-counts
returns-in_err-counts c =
    let m = c.args.memory.now in
    let p = err_from_is_err_and c.from_residual.result c.from_residual.ensures.1 in
    rw (p.1, p.2) (wrong_is m CountWrong (counts_first m _ (read m c.in_err-counts.ensures (sfits_of (omega arith)) (sfits_of (omega arith)))))

pub returns-then-memory-memory_length : goal.returns-then-memory-memory_length
returns-then-memory-memory_length c =
    let m = c.args.memory.now in
    let k = counts_are (held_in m).count (held_in m).channels c.in_ok-counts.counts (read m c.in_ok-counts.ensures (sfits_of (omega arith)) (sfits_of (omega arith))) in
    let l : eqb (length m) (memory_length (bands_in m) (channels_in m)) ≡ false =
    other (length m) (memory_length (bands_in m) (channels_in m)) c.memory_length.result (size m c.memory_length.ensures k) c.if-memory-memory_length.true in
    wrong_is m LengthWrong (later k.bands_allowed (later k.channels_allowed_lem (here l)))

pub returns-in-Ok : goal.returns-in-Ok
returns-in-Ok c =
    let m = c.args.memory.now in
    let at : SFits w32 (held_in m).position = sfits_of (omega arith) in
    let k = counts_are (held_in m).count (held_in m).channels c.in_ok-counts.counts (read m c.in_ok-counts.ensures (sfits_of (omega arith)) (sfits_of (omega arith))) in
    let e = rw (to_z-of_z at) at c.in-Ok.ensures in
    let inside = rw (e.1, c.line_length.ensures, k.counts_are) at c.if-at-line_length.true in
    ap holds k.counts_are ∙
    right_is m (accepts_is m k.bands_allowed k.channels_allowed_lem (c.if-memory-memory_length.false ∙ size m c.memory_length.ensures k) (not_below (held_in m).position e.0) inside)

pub returns-in_default : goal.returns-in_default
returns-in_default c =
    let m = c.args.memory.now in
    let at : SFits w32 (held_in m).position = sfits_of (omega arith) in
    let k = counts_are (held_in m).count (held_in m).channels c.in_ok-counts.counts (read m c.in_ok-counts.ensures (sfits_of (omega arith)) (sfits_of (omega arith))) in
    let long : eqb (length m) (memory_length (bands_in m) (channels_in m)) ≡ true =
    eq-eqb (length m) (memory_length (bands_in m) (channels_in m)) (c.if-memory-memory_length.false ∙ size m c.memory_length.ensures k) in
    let outside : position_within (line_length (bands_in m)) (held_in m).position ≡ false =
    elim c.in_default.branch [
      | in_default-via-in-Ok+else-at-line_length w ↦ (
          let e = rw (to_z-of_z at) at w.in-Ok.ensures in
          past (line_length (bands_in m)) (held_in m).position e.0 (rw (w.line_length.ensures, k.counts_are, e.1) at w.if-at-line_length.false)
          )
      | in_default-via-in_default w ↦ below (line_length (bands_in m)) (held_in m).position (Fits-nat_abs tt at) (rw (to_z-of_z at) at w.in_default.ensures)
    ] in
    wrong_is m PositionOutside (later k.bands_allowed (later k.channels_allowed_lem (later long (here outside))))
