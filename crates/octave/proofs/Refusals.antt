-- The block call's refusals: each has a number, and 8 has the place of the first bad sample. Assumes nothing.
use mathlib.Core.Path.{◌≡◌, refl, sym, ap, subst, ◌∙◌}
use mathlib.Core.Bool.{true, false, false≢true}
use mathlib.Core.List.{List, [], ◌∷◌}
use Prim.Native.Nat.{ℕ, ◌*◌, ◌%◌, ◌≤◌, ◌<◌}
use native.Mathlib.Nat.{mul-le-mul_right}
use native.Mathlib.Omega.{arith}
use borrow.Author.Tests.{eqb-true, leb-true, lt-ltb}
use lib.Dec.{eqb, leb}
use lib.ListN.{length}
use lib.IntN.{ℤ, pos}
use Rattle.std.specs.Prelude.{Result, Ok, Err}
use Rattle.answers.specs.Answer.{Answer, refused, number_in, place_in}
use Rattle.answers.specs.Checks.{check, all_hold, decide}
use Rattle.answers.specs.Judging.{carried, all_refuse}
use Rattle.answers.specs.Range.{first_outside, FirstAt, all_within}
use Rattle.answers.specs.Unit.{least_sample, most_sample, largest_gain, block_limit}
use Rattle.answers.proofs.Laws.{in_line, decided, every, eaching, unnumbered_holds}
use Rattle.answers.proofs.Ranges.{first_at}
use Rattle.frames.proofs.Laws.{whole_frames_lem}
use Rattle.octave.specs.declared.block.BlockError.{BlockError}
use Rattle.octave.specs.declared.block.BlockError.TheVariants.{Memory, GainCount, Gain, OutputLength, Input}
use Rattle.octave.specs.declared.input.InputError.TheVariants.{PartFrame, TooLong, Sample}
use Rattle.octave.specs.declared.memory.Fault.{Fault}
use Rattle.octave.specs.declared.memory.Fault.TheVariants.{CountWrong, LengthWrong, PositionOutside}
use Rattle.octave.specs.Answer.{fault_number, block_answer}
use Rattle.octave.specs.Memory.{line_length, memory_length, count_allowed, channels_allowed, held_in, bands_in, channels_in, position_within, memory_checks, accepts, fault_of}
use Rattle.octave.specs.Block.{frames_of, block_checks, equalised, block_of}
use Rattle.octave.proofs.Memories.{accepted_is, channels_few}

pub fault_number_lem : (f : Fault) → (31 ≤ fault_number f) × (fault_number f ≤ 33)
fault_number_lem CountWrong = (omega arith, omega arith)
fault_number_lem LengthWrong = (omega arith, omega arith)
fault_number_lem PositionOutside = (omega arith, omega arith)

block_refuses : (memory gains input output : List ℤ) → all_refuse block_answer (block_checks memory gains input output) ≡ true
unfolding all_refuse
block_refuses memory gains input output =
    let f = fault_of memory in
    rw (lt-ltb 0 (fault_number f) (omega (arith, fault_number_lem f)))

-- the memory's checks and the call's as one list: 31, 31, 32, 33, 4, 5, 6, 6, 7, 8
pub one_list : (memory gains input output : List ℤ) →
    let M = bands_in memory in
    let c = channels_in memory in
    block_of memory gains input output ≡
    decide (
    check (count_allowed (held_in memory).count) (Err (Memory CountWrong)) ∷
    check (channels_allowed (held_in memory).channels) (Err (Memory CountWrong)) ∷
    check (eqb (length memory) (memory_length M c)) (Err (Memory LengthWrong)) ∷
    check (position_within (line_length M) (held_in memory).position) (Err (Memory PositionOutside)) ∷
    check (eqb (length gains) M) (Err GainCount) ∷
    check (all_within (pos 0) (pos largest_gain) gains) (Err Gain) ∷
    check (eqb (length output) (length input)) (Err OutputLength) ∷
    check (eqb (length input % c) 0) (Err (Input PartFrame)) ∷
    check (leb (frames_of memory input) block_limit) (Err (Input TooLong)) ∷
    check (all_within least_sample most_sample input) (Err (Input (Sample (first_outside least_sample most_sample input)))) ∷ [])
    (memory, output) (Ok (frames_of memory input)) (equalised memory gains input)
unfolding carried
one_list memory gains input output =
    in_line (memory, output) (equalised memory gains input) (Ok (frames_of memory input)) (λ f. Err (Memory f)) PositionOutside (memory_checks memory) _

-- an answer without a number: every check held
pub block_held : (memory gains input output : List ℤ) → number_in (block_answer (block_of memory gains input output).result) ≡ 0 → all_hold (block_checks memory gains input output) ≡ true
block_held memory gains input output e =
    let cs = block_checks memory gains input output in
    let r = Ok (frames_of memory input) in
    unnumbered_holds block_answer cs r (block_refuses memory gains input output)
    (sym (ap (λ (q : Result ℕ BlockError). number_in (block_answer q)) (decided (memory, output) (equalised memory gains input) r cs)) ∙ e)

-- ---- 8, of any call that answers it

module _ {R : Type 0} (answer_of : R → Answer ℕ) (input : List ℤ) (i : ℕ) where
  -- refused 8 with a place: at that place there is a bad sample, before it none
  abbrev pub Told : R → Type 0
  Told r = answer_of r ≡ refused 8 i → FirstAt least_sample most_sample input i

  pub not_fault : (case : Fault → R) → ((f : Fault) → answer_of (case f) ≡ refused (fault_number f) 0) → (f : Fault) → Told (case f)
  not_fault case is f e = absurd (omega (arith, fault_number_lem f, ap number_in (sym (is f) ∙ e)))

  pub not_eight : (r : R) → eqb (number_in (answer_of r)) 8 ≡ false → Told r
  not_eight r n e = absurd (false≢true (sym n ∙ ap (λ (a : Answer ℕ). eqb (number_in a) 8) e))

  pub eight : (case : ℕ → R) → ((k : ℕ) → answer_of (case k) ≡ refused 8 k) → all_within least_sample most_sample input ≡ false → Told (case (first_outside least_sample most_sample input))
  eight case is t e =
      subst (FirstAt least_sample most_sample input) (ap place_in (sym (is (first_outside least_sample most_sample input)) ∙ e)) (first_at least_sample most_sample input t)

pub first_bad_lem : (memory gains input output : List ℤ) (i : ℕ) → Told block_answer input i (block_of memory gains input output).result
first_bad_lem memory gains input output i =
    every (memory, output) (equalised memory gains input) (Ok (frames_of memory input)) (Told block_answer input i) (block_checks memory gains input output)
    (search (eaching, not_fault block_answer input i (λ f. Err (Memory f)) (λ f. refl), not_eight block_answer input i, eight block_answer input i (λ k. Err (Input (Sample k))) (λ k. refl)) depth 20)

-- the place of a bad sample in a block that is not too long
pub bad_place : (memory input : List ℤ) → accepts memory ≡ true → eqb (length input % channels_in memory) 0 ≡ true → leb (frames_of memory input) block_limit ≡ true →
    all_within least_sample most_sample input ≡ false → first_outside least_sample most_sample input < 2 * block_limit
bad_place memory input a w f b =
    let c = channels_in memory in
    let n = frames_of memory input in
    let few : c ≤ 2 = (channels_few (accepted_is memory (bands_in memory) c a refl refl)).1 in
    let long : length input ≡ c * n = whole_frames_lem (length input) c (eqb-true (length input % c) 0 w) refl in
    let most : c * n ≤ 2 * n = mul-le-mul_right {m = c} {n = 2} n few in
    omega (arith, long, most, leb-true n block_limit f, (first_at least_sample most_sample input b).among)
