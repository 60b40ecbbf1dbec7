-- Every refusal of the crossover call has a number, so an answer without one says that all its checks held; the memory's checks and the call's are
-- one list; and 8 tells the first bad sample. Assumes nothing.
use mathlib.Core.Path.{◌≡◌, refl, sym, ap, ◌∙◌}
use mathlib.Core.Bool.{true}
use mathlib.Core.List.{List, [], ◌∷◌}
use Prim.Native.Nat.{ℕ, ◌%◌}
use native.Mathlib.Omega.{arith}
use borrow.Author.Tests.{lt-ltb}
use lib.Dec.{eqb, leb}
use lib.ListN.{length}
use lib.IntN.{ℤ, pos, nat_abs}
use Rattle.std.specs.Prelude.{Result, Ok, Err}
use Rattle.answers.specs.Answer.{number_in}
use Rattle.answers.specs.Checks.{check, all_hold, decide}
use Rattle.answers.specs.Judging.{carried, all_refuse}
use Rattle.answers.specs.Range.{first_outside, all_within}
use Rattle.answers.specs.Unit.{least_sample, most_sample, largest_gain, block_limit}
use Rattle.answers.proofs.Laws.{in_line, decided, every, eaching, unnumbered_holds, refused_keeps}
use Rattle.octave.specs.declared.input.InputError.TheVariants.{PartFrame, TooLong, Sample}
use Rattle.octave.specs.declared.memory.Fault.TheVariants.{CountWrong, LengthWrong, PositionOutside}
use Rattle.octave.specs.Answer.{fault_number}
use Rattle.octave.specs.Memory.{line_length, memory_length, count_allowed, channels_allowed, held_in, bands_in, channels_in, position_within, memory_checks, fault_of}
use Rattle.octave.specs.Block.{frames_of}
use Rattle.octave.proofs.Refusals.{fault_number_lem, Told, not_fault, not_eight, eight}
use Rattle.crossover.specs.declared.cross.CrossError.{CrossError}
use Rattle.crossover.specs.declared.cross.CrossError.TheVariants.{Memory, GainCount, Split, Gain, BassLength, HornLength, Input}
use Rattle.crossover.specs.Answer.{cross_answer}
use Rattle.crossover.specs.Cross.{split_allowed, cross_checks, crossed, cross_of}

module _ (memory gains : List ℤ) (split : ℤ) (input low high : List ℤ) where
  cross_refuses : all_refuse cross_answer (cross_checks memory gains split input low high) ≡ true
  unfolding all_refuse
  cross_refuses =
      let f = fault_of memory in
      rw (lt-ltb 0 (fault_number f) (omega (arith, fault_number_lem f)))

  -- the memory's checks and the call's as one list: 31, 31, 32, 33, 4, 10, 5, 6, 6, 6, 7, 8
  pub one_list :
      let M = bands_in memory in
      let c = channels_in memory in
      cross_of memory gains split input low high ≡
      decide (
      check (count_allowed (held_in memory).count) (Err (Memory CountWrong)) ∷
      check (channels_allowed (held_in memory).channels) (Err (Memory CountWrong)) ∷
      check (eqb (length memory) (memory_length M c)) (Err (Memory LengthWrong)) ∷
      check (position_within (line_length M) (held_in memory).position) (Err (Memory PositionOutside)) ∷
      check (eqb (length gains) M) (Err GainCount) ∷
      check (split_allowed M split) (Err Split) ∷
      check (all_within (pos 0) (pos largest_gain) gains) (Err Gain) ∷
      check (eqb (length low) (length input)) (Err BassLength) ∷
      check (eqb (length high) (length input)) (Err HornLength) ∷
      check (eqb (length input % c) 0) (Err (Input PartFrame)) ∷
      check (leb (frames_of memory input) block_limit) (Err (Input TooLong)) ∷
      check (all_within least_sample most_sample input) (Err (Input (Sample (first_outside least_sample most_sample input)))) ∷ [])
      (memory, low, high) (Ok (frames_of memory input)) (crossed memory gains (nat_abs split) input)
  unfolding carried
  one_list =
      in_line (memory, low, high) (crossed memory gains (nat_abs split) input) (Ok (frames_of memory input)) (λ f. Err (Memory f)) PositionOutside (memory_checks memory) _

  -- an answer without a number: every check held
  pub cross_held : number_in (cross_answer (cross_of memory gains split input low high).result) ≡ 0 →
      all_hold (cross_checks memory gains split input low high) ≡ true
  cross_held e =
      let cs = cross_checks memory gains split input low high in
      let r = Ok (frames_of memory input) in
      unnumbered_holds cross_answer cs r cross_refuses
      (sym (ap (λ (q : Result ℕ CrossError). number_in (cross_answer q)) (decided (memory, low, high) (crossed memory gains (nat_abs split) input) r cs)) ∙ e)

  -- rule 6.4: a refusal leaves memory, bass and horn as they were
  pub cross_keeps : (number_in (cross_answer (cross_of memory gains split input low high).result) ≡ 0 → ⊥) →
      (cross_of memory gains split input low high).lent ≡ (memory, low, high)
  cross_keeps n =
      refused_keeps cross_answer (cross_checks memory gains split input low high) (memory, low, high) (crossed memory gains (nat_abs split) input)
      (Ok (frames_of memory input)) n refl

-- ---- 8

-- refused 8 with a place: at that place there is a bad sample, before it none
pub first_bad_lem : (memory gains : List ℤ) (split : ℤ) (input low high : List ℤ) (i : ℕ) → Told cross_answer input i (cross_of memory gains split input low high).result
first_bad_lem memory gains split input low high i =
    every (memory, low, high) (crossed memory gains (nat_abs split) input) (Ok (frames_of memory input)) (Told cross_answer input i) (cross_checks memory gains split input low high)
    (search (eaching, not_fault cross_answer input i (λ f. Err (Memory f)) (λ f. refl), not_eight cross_answer input i, eight cross_answer input i (λ k. Err (Input (Sample k))) (λ k. refl)) depth 24)
