-- Every answer of every call but the reader's can be returned. Assumes nothing.
use mathlib.Core.Path.{◌≡◌, refl}
use mathlib.Core.Bool.{true, false}
use mathlib.Core.List.{List, [], ◌∷◌}
use Prim.Native.Nat.{ℕ, ◌+◌, ◌*◌, ◌-◌, ◌%◌, ◌<◌, ◌≤◌, ◌^◌}
use native.Mathlib.Omega.{arith}
use borrow.Author.Tests.{leb-true, le-ltb}
use lib.Dec.{eqb, leb, ltb, lit<}
use lib.ListN.{length}
use lib.IntN.{ℤ, pos, negsuc, nat_abs, ◌-ℤ◌, ◌*ℤ◌}
use lib.Signed.{lt_z, ◌≤ℤ◌}
use Rattle.std.specs.Prelude.{Result, Ok, Err}
use Rattle.answers.specs.Checks.{check}
use Rattle.answers.specs.Range.{first_outside, all_within}
use Rattle.answers.specs.Unit.{least_sample, most_sample, block_limit}
use Rattle.answers.proofs.Laws.{every, chosen_every, eaching}
use Rattle.whole.proofs.Signed.{down, Diff, lit, ◌⊖◌, ◌⊗◌, about, read_le}
use Rattle.octave.specs.Answer.{fault_refusal, length_answer, prepared_answer, block_answer}
use Rattle.octave.specs.Block.{frames_of, block_checks, equalised, block_of}
use Rattle.octave.specs.Memory.{accepts, channels_in, memory_length, count_allowed, channels_allowed, memory_length_of, prepared, prepare_checks, prepare_of}
use Rattle.octave.specs.declared.block.BlockError.{BlockError}
use Rattle.octave.specs.declared.memory.CountError.{CountError}
use Rattle.octave.specs.declared.memory.CountError.TheVariants.{BandCount, ChannelCount}
use Rattle.octave.specs.declared.memory.Fault.{Fault}
use Rattle.octave.specs.declared.memory.PrepareError.{PrepareError}
use Rattle.octave.proofs.Layouts.{line_small, memory_small}
use Rattle.octave.proofs.Refusals.{fault_number_lem, bad_place}
use Rattle.octave.proofs.Ranges.{bands_of, channels_of_lem}
use Rattle.crossover.specs.Answer.{cross_answer}
use Rattle.crossover.specs.Cross.{cross_checks, crossed, cross_of}
use Rattle.crossover.specs.declared.cross.CrossError.{CrossError}
use Rattle.gain.specs.Answer.{answer_of}
use Rattle.gain.specs.Promise.{command_gain}
use Rattle.gain.specs.declared.Command.{Command}
use Rattle.gain.specs.declared.GainError.{GainError}
use Rattle.gain.specs.declared.GainError.TheVariants.{NotHalfDecibels, NotFactor}
use Rattle.gain.proofs.Answers.{within}
use Rattle.fields.specs.Bytes.{lowest, number_in, row}
use Rattle.fields.proofs.ByTest.{cond-case}
use Rattle.wave_writer.specs.Header.{header, write_checks, write_of, write_answer}
use Rattle.samples.specs.Sample.{code_of, number_of, sample_in, from_bytes, put_checks, to_bytes, sample_answer, put_answer}
use Rattle.samples.specs.declared.format.Format.TheVariants.{Bits16, Bits24}
use Rattle.samples.specs.declared.single.StoreError.{StoreError}
use Rattle.samples.specs.declared.single.WrongLength.{WrongLength}
use Rattle.wave_writer.specs.declared.writer.WriteError.{WriteError}
use Rattle.encoding.specs.Encode.{halfway}
use Rattle.encoding.specs.Parts.{Refusal, Returnable, Counted}

-- ---- the equaliser's calls

places_small : (bands channels : ℤ) → count_allowed bands ≡ true → channels_allowed channels ≡ true → memory_length (nat_abs bands) (nat_abs channels) < 2 ^ 63
places_small bands channels t u =
    omega (arith, memory_small (nat_abs bands) (nat_abs channels) (bands_of bands t).to (channels_of_lem channels u).to)

delay_small : (bands : ℤ) → count_allowed bands ≡ true → 9 * (2 ^ (nat_abs bands - 1) - 1) < 2 ^ 63
delay_small bands t = omega (arith, line_small (nat_abs bands) (bands_of bands t).to)

frames_few : (memory input : List ℤ) → leb (frames_of memory input) block_limit ≡ true → frames_of memory input < 2 ^ 63
frames_few memory input t = omega (arith, leb-true (frames_of memory input) block_limit t)

fault_returned : (f : Fault) → Refusal (fault_refusal f).number 0
fault_returned f = let n = fault_number_lem f in (omega (arith, n.0), omega (arith, n.1), omega arith)

sample_returned : (memory input : List ℤ) → accepts memory ≡ true → eqb (length input % channels_in memory) 0 ≡ true → leb (frames_of memory input) block_limit ≡ true →
    all_within least_sample most_sample input ≡ false → Refusal 8 (first_outside least_sample most_sample input)
sample_returned memory input a w f b = (omega arith, omega arith, omega (arith, bad_place memory input a w f b))

pub length_counted : (bands channels : ℤ) → Counted (length_answer (memory_length_of bands channels))
length_counted bands channels =
    chosen_every (Ok (memory_length (nat_abs bands) (nat_abs channels))) (λ (r : Result ℕ CountError). Counted (length_answer r))
    (check (count_allowed bands) (Err BandCount) ∷ check (channels_allowed channels) (Err ChannelCount) ∷ []) (search (eaching, places_small) depth 12)

pub prepare_counted : (bands channels : ℤ) (memory : List ℤ) → Counted (prepared_answer (prepare_of bands channels memory).result)
prepare_counted bands channels memory =
    every memory (prepared (nat_abs bands) (nat_abs channels)) (Ok (9 * (2 ^ (nat_abs bands - 1) - 1))) (λ (r : Result ℕ PrepareError). Counted (prepared_answer r))
    (prepare_checks bands channels memory) (search (eaching, delay_small) depth 12)

pub block_counted : (memory gains input output : List ℤ) → Counted (block_answer (block_of memory gains input output).result)
block_counted memory gains input output =
    every (memory, output) (equalised memory gains input) (Ok (frames_of memory input)) (λ (r : Result ℕ BlockError). Counted (block_answer r))
    (block_checks memory gains input output) (search (eaching, fault_returned, sample_returned, frames_few) depth 20)

pub cross_counted : (memory gains : List ℤ) (split : ℤ) (input low high : List ℤ) → Counted (cross_answer (cross_of memory gains split input low high).result)
cross_counted memory gains split input low high =
    every (memory, low, high) (crossed memory gains (nat_abs split) input) (Ok (frames_of memory input)) (λ (r : Result ℕ CrossError). Counted (cross_answer r))
    (cross_checks memory gains split input low high) (search (eaching, fault_returned, sample_returned, frames_few) depth 24)

-- ---- the header's writer and the codec

pub write_counted : (buffer : List ℕ) (rate size : ℕ) (channels : ℤ) → Counted (write_answer (write_of buffer rate size channels).result)
unfolding write_of
write_counted buffer rate size channels =
    every buffer (header rate size (nat_abs channels)) (Ok 44) (λ (r : Result ℕ WriteError). Counted (write_answer r)) (write_checks buffer rate size channels)
    (search eaching depth 12)

pub put_counted : (z : ℤ) (buffer : List ℕ) → Counted (put_answer (to_bytes z buffer).result)
unfolding to_bytes
put_counted z buffer =
    every buffer (row lowest 3 (code_of z)) (Ok 3) (λ (r : Result ℕ StoreError). Counted (put_answer r)) (put_checks z buffer) (search eaching depth 12)

-- a number that is not far below zero is no refusal's code
not_far : (x : Diff) → x.n ≤ 2 ^ 62 + x.p → lt_z x.z halfway ≡ false
not_far x h = by x.z (omega (arith, x.same, about x.z))
  where
    by : (z : ℤ) → down z ≤ 2 ^ 62 → lt_z z halfway ≡ false
    by (pos n) h = refl
    by (negsuc n) h = le-ltb 4611686018427387903 n (omega arith)

near_16 : (s : List ℕ) → lt_z (sample_in Bits16 s) halfway ≡ false
unfolding sample_in number_of
near_16 s =
    let k : ℕ = number_in lowest s in
    cond-case (λ (z : ℤ). lt_z (z *ℤ pos 256) halfway ≡ false) (pos k) (pos k -ℤ pos (2 ^ 16)) (ltb k (2 ^ 15))
    (λ _. not_far (lit k ⊗ lit 256) (omega arith)) (λ _. not_far ((lit k ⊖ lit (2 ^ 16)) ⊗ lit 256) (omega arith))

near_24 : (s : List ℕ) → lt_z (sample_in Bits24 s) halfway ≡ false
unfolding sample_in number_of
near_24 s =
    let k : ℕ = number_in lowest s in
    cond-case (λ (z : ℤ). lt_z z halfway ≡ false) (pos k) (pos k -ℤ pos (2 ^ 24)) (ltb k (2 ^ 23))
    (λ _. refl) (λ _. not_far (lit k ⊖ lit (2 ^ 24)) (omega arith))

pub sample_returnable : (s : List ℕ) → Returnable (sample_answer (from_bytes s))
unfolding from_bytes
sample_returnable s =
    cond-case P _ _ (eqb (length s) 2) (λ _. near_16 s)
    (λ _. cond-case P _ _ (eqb (length s) 3) (λ _. near_24 s) (λ _. search lit<))
  where
    P : Result ℤ WrongLength → Type 0
    P r = Returnable (sample_answer r)

-- ---- the gain commands

pub gain_returnable : (c : Command) → Returnable (answer_of (command_gain c))
gain_returnable c = by (command_gain c) (within c)
  where
    by : (r : Result ℤ GainError) → ((g : ℤ) → r ≡ Ok g → (pos 0 ≤ℤ g) × (g ≤ℤ pos 16384)) → Returnable (answer_of r)
    by (Ok (pos n)) h = refl
    by (Ok (negsuc n)) h = absurd (omega (arith, read_le (pos 0) (negsuc n) (h (negsuc n) refl).0))
    by (Err NotHalfDecibels) h = search lit<
    by (Err NotFactor) h = search lit<
