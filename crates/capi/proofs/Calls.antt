-- What each call returns can be decoded: the header's helpers tell a C caller the library call's own answer, for all inputs.
-- Assumes nothing.
use mathlib.Core.Path.{◌≡◌, sym, ap, ap₂, ◌∙◌}
use mathlib.Core.List.{List}
use Prim.Native.Nat.{ℕ, suc}
use native.Mathlib.Omega.{arith}
use lib.IntN.{ℤ}
use lib.Ieee.{Float, nan}
use Rattle.answers.specs.Answer.{Answer, accepted, refused, number_in, place_in}
use Rattle.answers.specs.First.{FirstFails}
use Rattle.answers.specs.Range.{FirstAt}
use Rattle.answers.specs.Unit.{least_sample, most_sample}
use Rattle.octave.specs.Answer.{length_answer, prepared_answer, block_answer}
use Rattle.octave.specs.Block.{block_of}
use Rattle.octave.specs.Memory.{memory_length_of, prepare_of}
use Rattle.octave.proofs.Refusals.{first_bad_lem}
use Rattle.crossover.specs.Answer.{cross_answer}
use Rattle.crossover.specs.Cross.{cross_of}
use Rattle.crossover.proofs.Refusals as crossing
use Rattle.floats.specs.Value.{float_sample, float_answer, to_float, floated_answer}
use Rattle.floats.specs.Block.{is_number, float_block_answer}
use Rattle.gain.specs.Answer.{answer_of}
use Rattle.gain.specs.Promise.{command_gain}
use Rattle.gain.specs.declared.Command.{Command}
use Rattle.wave_writer.specs.Header.{write_of, write_answer}
use Rattle.samples.specs.Sample.{from_bytes, to_bytes, sample_answer, put_answer}
use Rattle.wave.specs.Walk.{read_of}
use Rattle.encoding.specs.Answers.{of_count}
use Rattle.encoding.specs.Encode.{encode, decode}
use Rattle.parts.specs.Floated.{of_floated}
use Rattle.parts.specs.Found.{of_found}
use Rattle.encoding.specs.Parts.{Returnable, Counted}
use Rattle.encoding.proofs.Decoded.{decode-encode}
use Rattle.encoding.proofs.Encoding.{returnable_apart, counted_apart}
use Rattle.capi.proofs.Floats.{float_returnable, floated_counted, floats_counted, first_in_c}
use Rattle.capi.specs.FloatBlock.{floats_in_c}
use Rattle.capi.proofs.Reading.{read_counted}
use Rattle.capi.proofs.Returnable.{length_counted, prepare_counted, block_counted, cross_counted, gain_returnable, write_counted, sample_returnable, put_counted}

-- an answer that comes back as it went in
abbrev pub Decoded : Answer ℤ → Type 0
Decoded a = decode (encode a) ≡ a

decoded : (a : Answer ℤ) → Returnable a → Decoded a
decoded a h = decode-encode a (returnable_apart a h)

count_decoded : (a : Answer ℕ) → Counted a → Decoded (of_count a)
count_decoded a h = decode-encode (of_count a) (counted_apart a h)

pub length_decoded : (bands channels : ℤ) → Decoded (of_count (length_answer (memory_length_of bands channels)))
length_decoded bands channels = count_decoded (length_answer (memory_length_of bands channels)) (length_counted bands channels)

pub prepare_decoded : (bands channels : ℤ) (memory : List ℤ) → Decoded (of_count (prepared_answer (prepare_of bands channels memory).result))
prepare_decoded bands channels memory = count_decoded (prepared_answer (prepare_of bands channels memory).result) (prepare_counted bands channels memory)

pub block_decoded : (memory gains input output : List ℤ) → Decoded (of_count (block_answer (block_of memory gains input output).result))
block_decoded memory gains input output = count_decoded (block_answer (block_of memory gains input output).result) (block_counted memory gains input output)

-- a count's refusal is the call's own
refused_count : (a : Answer ℕ) (k i : ℕ) → of_count a ≡ refused (suc k) i → a ≡ refused (suc k) i
refused_count (accepted n) k i e = absurd (omega (arith, ap number_in e))
refused_count (refused number place) k i e = ap₂ (λ (n p : ℕ). refused n p) (ap number_in e) (ap place_in e)

-- rule 12.4: 8 and a place decoded: at that place there is a bad sample, before it none
pub place_told : (memory gains input output : List ℤ) (i : ℕ) → decode (encode (of_count (block_answer (block_of memory gains input output).result))) ≡ refused 8 i →
    FirstAt least_sample most_sample input i
place_told memory gains input output i e =
    first_bad_lem memory gains input output i (refused_count (block_answer (block_of memory gains input output).result) 7 i (sym (block_decoded memory gains input output) ∙ e))

pub cross_decoded : (memory gains : List ℤ) (split : ℤ) (input low high : List ℤ) → Decoded (of_count (cross_answer (cross_of memory gains split input low high).result))
cross_decoded memory gains split input low high =
    count_decoded (cross_answer (cross_of memory gains split input low high).result) (cross_counted memory gains split input low high)

-- rule 12.4: .. of the crossover likewise
pub cross_place_told : (memory gains : List ℤ) (split : ℤ) (input low high : List ℤ) (i : ℕ) →
    decode (encode (of_count (cross_answer (cross_of memory gains split input low high).result))) ≡ refused 8 i → FirstAt least_sample most_sample input i
cross_place_told memory gains split input low high i e =
    crossing.first_bad_lem memory gains split input low high i
    (refused_count (cross_answer (cross_of memory gains split input low high).result) 7 i (sym (cross_decoded memory gains split input low high) ∙ e))

pub gain_decoded : (c : Command) → Decoded (answer_of (command_gain c))
gain_decoded c = decoded (answer_of (command_gain c)) (gain_returnable c)

pub read_decoded : (front : List ℕ) → Decoded (of_count (of_found (read_of front)))
read_decoded front = count_decoded (of_found (read_of front)) (read_counted front)

pub write_decoded : (buffer : List ℕ) (rate size : ℕ) (channels : ℤ) → Decoded (of_count (write_answer (write_of buffer rate size channels).result))
write_decoded buffer rate size channels = count_decoded (write_answer (write_of buffer rate size channels).result) (write_counted buffer rate size channels)

pub sample_decoded : (bytes : List ℕ) → Decoded (sample_answer (from_bytes bytes))
sample_decoded bytes = decoded (sample_answer (from_bytes bytes)) (sample_returnable bytes)

pub put_decoded : (z : ℤ) (buffer : List ℕ) → Decoded (of_count (put_answer (to_bytes z buffer).result))
put_decoded z buffer = count_decoded (put_answer (to_bytes z buffer).result) (put_counted z buffer)

-- the sample of a float
pub float_decoded : (x : Float) → Decoded (float_answer (float_sample x))
float_decoded x = decoded (float_answer (float_sample x)) (float_returnable x)

-- the float of a sample, as the number of places
pub floated_decoded : (z : ℤ) → Decoded (of_count (of_floated (floated_answer (to_float z))))
floated_decoded z = count_decoded (of_floated (floated_answer (to_float z))) (floated_counted z)

-- the samples of floats
pub floats_decoded : (values : List Float) (samples : List ℤ) → Decoded (of_count (float_block_answer (floats_in_c values samples).result))
floats_decoded values samples = count_decoded (float_block_answer (floats_in_c values samples).result) (floats_counted values samples)

-- rule 12.4: 41 and a place decoded: at that place there is a NaN or an infinity, before it none
pub float_place_told : (values : List Float) (samples : List ℤ) (i : ℕ) → decode (encode (of_count (float_block_answer (floats_in_c values samples).result))) ≡ refused 41 i →
    FirstFails is_number nan values i
float_place_told values samples i e =
    first_in_c values samples i (refused_count (float_block_answer (floats_in_c values samples).result) 40 i (sym (floats_decoded values samples) ∙ e))
