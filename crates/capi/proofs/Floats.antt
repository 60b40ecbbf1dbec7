-- Every answer of the calls on floats can be returned. Assumes nothing.
use mathlib.Core.Path.{◌≡◌, refl, ap}
use mathlib.Core.Bool.{Bool, true, false}
use mathlib.Core.List.{List, [], ◌∷◌}
use Prim.Native.Nat.{ℕ, ◌<◌, ◌^◌}
use native.Mathlib.Omega.{arith}
use borrow.Author.Tests.{ltb-true, le-ltb}
use lib.Dec.{ltb, lit<}
use lib.IntN.{ℤ, pos, negsuc}
use lib.Ieee.{Float, nan}
use lib.ListN.{length}
use lib.Signed.{lt_z}
use Rattle.std.specs.Prelude.{Result, Ok, Err}
use Rattle.answers.specs.Answer.{refused, number_in}
use Rattle.answers.specs.Checks.{check, decide}
use Rattle.answers.specs.First.{first_failing, FirstFails, all_pass}
use Rattle.answers.specs.Range.{within}
use Rattle.answers.specs.Unit.{least_sample, most_sample}
use Rattle.answers.proofs.Firsts.{first_at}
use Rattle.answers.proofs.Laws.{every, chosen_every, eaching}
use Rattle.floats.specs.Value.{float_sample, float_answer, float_of, to_float, floated_answer}
use Rattle.floats.specs.Block.{is_number, samples_of, float_checks, from_floats, float_block_answer}
use Rattle.floats.specs.declared.block.FloatsError.{FloatsError}
use Rattle.floats.specs.declared.block.FloatsError.TheVariants.{WrongLength}
use Rattle.floats.specs.declared.code.NotNumber.{NotNumber}
use Rattle.floats.specs.declared.single.OutOfRange.{OutOfRange}
use Rattle.floats.proofs.Refusals.{first_float}
use Rattle.floats.proofs.InRange.{sample_within}
use Rattle.floats.proofs.ToFloat.{sample_size}
use Rattle.parts.specs.Floated.{of_floated}
use Rattle.capi.specs.FloatBlock.{floats_in_c}
use Rattle.encoding.specs.Encode.{halfway}
use Rattle.encoding.specs.Parts.{Refusal, Returnable, Counted}

-- a sample is no refusal's code
sample_apart : (z : ℤ) → within least_sample most_sample z ≡ true → lt_z z halfway ≡ false
sample_apart (pos n) e = refl
sample_apart (negsuc n) e = le-ltb 4611686018427387903 n (omega (arith, sample_size (negsuc n) e))

-- the sample of a float
pub float_returnable : (x : Float) → Returnable (float_answer (float_sample x))
float_returnable x = by (float_sample x) (sample_within x)
  where
    by : (r : Result ℤ NotNumber) → ((z : ℤ) → r ≡ Ok z → within least_sample most_sample z ≡ true) → Returnable (float_answer r)
    by (Ok z) h = sample_apart z (h z refl)
    by (Err e) h = search lit<

-- the float of a sample
pub floated_counted : (z : ℤ) → Counted (of_floated (floated_answer (to_float z)))
unfolding to_float
floated_counted z =
    chosen_every (Ok (float_of z)) (λ (r : Result Float OutOfRange). Counted (of_floated (floated_answer r)))
    (check (within least_sample most_sample z) (Err (record {})) ∷ []) (search eaching depth 12)

-- the number of floats is a count
few_floats : (n : ℕ) → ltb n (2 ^ 54) ≡ true → n < 2 ^ 63
few_floats n e = omega (arith, ltb-true n (2 ^ 54) e)

-- the place of a bad one is among them
bad_returned : (values : List Float) → ltb (length values) (2 ^ 54) ≡ true → all_pass is_number values ≡ false → Refusal 41 (first_failing is_number values)
bad_returned values f b =
    (omega arith, omega arith, omega (arith, ltb-true (length values) (2 ^ 54) f, (first_at is_number nan values b).among))

-- the samples of fewer than 2 ^ 54 floats
few_counted : (values : List Float) (samples : List ℤ) → ltb (length values) (2 ^ 54) ≡ true → Counted (float_block_answer (from_floats values samples).result)
unfolding from_floats
few_counted values samples few =
    every samples (samples_of values) (Ok (length values)) (λ (r : Result ℕ FloatsError). Counted (float_block_answer r)) (float_checks values samples)
    (search (eaching, few_floats, bad_returned) depth 12)

-- .. and of any
pub floats_counted : (values : List Float) (samples : List ℤ) → Counted (float_block_answer (floats_in_c values samples).result)
unfolding floats_in_c
floats_counted values samples =
    every samples (from_floats values samples).lent (from_floats values samples).result (λ (r : Result ℕ FloatsError). Counted (float_block_answer r))
    (check (ltb (length values) (2 ^ 54)) (Err WrongLength) ∷ []) (search (eaching, few_counted) depth 12)

-- what C is answered is the library call's answer, up to 2 ^ 54 floats
pub as_the_library : (values : List Float) (samples : List ℤ) → ltb (length values) (2 ^ 54) ≡ true → floats_in_c values samples ≡ from_floats values samples
unfolding floats_in_c decide
as_the_library values samples few = rw few

-- 41 with a place is the library call's
pub first_in_c : (values : List Float) (samples : List ℤ) (i : ℕ) → float_block_answer (floats_in_c values samples).result ≡ refused 41 i → FirstFails is_number nan values i
unfolding floats_in_c decide
first_in_c values samples i = by (ltb (length values) (2 ^ 54))
  where
    by : (b : Bool) → float_block_answer (decide (check b (Err WrongLength) ∷ []) samples (from_floats values samples).result (from_floats values samples).lent).result ≡ refused 41 i → FirstFails is_number nan values i
    by true e = first_float values samples i e
    by false e = let z : ◌≡◌ {A = ℕ} 6 41 = ap number_in e in absurd (omega arith)
