-- No second answer of the three calls fits: each number of the rule book stands for one case. Assumes nothing.
use mathlib.Core.Path.{◌≡◌, refl}
use mathlib.Core.Bool.{cond}
use mathlib.Core.List.{List}
use Prim.Native.Nat.{ℕ}
use lib.IntN.{ℤ}
use lib.Ieee.{Float}
use lib.Dec.{eqb}
use Rattle.answers.specs.Answer.{Answer, accepted, refused}
use Rattle.answers.specs.Checks.{Done}
use Rattle.answers.proofs.Laws.{one_case, one_answer}
use Rattle.floats.specs.Value.{float_sample, float_answer, to_float, floated_answer}
use Rattle.floats.specs.Block.{from_floats, float_block_answer}
use Rattle.std.specs.Prelude.{Result, Ok, Err}
use Rattle.floats.specs.declared.code.NotNumber.{NotNumber}
use Rattle.floats.specs.declared.block.FloatsError.{FloatsError}
use Rattle.floats.specs.declared.block.FloatsError.TheVariants.{WrongLength, BadFloat}
use Rattle.floats.specs.declared.single.OutOfRange.{OutOfRange}

-- ---- `sample_from_float`

-- the case of an answer
abbrev sample_back : Answer ℤ → Result ℤ NotNumber
sample_back (accepted z) = Ok z
sample_back (refused n place) = Err (record {})

-- .. is the case that gave it
sample_way : (r : Result ℤ NotNumber) → sample_back (float_answer r) ≡ r
sample_way (Ok z) = refl
sample_way (Err e) = refl

-- one answer for a float
pub one_sample : (x : Float) {r q : Result ℤ NotNumber} → float_answer r ≡ float_answer (float_sample x) → float_answer q ≡ float_answer (float_sample x) → r ≡ q
one_sample x = one_case float_answer sample_back sample_way

-- ---- `sample_to_float`

-- the case of an answer
abbrev floated_back : Answer Float → Result Float OutOfRange
floated_back (accepted x) = Ok x
floated_back (refused n place) = Err (record {})

-- .. is the case that gave it
floated_way : (r : Result Float OutOfRange) → floated_back (floated_answer r) ≡ r
floated_way (Ok x) = refl
floated_way (Err e) = refl

-- one answer for a sample
pub one_floated : (z : ℤ) {r q : Result Float OutOfRange} → floated_answer r ≡ floated_answer (to_float z) → floated_answer q ≡ floated_answer (to_float z) → r ≡ q
one_floated z = one_case floated_answer floated_back floated_way

-- ---- `samples_from_floats`

-- the case of an answer
abbrev block_back : Answer ℕ → Result ℕ FloatsError
block_back (accepted n) = Ok n
block_back (refused n place) = Err (cond (eqb n 6) WrongLength (BadFloat place))

-- .. is the case that gave it
block_way : (r : Result ℕ FloatsError) → block_back (float_block_answer r) ≡ r
block_way (Ok n) = refl
block_way (Err WrongLength) = refl
block_way (Err (BadFloat i)) = refl

-- one answer for a block
pub one_block : (values : List Float) (samples : List ℤ) {r q : Result ℕ FloatsError} → float_block_answer r ≡ float_block_answer (from_floats values samples).result →
    float_block_answer q ≡ float_block_answer (from_floats values samples).result → r ≡ q
one_block values samples = one_case float_block_answer block_back block_way

-- .. and one way to leave the samples
pub one_outcome : (values : List Float) (samples : List ℤ) {r q : Result ℕ FloatsError} {s t : List ℤ} → Done (from_floats values samples) r s → Done (from_floats values samples) q t →
    (r ≡ q) × (s ≡ t)
one_outcome values samples = one_answer
