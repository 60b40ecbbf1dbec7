-- The sample codec: the sample in bytes at a place, and the calls where they accept. Assumes nothing.
use mathlib.Core.Path.{◌≡◌, sym, ap, ◌∙◌}
use mathlib.Core.Bool.{true}
use mathlib.Core.List.{List}
use Prim.Native.Nat.{ℕ, suc, ◌-◌, ◌*◌, ◌<◌, ◌≤◌}
use native.Mathlib.Omega.{arith}
use lib.ListN.{length}
use lib.Seq.{sets, take_all}
use lib.IntN.{ℤ, pos, neg_ℤ, ◌*ℤ◌}
use borrow.Author.Tests.{lt-ltb, le-ltb, eq-eqb, ne_eqb}
use mir.Syntax.{w32}
use mir.Val.{SFits, to_z, of_z}
use mir.Facts.{to_z-of_z}
use Rattle.answers.specs.Checks.{decide}
use Rattle.answers.specs.Range.{within, all_within}
use Rattle.answers.specs.Unit.{least_sample, most_sample}
use Rattle.fields.specs.Bytes.{lowest, number_in, field, row}
use Rattle.fields.proofs.ByTest.{by_order}
use Rattle.fields.proofs.Rows.{length-row, sets_whole}
use Rattle.floats.specs.Block.{sample_or0}
use Rattle.floats.specs.declared.code.NotNumber.{NotNumber}
use Rattle.samples.specs.Sample.{number_of, code_of, float_in, sample_in, from_bytes, to_bytes}
use Rattle.samples.specs.Samples.{bytes_of, block_to}
use Rattle.samples.specs.Format.{size_of}
use Rattle.samples.specs.declared.format.Format.{Format}
use Rattle.samples.specs.declared.format.Format.TheVariants.{Bits16, Bits24, Float32}
use Rattle.std.specs.Prelude.{Result, Ok}

-- ---- sixteen bits

low_16 : (c : ℕ) → c < 32768 → number_of 16 c *ℤ pos 256 ≡ number_of 24 (256 * c)
unfolding number_of
low_16 c l = rw (lt-ltb c 32768 l, lt-ltb (256 * c) 8388608 (omega arith)) (ap pos (omega arith))

high_16 : (c : ℕ) → 32768 ≤ c → c < 65536 → number_of 16 c *ℤ pos 256 ≡ number_of 24 (256 * c)
unfolding number_of
high_16 c l h =
    rw (le-ltb c 32768 l, lt-ltb c 65536 h, le-ltb (256 * c) 8388608 (omega arith), lt-ltb (256 * c) 16777216 (omega arith))
    (ap (λ (n : ℕ). neg_ℤ (pos n)) (magnitude c h))
  where
    magnitude : (k : ℕ) → k < 65536 → suc (65536 - suc k) * 256 ≡ suc (16777216 - suc (256 * k))
    magnitude k m = omega arith

-- a 16-bit number times 256 is the 24-bit number with a low byte of 0
pub times_256 : (c : ℕ) → c < 65536 → number_of 16 c *ℤ pos 256 ≡ number_of 24 (256 * c)
times_256 c h = by_order c 32768 (λ l. low_16 c l) (λ l. high_16 c l h)

-- ---- the sample of whole bytes, as the code reads them

-- the field of all bytes is their number
pub whole_field : (s : List ℕ) (k n : ℕ) → length s ≡ k → n ≡ field lowest s 0 k → n ≡ number_in lowest s
unfolding field
whole_field s k n l e = e ∙ ap (number_in lowest) (take_all k s (omega arith))

pub whole_16 : (s : List ℕ) (n : ℕ) → length s ≡ 2 → n < 65536 → n ≡ field lowest s 0 2 → number_of 24 (256 * n) ≡ sample_in Bits16 s
unfolding sample_in
whole_16 s n l h e = sym (times_256 n h) ∙ ap (λ (m : ℕ). number_of 16 m *ℤ pos 256) (whole_field s 2 n l e)

pub whole_24 : (s : List ℕ) (n : ℕ) → length s ≡ 3 → n ≡ field lowest s 0 3 → number_of 24 n ≡ sample_in Bits24 s
unfolding sample_in
whole_24 s n l e = ap (number_of 24) (whole_field s 3 n l e)

pub whole_float : (s : List ℕ) (r : Result ℤ NotNumber) → r ≡ float_in s → sample_or0 r ≡ sample_in Float32 s
unfolding sample_in
whole_float s r e = ap sample_or0 e

-- ---- the calls where they accept

pub from_whole : (format : Format) (s : List ℕ) → size_of format < 4 → length s ≡ size_of format → from_bytes s ≡ Ok (sample_in format s)
unfolding from_bytes
from_whole Bits16 s few h = rw (eq-eqb (length s) 2 h)
from_whole Bits24 s few h = rw (ne_eqb (length s) 2 (λ two. omega arith), eq-eqb (length s) 3 h)
from_whole Float32 s few h = absurd (omega arith)

pub to_three : (z : ℤ) (s : List ℕ) → length s ≡ 3 → within least_sample most_sample z ≡ true →
    to_bytes z s ≡ record { result = Ok 3; lent = row lowest 3 (code_of z) }
unfolding to_bytes decide
to_three z s h range = rw (eq-eqb (length s) 3 h, range)

pub to_all : (samples : List ℤ) (s : List ℕ) → length s ≡ 3 * length samples → all_within least_sample most_sample samples ≡ true →
    block_to samples s ≡ record { result = Ok (length s); lent = bytes_of samples }
unfolding block_to decide
to_all samples s fits range = rw (eq-eqb (length s) (3 * length samples) fits, range)

-- a code's three bytes, stored in a buffer of three
pub row_of : (z : ℤ) (s t : List ℕ) (code : ℕ) → SFits w32 z → length s ≡ 3 → code ≡ code_of (to_z w32 (of_z w32 z)) → t ≡ sets s 0 (row lowest 3 code) →
    t ≡ row lowest 3 (code_of z)
row_of z s t code fits three e d =
    d ∙ ap (λ (k : ℕ). sets s 0 (row lowest 3 k)) (e ∙ ap code_of (to_z-of_z fits))
    ∙ sets_whole s (row lowest 3 (code_of z)) (length-row lowest 3 (code_of z) ∙ sym three)
