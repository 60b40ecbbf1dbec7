-- One sample there and back: what is written is read, and what is read writes the same bytes. Assumes nothing.
use mathlib.Core.Path.{◌≡◌, sym, ap, ◌∙◌}
use mathlib.Core.Bool.{true}
use mathlib.Core.List.{List}
use Prim.Native.Nat.{ℕ}
use native.Mathlib.Omega.{arith}
use lib.ListN.{length}
use lib.IntN.{ℤ}
use Rattle.answers.specs.Checks.{Outcome}
use Rattle.answers.specs.Range.{within}
use Rattle.answers.specs.Unit.{least_sample, most_sample}
use Rattle.fields.specs.Bytes.{Bytes, lowest, number_in, row}
use Rattle.fields.proofs.Rows.{length-row, number-row, row_number, number_in-below}
use Rattle.samples.specs.Sample.{number_of, code_of, sample_in, from_bytes, to_bytes}
use Rattle.samples.specs.declared.format.Format.TheVariants.{Bits24}
use Rattle.samples.proofs.Complement.{number-code, code-number, code_below}
use Rattle.samples.proofs.Codec.{from_whole, to_three}
use Rattle.samples.proofs.InRange.{sample_in_range}
use Rattle.std.specs.Prelude.{Result, Ok}
use Rattle.samples.specs.declared.single.StoreError.{StoreError}

-- the number in the bytes of a code
pub number-back : (z : ℤ) → within least_sample most_sample z ≡ true → number_of 24 (number_in lowest (row lowest 3 (code_of z))) ≡ z
number-back z range = ap (number_of 24) (number-row lowest 3 (code_of z) (code_below z range)) ∙ number-code z range

-- every 24-bit sample to bytes and back is itself
pub sample_bytes_sample : (z : ℤ) (buffer : List ℕ) → within least_sample most_sample z ≡ true → length buffer ≡ 3 →
    from_bytes (to_bytes z buffer).lent ≡ Ok z
unfolding sample_in
sample_bytes_sample z buffer range three =
    ap (λ (o : Outcome (Result ℕ StoreError) (List ℕ)). from_bytes o.lent) (to_three z buffer three range)
    ∙ from_whole Bits24 (row lowest 3 (code_of z)) (omega arith) (length-row lowest 3 (code_of z)) ∙ ap Ok (number-back z range)

-- every three bytes to a sample and back are themselves
pub same_bytes : (s : List ℕ) → length s ≡ 3 → Bytes s → row lowest 3 (code_of (sample_in Bits24 s)) ≡ s
unfolding sample_in
same_bytes s three bytes =
    ap (row lowest 3) (code-number (number_in lowest s) (number_in-below lowest 3 s bytes (omega arith)))
    ∙ ap (λ (k : ℕ). row lowest k (number_in lowest s)) (sym three) ∙ row_number lowest s bytes

-- .. and by the calls
pub bytes_sample_bytes : (s buffer : List ℕ) → length s ≡ 3 → Bytes s → length buffer ≡ 3 →
    (from_bytes s ≡ Ok (sample_in Bits24 s)) × (to_bytes (sample_in Bits24 s) buffer ≡ record { result = Ok 3; lent = s })
bytes_sample_bytes s buffer three bytes room = (
  from_whole Bits24 s (omega arith) three,
  to_three (sample_in Bits24 s) buffer room (sample_in_range Bits24 s bytes (omega arith))
      ∙ ap (λ (t : List ℕ). record { result = Ok 3; lent = t }) (same_bytes s three bytes),
)
