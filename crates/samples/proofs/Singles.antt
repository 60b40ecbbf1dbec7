-- A block is its single calls: each sample of a block is what the single call gives, and blocks go there and back.
-- Assumes nothing.
use mathlib.Core.Path.{◌≡◌, refl, sym, ap, ap₂, ◌∙◌}
use mathlib.Core.Bool.{true}
use mathlib.Core.List.{List, [], ◌∷◌, ◌++◌}
use Prim.Native.Nat.{ℕ, zero, suc, ◌-◌, ◌*◌, ◌<◌, ◌≤◌}
use native.Mathlib.Nat.{le_of_suc-le-suc, not-suc-le-zero}
use native.Mathlib.Omega.{arith}
use lib.ListN.{length, get_or, take, drop, length-drop, take-append-drop}
use lib.Seq.{length-take-le}
use lib.IntN.{ℤ, pos}
use Rattle.answers.specs.Range.{all_within}
use Rattle.answers.specs.Unit.{least_sample, most_sample}
use Rattle.answers.proofs.Ranges.{all_at, all_cons}
use Rattle.fields.specs.Bytes.{Bytes, lowest, number_in, ordered, little, row}
use Rattle.fields.proofs.Numbers.{bytes_take, bytes_drop}
use Rattle.samples.specs.Sample.{number_of, code_of, sample_in, from_bytes, to_bytes}
use Rattle.samples.specs.Samples.{samples_of, bytes_of}
use Rattle.samples.specs.Format.{size_of}
use Rattle.samples.specs.declared.format.Format.{Format}
use Rattle.samples.specs.declared.format.Format.TheVariants.{Bits16, Bits24, Float32}
use Rattle.samples.proofs.Codec.{from_whole, to_three}
use Rattle.samples.proofs.Taking.{samples_at}
use Rattle.samples.proofs.RoundTrips.{number-back, same_bytes}
use Rattle.std.specs.Prelude.{Ok}

-- sample i of a block is the single call's on the bytes at its place
pub from_singles : (n : ℕ) (format : Format) (s : List ℕ) (i : ℕ) → size_of format < 4 → i < n → size_of format * n ≤ length s →
    from_bytes (take (size_of format) (drop (size_of format * i) s)) ≡ Ok (get_or (samples_of n format s) i (pos 0))
from_singles n format s i few h room =
    from_whole format (take (size_of format) (drop (size_of format * i) s)) few
    (length-take-le (size_of format) (drop (size_of format * i) s) (left format n i (length s) h room (length-drop (size_of format * i) s)))
    ∙ ap Ok (sym (samples_at n format s i h))
  where
    left : (f : Format) (m j k : ℕ) → j < m → size_of f * m ≤ k → {l : ℕ} → l ≡ k - size_of f * j → size_of f ≤ l
    left Bits16 m j k a b e = omega arith
    left Bits24 m j k a b e = omega arith
    left Float32 m j k a b e = omega arith

-- the bytes at a sample's place are the sample's
bytes_at : (samples : List ℤ) (i : ℕ) → i < length samples → take 3 (drop (3 * i) (bytes_of samples)) ≡ row lowest 3 (code_of (get_or samples i (pos 0)))
unfolding bytes_of row ordered little
bytes_at [] i h = absurd (not-suc-le-zero h)
bytes_at (z ∷ samples) zero h = refl
bytes_at (z ∷ samples) (suc i) h =
    ap (λ (k : ℕ). take 3 (drop k (row lowest 3 (code_of z) ++ bytes_of samples))) (three_more i)
    ∙ bytes_at samples i (le_of_suc-le-suc h)
  where
    three_more : (j : ℕ) → 3 * suc j ≡ suc (suc (suc (3 * j)))
    three_more j = omega arith

-- the bytes of sample i of a block are the single call's
pub to_singles : (samples : List ℤ) (buffer : List ℕ) (i : ℕ) → all_within least_sample most_sample samples ≡ true → i < length samples → length buffer ≡ 3 →
    to_bytes (get_or samples i (pos 0)) buffer ≡ record { result = Ok 3; lent = take 3 (drop (3 * i) (bytes_of samples)) }
to_singles samples buffer i range h three =
    to_three (get_or samples i (pos 0)) buffer three (all_at least_sample most_sample samples range i h)
    ∙ ap (λ (t : List ℕ). record { result = Ok 3; lent = t }) (sym (bytes_at samples i h))

-- a block of samples written and taken again is itself
pub block_there_and_back : (samples : List ℤ) → all_within least_sample most_sample samples ≡ true → samples_of (length samples) Bits24 (bytes_of samples) ≡ samples
unfolding samples_of bytes_of row ordered little sample_in
block_there_and_back [] h = refl
block_there_and_back (z ∷ samples) h =
    let range = all_cons least_sample most_sample z samples h in
    let same_sample : number_of 24 (number_in lowest (row lowest 3 (code_of z))) ≡ z =
    number-back z range.0 in
    ap (λ (y : ℤ). y ∷ samples_of (length samples) Bits24 (bytes_of samples)) same_sample
    ∙ ap (λ (r : List ℤ). z ∷ r) (block_there_and_back samples range.1)

-- whole samples of bytes taken and written again are themselves
pub bytes_there_and_back : (n : ℕ) (s : List ℕ) → Bytes s → length s ≡ 3 * n → bytes_of (samples_of n Bits24 s) ≡ s
unfolding samples_of bytes_of
bytes_there_and_back zero [] bytes h = refl
bytes_there_and_back zero (b ∷ s) bytes h = absurd (omega arith)
bytes_there_and_back (suc n) s bytes h =
    ap₂ ◌++◌ (same_bytes (take 3 s) (length-take-le 3 s (omega arith)) (bytes_take 3 s bytes))
    (bytes_there_and_back n (drop 3 s) (bytes_drop 3 s bytes) (length-drop 3 s ∙ omega arith))
    ∙ take-append-drop 3 s
