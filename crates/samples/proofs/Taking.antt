-- Bytes to samples by the block: the laws of `samples_of`, and what a turn of the loop keeps. Assumes nothing.
use mathlib.Core.Path.{◌≡◌, refl, sym, ap, ap₂, ◌∙◌, subst}
use mathlib.Core.Bool.{true}
use mathlib.Core.List.{List}
use Prim.Native.Nat.{ℕ, zero, suc, ◌+◌, ◌*◌, ◌/◌, ◌%◌, ◌<◌}
use native.Mathlib.Nat.{le_of_suc-le-suc, not-suc-le-zero, mul-zero}
use native.Mathlib.Omega.{arith}
use lib.ListN.{length, get_or, take, drop, set}
use lib.Seq.{take_all, drop-drop}
use lib.IntN.{ℤ, pos}
use borrow.Author.Tests.{eq-eqb}
use Rattle.answers.specs.Checks.{decide, Done}
use Rattle.floats.proofs.Taking.{one_more}
use Rattle.samples.specs.Sample.{sample_in}
use Rattle.samples.specs.Samples.{samples_of, all_samples, block_from}
use Rattle.samples.specs.Format.{size_of}
use Rattle.samples.specs.declared.format.Format.{Format}
use Rattle.std.specs.Prelude.{Ok}

pub length-samples : (n : ℕ) (format : Format) (s : List ℕ) → length (samples_of n format s) ≡ n
unfolding samples_of
length-samples zero format s = refl
length-samples (suc n) format s = ap suc (length-samples n format (drop (size_of format) s))

-- sample i is the one in the bytes at its place
pub samples_at : (n : ℕ) (format : Format) (s : List ℕ) (i : ℕ) → i < n →
    get_or (samples_of n format s) i (pos 0) ≡ sample_in format (take (size_of format) (drop (size_of format * i) s))
unfolding samples_of
samples_at zero format s i h = absurd (not-suc-le-zero h)
samples_at (suc n) format s zero h = ap (λ (k : ℕ). sample_in format (take (size_of format) (drop k s))) (sym (mul-zero (size_of format)))
samples_at (suc n) format s (suc i) h =
    samples_at n format (drop (size_of format) s) i (le_of_suc-le-suc h)
    ∙ ap (λ (l : List ℕ). sample_in format (take (size_of format) l))
    (drop-drop (size_of format * i) (size_of format) s ∙ ap (λ (k : ℕ). drop k s) (next_place (size_of format) i))
  where
    next_place : (k j : ℕ) → k + k * j ≡ k * suc j
    next_place k j = omega arith

-- one sample more is taken: j are, and piece j is the next
pub taking_turn : (format : Format) (s : List ℕ) (n m k : ℕ) (new : List ℤ) (j i : ℕ) (p : List ℕ) (v : ℤ) → take j new ≡ take j (samples_of n format s) → j < length new → k ≡ j + 1 → m ≡ n →
    (j < n) × ((i ≡ j) × (p ≡ take (size_of format) (drop (size_of format * j) s))) → v ≡ sample_in format p → take k (set new i v) ≡ take k (samples_of m format s)
taking_turn format s n m k new j i p v t h e f g w =
    let l : j < length (samples_of n format s) = subst (λ (x : ℕ). j < x) (sym (length-samples n format s)) g.0 in
    ap₂ (λ (x y : ℕ). take x (set new y v)) e g.1.0
    ∙ one_more (samples_of n format s) new j v t l h (w ∙ ap (sample_in format) g.1.1 ∙ sym (samples_at n format s j g.0))
    ∙ ap₂ (λ (x y : ℕ). take x (samples_of y format s)) (sym e) (sym f)

-- all are
pub taking_end : (format : Format) (s : List ℕ) (n : ℕ) (new : List ℤ) (j m : ℕ) → take j new ≡ take j (samples_of m format s) → length new ≡ n → m ≡ n → j ≡ n →
    new ≡ samples_of n format s
taking_end format s n new j m t l f e =
    sym (take_all j new (omega arith)) ∙ t ∙ ap (λ (k : ℕ). take j (samples_of k format s)) f ∙ take_all j (samples_of n format s) (omega (arith, length-samples n format s))

-- where every check holds, the call answers its samples
pub all_taken : (s : List ℕ) (format : Format) (samples last : List ℤ) (size : ℕ) → size ≡ size_of format → length s % size ≡ 0 → length samples ≡ length s / size →
    all_samples (length samples) format s ≡ true → length last ≡ length samples → last ≡ samples_of (length samples) format s → Done (block_from s format samples) (Ok (length last)) last
unfolding block_from decide
all_taken s format samples last size is rest count good long e =
    let r : length s % size_of format ≡ 0 = ap (λ (k : ℕ). length s % k) (sym is) ∙ rest in
    let c : length samples ≡ length s / size_of format = count ∙ ap (λ (k : ℕ). length s / k) is in
    rw (eq-eqb (length s % size_of format) 0 r, eq-eqb (length samples) (length s / size_of format) c, good) (record { result_is = ap Ok long; lent_is = e })
