-- The place of the first sample that is no number, as the code finds it: of whole numbers there is none. Assumes nothing.
use mathlib.Core.Path.{◌≡◌, refl, sym, ap, ◌∙◌}
use mathlib.Core.Bool.{true, false, not}
use mathlib.Core.List.{List}
use mathlib.Core.Logic.{◌⊎◌, inl, inr}
use Prim.Native.Nat.{ℕ}
use lib.Dec.{leb}
use Rattle.std.specs.Prelude.{Some, None, position}
use Rattle.answers.specs.First.{all_pass}
use Rattle.answers.proofs.Firsts.{found, found_none, none_there}
use Rattle.samples.specs.Sample.{is_sample_in}
use Rattle.samples.specs.Samples.{pieces_of, first_bad, all_samples}
use Rattle.samples.specs.Format.{size_of}
use Rattle.samples.specs.declared.format.Format.{Format}
use Rattle.samples.specs.declared.format.Format.TheVariants.{Bits16, Bits24}
use Rattle.samples.proofs.Pieces.{length_pieces, all_passed}

-- whole numbers are samples
whole_samples : (format : Format) → (format ≡ Bits16) ⊎ (format ≡ Bits24) → (s : List ℕ) → is_sample_in format s ≡ true
unfolding is_sample_in
whole_samples format (inl e) s = rw e refl
whole_samples format (inr e) s = rw e refl

pub whole_none : (format : Format) (n size : ℕ) (s : List ℕ) → (format ≡ Bits16) ⊎ (format ≡ Bits24) → None ≡ position (λ t. not (is_sample_in format t)) (pieces_of n size s)
whole_none format n size s e =
    none_there (is_sample_in format) (pieces_of n size s) (length_pieces n size s ∙ all_passed (is_sample_in format) (whole_samples format e) n size s)

-- all of n pieces, by their number
all_is : (format : Format) (n : ℕ) (s : List ℕ) → all_pass (is_sample_in format) (pieces_of n (size_of format) s) ≡ all_samples n format s
all_is format n s = ap (λ (k : ℕ). leb k (first_bad n format s)) (length_pieces n (size_of format) s)

module _ (format : Format) (s : List ℕ) (n m : ℕ) (same : n ≡ m) where
  pub bad_there : (place : ℕ) → position (λ t. not (is_sample_in format t)) (pieces_of m (size_of format) s) ≡ Some place →
      (all_samples n format s ≡ false) × (place ≡ first_bad n format s)
  bad_there place e =
      let f = found (is_sample_in format) (pieces_of m (size_of format) s) place e in
      (ap (λ (k : ℕ). all_samples k format s) same ∙ sym (all_is format m s) ∙ f.0, f.1 ∙ ap (λ (k : ℕ). first_bad k format s) (sym same))

  pub none_bad : position (λ t. not (is_sample_in format t)) (pieces_of m (size_of format) s) ≡ None → all_samples n format s ≡ true
  none_bad e =
      ap (λ (k : ℕ). all_samples k format s) same ∙ sym (all_is format m s) ∙ found_none (is_sample_in format) (pieces_of m (size_of format) s) e
