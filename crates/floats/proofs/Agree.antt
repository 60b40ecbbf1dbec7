-- The two definitions of a float's sample agree: by ranges of the exponent, and by the value. Assumes nothing.
use mathlib.Core.Path.{◌≡◌, refl, sym, ap, ◌∙◌}
use mathlib.Core.Bool.{Bool, true, false, cond}
use Prim.Native.Nat.{ℕ, zero, suc, ◌+◌, ◌-◌, ◌*◌, ◌/◌, ◌%◌, ◌^◌, ◌≤◌, ◌<◌}
use native.Mathlib.Nat.{mod-lt}
use native.Mathlib.Omega.{arith}
use native.Mathlib.Decide.{dec_lt}
use borrow.Author.Tests.{ne_eqb}
use lib.Dec.{eqb}
use lib.IntN.{pos}
use lib.Pow.{pow_pos, field}
use lib.Ieee.{nan, inf, binary32, odd, of_fields, of_bits}
use lib.Ieee.Exact.{odd_sign}
use Rattle.answers.specs.Unit.{least_sample, most_sample}
use Rattle.whole.specs.Limit.{limit}
use Rattle.floats.specs.Value.{signed, float_sample}
use Rattle.floats.specs.Exponent.{minus, exponent, end_of, shifted, by_exponent}
use Rattle.floats.proofs.Ends.{limit_far}
use Rattle.floats.proofs.Ladder.{ladder, is_ladder, at_255, from_127, from_103, below_103}
use Rattle.floats.proofs.Quotients.{joined, small_quotient, shifted_quotient, large_quotient}
use Rattle.floats.proofs.Rounded.{sample_of_value}
use Rattle.std.specs.Prelude.{Ok, Err}

-- ---- q · 2 ^ k units of 2 ^ -149

module _ (s : Bool) (q k : ℕ) where
  -- its sample, by its value
  sample_odd : float_sample (odd 24 s q k 149) ≡
      Ok (limit least_sample most_sample (signed s ((q * 2 ^ (23 + k) + 2 ^ 148) / (2 * 2 ^ 148))))
  sample_odd =
      sample_of_value (odd 24 s q k 149) s (q * 2 ^ k) (2 ^ 148) (pow_pos 148) (odd_sign 24 s q k 149)
      ∙ ap (λ (v : ℕ). Ok (limit least_sample most_sample (signed s ((v + 2 ^ 148) / (2 * 2 ^ 148))))) (joined q k)

  -- below 2 ^ -24 there is nothing, and no sign
  small_odd : q < 2 ^ 24 → k ≤ 101 → float_sample (odd 24 s q k 149) ≡ Ok (pos 0)
  small_odd l h =
      sample_odd ∙ ap (λ (n : ℕ). Ok (limit least_sample most_sample (signed s n))) (small_quotient q k l h) ∙ ap Ok (no_sign s)
    where
      no_sign : (s : Bool) → limit least_sample most_sample (signed s 0) ≡ pos 0
      no_sign false = refl
      no_sign true = refl

  -- below 1.0 it is the shift
  shifted_odd : (j : ℕ) → 1 ≤ j → k + j ≡ 126 → float_sample (odd 24 s q k 149) ≡ Ok (shifted s q j)
  shifted_odd j l e = sample_odd ∙ ap (λ (n : ℕ). Ok (limit least_sample most_sample (signed s n))) (shifted_quotient q k j l e)

  -- from 1.0 on it is the end
  large_odd : 8388608 ≤ q → 126 ≤ k → float_sample (odd 24 s q k 149) ≡ Ok (end_of s)
  large_odd l h = sample_odd ∙ ap Ok (limit_far s ((q * 2 ^ (23 + k) + 2 ^ 148) / (2 * 2 ^ 148)) (large_quotient q k l h))

  -- a leading one and 23 digits: the three ranges
  by_digits : 8388608 ≤ q → q < 2 ^ 24 → k < 254 → ladder s (suc k) q ≡ float_sample (odd 24 s q k 149)
  by_digits l h top = by (dec_lt k 102) (dec_lt k 126)
    where
      by : Dec (k < 102) → Dec (k < 126) → ladder s (suc k) q ≡ float_sample (odd 24 s q k 149)
      by (yes a) d = below_103 s (suc k) q (omega arith) ∙ sym (small_odd h (omega arith))
      by (no m) (yes a) = from_103 s (suc k) q (omega arith) (omega arith) ∙ sym (shifted_odd (127 - suc k) (omega arith) (omega arith))
      by (no m) (no o) = from_127 s (suc k) q (omega arith) (omega arith) ∙ sym (large_odd l (omega arith))

-- ---- the fields of a code

module _ (s : Bool) (t : ℕ) (below : t < 2 ^ 23) where
  -- an infinity and a NaN are no sample
  top_field : float_sample (of_fields binary32 s 255 t) ≡ Err (record {})
  unfolding of_fields float_sample
  top_field = by (eqb t 0)
    where
      by : (b : Bool) → float_sample (cond b (inf s) nan) ≡ Err (record {})
      by true = refl
      by false = refl

  -- a field from 1 to 254
  normal_field : (k : ℕ) → k < 254 → float_sample (of_fields binary32 s (suc k) t) ≡ float_sample (odd 24 s (8388608 + t) k 149)
  unfolding of_fields
  normal_field k h = rw (ne_eqb (suc k) 255 (λ e. omega arith))

  -- a field of 0 has no leading one, and is too small either way
  by_fields : (x : ℕ) → x < 256 → ladder s x (8388608 + t) ≡ float_sample (of_fields binary32 s x t)
  by_fields zero h = below_103 s 0 (8388608 + t) (omega arith) ∙ sym (unfold of_fields in small_odd s t 0 (omega arith) (omega arith))
  by_fields (suc k) h = by (dec_lt k 254)
    where
      by : Dec (k < 254) → ladder s (suc k) (8388608 + t) ≡ float_sample (of_fields binary32 s (suc k) t)
      by (yes l) = by_digits s (8388608 + t) k (omega arith) (omega arith) l ∙ sym (normal_field k l)
      by (no m) =
          let e : suc k ≡ 255 = omega arith in
          at_255 s (suc k) (8388608 + t) e ∙ sym (ap (λ (x : ℕ). float_sample (of_fields binary32 s x t)) e ∙ top_field)

-- ---- the theorem

-- the exponent's bits are the same eight in both
same-field : (code : ℕ) → exponent code ≡ code % 2147483648 / 8388608
same-field code = sym (field code 8 23)

-- every code, those of NaNs and infinities with them
pub agree : (code : ℕ) → by_exponent code ≡ float_sample (of_bits binary32 code)
unfolding of_bits
agree code =
    is_ladder code
    ∙ by_fields (minus code) (code % 2 ^ 23) (mod-lt code (pow_pos 23)) (exponent code) (mod-lt (code / 2 ^ 23) (pow_pos 8))
    ∙ ap (λ (x : ℕ). float_sample (of_fields binary32 (minus code) x (code % 2 ^ 23))) (same-field code)
