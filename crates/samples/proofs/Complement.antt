-- Two's complement of 24 bits: a number in the range and its code say the same, and the machine's steps between them lose nothing.
-- Assumes nothing.
use mathlib.Core.Path.{◌≡◌, refl, sym, ap, ◌∙◌, subst}
use mathlib.Core.Bool.{true, false, true≢false}
use Prim.Native.Nat.{ℕ, suc, ◌-◌, ◌<◌, ◌≤◌}
use native.Mathlib.Omega.{arith}
use lib.IntN.{ℤ, pos, negsuc, nat_abs, ◌+ℤ◌, ◌-ℤ◌}
use lib.Signed.{lt_z}
use borrow.Author.Tests.{leb-true, le-leb, ltb-true, ltb-false, lt-ltb, le-ltb}
use mir.Syntax.{w32}
use mir.Val.{SFits, to_z, of_z}
use mir.Facts.{to_z-of_z, to_z_pos}
use Rattle.answers.specs.Range.{within}
use Rattle.answers.specs.Unit.{least_sample, most_sample}
use Rattle.answers.proofs.Ranges.{within_ends}
use Rattle.fields.proofs.ByTest.{by_order}
use Rattle.samples.specs.Sample.{number_of, code_of}

-- ---- the range

pub in_range_neg : (n : ℕ) → within least_sample most_sample (negsuc n) ≡ true → n < 8388608
in_range_neg n h = omega (arith, ltb-false 8388607 n (within_ends least_sample most_sample (negsuc n) h).0)

pub in_range_pos : (n : ℕ) → within least_sample most_sample (pos n) ≡ true → n < 8388608
in_range_pos n h = omega (arith, leb-true n 8388607 (within_ends least_sample most_sample (pos n) h).1)

pub code_below : (z : ℤ) → within least_sample most_sample z ≡ true → code_of z < 16777216
unfolding code_of
code_below (pos n) h = omega (arith, in_range_pos n h)
code_below (negsuc n) h = omega (arith, in_range_neg n h)

in_range_of_pos : (n : ℕ) → n < 8388608 → within least_sample most_sample (pos n) ≡ true
in_range_of_pos n h = le-leb n 8388607 (omega arith)

in_range_of_neg : (n : ℕ) → n < 8388608 → within least_sample most_sample (negsuc n) ≡ true
in_range_of_neg n h = rw (le-ltb 8388607 n (omega arith))

-- .. and in the machine's
pub sample_fits : (z : ℤ) → within least_sample most_sample z ≡ true → SFits w32 z
sample_fits (pos n) h = let l = in_range_pos n h in record { sfits = omega arith }
sample_fits (negsuc n) h = let l = in_range_neg n h in record { sfits = omega arith }

-- ---- a number to its code

add_whole : (n : ℕ) → n < 8388608 → negsuc n +ℤ pos 16777216 ≡ pos (16777216 - suc n)
add_whole n h = rw (le-ltb 16777216 (suc n) (omega arith))

sfits_below : (n : ℕ) → n < 16777216 → SFits w32 (pos n)
sfits_below n h = record { sfits = omega arith }

negative_up : (z : ℤ) → within least_sample most_sample z ≡ true → lt_z z (pos 0) ≡ true → z +ℤ pos 16777216 ≡ pos (code_of z)
unfolding code_of
negative_up (pos n) h l = absurd (omega (arith, ltb-true n 0 l))
negative_up (negsuc n) h l = add_whole n (in_range_neg n h)

not_negative : (z : ℤ) → lt_z z (pos 0) ≡ false → z ≡ pos (code_of z)
unfolding code_of
not_negative (pos n) l = refl
not_negative (negsuc n) l = absurd (true≢false l)

module _ (z : ℤ) (fits : SFits w32 z) (range : within least_sample most_sample z ≡ true) where
  pub sum_fits : lt_z (to_z w32 (of_z w32 z)) (pos 0) ≡ true → SFits w32 (to_z w32 (of_z w32 z) +ℤ pos 16777216)
  sum_fits l =
      subst (λ (v : ℤ). SFits w32 (v +ℤ pos 16777216)) (sym (to_z-of_z fits))
      (subst (SFits w32) (sym (negative_up z range (rw (to_z-of_z fits) at l))) (sfits_below (code_of z) (code_below z range)))

  pub code-negative : lt_z (to_z w32 (of_z w32 z)) (pos 0) ≡ true → to_z w32 (of_z w32 (to_z w32 (of_z w32 z) +ℤ pos 16777216)) ≡ pos (code_of z)
  code-negative l =
      to_z-of_z (sum_fits l) ∙ ap (λ (v : ℤ). v +ℤ pos 16777216) (to_z-of_z fits)
      ∙ negative_up z range (rw (to_z-of_z fits) at l)

  pub code_positive : lt_z (to_z w32 (of_z w32 z)) (pos 0) ≡ false → to_z w32 (of_z w32 z) ≡ pos (code_of z)
  code_positive l = to_z-of_z fits ∙ not_negative z (rw (to_z-of_z fits) at l)

  -- a cast of what reads as the code is the code
  pub cast_is : (v : ℤ) → v ≡ pos (code_of z) → (nat_abs v ≡ code_of z) × (nat_abs v < 16777216)
  cast_is v e = subst (λ (u : ℤ). (nat_abs u ≡ code_of z) × (nat_abs u < 16777216)) (sym e) (refl, code_below z range)

-- ---- a code to its number

number_low : (c : ℕ) → c < 8388608 → number_of 24 c ≡ pos c
unfolding number_of
number_low c l = rw (lt-ltb c 8388608 l)

number_high : (c : ℕ) → 8388608 ≤ c → number_of 24 c ≡ pos c -ℤ pos 16777216
unfolding number_of
number_high c l = rw (le-ltb c 8388608 l)

sub_whole : (c : ℕ) → c < 16777216 → pos c -ℤ pos 16777216 ≡ negsuc (16777216 - suc c)
sub_whole c l = rw (lt-ltb c 16777216 l)

module _ (c : ℕ) (below : c < 16777216) where
  read-code : to_z w32 c ≡ pos c
  read-code = to_z_pos w32 (omega arith)

  pub low_is : c < 8388608 → to_z w32 c ≡ number_of 24 c
  low_is l = read-code ∙ sym (number_low c l)

  pub high_fits : 8388608 ≤ c → SFits w32 (to_z w32 c -ℤ pos 16777216)
  high_fits l =
      subst (λ (v : ℤ). SFits w32 (v -ℤ pos 16777216)) (sym read-code)
      (subst (SFits w32) (sym (sub_whole c below)) (record { sfits = omega arith }))

  pub high_is : 8388608 ≤ c → to_z w32 (of_z w32 (to_z w32 c -ℤ pos 16777216)) ≡ number_of 24 c
  high_is l = to_z-of_z (high_fits l) ∙ ap (λ (v : ℤ). v -ℤ pos 16777216) read-code ∙ sym (number_high c l)

double_sub : (n : ℕ) → n < 8388608 → 16777216 - suc (16777216 - suc n) ≡ n
double_sub n l = omega arith

code_pos : (n : ℕ) → code_of (pos n) ≡ n
unfolding code_of
code_pos n = refl

code_negsuc : (c : ℕ) → c < 16777216 → code_of (negsuc (16777216 - suc c)) ≡ c
unfolding code_of
code_negsuc c l = omega arith

-- ---- there and back

pub number-code : (z : ℤ) → within least_sample most_sample z ≡ true → number_of 24 (code_of z) ≡ z
unfolding code_of
number-code (pos n) h = number_low n (in_range_pos n h)
number-code (negsuc n) h =
    let l : n < 8388608 = in_range_neg n h in
    number_high (16777216 - suc n) (omega arith) ∙ sub_whole (16777216 - suc n) (omega arith)
    ∙ ap negsuc (double_sub n l)

pub code-number : (c : ℕ) → c < 16777216 → code_of (number_of 24 c) ≡ c
code-number c below = by_order c 8388608
    (λ (l : c < 8388608). ap code_of (number_low c l) ∙ code_pos c)
    (λ (l : 8388608 ≤ c). ap code_of (number_high c l ∙ sub_whole c below) ∙ code_negsuc c below)

pub number_in_range : (c : ℕ) → c < 16777216 → within least_sample most_sample (number_of 24 c) ≡ true
number_in_range c below = by_order c 8388608
    (λ (l : c < 8388608). ap (within least_sample most_sample) (number_low c l) ∙ in_range_of_pos c l)
    (λ (l : 8388608 ≤ c). ap (within least_sample most_sample) (number_high c l ∙ sub_whole c below) ∙ in_range_of_neg (16777216 - suc c) (omega arith))
