-- A sample as a float: the whole number is exact, and so is its quotient by 8,388,608, which is 2 ^ 23. Assumes nothing.
use mathlib.Core.Path.{◌≡◌, ap, ◌∙◌}
use mathlib.Core.Bool.{Bool, true, false}
use Prim.Native.Nat.{ℕ, suc, ◌*◌, ◌^◌, ◌≤◌, ◌<◌}
use native.Mathlib.Nat.{mul-pos}
use native.Mathlib.Omega.{arith}
use borrow.Author.Tests.{leb-true, ltb-false}
use lib.Dec.{lit<}
use lib.IntN.{ℤ, pos, negsuc, nat_abs}
use lib.Ieee.{Float, nan, inf, fin, up, down, binary32, round, div, of_int}
use lib.Ieee.Back.{round_whole}
use lib.Ieee.Exact.{HasValue}
use lib.Ieee.Fits.{down_pos}
use lib.Ieee.Scale.{round_same}
use Rattle.answers.specs.Range.{within}
use Rattle.answers.specs.Unit.{least_sample, most_sample, largest_sample}
use Rattle.answers.proofs.Ranges.{within_ends}
use Rattle.floats.specs.Value.{full_scale, negative, float_of}

-- a sample is at most 2 ^ 23 in size
pub sample_size : (z : ℤ) → within least_sample most_sample z ≡ true → nat_abs z ≤ largest_sample
sample_size (pos n) e = omega (arith, leb-true n 8388607 e)
sample_size (negsuc n) e = omega (arith, ltb-false 8388607 n (within_ends least_sample most_sample (negsuc n) e).0)

-- numbers up to 2 ^ 24 are floats of their value
whole_value : (z : ℤ) → nat_abs z ≤ 2 ^ 24 → HasValue (of_int binary32 z) (negative z) (nat_abs z) 1
unfolding of_int
whole_value (pos n) h = round_whole binary32 false n h
whole_value (negsuc n) h = round_whole binary32 true (suc n) h

-- v / d over 2 ^ 23 is n / 2 ^ 23 where v / d is n
over : (v d n : ℕ) → v * 1 ≡ n * d → v * 1 * full_scale ≡ n * (1 * 2 ^ 23 * d)
over v d n e = omega (arith, ap (λ (x : ℕ). x * full_scale) e)

-- .. rounded
rounded : (t s : Bool) (v d n : ℕ) → 0 < d → t ≡ s → v * 1 ≡ n * d → round binary32 t (v * 1) (1 * 2 ^ 23 * d) ≡ round binary32 s n full_scale
rounded t s v d n h e q =
    ap (λ (u : Bool). round binary32 u (v * 1) (1 * 2 ^ 23 * d)) e
    ∙ round_same binary32 s (v * 1) (1 * 2 ^ 23 * d) n full_scale (mul-pos (lit< tt) h) (lit< tt) (over v d n q)

-- the quotient of a float with the value n
quotient : (x : Float) (s : Bool) (n : ℕ) → HasValue x s n 1 → div binary32 x (fin false 1 (pos 23)) ≡ round binary32 s n full_scale
unfolding div
quotient nan s n v = absurd v
quotient (inf t) s n v = absurd v
quotient (fin true m e) s n v = rounded true s (m * up e) (down e) n (down_pos e) v.0 v.1
quotient (fin false m e) s n v = rounded false s (m * up e) (down e) n (down_pos e) v.0 v.1

-- what the code works out is the float of the sample
pub float_is : (z : ℤ) → nat_abs z ≤ 2 ^ 24 → div binary32 (of_int binary32 z) (fin false 1 (pos 23)) ≡ float_of z
float_is z h = quotient (of_int binary32 z) (negative z) (nat_abs z) (whole_value z h)
