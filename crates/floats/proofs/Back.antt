-- A sample as a float and back: nothing is lost, 0 is the plain 0, and the float's sample is the sample. Assumes nothing.
use mathlib.Core.Path.{◌≡◌, refl, sym, ap, ◌∙◌}
use mathlib.Core.Bool.{Bool, true, false}
use Prim.Native.Nat.{ℕ, suc, ◌*◌, ◌^◌, ◌<◌}
use native.Mathlib.Nat.{mul_comm, mul_assoc, lt_of_lt_of_le, lt_of_le_of_lt}
use borrow.Author.Tests.{leb-true, le-ltb}
use lib.Dec.{T, lit<, lit≤}
use lib.IntN.{ℤ, pos, negsuc, neg_ℤ, nat_abs, ◌*ℤ◌}
use lib.Pow.{shl_lt, pow_mono}
use lib.Ieee.{Float, nan, inf, fin, up, down, binary32, round, fits}
use lib.Ieee.Exact.{HasValue, round_exact}
use lib.Ieee.Fits.{down_pos, round-fits}
use Rattle.answers.specs.Range.{within}
use Rattle.answers.specs.Unit.{least_sample, most_sample}
use Rattle.answers.proofs.Ranges.{within_ends}
use Rattle.whole.specs.Limit.{limit}
use Rattle.whole.specs.Nearest.{nearest}
use Rattle.whole.proofs.Nearest.{nearest-exact}
use Rattle.floats.specs.Value.{full_scale, signed, float_sample, negative, float_of}
use Rattle.floats.proofs.ToFloat.{sample_size}
use Rattle.std.specs.Prelude.{Ok}

-- the float of a number is one that an f32 holds
pub float_fits : (z : ℤ) → T (fits binary32 (float_of z))
float_fits z = round-fits binary32 (negative z) (nat_abs z) full_scale

-- the float of 0 has no sign and no digits
pub zero_plain : float_of (pos 0) ≡ fin false 0 (pos 0)
unfolding round
zero_plain = refl

-- n times 2 ^ 126 of the smallest f32 is n over 2 ^ 23
in_units : (n : ℕ) → n * 2 ^ 149 ≡ n * 2 ^ 126 * full_scale
in_units n = sym (mul_assoc n (2 ^ 126) full_scale)

-- the float of a sample is z / 8,388,608 and no other number
pub nothing_lost : (z : ℤ) → within least_sample most_sample z ≡ true → HasValue (float_of z) (negative z) (nat_abs z) full_scale
nothing_lost z e =
    let small : nat_abs z < 2 ^ 24 = lt_of_le_of_lt (sample_size z e) (lit< tt) in
    round_exact binary32 (negative z) (nat_abs z) full_scale (nat_abs z) 126 (lit< tt) small
    (lt_of_lt_of_le (shl_lt 24 126 small) (pow_mono {i = 150} {j = 277} (lit≤ tt)))
    (in_units (nat_abs z))

-- z times d from its sign and size
signed_times : (z : ℤ) (d : ℕ) → signed (negative z) (nat_abs z * d) ≡ pos d *ℤ z
signed_times (pos n) d = ap pos (mul_comm n d)
signed_times (negsuc n) d = ap (λ (k : ℕ). neg_ℤ (pos k)) (mul_comm (suc n) d)

-- a number in range is not limited
pub not_limited : (z : ℤ) → within least_sample most_sample z ≡ true → limit least_sample most_sample z ≡ z
not_limited (pos n) e = rw (le-ltb 8388607 n (leb-true n 8388607 e))
not_limited (negsuc n) e = rw (within_ends least_sample most_sample (negsuc n) e).0

-- m times 2 ^ e is z / 8,388,608, so 8,388,608 times that is z
times_scale : (z : ℤ) (v d : ℕ) → v * full_scale ≡ nat_abs z * d → signed (negative z) (full_scale * v) ≡ pos d *ℤ z
times_scale z v d e = ap (signed (negative z)) (mul_comm full_scale v ∙ e) ∙ signed_times z d

-- the sample of a float with the value z / 8,388,608
of_value : (x : Float) (z : ℤ) → within least_sample most_sample z ≡ true → HasValue x (negative z) (nat_abs z) full_scale → float_sample x ≡ Ok z
unfolding float_sample
of_value nan z e v = absurd v
of_value (inf t) z e v = absurd v
of_value (fin t m k) z e v =
    ap (λ (y : ℤ). Ok (limit least_sample most_sample (nearest (down k) y)))
    (ap (λ (s : Bool). signed s (full_scale * (m * up k))) v.0 ∙ times_scale z (m * up k) (down k) v.1)
    ∙ ap (λ (y : ℤ). Ok (limit least_sample most_sample y)) (nearest-exact (down k) (down_pos k) z)
    ∙ ap Ok (not_limited z e)

-- the sample of a sample's float is the sample
pub there_and_back : (z : ℤ) → within least_sample most_sample z ≡ true → float_sample (float_of z) ≡ Ok z
there_and_back z e = of_value (float_of z) z e (nothing_lost z e)
