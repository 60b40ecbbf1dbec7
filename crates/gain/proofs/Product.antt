-- An f32 times a power of two is exact while the product is below 2^128; and a float of a known size cut to a whole number.
-- Assumes nothing.
use Rattle.std.proofs.Common.{◌≡◌, ℕ, zero, suc, ◌+◌, ◌-◌, ◌*◌, ◌/◌, ◌%◌, ◌^◌, ◌<◌, ◌≤◌, min, Bool, true, false, ◌&&◌, T, eqb, ltb, leb, ℤ, pos, negsuc, sym, ap, ◌∙◌, le_of_suc-le-suc, mul_assoc, div-lt_iff_lt-mul, lt_of_mul-lt-mul_right, mul-lt-mul_of_pos_right, one-mul, lt_of_not-le, zero-mul, mul-one, not-le_of_lt, arith, ltb→lt, lt→ltb, leb→le, pow_pos, pow-add}
use native.Mathlib.Nat.{eq_of_mul-eq-mul_right, zero-div}
use lib.Pow.{pow-lt}
use lib.Ieee.{Float, nan, inf, fin, binary32, up, down, mul, round, lt, to_unsigned, fits}
use lib.Ieee.Digits.{back}
use lib.Ieee.Exact.{HasValue, round_exact}
use lib.Ieee.Fits.{and_l, and_r, down_pos}
use lib.Ieee.Nearest.{div_same}

-- ---- the product

mul_power : (s : Bool) (m : ℕ) (e : ℤ) (k : ℕ) → mul binary32 (fin s m e) (fin false 1 (pos k)) ≡ round binary32 s (m * up e * 2 ^ k) (down e)
unfolding mul
mul_power true m e k = simp (one-mul, mul-one)
mul_power false m e k = simp (one-mul, mul-one)

-- what an f32 that is not 0 has: few digits, and no more than 149 places behind the point
few_digits : (s : Bool) (m : ℕ) (e : ℤ) → T (fits binary32 (fin s m e)) → m < 2 ^ 24
unfolding fits
few_digits s zero e t = pow_pos 24
few_digits s (suc m) e t =
    let odd = eqb (suc m % 2) 1 in
    let small = ltb (suc m) (2 ^ 24) in
    let fine = leb (down e) (2 ^ 149) in
    ltb→lt (suc m) (2 ^ 24) (and_r odd small (and_l (odd && small) fine (and_l (odd && small && fine) (ltb (suc m * up e) (2 ^ 128 * down e)) t)))

few_places : (s : Bool) (m : ℕ) (e : ℤ) → T (fits binary32 (fin s (suc m) e)) → down e ≤ 2 ^ 149
unfolding fits
few_places s m e t =
    let front = eqb (suc m % 2) 1 && ltb (suc m) (2 ^ 24) in
    let fine = leb (down e) (2 ^ 149) in
    leb→le (down e) (2 ^ 149) (and_r front fine (and_l (front && fine) (ltb (suc m * up e) (2 ^ 128 * down e)) t))

-- 2^e times 2^k in units of the smallest f32, 2^-149
unfoldable shift : ℤ → ℕ → ℕ
shift (pos i) k = i + k + 149
shift (negsuc i) k = k + 149 - suc i

power_le : (i j : ℕ) → 2 ^ i ≤ 2 ^ j → i ≤ j
power_le i j h = le_of_suc-le-suc (lt_of_not-le (λ (l : j < i). not-le_of_lt (pow-lt l) h))

shift_right : (e : ℤ) (k : ℕ) → down e ≤ 2 ^ 149 → up e * 2 ^ k * 2 ^ 149 ≡ 2 ^ shift e k * down e
unfolding shift
shift_right (pos i) k h = ap (λ (x : ℕ). x * 2 ^ 149) (sym (pow-add 2 i k)) ∙ sym (pow-add 2 (i + k) 149) ∙ sym (mul-one (2 ^ (i + k + 149)))
shift_right (negsuc i) k h =
    let l : suc i ≤ 149 = power_le (suc i) 149 h in
    ap (λ (x : ℕ). x * 2 ^ 149) (one-mul (2 ^ k))
    ∙ sym (pow-add 2 k 149)
    ∙ ap (λ (x : ℕ). 2 ^ x) (sym (back (k + 149) (suc i) (omega arith)))
    ∙ pow-add 2 (k + 149 - suc i) (suc i)

in_units : (m : ℕ) (e : ℤ) (k : ℕ) → down e ≤ 2 ^ 149 → m * up e * 2 ^ k * 2 ^ 149 ≡ m * 2 ^ shift e k * down e
in_units m e k h =
    ap (λ (x : ℕ). x * 2 ^ 149) (mul_assoc m (up e) (2 ^ k))
    ∙ mul_assoc m (up e * 2 ^ k) (2 ^ 149)
    ∙ ap (λ (x : ℕ). m * x) (shift_right e k h)
    ∙ sym (mul_assoc m (2 ^ shift e k) (down e))

-- a bound in one unit is a bound in another
under_top : (n v d t u : ℕ) → 0 < u → v * u ≡ n * d → v < t * d → n < t * u
under_top n v d t u p h l = lt_of_mul-lt-mul_right d (omega (arith, mul-lt-mul_of_pos_right l p))

pub exact : (s : Bool) (m : ℕ) (e : ℤ) (k : ℕ) → T (fits binary32 (fin s m e)) → m * up e * 2 ^ k < 2 ^ 128 * down e →
    HasValue (mul binary32 (fin s m e) (fin false 1 (pos k))) s (m * up e * 2 ^ k) (down e)
exact s zero e k f h =
    rw (mul_power s zero e k)
    (round_exact binary32 s (0 * up e * 2 ^ k) (down e) 0 0 (down_pos e) (pow_pos 24) (pow_pos 277) (simp zero-mul))
exact s (suc m) e k f h =
    let units = in_units (suc m) e k (few_places s m e f) in
    rw (mul_power s (suc m) e k)
    (round_exact binary32 s (suc m * up e * 2 ^ k) (down e) (suc m) (shift e k) (down_pos e) (few_digits s (suc m) e f)
    (under_top (suc m * 2 ^ shift e k) (suc m * up e * 2 ^ k) (down e) (2 ^ 128) (2 ^ 149) (pow_pos 149) units h)
    units)

-- ---- the cut

-- y is above -1 and below 2^64, and its whole part is n
pub record Cut (y : Float) (n : ℕ) : Type 0 where
  pub above : T (lt (fin true 1 (pos 0)) y)
  pub under : T (lt y (fin false 1 (pos 64)))
  pub whole : to_unsigned 64 y ≡ n

zero_size : (v d a c : ℕ) → 0 < c → v * c ≡ a * d → a ≡ 0 → v ≡ 0
zero_size v d a c p e z = eq_of_mul-eq-mul_right c p v 0 (e ∙ ap (λ (x : ℕ). x * d) z ∙ zero-mul d ∙ sym (zero-mul c))

same_bound : (v d a c : ℕ) → 0 < c → 0 < d → v * c ≡ a * d → a < 2 ^ 64 * c → v < 2 ^ 64 * d
same_bound v d a c p q e h = lt_of_mul-lt-mul_right c (omega (arith, mul-lt-mul_of_pos_right h q))

uncapped : (a : ℕ) → a < 2 ^ 64 → min a (2 ^ 64 - 1) ≡ a
uncapped a h = omega arith

pub cut : (y : Float) (s : Bool) (a c : ℕ) → 0 < c → HasValue y s a c → (s ≡ true → a ≡ 0) → a < 2 ^ 64 * c → Cut y (a / c)
unfolding lt to_unsigned
cut nan s a c p v z h = absurd v
cut (inf t) s a c p v z h = absurd v
cut (fin true n d) s a c p v z h =
    let none : n * up d ≡ 0 = zero_size (n * up d) (down d) a c p v.1 (z (sym v.0)) in
    let here = down_pos d in
    record {
      above = lt→ltb (n * up d * 1) (1 * 1 * down d) (omega arith);
      under = lt→ltb 0 (n * up d * 1 + 1 * 2 ^ 64 * down d) (omega arith);
      whole = sym (ap (λ (x : ℕ). x / c) (z (sym v.0)) ∙ zero-div c);
    }
cut (fin false n d) s a c p v z h =
    let here = down_pos d in
    let small : n * up d < 2 ^ 64 * down d = same_bound (n * up d) (down d) a c p here v.1 h in
    let quotient : n * up d / down d ≡ a / c = div_same (n * up d) (down d) a c here p v.1 in
    let whole : a / c < 2 ^ 64 = (div-lt_iff_lt-mul p).1 h in
    record {
      above = lt→ltb 0 (1 * 1 * down d + n * up d * 1) (omega arith);
      under = lt→ltb (n * up d * 1) (1 * 2 ^ 64 * down d) (omega arith);
      whole = ap (λ (x : ℕ). min x (2 ^ 64 - 1)) quotient ∙ uncapped (a / c) whole;
    }
