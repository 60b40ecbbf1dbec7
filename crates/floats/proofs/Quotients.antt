-- v over 2h, to the nearest: nothing, a shift, or too much; and the powers that make it so. Assumes nothing.
use mathlib.Core.Path.{◌≡◌, sym, ap, ◌∙◌}
use Prim.Native.Nat.{ℕ, suc, ◌+◌, ◌-◌, ◌*◌, ◌/◌, ◌^◌, ◌≤◌, ◌<◌}
use native.Mathlib.Nat.{pow-suc, div-eq_of_lt, le-div_iff_mul-le, lt_of_lt_of_le, mul-le-mul}
use native.Mathlib.Omega.{arith}
use lib.Pow.{pow-add, pow_pos, pow_mono, shl_lt}
use lib.Ieee.Nearest.{div_same}

-- 2 ^ k is twice the power before it
pub double : (k : ℕ) → 1 ≤ k → 2 ^ k ≡ 2 * 2 ^ (k - 1)
double k h =
    let back : k ≡ suc (k - 1) = omega arith in
    let even = pow-suc 2 (k - 1) in
    ap (λ (j : ℕ). 2 ^ j) back ∙ omega arith

-- ---- quotients

-- below a half it is 0
none : (v h : ℕ) → v < h → (v + h) / (2 * h) ≡ 0
none v h l = div-eq_of_lt (omega arith)

-- a common factor u falls out
cancelled : (q u g h : ℕ) → 0 < u → 0 < g → h ≡ u * g → 0 < h → (q * u + h) / (2 * h) ≡ (q + g) / (2 * g)
cancelled q u g h p r e l = div_same (q * u + h) (2 * h) (q + g) (2 * g) (omega arith) (omega arith) (cross h e)
  where
    cross : (h : ℕ) → h ≡ u * g → (q * u + h) * (2 * g) ≡ (q + g) * (2 * h)
    cross h e = omega (arith, ap (λ (x : ℕ). x * g) e, ap (λ (x : ℕ). q * x) e)

-- m times the divisor gives m at least
many : (m v h : ℕ) → 0 < h → m * (2 * h) ≤ v → m ≤ (v + h) / (2 * h)
many m v h p l = (le-div_iff_mul-le {k = 2 * h} (omega arith)).1 (omega arith)

-- ---- at 2h = 2 ^ 149, v = q · 2 ^ (23 + k)

-- 2 ^ 23 in front joins the power
pub joined : (q k : ℕ) → 8388608 * (q * 2 ^ k) ≡ q * 2 ^ (23 + k)
joined q k = omega (arith, ap (λ (x : ℕ). q * x) (pow-add 2 23 k))

-- below 2 ^ -24 it is 0
pub small_quotient : (q k : ℕ) → q < 2 ^ 24 → k ≤ 101 → (q * 2 ^ (23 + k) + 2 ^ 148) / (2 * 2 ^ 148) ≡ 0
small_quotient q k l h =
    none (q * 2 ^ (23 + k)) (2 ^ 148) (lt_of_lt_of_le (shl_lt 24 (23 + k) l) (pow_mono {i = 24 + (23 + k)} {j = 148} (omega arith)))

-- from there to 1.0 it is the digits over 2 ^ j
pub shifted_quotient : (q k j : ℕ) → 1 ≤ j → k + j ≡ 126 → (q * 2 ^ (23 + k) + 2 ^ 148) / (2 * 2 ^ 148) ≡ (q + 2 ^ (j - 1)) / 2 ^ j
shifted_quotient q k j l e =
    let sum : 148 ≡ 23 + k + (j - 1) = omega arith in
    cancelled q (2 ^ (23 + k)) (2 ^ (j - 1)) (2 ^ 148) (pow_pos (23 + k)) (pow_pos (j - 1))
    (ap (λ (x : ℕ). 2 ^ x) sum ∙ pow-add 2 (23 + k) (j - 1)) (pow_pos 148)
    ∙ ap (λ (x : ℕ). (q + 2 ^ (j - 1)) / x) (sym (double j l))

-- from 1.0 on it is 2 ^ 23 or more
pub large_quotient : (q k : ℕ) → 8388608 ≤ q → 126 ≤ k → 8388608 ≤ (q * 2 ^ (23 + k) + 2 ^ 148) / (2 * 2 ^ 148)
large_quotient q k l h =
    many 8388608 (q * 2 ^ (23 + k)) (2 ^ 148) (pow_pos 148) (mul-le-mul l (pow_mono {i = 149} {j = 23 + k} (omega arith)))
