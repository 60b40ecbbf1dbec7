-- What the code of `shifted` asks: its steps lose nothing, and each return is the definition's. Assumes nothing.
use mathlib.Core.Path.{◌≡◌, sym, ap, ◌∙◌}
use mathlib.Core.Bool.{Bool, true}
use Prim.Native.Nat.{ℕ, ◌+◌, ◌-◌, ◌*◌, ◌/◌, ◌%◌, ◌^◌, ◌≤◌, ◌<◌}
use native.Mathlib.Nat.{one-mul, mod-eq_of_lt, div-lt_iff_lt-mul, le_of_suc-le-suc, mul-le-mul_left}
use native.Mathlib.Omega.{arith}
use lib.IntN.{ℤ, pos, neg_ℤ, ◌-ℤ◌, +ℤ_idl}
use lib.Pow.{pow_pos, pow_mono}
use mir.Syntax.{w32}
use mir.Val.{SFits, to_z, of_z}
use mir.Facts.{to_z-of_z, to_z_pos}
use Rattle.answers.specs.Unit.{least_sample, most_sample}
use Rattle.whole.specs.Limit.{limit}
use Rattle.whole.proofs.Signed.{lit, neg, mag_by}
use Rattle.floats.specs.Value.{signed}
use Rattle.floats.specs.Exponent.{shifted}
use Rattle.floats.proofs.Ends.{limit-negative}
use Rattle.floats.proofs.Quotients.{double}

-- half of the divisor, as the machine computes it
abbrev half_step : ℕ → ℕ
half_step k = 1 * 2 ^ (k - 1) % 4294967296

-- the quotient, as the machine computes it
abbrev quotient : ℕ → ℕ → ℕ
quotient n k = (n + half_step k) / 2 ^ k

-- a number below 2 ^ 24, rounded to a multiple of 2h, has at most 2 ^ 23 of them
few : (n h : ℕ) → 0 < h → n < 16777216 → (n + h) / (2 * h) ≤ 8388608
few n h p l = le_of_suc-le-suc ((div-lt_iff_lt-mul {k = 2 * h} (omega arith)).1 (omega (arith, mul-le-mul_left 16777216 p)))

module _ (n k : ℕ) (pre : (n < 2 ^ 24) × (1 ≤ k) × (k ≤ 24)) where
  -- half of the divisor is 2 ^ 23 at most
  half_small : 2 ^ (k - 1) ≤ 8388608
  half_small = let l = pre.2 in pow_mono {i = k - 1} {j = 23} (omega arith)

  -- so no bit of it is lost
  half_is : half_step k ≡ 2 ^ (k - 1)
  half_is = let l = half_small in ap (λ (x : ℕ). x % 4294967296) (one-mul (2 ^ (k - 1))) ∙ mod-eq_of_lt (omega arith)

  -- the machine's quotient is the definition's
  quotient_is : quotient n k ≡ (n + 2 ^ (k - 1)) / 2 ^ k
  quotient_is = ap (λ (x : ℕ). (n + x) / 2 ^ k) half_is

  -- and 2 ^ 23 at most
  quotient_few : quotient n k ≤ 8388608
  quotient_few =
      rw (quotient_is, double k pre.1)
      (few n (2 ^ (k - 1)) (pow_pos (k - 1)) pre.0)

  -- as a signed number it reads as itself
  read : to_z w32 (quotient n k) ≡ pos (quotient n k)
  read = let l = quotient_few in to_z_pos w32 (omega arith)

  -- 0 less it is its negative
  turned : pos 0 -ℤ to_z w32 (quotient n k) ≡ neg_ℤ (pos (quotient n k))
  turned = ap (λ (z : ℤ). pos 0 -ℤ z) read ∙ +ℤ_idl (neg_ℤ (pos (quotient n k)))

  -- that fits too
  negative_fits : SFits w32 (neg_ℤ (pos (quotient n k)))
  negative_fits = let l = quotient_few in record { sfits = mag_by (neg (lit (quotient n k))) (2 ^ 31) (omega arith) (omega arith) }

  -- in the form that the code has
  pub minus_fits : SFits w32 (pos 0 -ℤ to_z w32 (quotient n k))
  minus_fits = rw turned negative_fits

  -- limited, it is the definition's
  limited : (s : Bool) → limit least_sample most_sample (signed s (quotient n k)) ≡ shifted s n k
  limited s = ap (λ (q : ℕ). limit least_sample most_sample (signed s q)) quotient_is

  -- below 0 the quotient is never past the range
  pub is_negative : to_z w32 (of_z w32 (pos 0 -ℤ to_z w32 (quotient n k))) ≡ shifted true n k
  is_negative = to_z-of_z minus_fits ∙ turned ∙ sym (limit-negative (quotient n k) quotient_few) ∙ limited true
