-- A magnitude with a sign, limited to the sample range. Assumes nothing.
use mathlib.Core.Path.{◌≡◌, refl}
use mathlib.Core.Bool.{Bool, true, false}
use Prim.Native.Nat.{ℕ, ◌≤◌}
use native.Mathlib.Omega.{arith}
use borrow.Author.Tests.{lt-ltb}
use lib.IntN.{pos, neg_ℤ}
use Rattle.answers.specs.Unit.{least_sample, most_sample}
use Rattle.whole.specs.Limit.{limit}
use Rattle.whole.proofs.Limit.{limit_id, limit_cases}
use Rattle.whole.proofs.Signed.{lit, neg, var, eq_by, le_by, le_of, lt_of}
use Rattle.floats.specs.Value.{signed}
use Rattle.floats.specs.Exponent.{end_of}

-- 2 ^ 23 and more, either way, goes to that end
pub limit_far : (s : Bool) (n : ℕ) → 8388608 ≤ n → limit least_sample most_sample (signed s n) ≡ end_of s
limit_far false n h = rw (lt-ltb 8388607 n (omega arith)) refl
limit_far true n h =
    limit_cases least_sample most_sample (neg_ℤ (pos n)) (λ z. z ≡ least_sample) (λ _. refl)
    (λ a. absurd (omega (arith, lt_of (var most_sample) (neg (lit n)) a)))
    (λ l _. eq_by (neg (lit n)) (var least_sample) (omega (arith, le_of (var least_sample) (neg (lit n)) l)))

-- up to 2 ^ 23 a negative number is not moved
pub limit-negative : (n : ℕ) → n ≤ 8388608 → limit least_sample most_sample (neg_ℤ (pos n)) ≡ neg_ℤ (pos n)
limit-negative n h =
    limit_id least_sample most_sample (neg_ℤ (pos n)) (le_by (var least_sample) (neg (lit n)) (omega arith))
    (le_by (neg (lit n)) (var most_sample) (omega arith))
