-- The lines of a signal within the sample range stay within 32 bits, for ten bands, so that the limit to 32 bits never acts from
-- prepared memory (rule 5.11). Over any prototype whose magnitudes add up to at most A.
-- Assumes nothing.
use mathlib.Core.Path.{◌≡◌, refl}
use mathlib.Core.List.{[], ◌∷◌, map}
use Prim.Native.Nat.{ℕ, zero, suc, ◌+◌, ◌*◌, ◌/◌, ◌^◌, ◌≤◌, ◌<◌}
use native.Mathlib.Nat.{le_refl, le_trans, mul-le-mul_right}
use native.Mathlib.Omega.{arith}
use lib.Dec.{T, ltb, ltb→lt}
use lib.IntN.{nat_abs}
use mir.Syntax.{w32}
use mir.Val.{SFits}
use Rattle.answers.specs.Unit.{largest_sample, least_place, most_place}
use Rattle.whole.specs.Limit.{limit}
use Rattle.whole.proofs.Signed.{about}
use Rattle.whole.proofs.Nearest.{nearest-within}
use Rattle.whole.proofs.Limit.{limit32_id}
use Rattle.tree.specs.Prototype.{Prototype, scale, magnitudes, published}
use Rattle.tree.specs.Signal.{Signal}
use Rattle.tree.specs.Tree.{weighted, low_pass, level}
use Rattle.tree.proofs.Table.{magnitudes_add_up}
use Rattle.tree.proofs.EveryNumber.{every, every_at}
use Rattle.tree.proofs.Weighted.{weighted_abs}

-- |level j| ≤ reach A j: a low-pass of a signal within X is within A·X/100,000, rounded
unfoldable pub reach : ℕ → ℕ → ℕ
reach A zero = largest_sample
reach A (suc j) = (A * reach A j + scale / 2) / scale

module _ (p : Prototype) (A : ℕ) (sized : magnitudes p ≤ A) (x : Signal) where
  pub level_reach : (j n : ℕ) → ((k : ℕ) → k ≤ n → nat_abs (x k) ≤ largest_sample) → nat_abs (level p j x n) ≤ reach A j
  unfolding level low_pass reach
  level_reach zero n samples = samples n (le_refl n)
  level_reach (suc j) n samples =
      nearest-within scale (omega arith) (A * reach A j) (weighted p (2 ^ j) (level p j x) n)
      (le_trans
      (weighted_abs p (2 ^ j) (level p j x) n (reach A j) (λ k h. level_reach j k (λ i l. samples i (le_trans l h))))
      (mul-le-mul_right (reach A j) sized))

  -- ---- ten levels within 32 bits

  module _ (below : T (every 10 (λ j. ltb (reach A j) (2 ^ 31)))) (n : ℕ) (samples : (k : ℕ) → k ≤ n → nat_abs (x k) ≤ largest_sample) where
    pub level_small : (j : ℕ) → j ≤ 9 → nat_abs (level p j x n) < 2 ^ 31
    level_small j h =
        omega (arith, level_reach j n samples, ltb→lt (reach A j) (2 ^ 31) (every_at 10 (λ i. ltb (reach A i) (2 ^ 31)) below j (omega arith)))

    pub level_fits : (j : ℕ) → j ≤ 9 → SFits w32 (level p j x n)
    level_fits j h = record { sfits = omega (arith, level_small j h, about (level p j x n)) }

    pub limit_never_acts : (j : ℕ) → j ≤ 9 → limit least_place most_place (level p j x n) ≡ level p j x n
    limit_never_acts j h = limit32_id (level_fits j h)

    -- the same of a new line value, as the low-pass gives it
    pub low_pass_never_limited : (j : ℕ) → j < 9 → limit least_place most_place (low_pass p (2 ^ j) (level p j x) n) ≡ low_pass p (2 ^ j) (level p j x) n
    unfolding level
    low_pass_never_limited j h = limit_never_acts (suc j) h

-- ---- the published table

-- rule 2.4
published_sized : magnitudes published ≤ 140240
published_sized = rw magnitudes_add_up (le_refl 140240)

-- the ten levels' reaches
pub reaches : map (reach 140240) (0 ∷ 1 ∷ 2 ∷ 3 ∷ 4 ∷ 5 ∷ 6 ∷ 7 ∷ 8 ∷ 9 ∷ []) ≡
    8388608 ∷ 11764184 ∷ 16498092 ∷ 23136924 ∷ 32447222 ∷ 45503984 ∷ 63814787 ∷ 89493857 ∷ 125506185 ∷ 176009874 ∷ []
unfolding reach
reaches = refl

reaches_below : T (every 10 (λ j. ltb (reach 140240 j) (2 ^ 31)))
unfolding every reach
reaches_below = tt

module _ (x : Signal) (n : ℕ) (samples : (k : ℕ) → k ≤ n → nat_abs (x k) ≤ largest_sample) where
  pub published_reach : (j : ℕ) → nat_abs (level published j x n) ≤ reach 140240 j
  published_reach j = level_reach published 140240 published_sized x j n samples

  pub published_low_pass_never_limited : (j : ℕ) → j < 9 →
      limit least_place most_place (low_pass published (2 ^ j) (level published j x) n) ≡ low_pass published (2 ^ j) (level published j x) n
  published_low_pass_never_limited = low_pass_never_limited published 140240 published_sized x reaches_below n samples
