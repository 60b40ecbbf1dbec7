-- An output is never past 302 steps from the exact output, for the table in use (rule 11.6), since all allowances together are under
-- 75.4 steps (rule 4.7). Assumes nothing.
use mathlib.Core.Bool.{Bool}
use Prim.Native.Nat.{ℕ, suc, ◌+◌, ◌-◌, ◌*◌, ◌/◌, ◌^◌, ◌≤◌, ◌<◌}
use native.Mathlib.Nat.{le_trans, add-le-add, le_refl, mul-le-mul_right, mul_comm}
use native.Mathlib.Omega.{arith}
use lib.Dec.{leb, leb→le, lit<}
use lib.IntN.{ℤ, pos, nat_abs, ◌-ℤ◌, ◌*ℤ◌}
use Rattle.answers.specs.Unit.{largest_gain, unity}
use Rattle.whole.specs.Sum.{sumℕ}
use Rattle.whole.proofs.Magnitude.{abs_between}
use Rattle.whole.proofs.Sums.{sumℕ-mono, sumℕ-*ʳ}
use Rattle.tree.specs.Prototype.{Prototype, scale, published}
use Rattle.tree.specs.Signal.{Signal}
use Rattle.tree.specs.Gains.{IsGain, AllowedGains}
use Rattle.tree.specs.Tree.{output}
use Rattle.tree.specs.Exact.{farthest, common_scale, exact_output, allowance_at, allowance, slack, together}
use Rattle.tree.proofs.EveryNumber.{every, for_each_count}
use Rattle.tree.proofs.Distance.{distance}

-- ---- any prototype

module _ (p : Prototype) (M : ℕ) (g : ℕ → ℕ → ℤ) (n : ℕ) (allowed : AllowedGains M g n) where
  -- two allowed gains differ by at most the largest gain
  pub slack_within : slack p M g n ≤ together p M * largest_gain
  unfolding slack together
  slack_within =
      rw (← (sumℕ-*ʳ (M - 1) E largest_gain))
      (sumℕ-mono (M - 1) (λ i h. rw (mul_comm (E i) largest_gain) (mul-le-mul_right (E i) (gap i h))))
    where
      E : ℕ → ℕ
      E i = allowance p M (suc i) * scale ^ i

      gap : (i : ℕ) → i < M - 1 → nat_abs (g n (suc (suc i)) -ℤ g n (suc i)) ≤ largest_gain
      gap i h =
          let a : IsGain (g n (suc (suc i))) = allowed (suc (suc i)) (omega arith) (omega arith) in
          let b : IsGain (g n (suc i)) = allowed (suc i) (omega arith) (omega arith) in
          abs_between largest_gain a.least a.most b.least b.most

  -- if half a step and the largest slack are at most F steps, then the output is at most F steps from the exact output
  pub never_past : (F : ℕ) → unity / 2 * common_scale M + together p M * largest_gain ≤ F * (unity * common_scale M) → 1 ≤ M → (x : Signal) →
      nat_abs (pos (unity * common_scale M) *ℤ output p M g x n -ℤ exact_output p M g x n) ≤ F * (unity * common_scale M)
  never_past F holds some x = le_trans (distance p M g x n some) (le_trans (add-le-add (le_refl (unity / 2 * common_scale M)) slack_within) holds)

-- ---- the published table

-- rule 4.7: E(1) of ten bands
pub lowest_under_25 : allowance published 10 1 < 25 * common_scale 10
unfolding allowance_at sumℕ
lowest_under_25 = lit< tt

-- rule 4.7: E(1) to E(9) together
pub together_under_75_4 : 10 * together published 10 < 754 * common_scale 10
unfolding together allowance_at sumℕ
together_under_75_4 = lit< tt

-- the test for M bands: half a step and the largest slack are at most 302 steps
abbrev enough : ℕ → Bool
enough M = leb (unity / 2 * common_scale M + together published M * largest_gain) (farthest * (unity * common_scale M))

pub within_302 : (M : ℕ) → 2 ≤ M → M ≤ 10 →
    unity / 2 * common_scale M + together published M * largest_gain ≤ farthest * (unity * common_scale M)
unfolding every together allowance_at sumℕ
within_302 M l h =
    leb→le (unity / 2 * common_scale M + together published M * largest_gain) (farthest * (unity * common_scale M))
    (for_each_count enough tt M l h)

pub never_past_302 : (M : ℕ) → 2 ≤ M → M ≤ 10 → (g : ℕ → ℕ → ℤ) (x : Signal) (n : ℕ) → AllowedGains M g n →
    nat_abs (pos (unity * common_scale M) *ℤ output published M g x n -ℤ exact_output published M g x n) ≤
    farthest * (unity * common_scale M)
never_past_302 M l h g x n allowed = never_past published M g n allowed farthest (within_302 M l h) (omega arith) x
