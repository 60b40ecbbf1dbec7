-- The distance (rule 4.9): |4,096·P·output - 4,096·P·(exact output)| ≤ 2,048·P + slack. Assumes nothing.
use mathlib.Core.Path.{◌≡◌, refl}
use Prim.Native.Nat.{ℕ, suc, ◌+◌, ◌-◌, ◌*◌, ◌/◌, ◌^◌, ◌≤◌, ◌<◌}
use native.Mathlib.Nat.{le_refl, le_trans, add-le-add, mul-le-mul_left, mul_comm, sub_self, mul-zero, zero-mul, zero-add, add-zero, one-le-pow}
use native.Mathlib.Numerals.{sub-one}
use native.Mathlib.Omega.{arith}
use lib.IntN.{ℤ, pos, nat_abs, ◌-ℤ◌, ◌*ℤ◌}
use lib.Signed.{◌≤ℤ◌, le_z_yes}
use Rattle.answers.specs.Unit.{least_sample, most_sample, unity}
use Rattle.whole.specs.Nearest.{nearest}
use Rattle.whole.specs.Sum.{sumℕ}
use Rattle.whole.proofs.Signed.{var, lit, ◌⊖◌, ◌⊗◌, eq_by}
use Rattle.whole.proofs.Ring.{minus_self}
use Rattle.whole.proofs.Order.{*ℤ-monoˡ-≤ℤ}
use Rattle.whole.proofs.Magnitude.{abs-*ℤ, abs_via}
use Rattle.whole.proofs.Sums.{sumℕ-mono, sumℕ-none}
use Rattle.whole.proofs.Nearest.{nearest_error}
use Rattle.whole.proofs.Limit.{limit_near, limit-scale}
use Rattle.tree.specs.Prototype.{Prototype, scale}
use Rattle.tree.specs.Signal.{Signal}
use Rattle.tree.specs.Tree.{line, gain_sum, output}
use Rattle.tree.specs.Exact.{common_scale, on_whole, exact_sum, exact_output, allowance_at, allowance, slack}
use Rattle.tree.proofs.Aligned.{aligned_form}
use Rattle.tree.proofs.AlignedSum.{aligned_sum-*, aligned_sum--, aligned_sum_abs}
use Rattle.tree.proofs.Allowance.{line_near}

module _ (p : Prototype) (M : ℕ) (g : ℕ → ℕ → ℤ) (x : Signal) (n : ℕ) (some : 1 ≤ M) where
  -- P times the gain sum, before it is rounded, is within the slack of the exact sum
  pub sum_near : nat_abs (pos (common_scale M) *ℤ gain_sum p M g (line p M x) n -ℤ exact_sum p M g x n) ≤ slack p M g n
  unfolding slack allowance_at
  sum_near =
      rw (aligned_form p M g (line p M x) n some, aligned_form p M g exact n some, ← (aligned_sum-* p M (g n) n (pos (common_scale M)) (line p M x)), ← (aligned_sum-- p M (g n) n rounded exact))
      (le_trans (aligned_sum_abs p M (g n) n (λ k i. rounded k i -ℤ exact k i) error some (λ k i. line_near p x M k i))
      (rw (no_top, zero-add (sumℕ (M - 1) (λ i. gap i * error (suc i))))
      (sumℕ-mono (M - 1) (λ i _. rw (sub-one (suc i)) (le_refl (gap i * (allowance p M (suc i) * scale ^ i)))))))
    where
      rounded : ℕ → Signal
      rounded k i = pos (common_scale M) *ℤ line p M x k i

      exact : ℕ → Signal
      exact = on_whole p M x

      gap : ℕ → ℕ
      gap i = nat_abs (g n (suc (suc i)) -ℤ g n (suc i))

      error : ℕ → ℕ
      error k = allowance p M k * scale ^ (k - 1)

      -- E(M) = 0
      no_top : nat_abs (g n M) * error M ≡ 0
      no_top = rw (sub_self M, zero-mul (scale ^ (M - 1)), mul-zero (nat_abs (g n M))) refl

  -- P = 100,000^(M-1)
  pub distance :
      nat_abs (pos (unity * common_scale M) *ℤ output p M g x n -ℤ exact_output p M g x n) ≤ unity / 2 * common_scale M + slack p M g n
  unfolding output exact_output
  distance =
      rw (← (limit-scale (unity * P) some_P least_sample most_sample y))
      (le_trans (limit_near (pos (unity * P) *ℤ least_sample) (pos (unity * P) *ℤ most_sample) ends (exact_sum p M g x n) (pos (unity * P) *ℤ y))
      (le_trans (abs_via (pos (unity * P) *ℤ y) (pos P *ℤ z) (exact_sum p M g x n)) (add-le-add once sum_near)))
    where
      P : ℕ
      P = common_scale M

      z : ℤ
      z = gain_sum p M g (line p M x) n

      y : ℤ
      y = nearest unity z

      some_P : 0 < unity * P
      some_P = omega (arith, one-le-pow (M - 1) scale (omega arith))

      ends : (pos (unity * P) *ℤ least_sample) ≤ℤ (pos (unity * P) *ℤ most_sample)
      ends = *ℤ-monoˡ-≤ℤ (unity * P) {a = least_sample} {b = most_sample} (le_z_yes tt)

      -- the one rounding, by 4,096
      once : nat_abs (pos (unity * P) *ℤ y -ℤ pos P *ℤ z) ≤ unity / 2 * P
      once =
          rw (eq_by (lit (unity * P) ⊗ var y ⊖ lit P ⊗ var z) (lit P ⊗ (lit unity ⊗ var y ⊖ var z)) (omega arith), abs-*ℤ (pos P) (pos unity *ℤ y -ℤ z), mul_comm (unity / 2) P)
          (mul-le-mul_left P (omega (arith, nearest_error unity (omega arith) z)))

  -- ---- equal gains

  module _ (G : ℤ) (equal : (m : ℕ) → 1 ≤ m → m ≤ M → g n m ≡ G) where
    no_slack : slack p M g n ≡ 0
    unfolding slack
    no_slack =
        sumℕ-none (M - 1)
        (λ i h. rw (equal (suc (suc i)) (omega arith) (omega arith), equal (suc i) (omega arith) (omega arith), minus_self G)
        (zero-mul (allowance p M (suc i) * scale ^ i)))

    -- equal gains have no slack, so the one rounding is all that is left: half a step
    pub half_a_step : nat_abs (pos (unity * common_scale M) *ℤ output p M g x n -ℤ exact_output p M g x n) ≤ unity / 2 * common_scale M
    half_a_step = rw (no_slack, add-zero (unity / 2 * common_scale M)) at distance
