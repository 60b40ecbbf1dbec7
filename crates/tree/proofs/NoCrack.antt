-- No crack: a loud sample never turns over. Where the exact output is past 302 steps the output has its sign, and with equal
-- gains the output never has the other sign than the input that it answers. Assumes nothing.
use mathlib.Core.Path.{◌≡◌}
use Prim.Native.Nat.{ℕ, ◌*◌, ◌≤◌}
use native.Mathlib.Omega.{arith}
use lib.IntN.{ℤ, pos, neg_ℤ, *ℤ-zero}
use lib.Signed.{◌≤ℤ◌, ◌<ℤ◌, le_z_yes}
use Rattle.answers.specs.Unit.{least_sample, most_sample, unity}
use Rattle.whole.specs.Nearest.{nearest}
use Rattle.whole.specs.Limit.{limit}
use Rattle.whole.proofs.Order.{*ℤ-monoˡ-≤ℤ}
use Rattle.whole.proofs.Magnitude.{above_when_near, below_when_near}
use Rattle.whole.proofs.Nearest.{nearest-mono}
use Rattle.whole.proofs.Limit.{limit-mono}
use Rattle.tree.specs.Prototype.{Prototype, published}
use Rattle.tree.specs.Signal.{Signal, back}
use Rattle.tree.specs.Gains.{AllowedGains}
use Rattle.tree.specs.Tree.{delay, output}
use Rattle.tree.specs.Exact.{farthest, common_scale, exact_output}
use Rattle.tree.proofs.EqualGains.{equal_gains}
use Rattle.tree.proofs.Farthest.{never_past_302}

-- ---- any allowed gains

module _ (M : ℕ) (least : 2 ≤ M) (most : M ≤ 10) (g : ℕ → ℕ → ℤ) (x : Signal) (n : ℕ) (allowed : AllowedGains M g n) where
  pub above_stays_above : pos (farthest * (unity * common_scale M)) <ℤ exact_output published M g x n → pos 0 <ℤ output published M g x n
  above_stays_above =
      above_when_near (unity * common_scale M) (farthest * (unity * common_scale M)) (output published M g x n)
      (exact_output published M g x n) (never_past_302 M least most g x n allowed)

  pub below_stays_below : exact_output published M g x n <ℤ neg_ℤ (pos (farthest * (unity * common_scale M))) → output published M g x n <ℤ pos 0
  below_stays_below =
      below_when_near (unity * common_scale M) (farthest * (unity * common_scale M)) (output published M g x n)
      (exact_output published M g x n) (never_past_302 M least most g x n allowed)

-- ---- equal gains

-- rounding and limiting keep the sign
rounded_up : {z : ℤ} → pos 0 ≤ℤ z → pos 0 ≤ℤ limit least_sample most_sample (nearest unity z)
rounded_up {z} h = limit-mono least_sample most_sample (le_z_yes tt) {y = pos 0} {z = nearest unity z} (nearest-mono unity (omega arith) h)

rounded_down : {z : ℤ} → z ≤ℤ pos 0 → limit least_sample most_sample (nearest unity z) ≤ℤ pos 0
rounded_down {z} h = limit-mono least_sample most_sample (le_z_yes tt) {y = nearest unity z} {z = pos 0} (nearest-mono unity (omega arith) h)

module _ (p : Prototype) (M G : ℕ) (g : ℕ → ℕ → ℤ) (x : Signal) (n : ℕ) (some : 1 ≤ M) (equal : (m : ℕ) → 1 ≤ m → m ≤ M → g n m ≡ pos G) where
  pub not_below : pos 0 ≤ℤ back x n (delay p M) → pos 0 ≤ℤ output p M g x n
  not_below h = rw (equal_gains p M (pos G) g x n some equal) (rounded_up (rw (*ℤ-zero (pos G)) at (*ℤ-monoˡ-≤ℤ G h)))

  pub not_above : back x n (delay p M) ≤ℤ pos 0 → output p M g x n ≤ℤ pos 0
  not_above h = rw (equal_gains p M (pos G) g x n some equal) (rounded_down (rw (*ℤ-zero (pos G)) at (*ℤ-monoˡ-≤ℤ G h)))
