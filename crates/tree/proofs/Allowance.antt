-- A line is no further from the exact line than its allowance E (rule 4.6). Assumes nothing.
use mathlib.Core.Path.{◌≡◌, ap, ◌∙◌}
use Prim.Native.Nat.{ℕ, zero, suc, ◌+◌, ◌-◌, ◌*◌, ◌/◌, ◌^◌, ◌≤◌}
use native.Mathlib.Nat.{le_refl, le_trans, add-le-add, mul-le-mul_left, pow-succ', mul_comm}
use native.Mathlib.Omega.{arith}
use lib.Pow.{pow-add}
use lib.IntN.{ℤ, pos, nat_abs, ◌+ℤ◌, ◌-ℤ◌, ◌*ℤ◌}
use Rattle.whole.specs.Nearest.{nearest}
use Rattle.whole.proofs.Signed.{var, lit, ◌⊕◌, ◌⊖◌, ◌⊗◌, eq_by}
use Rattle.whole.proofs.Magnitude.{abs-+ℤ, abs-*ℤ}
use Rattle.whole.proofs.Nearest.{nearest_error}
use Rattle.tree.specs.Prototype.{Prototype, scale, magnitudes}
use Rattle.tree.specs.Signal.{Signal}
use Rattle.tree.specs.Tree.{weighted, low_pass, level, line}
use Rattle.tree.specs.Exact.{common_scale, exact_level, on_whole, allowance_at, allowance}
use Rattle.tree.proofs.Weighted.{weighted--, weighted-*, weighted_abs}

-- one low-pass, s to s' and e to e': where |S·s - e| ≤ A up to n, |100,000·S·s' - e'| ≤ magnitudes·A + 50,000·S at n
low_pass_near : (p : Prototype) (L S A : ℕ) (s e : Signal) (n : ℕ) → ((k : ℕ) → k ≤ n → nat_abs (pos S *ℤ s k -ℤ e k) ≤ A) →
    nat_abs (pos (scale * S) *ℤ low_pass p L s n -ℤ weighted p L e n) ≤ magnitudes p * A + scale / 2 * S
unfolding low_pass
low_pass_near p L S A s e n near =
    rw parts
    (le_trans (abs-+ℤ (pos S *ℤ w -ℤ v) (pos S *ℤ off))
    (add-le-add carried (rw (abs-*ℤ (pos S) off, mul_comm (scale / 2) S) (mul-le-mul_left S half))))
  where
    w : ℤ
    w = weighted p L s n

    v : ℤ
    v = weighted p L e n

    off : ℤ
    off = pos scale *ℤ nearest scale w -ℤ w

    parts : pos (scale * S) *ℤ nearest scale w -ℤ v ≡ pos S *ℤ w -ℤ v +ℤ pos S *ℤ off
    parts =
        eq_by (lit (scale * S) ⊗ var (nearest scale w) ⊖ var v)
        (lit S ⊗ var w ⊖ var v ⊕ lit S ⊗ (lit scale ⊗ var (nearest scale w) ⊖ var w)) (omega arith)

    half : nat_abs off ≤ scale / 2
    half = omega (arith, nearest_error scale (omega arith) w)

    carried : nat_abs (pos S *ℤ w -ℤ v) ≤ magnitudes p * A
    carried =
        rw (← (weighted-* p L (pos S) s n), ← (weighted-- p L (λ k. pos S *ℤ s k) e n))
        (weighted_abs p L (λ k. pos S *ℤ s k -ℤ e k) n A near)

module _ (p : Prototype) (x : Signal) where
  -- the rounded level j, brought to the exact level's scale 100,000^j, is within its allowance
  pub level_near : (j n : ℕ) → nat_abs (pos (scale ^ j) *ℤ level p j x n -ℤ exact_level p j x n) ≤ allowance_at p j
  unfolding level exact_level allowance_at
  level_near zero n = rw (eq_by (lit 1 ⊗ var (x n) ⊖ var (x n)) (lit 0) (omega arith)) (le_refl 0)
  level_near (suc j) n =
      rw (pow-succ' scale j)
      (low_pass_near p (2 ^ j) (scale ^ j) (allowance_at p j) (level p j x) (exact_level p j x) n (λ k _. level_near j k))

  -- the same of line k, on the common scale P
  pub line_near : (M k n : ℕ) → 1 ≤ k → k ≤ M →
      nat_abs (pos (common_scale M) *ℤ line p M x k n -ℤ on_whole p M x k n) ≤ allowance p M k * scale ^ (k - 1)
  line_near M k n l h =
      rw (P_is, shared, abs-*ℤ (pos a) off, mul_comm (allowance p M k) a) (mul-le-mul_left a (level_near (M - k) n))
    where
      a : ℕ
      a = scale ^ (k - 1)

      b : ℕ
      b = scale ^ (M - k)

      off : ℤ
      off = pos b *ℤ line p M x k n -ℤ exact_level p (M - k) x n

      exponents : M - 1 ≡ k - 1 + (M - k)
      exponents = omega arith

      P_is : common_scale M ≡ a * b
      P_is = ap (λ (e : ℕ). scale ^ e) exponents ∙ pow-add scale (k - 1) (M - k)

      shared : pos (a * b) *ℤ line p M x k n -ℤ pos a *ℤ exact_level p (M - k) x n ≡ pos a *ℤ off
      shared =
          eq_by (lit (a * b) ⊗ var (line p M x k n) ⊖ lit a ⊗ var (exact_level p (M - k) x n))
          (lit a ⊗ (lit b ⊗ var (line p M x k n) ⊖ var (exact_level p (M - k) x n))) (omega arith)
