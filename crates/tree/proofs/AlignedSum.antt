-- The aligned sum is linear in the lines; and where |line k| ≤ c(k), it is at most |g(M)|·c(M) plus the sum over k = 1..M-1 of
-- |g(k+1) - g(k)|·c(k). It holds of any lines. Assumes nothing.
use mathlib.Core.Path.{◌≡◌, sym, ap, ap₂, ◌∙◌}
use Prim.Native.Nat.{ℕ, suc, ◌+◌, ◌-◌, ◌*◌, ◌^◌, ◌≤◌}
use native.Mathlib.Nat.{le_refl, le_trans, add-le-add, mul-le-mul_left}
use native.Mathlib.Omega.{arith}
use lib.IntN.{ℤ, nat_abs, ◌+ℤ◌, ◌-ℤ◌, ◌*ℤ◌}
use Rattle.whole.specs.Sum.{sum, sumℕ}
use Rattle.whole.proofs.Signed.{var, ◌⊕◌, ◌⊖◌, eq_by}
use Rattle.whole.proofs.Ring.{*ℤ-left_comm, *ℤ-distribˡ-+ℤ, *ℤ-distribˡ--ℤ}
use Rattle.whole.proofs.Magnitude.{abs-+ℤ, abs-*ℤ, abs_sym}
use Rattle.whole.proofs.Sums.{sum-ext, sum--, sum-*, sumℕ-mono, abs-sum}
use Rattle.tree.specs.Prototype.{Prototype}
use Rattle.tree.specs.Signal.{Signal}
use Rattle.tree.specs.Forms.{aligned, aligned_sum}
use Rattle.tree.proofs.Back.{back--, back-*, back-abs}

module _ (p : Prototype) (M : ℕ) (g : ℕ → ℤ) (n : ℕ) where
  -- a multiple of the lines is a multiple of the sum
  pub aligned_sum-* : (c : ℤ) (a : ℕ → Signal) → aligned_sum p M g (λ k i. c *ℤ a k i) n ≡ c *ℤ aligned_sum p M g a n
  unfolding aligned_sum
  aligned_sum-* c a =
      ap₂ ◌+ℤ◌ (out (g M) M)
      (sum-ext (M - 1) (λ i _. out (g (suc i) -ℤ g (suc (suc i))) (suc i)) ∙
      sum-* (M - 1) c (λ i. (g (suc i) -ℤ g (suc (suc i))) *ℤ aligned p M a (suc i) n)) ∙
      sym
      (*ℤ-distribˡ-+ℤ c (g M *ℤ aligned p M a M n) (sum (M - 1) (λ i. (g (suc i) -ℤ g (suc (suc i))) *ℤ aligned p M a (suc i) n)))
    where
      out : (h : ℤ) (k : ℕ) → h *ℤ aligned p M (λ j i. c *ℤ a j i) k n ≡ c *ℤ (h *ℤ aligned p M a k n)
      out h k =
          ap (λ (z : ℤ). h *ℤ z) (back-* c (a k) n (p.centre * (2 ^ (M - 1) - 2 ^ (M - k)))) ∙
          *ℤ-left_comm h c (aligned p M a k n)

  -- a difference of lines is a difference of sums
  pub aligned_sum-- : (a b : ℕ → Signal) →
      aligned_sum p M g (λ k i. a k i -ℤ b k i) n ≡ aligned_sum p M g a n -ℤ aligned_sum p M g b n
  unfolding aligned_sum
  aligned_sum-- a b =
      ap₂ ◌+ℤ◌ (apart (g M) M)
      (sum-ext (M - 1) (λ i _. apart (g (suc i) -ℤ g (suc (suc i))) (suc i)) ∙ sum-- (M - 1) (term a) (term b)) ∙
      eq_by (var (top a) ⊖ var (top b) ⊕ (var (sum (M - 1) (term a)) ⊖ var (sum (M - 1) (term b))))
      (var (top a) ⊕ var (sum (M - 1) (term a)) ⊖ (var (top b) ⊕ var (sum (M - 1) (term b)))) (omega arith)
    where
      top : (ℕ → Signal) → ℤ
      top c = g M *ℤ aligned p M c M n

      term : (ℕ → Signal) → ℕ → ℤ
      term c i = (g (suc i) -ℤ g (suc (suc i))) *ℤ aligned p M c (suc i) n

      apart : (h : ℤ) (k : ℕ) → h *ℤ aligned p M (λ j i. a j i -ℤ b j i) k n ≡ h *ℤ aligned p M a k n -ℤ h *ℤ aligned p M b k n
      apart h k =
          ap (λ (z : ℤ). h *ℤ z) (back-- (a k) (b k) n (p.centre * (2 ^ (M - 1) - 2 ^ (M - k)))) ∙
          *ℤ-distribˡ--ℤ h (aligned p M a k n) (aligned p M b k n)

  -- the top line enters with its own gain, line k below it with the difference of two gains
  pub aligned_sum_abs : (a : ℕ → Signal) (c : ℕ → ℕ) → 1 ≤ M → ((k i : ℕ) → 1 ≤ k → k ≤ M → nat_abs (a k i) ≤ c k) →
      nat_abs (aligned_sum p M g a n) ≤
      nat_abs (g M) * c M + sumℕ (M - 1) (λ i. nat_abs (g (suc (suc i)) -ℤ g (suc i)) * c (suc i))
  unfolding aligned_sum
  aligned_sum_abs a c some small =
      le_trans
      (abs-+ℤ (g M *ℤ aligned p M a M n) (sum (M - 1) (λ i. (g (suc i) -ℤ g (suc (suc i))) *ℤ aligned p M a (suc i) n)))
      (add-le-add (part (g M) M some (le_refl M))
      (le_trans (abs-sum (M - 1) (λ i. (g (suc i) -ℤ g (suc (suc i))) *ℤ aligned p M a (suc i) n))
      (sumℕ-mono (M - 1)
      (λ i h. rw (abs_sym (g (suc (suc i))) (g (suc i))) (part (g (suc i) -ℤ g (suc (suc i))) (suc i) (omega arith) (omega arith))))))
    where
      part : (h : ℤ) (k : ℕ) → 1 ≤ k → k ≤ M → nat_abs (h *ℤ aligned p M a k n) ≤ nat_abs h * c k
      part h k l u =
          rw (abs-*ℤ h (aligned p M a k n))
          (mul-le-mul_left (nat_abs h) (back-abs (a k) n (p.centre * (2 ^ (M - 1) - 2 ^ (M - k))) (c k) (λ i _. small k i l u)))
