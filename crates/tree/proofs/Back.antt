-- The laws of `back s n d`: s at n - d, or 0 where that is before the first sample. Assumes nothing.
use mathlib.Core.Path.{◌≡◌, refl, sym, ap, ◌∙◌}
use mathlib.Core.Bool.{Bool, true, false, cond}
use Prim.Native.Nat.{ℕ, ◌+◌, ◌-◌, ◌≤◌, ◌<◌}
use native.Mathlib.Nat.{sub-zero}
use native.Mathlib.Omega.{arith}
use borrow.Author.Tests.{leb-true, leb-false, le-leb, lt-leb}
use lib.Dec.{leb}
use lib.IntN.{ℤ, pos, nat_abs, ◌-ℤ◌, ◌*ℤ◌, *ℤ-zero}
use Rattle.tree.specs.Signal.{Signal, back}

-- ---- the two cases

pub back_in : (s : Signal) {n d : ℕ} → d ≤ n → back s n d ≡ s (n - d)
back_in s {n} {d} h = rw (le-leb d n h)

pub back_out : (s : Signal) {n d : ℕ} → n < d → back s n d ≡ pos 0
back_out s {n} {d} h = rw (lt-leb d n h)

-- to prove P (back s n d): prove P (s (n - d)) where d ≤ n, and P 0 where n < d
pub back_cases : (s : Signal) (n d : ℕ) (P : ℤ → Type 0) → (d ≤ n → P (s (n - d))) → (n < d → P (pos 0)) → P (back s n d)
back_cases s n d P inside before = by (leb d n) refl
  where
    by : (t : Bool) → leb d n ≡ t → P (cond t (s (n - d)) (pos 0))
    by true e = inside (leb-true d n e)
    by false e = before (leb-false d n e)

-- ---- equations

pub back_zero : (s : Signal) (n : ℕ) → back s n 0 ≡ s n
back_zero s n = back_in s {n = n} {d = 0} (omega arith) ∙ ap s (sub-zero n)

-- the signal after n does not count
pub back-ext : {s r : Signal} (n d : ℕ) → ((k : ℕ) → k ≤ n → s k ≡ r k) → back s n d ≡ back r n d
back-ext {s} {r} n d e =
    back_cases s n d (λ z. z ≡ back r n d) (λ h. e (n - d) (omega arith) ∙ sym (back_in r h)) (λ h. sym (back_out r h))

-- late by a, then by b: late by a + b
pub back-back : (s : Signal) (n a b : ℕ) → back (λ k. back s k a) n b ≡ back s n (a + b)
back-back s n a b =
    back_cases (λ k. back s k a) n b (λ z. z ≡ back s n (a + b))
    (λ h. back_cases s (n - b) a (λ z. z ≡ back s n (a + b))
    (λ l. sym (back_in s {n = n} {d = a + b} (omega arith) ∙ ap s (omega arith))) (λ l. sym (back_out s {n = n} {d = a + b} (omega arith))))
    (λ h. sym (back_out s {n = n} {d = a + b} (omega arith)))

pub back-- : (s r : Signal) (n d : ℕ) → back (λ k. s k -ℤ r k) n d ≡ back s n d -ℤ back r n d
back-- s r n d = by (leb d n)
  where
    by : (t : Bool) → cond t (s (n - d) -ℤ r (n - d)) (pos 0) ≡ cond t (s (n - d)) (pos 0) -ℤ cond t (r (n - d)) (pos 0)
    by true = refl
    by false = refl

pub back-* : (c : ℤ) (s : Signal) (n d : ℕ) → back (λ k. c *ℤ s k) n d ≡ c *ℤ back s n d
back-* c s n d = by (leb d n)
  where
    by : (t : Bool) → cond t (c *ℤ s (n - d)) (pos 0) ≡ c *ℤ cond t (s (n - d)) (pos 0)
    by true = refl
    by false = sym (*ℤ-zero c)

-- ---- size

pub back-abs : (s : Signal) (n d X : ℕ) → ((k : ℕ) → k ≤ n → nat_abs (s k) ≤ X) → nat_abs (back s n d) ≤ X
back-abs s n d X h = back_cases s n d (λ z. nat_abs z ≤ X) (λ l. h (n - d) (omega arith)) (λ _. omega arith)
