-- Finite sums over an index. Assumes nothing.
use mathlib.Core.Path.{◌≡◌, refl, sym, ap, ap₂, ◌∙◌}
use Prim.Native.Nat.{ℕ, zero, suc, ◌+◌, ◌*◌, ◌≤◌, ◌<◌}
use native.Mathlib.Nat.{le_refl, le_trans, add-le-add, lt-suc_self, zero-mul, add-mul, mul-le-mul_left}
use native.Mathlib.Omega.{arith}
use lib.IntN.{ℤ, pos, nat_abs, ◌+ℤ◌, ◌-ℤ◌, ◌*ℤ◌, +ℤ_idl, +ℤ_idr, *ℤ-zero}
use lib.Signed.{◌≤ℤ◌, ≤ℤ_refl}
use lib.Dec.{eqb}
use mathlib.Core.Bool.{Bool, true, false}
use borrow.Author.Tests.{eqb-true, eqb-false}
use Rattle.whole.specs.Sum.{sum, sumℕ}
use Rattle.whole.proofs.Signed.{var, lit, ◌⊕◌, ◌⊖◌, ◌⊗◌, eq_by}
use Rattle.whole.proofs.Ring.{*ℤ-distribˡ-+ℤ}
use Rattle.whole.proofs.Order.{+ℤ-mono-≤ℤ}
use Rattle.whole.proofs.Magnitude.{abs-+ℤ, abs-*ℤ}

below_suc : {i n : ℕ} → i < n → i < suc n
below_suc h = omega arith

-- ---- equations

pub sum-ext : (n : ℕ) {f g : ℕ → ℤ} → ((i : ℕ) → i < n → f i ≡ g i) → sum n f ≡ sum n g
unfolding sum
sum-ext zero e = refl
sum-ext (suc n) e = ap₂ ◌+ℤ◌ (sum-ext n (λ i h. e i (below_suc h))) (e n (lt-suc_self n))

pub sum-+ : (n : ℕ) (f g : ℕ → ℤ) → sum n (λ i. f i +ℤ g i) ≡ sum n f +ℤ sum n g
unfolding sum
sum-+ zero f g = refl
sum-+ (suc n) f g =
    ap (λ (z : ℤ). z +ℤ (f n +ℤ g n)) (sum-+ n f g) ∙
    eq_by (var (sum n f) ⊕ var (sum n g) ⊕ (var (f n) ⊕ var (g n))) (var (sum n f) ⊕ var (f n) ⊕ (var (sum n g) ⊕ var (g n)))
    (omega arith)

pub sum-- : (n : ℕ) (f g : ℕ → ℤ) → sum n (λ i. f i -ℤ g i) ≡ sum n f -ℤ sum n g
unfolding sum
sum-- zero f g = refl
sum-- (suc n) f g =
    ap (λ (z : ℤ). z +ℤ (f n -ℤ g n)) (sum-- n f g) ∙
    eq_by (var (sum n f) ⊖ var (sum n g) ⊕ (var (f n) ⊖ var (g n))) (var (sum n f) ⊕ var (f n) ⊖ (var (sum n g) ⊕ var (g n)))
    (omega arith)

pub sum-* : (n : ℕ) (c : ℤ) (f : ℕ → ℤ) → sum n (λ i. c *ℤ f i) ≡ c *ℤ sum n f
unfolding sum
sum-* zero c f = sym (*ℤ-zero c)
sum-* (suc n) c f = ap (λ (z : ℤ). z +ℤ c *ℤ f n) (sum-* n c f) ∙ sym (*ℤ-distribˡ-+ℤ c (sum n f) (f n))

pub sum_none : (n : ℕ) {f : ℕ → ℤ} → ((i : ℕ) → i < n → f i ≡ pos 0) → sum n f ≡ pos 0
unfolding sum
sum_none zero e = refl
sum_none (suc n) {f} e = ap₂ ◌+ℤ◌ (sum_none n (λ i h. e i (below_suc h))) (e n (lt-suc_self n))

-- a sum with one term that counts
pub sum_only : (n i : ℕ) {f : ℕ → ℤ} → i < n → ((k : ℕ) → k < n → (k ≡ i → ⊥) → f k ≡ pos 0) → sum n f ≡ f i
unfolding sum
sum_only zero i h e = absurd (omega arith)
sum_only (suc n) i {f} h e = by (λ l. sum_only n i {f = f} l (λ k m. e k (below_suc m))) (eqb i n) refl
  where
    by : (i < n → sum n f ≡ f i) → (t : Bool) → eqb i n ≡ t → sum n f +ℤ f n ≡ f i
    by rest true t =
        let i-is : i ≡ n = eqb-true i n t in
        ap (λ (z : ℤ). z +ℤ f n) (sum_none n (λ k l. e k (below_suc l) (λ q. omega arith))) ∙ +ℤ_idl (f n) ∙ ap f (sym i-is)
    by rest false t =
        let other : i ≡ n → ⊥ = eqb-false i n t in
        ap₂ ◌+ℤ◌ (rest (omega arith)) (e n (lt-suc_self n) (λ q. other (sym q))) ∙
        +ℤ_idr (f i)

-- ---- bounds

pub sum_mono : (n : ℕ) {f g : ℕ → ℤ} → ((i : ℕ) → i < n → f i ≤ℤ g i) → sum n f ≤ℤ sum n g
unfolding sum
sum_mono zero h = ≤ℤ_refl (pos 0)
sum_mono (suc n) h = +ℤ-mono-≤ℤ (sum_mono n (λ i k. h i (below_suc k))) (h n (lt-suc_self n))

pub sumℕ-mono : (n : ℕ) {f g : ℕ → ℕ} → ((i : ℕ) → i < n → f i ≤ g i) → sumℕ n f ≤ sumℕ n g
unfolding sumℕ
sumℕ-mono zero h = le_refl 0
sumℕ-mono (suc n) h = add-le-add (sumℕ-mono n (λ i k. h i (below_suc k))) (h n (lt-suc_self n))

pub sumℕ-*ʳ : (n : ℕ) (f : ℕ → ℕ) (c : ℕ) → sumℕ n (λ i. f i * c) ≡ sumℕ n f * c
unfolding sumℕ
sumℕ-*ʳ zero f c = sym (zero-mul c)
sumℕ-*ʳ (suc n) f c = ap (λ (k : ℕ). k + f n * c) (sumℕ-*ʳ n f c) ∙ sym (add-mul (sumℕ n f) (f n) c)

pub sumℕ-none : (n : ℕ) {f : ℕ → ℕ} → ((i : ℕ) → i < n → f i ≡ 0) → sumℕ n f ≡ 0
unfolding sumℕ
sumℕ-none zero e = refl
sumℕ-none (suc n) e = ap₂ ◌+◌ (sumℕ-none n (λ i h. e i (below_suc h))) (e n (lt-suc_self n))

-- |sum| is at most the sum of the magnitudes
pub abs-sum : (n : ℕ) (f : ℕ → ℤ) → nat_abs (sum n f) ≤ sumℕ n (λ i. nat_abs (f i))
unfolding sum sumℕ
abs-sum zero f = le_refl 0
abs-sum (suc n) f = le_trans (abs-+ℤ (sum n f) (f n)) (add-le-add (abs-sum n f) (le_refl (nat_abs (f n))))

-- |sum of c·x| is at most (sum of |c|)·X where each |x| is at most X
pub abs_sum-* : (n : ℕ) (c x : ℕ → ℤ) (X : ℕ) → ((i : ℕ) → i < n → nat_abs (x i) ≤ X) →
    nat_abs (sum n (λ i. c i *ℤ x i)) ≤ sumℕ n (λ i. nat_abs (c i)) * X
abs_sum-* n c x X h =
    le_trans (abs-sum n (λ i. c i *ℤ x i))
    (rw (← (sumℕ-*ʳ n (λ i. nat_abs (c i)) X)) (sumℕ-mono n (λ i k. rw (abs-*ℤ (c i) (x i)) (mul-le-mul_left (nat_abs (c i)) (h i k)))))

-- ---- summation by parts

-- Σ g(i)·(a(i+1) - a(i)), i = 0..n, is g(n)·a(n+1) - g(0)·a(0) + Σ (g(i) - g(i+1))·a(i+1), i = 0..n-1
pub abel : (n : ℕ) (g a : ℕ → ℤ) →
    sum (suc n) (λ i. g i *ℤ (a (suc i) -ℤ a i)) ≡
    g n *ℤ a (suc n) -ℤ g 0 *ℤ a 0 +ℤ sum n (λ i. (g i -ℤ g (suc i)) *ℤ a (suc i))
unfolding sum
abel zero g a =
    eq_by (lit 0 ⊕ var (g 0) ⊗ (var (a 1) ⊖ var (a 0))) (var (g 0) ⊗ var (a 1) ⊖ var (g 0) ⊗ var (a 0) ⊕ lit 0) (omega arith)
abel (suc n) g a =
    let s = sum n (λ i. (g i -ℤ g (suc i)) *ℤ a (suc i)) in
    ap (λ (z : ℤ). z +ℤ g (suc n) *ℤ (a (suc (suc n)) -ℤ a (suc n))) (abel n g a) ∙
    eq_by
    (var (g n) ⊗ var (a (suc n)) ⊖ var (g 0 *ℤ a 0) ⊕ var s ⊕ var (g (suc n)) ⊗ (var (a (suc (suc n))) ⊖ var (a (suc n))))
    (var (g (suc n)) ⊗ var (a (suc (suc n))) ⊖ var (g 0 *ℤ a 0) ⊕ (var s ⊕ (var (g n) ⊖ var (g (suc n))) ⊗ var (a (suc n))))
    (omega arith)
