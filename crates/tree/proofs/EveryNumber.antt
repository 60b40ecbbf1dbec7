-- A fact about every number of a range, by one test that is computed. Assumes nothing.
use mathlib.Core.Path.{◌≡◌, refl, sym, subst}
use mathlib.Core.Bool.{Bool, true, false, ◌&&◌}
use Prim.Native.Nat.{ℕ, zero, suc, ◌+◌, ◌-◌, ◌≤◌, ◌<◌}
use native.Mathlib.Omega.{arith}
use lib.Dec.{T, eqb}
use borrow.Author.Tests.{eqb-true, eqb-false}

-- the test f holds of 0, 1, .., n - 1
unfoldable pub every : ℕ → (ℕ → Bool) → Bool
every zero f = true
every (suc n) f = every n f && f n

both : (a b : Bool) → T (a && b) → T a × T b
both true b t = (tt, t)
both false b t = absurd t

pub every_at : (n : ℕ) (f : ℕ → Bool) → T (every n f) → (i : ℕ) → i < n → T (f i)
unfolding every
every_at zero f t i h = absurd (omega arith)
every_at (suc n) f t i h = by (every_at n f (both (every n f) (f n) t).0 i) (eqb i n) refl
  where
    by : (i < n → T (f i)) → (b : Bool) → eqb i n ≡ b → T (f i)
    by rest true e = subst (λ (k : ℕ). T (f k)) (sym (eqb-true i n e)) (both (every n f) (f n) t).1
    by rest false e =
        let other : i ≡ n → ⊥ = eqb-false i n e in
        rest (omega arith)

-- rule 1.3: the nine counts of bands, 2 to 10
pub for_each_count : (f : ℕ → Bool) → T (every 9 (λ i. f (i + 2))) → (M : ℕ) → 2 ≤ M → M ≤ 10 → T (f M)
for_each_count f t M l h = subst (λ (k : ℕ). T (f k)) there (every_at 9 (λ i. f (i + 2)) t (M - 2) (omega arith))
  where
    there : M - 2 + 2 ≡ M
    there = omega arith
