-- Lists f n, f (n + 1), ..: alike where their entries are, joined, and read at a place. Assumes nothing.
use mathlib.Core.Path.{◌≡◌, refl, sym, ap, ap₂, ◌∙◌}
use mathlib.Core.List.{List, ◌∷◌, ◌++◌}
use Prim.Native.Nat.{ℕ, zero, suc, ◌+◌, ◌≤◌, ◌<◌}
use native.Mathlib.Nat.{add-zero, zero-add, suc-add}
use native.Mathlib.Omega.{arith}
use lib.ListN.{get_or}
use lib.IntN.{ℤ, pos}
use Rattle.history.specs.History.{from}

pub from-ext : (n k : ℕ) {f g : ℕ → ℤ} → ((i : ℕ) → n ≤ i → i < n + k → f i ≡ g i) → from n k f ≡ from n k g
unfolding from
from-ext n zero e = refl
from-ext n (suc k) e =
    ap₂ (λ (u : ℤ) (v : List ℤ). u ∷ v) (e n (omega arith) (omega arith)) (from-ext (n + 1) k (λ i l h. e i (omega arith) (omega arith)))

pub from-append : (n a b : ℕ) (f : ℕ → ℤ) → from n (a + b) f ≡ from n a f ++ from (n + a) b f
unfolding from
from-append n zero b f = ap₂ (λ (u v : ℕ). from u v f) (sym (add-zero n)) (zero-add b)
from-append n (suc a) b f =
    ap (λ (k : ℕ). from n k f) (suc-add a b) ∙
    ap (λ (l : List ℤ). f n ∷ l) (from-append (n + 1) a b f ∙ ap (λ (k : ℕ). from (n + 1) a f ++ from k b f) (omega arith))

pub from_at : (n k : ℕ) (f : ℕ → ℤ) (i : ℕ) → i < k → get_or (from n k f) i (pos 0) ≡ f (n + i)
unfolding from
from_at n zero f i h = absurd (omega arith)
from_at n (suc k) f zero h = ap f (sym (add-zero n))
from_at n (suc k) f (suc i) h = from_at (n + 1) k f i (omega arith) ∙ ap f (omega arith)
