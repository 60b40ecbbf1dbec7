-- The bands of the two feeds, each at its gain 4,096, are two parts of the delayed input: no rounding is left in either, and they add up to it. For any
-- prototype and split k. Assumes nothing.
use mathlib.Core.Path.{◌≡◌, refl, sym, ap, ◌∙◌}
use mathlib.Core.Bool.{Bool, true, false, cond}
use Prim.Native.Nat.{ℕ, suc, ◌≤◌, ◌<◌}
use native.Mathlib.Decide.{dec_lt}
use native.Mathlib.Omega.{arith}
use borrow.Author.Tests.{lt-ltb, le-ltb, le-leb, lt-leb}
use lib.IntN.{ℤ, pos, ◌+ℤ◌, ◌*ℤ◌, +ℤ_idr, +ℤ_comm, *ℤ-zero, zero-*ℤ}
use Rattle.answers.specs.Unit.{unity}
use Rattle.whole.specs.Nearest.{nearest}
use Rattle.whole.specs.Sum.{sum}
use Rattle.whole.proofs.Signed.{var, lit, ◌⊗◌, eq_by}
use Rattle.whole.proofs.Nearest.{nearest-exact}
use Rattle.whole.proofs.Sums.{sum-ext, sum-+, sum-*}
use Rattle.tree.specs.Prototype.{Prototype}
use Rattle.tree.specs.Signal.{Signal, back}
use Rattle.tree.specs.Tree.{line, delay, held_back, gain_sum}
use Rattle.tree.proofs.EqualGains.{equal_gain_sum}
use Rattle.crossover.specs.Feeds.{Feed, bass, horn, goes}

module _ (p : Prototype) (M k : ℕ) (x : Signal) (n : ℕ) where
  -- band i + 1, held back, as far as it goes to a feed
  abbrev share : Feed → ℕ → ℤ
  share f i = cond (goes f k (suc i)) (held_back p M (line p M x) (suc i) n) (pos 0)

  -- ---- one feed

  out_of : (t : Bool) (u z : ℤ) → cond t u (pos 0) *ℤ z ≡ u *ℤ cond t z (pos 0)
  out_of true u z = refl
  out_of false u z = zero-*ℤ z ∙ sym (*ℤ-zero u)

  -- gains 4,096 at a feed's bands and 0 elsewhere: its rounded sum is the sum of its bands, exactly
  pub rounded_part : (f : Feed) (g : ℕ → ℕ → ℤ) → ((m : ℕ) → 1 ≤ m → m ≤ M → g n m ≡ cond (goes f k m) (pos unity) (pos 0)) →
      nearest unity (gain_sum p M g (line p M x) n) ≡ sum M (share f)
  unfolding gain_sum
  rounded_part f g e =
      ap (nearest unity)
      (sum-ext M
      (λ i h. ap (λ (z : ℤ). z *ℤ held_back p M (line p M x) (suc i) n) (e (suc i) (omega arith) (omega arith)) ∙
      out_of (goes f k (suc i)) (pos unity) (held_back p M (line p M x) (suc i) n)) ∙
      sum-* M (pos unity) (share f)) ∙
      nearest-exact unity (omega arith) (sum M (share f))

  -- ---- both

  -- a band goes to one of them
  either : (m : ℕ) (z : ℤ) → cond (goes bass k m) z (pos 0) +ℤ cond (goes horn k m) z (pos 0) ≡ z
  either m z = by (dec_lt k m)
    where
      by : Dec (k < m) → cond (goes bass k m) z (pos 0) +ℤ cond (goes horn k m) z (pos 0) ≡ z
      by (yes h) = rw (lt-leb m k h, lt-ltb k m h) (+ℤ_comm (pos 0) z ∙ +ℤ_idr z)
      by (no h) = rw (le-leb m k (omega arith), le-ltb k m (omega arith)) (+ℤ_idr z)

  pub parts_add_up : 1 ≤ M → sum M (share bass) +ℤ sum M (share horn) ≡ back x n (delay p M)
  unfolding gain_sum
  parts_add_up some =
      let late = back x n (delay p M) in
      sym (sum-+ M (share bass) (share horn)) ∙
      sum-ext M (λ i _. either (suc i) (held_back p M (line p M x) (suc i) n) ∙ sym (one_times (held_back p M (line p M x) (suc i) n))) ∙
      equal_gain_sum p M (pos 1) (λ _ _. pos 1) x n some (λ m _ _. refl) ∙ one_times late
    where
      one_times : (z : ℤ) → pos 1 *ℤ z ≡ z
      one_times z = eq_by (lit 1 ⊗ var z) (var z) (omega arith)
