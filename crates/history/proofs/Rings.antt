-- A ring shows a signal: d back in the ring is the signal at n - d. A new sample, put at the position, keeps that for n + 1.
-- Assumes nothing.
use mathlib.Core.Path.{◌≡◌, refl, sym, ap, subst, ◌∙◌}
use mathlib.Core.Bool.{Bool, true, false, cond}
use mathlib.Core.List.{List, ◌++◌}
use Prim.Native.Nat.{ℕ, zero, suc, ◌+◌, ◌-◌, ◌≤◌, ◌<◌}
use native.Mathlib.Omega.{arith}
use borrow.Author.Tests.{leb-true, leb-false, ltb-true, ltb-false}
use lib.Dec.{leb, ltb}
use lib.ListN.{length, get_or, take, set, length-set, get_or-append}
use lib.Seq.{get_or-set_same, get_or-set_other, get_or-take, length-take-le}
use lib.IntN.{ℤ, pos}
use Rattle.tree.specs.Signal.{Signal, back}
use Rattle.tree.proofs.Back.{back_in, back_out}
use Rattle.ring.specs.Line.{place, ago, next}
use Rattle.ring.proofs.Places.{place_cases, place_inside}

-- ---- places

next_cases : (size at : ℕ) (P : ℕ → Type 0) → (at + 1 < size → P (at + 1)) → (size ≤ at + 1 → P 0) → P (next size at)
next_cases size at P inside around = by (ltb (at + 1) size) refl
  where
    by : (t : Bool) → ltb (at + 1) size ≡ t → P (cond t (at + 1) 0)
    by true e = inside (ltb-true (at + 1) size e)
    by false e = around (ltb-false (at + 1) size e)

pub next_inside : (size at : ℕ) → at < size → next size at < size
next_inside size at h = next_cases size at (λ k. k < size) (λ q. q) (λ q. omega arith)

-- place(next at, 1) = at: after a sample, one back is where it was put
place_newest : (size at : ℕ) → at < size → place size (next size at) 1 ≡ at
place_newest size at i =
    next_cases size at (λ k. place size k 1 ≡ at)
    (λ h. place_cases size (at + 1) 1 (λ k. k ≡ at) (λ q. omega arith) (λ q. omega arith))
    (λ h. place_cases size 0 1 (λ k. k ≡ at) (λ q. omega arith) (λ q. omega arith))

-- place(next at, d + 1) = place(at, d): every older sample stays where it was
place_older : (size at d : ℕ) → 1 ≤ d → d < size → at < size → place size (next size at) (suc d) ≡ place size at d
place_older size at d l h i =
    next_cases size at (λ k. place size k (suc d) ≡ place size at d)
    (λ q. place_cases size at d (λ k. place size (at + 1) (suc d) ≡ k)
    (λ p. place_cases size (at + 1) (suc d) (λ k. k ≡ at - d) (λ r. omega arith) (λ r. omega arith))
    (λ p. place_cases size (at + 1) (suc d) (λ k. k ≡ at + size - d) (λ r. omega arith) (λ r. omega arith)))
    (λ q. place_cases size at d (λ k. place size 0 (suc d) ≡ k)
    (λ p. place_cases size 0 (suc d) (λ k. k ≡ at - d) (λ r. omega arith) (λ r. omega arith))
    (λ p. place_cases size 0 (suc d) (λ k. k ≡ at + size - d) (λ r. omega arith) (λ r. omega arith)))

-- place(at, d) ≠ at for d < size: the new sample overwrites only the one `size` back
place_other : (size at d : ℕ) → 1 ≤ d → d < size → place size at d ≡ at → ⊥
place_other size at d l h = place_cases size at d (λ k. k ≡ at → ⊥) (λ q e. omega arith) (λ q e. omega arith)

-- ---- what a line shows

-- n samples were put: d back in the line is s at n - d, for d from 1 to the line's length
unfoldable pub Shows : List ℤ → ℕ → ℕ → Signal → ℕ → Type 0
Shows line size at s n = (d : ℕ) → 1 ≤ d → d ≤ size → ago line size at d ≡ back s n d

-- what stands in the line's own places does not depend on what follows them
own_places : (line rest : List ℤ) (size k : ℕ) → k < size → size ≤ length line → get_or (take size line ++ rest) k (pos 0) ≡ get_or line k (pos 0)
own_places line rest size k h l =
    get_or-append (take size line) rest (pos 0) k (subst (λ (j : ℕ). k < j) (sym (length-take-le size line l)) h) ∙ get_or-take size line k (pos 0) h

back_older : (s : Signal) (n d : ℕ) → back s n d ≡ back s (suc n) (suc d)
back_older s n d = by (leb d n) refl
  where
    by : (t : Bool) → leb d n ≡ t → cond t (s (n - d)) (pos 0) ≡ back s (suc n) (suc d)
    by true e = let h : d ≤ n = leb-true d n e in sym (back_in s {n = suc n} {d = suc d} (omega arith) ∙ ap s (omega arith))
    by false e = let h : n < d = leb-false d n e in sym (back_out s {n = suc n} {d = suc d} (omega arith))

back_newest : (s : Signal) (n : ℕ) → back s (suc n) 1 ≡ s n
back_newest s n = back_in s {n = suc n} {d = 1} (omega arith) ∙ ap s (omega arith)

-- with the sample s(n) put at the position, the line shows n + 1 samples
pub shows_next : (line rest : List ℤ) (size at : ℕ) (s : Signal) (n : ℕ) → at < size → size ≤ length line → Shows line size at s n →
    Shows (take size (set line at (s n)) ++ rest) size (next size at) s (suc n)
unfolding Shows
shows_next line rest size at s n i l shows zero p q = absurd (omega arith)
shows_next line rest size at s n i l shows (suc zero) p q =
    ap (λ (k : ℕ). get_or (take size (set line at (s n)) ++ rest) k (pos 0)) (place_newest size at i) ∙
    own_places (set line at (s n)) rest size at i (simp length-set l) ∙
    get_or-set_same line at (s n) (pos 0) (omega arith) ∙ sym (back_newest s n)
shows_next line rest size at s n i l shows (suc (suc d)) p q =
    ap (λ (k : ℕ). get_or (take size (set line at (s n)) ++ rest) k (pos 0)) (place_older size at (suc d) (omega arith) (omega arith) i) ∙
    own_places (set line at (s n)) rest size (place size at (suc d)) (place_inside size at (suc d) (omega arith) (omega arith) i) (simp length-set l) ∙
    get_or-set_other line at (place size at (suc d)) (s n) (pos 0) (place_other size at (suc d) (omega arith) (omega arith)) ∙
    shows (suc d) (omega arith) (omega arith) ∙ back_older s n (suc d)

-- zeros show the empty history
pub shows_none : (line : List ℤ) (size : ℕ) (s : Signal) → ((k : ℕ) → get_or line k (pos 0) ≡ pos 0) → Shows line size 0 s 0
unfolding Shows
shows_none line size s z d p q = z (place size 0 d) ∙ sym (back_out s {n = 0} {d = d} (omega arith))
