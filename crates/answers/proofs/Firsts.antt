-- The laws of the first element that fails a test. Assumes nothing.
use mathlib.Core.Path.{◌≡◌, refl, sym, ap, ◌∙◌}
use mathlib.Core.Bool.{Bool, true, false, cond, not, ◌&&◌, false≢true}
use mathlib.Core.List.{List, [], ◌∷◌, ◌++◌}
use Prim.Native.Nat.{ℕ, zero, suc, ◌+◌, ◌≤◌, ◌<◌}
use native.Mathlib.Nat.{le_of_suc-le-suc, not-suc-le-zero}
use native.Mathlib.Omega.{arith}
use native.Mathlib.Decide.{dec_lt}
use borrow.Author.Tests.{leb-true, leb-false, le-leb, lt-leb, le-ltb}
use lib.Dec.{leb, ltb}
use lib.ListN.{length, get_or}
use Rattle.std.specs.Prelude.{Some, None, position}
use Rattle.std.specs.List.{position_or_len}
use Rattle.std.proofs.lemmas.Grind.{common_steps}
use Rattle.std.proofs.lemmas.List.Recursion.{is_position_or_len}
use Rattle.answers.specs.First.{first_failing, FirstFails, all_pass}

module _ {A : Type 0} (test : A → Bool) (other : A) where
  -- ---- the first

  -- an element before the first that fails passes
  pub before-first : (s : List A) (i : ℕ) → i < first_failing test s → test (get_or s i other) ≡ true
  unfolding first_failing
  before-first [] i h = absurd (not-suc-le-zero h)
  before-first (x ∷ xs) i h = by (test x) refl i h (λ k. before-first xs k)
    where
      by : (t : Bool) → test x ≡ t → (i : ℕ) → i < cond t (suc (first_failing test xs)) 0 →
          ((k : ℕ) → k < first_failing test xs → test (get_or xs k other) ≡ true) → test (get_or (x ∷ xs) i other) ≡ true
      by false e i h rest = absurd (not-suc-le-zero h)
      by true e zero h rest = e
      by true e (suc i) h rest = rest i (le_of_suc-le-suc h)

  -- the element there does not
  at_first : (s : List A) → first_failing test s < length s → test (get_or s (first_failing test s) other) ≡ false
  unfolding first_failing
  at_first [] h = absurd (not-suc-le-zero h)
  at_first (x ∷ xs) h = by (test x) refl h (at_first xs)
    where
      by : (t : Bool) → test x ≡ t → cond t (suc (first_failing test xs)) 0 < suc (length xs) →
          (first_failing test xs < length xs → test (get_or xs (first_failing test xs) other) ≡ false) →
          test (get_or (x ∷ xs) (cond t (suc (first_failing test xs)) 0) other) ≡ false
      by false e h rest = e
      by true e h rest = rest (le_of_suc-le-suc h)

  -- there is the first one that fails
  pub first_at : (s : List A) → all_pass test s ≡ false → FirstFails test other s (first_failing test s)
  first_at s e =
      let h : first_failing test s < length s = leb-false (length s) (first_failing test s) e in
      record { among = h; fails = at_first s h; none_before = before-first s }

  -- and of no other place is that true
  pub one_first : (s : List A) (i : ℕ) → FirstFails test other s i → i ≡ first_failing test s
  one_first s i f = by (dec_lt i (first_failing test s)) (dec_lt (first_failing test s) i)
    where
      by : Dec (i < first_failing test s) → Dec (first_failing test s < i) → i ≡ first_failing test s
      by (yes h) d = absurd (false≢true (sym f.fails ∙ before-first s i h))
      by (no n) (yes h) = absurd (false≢true (sym (at_first s (omega (arith, f.among))) ∙ f.none_before (first_failing test s) h))
      by (no n) (no m) = omega arith

  -- ---- all of a list

  pub all_at : (s : List A) → all_pass test s ≡ true → (i : ℕ) → i < length s → test (get_or s i other) ≡ true
  all_at s e i h = before-first s i (omega (arith, leb-true (length s) (first_failing test s) e))

-- one more on both sides
same_order : (n k : ℕ) → leb (suc n) (suc k) ≡ leb n k
same_order n k = order (dec_lt k n)
  where
    order : Dec (k < n) → leb (suc n) (suc k) ≡ leb n k
    order (yes l) = lt-leb (suc n) (suc k) (omega arith) ∙ sym (lt-leb n k l)
    order (no l) = le-leb (suc n) (suc k) (omega arith) ∙ sym (le-leb n k (omega arith))

module _ {A : Type 0} (test : A → Bool) where
  -- it is the library's first that does not pass
  first_is : (s : List A) → first_failing test s ≡ position_or_len (λ x. not (test x)) s
  unfolding first_failing
  first_is s = is_position_or_len (first_failing test) (λ x. not (test x)) refl (λ x xs. by (test x) (first_failing test xs)) s
    where
      by : (t : Bool) (k : ℕ) → cond t (suc k) 0 ≡ cond (not t) 0 (1 + k)
      by true k = omega arith
      by false k = refl

  -- where the library finds one, it is the first that fails
  pub found : (s : List A) (i : ℕ) → position (λ x. not (test x)) s ≡ Some i → (all_pass test s ≡ false) × (i ≡ first_failing test s)
  found s i e =
      let p = first_is s in
      let at : position_or_len (λ x. not (test x)) s ≡ i = grind (arith, common_steps) in
      let inside : i < length s = grind (arith, common_steps) in
      (lt-leb (length s) (first_failing test s) (omega arith), omega arith)

  -- where it finds none, all pass
  pub found_none : (s : List A) → position (λ x. not (test x)) s ≡ None → all_pass test s ≡ true
  found_none s e =
      let p = first_is s in
      let past : length s ≤ position_or_len (λ x. not (test x)) s = grind (arith, common_steps) in
      le-leb (length s) (first_failing test s) (omega arith)

  -- .. and where all pass, it finds none
  pub none_there : (s : List A) → length s ≡ first_failing test s → None ≡ position (λ x. not (test x)) s
  none_there s e =
      let p = first_is s in
      let n : ltb (position_or_len (λ x. not (test x)) s) (length s) ≡ false = le-ltb (position_or_len (λ x. not (test x)) s) (length s) (omega arith) in
      rw n refl

  pub all_cons : (x : A) (xs : List A) → all_pass test (x ∷ xs) ≡ true → (test x ≡ true) × (all_pass test xs ≡ true)
  unfolding first_failing
  all_cons x xs e = by (test x) (first_failing test xs) e
    where
      by : (t : Bool) (k : ℕ) → leb (suc (length xs)) (cond t (suc k) 0) ≡ true → (t ≡ true) × (leb (length xs) k ≡ true)
      by true k h = (refl, le-leb (length xs) k (omega (arith, leb-true (suc (length xs)) (suc k) h)))
      by false k h = absurd (omega (arith, leb-true (suc (length xs)) 0 h))

  -- one test after the other
  all_is : (x : A) (xs : List A) → all_pass test (x ∷ xs) ≡ (test x && all_pass test xs)
  unfolding first_failing
  all_is x xs = by (test x) (first_failing test xs)
    where
      by : (t : Bool) (k : ℕ) → leb (suc (length xs)) (cond t (suc k) 0) ≡ (t && leb (length xs) k)
      by true k = same_order (length xs) k
      by false k = lt-leb (suc (length xs)) 0 (omega arith)

  -- .. and of two lists
  pub all_both : (s t : List A) → all_pass test (s ++ t) ≡ (all_pass test s && all_pass test t)
  unfolding first_failing
  all_both [] t = ap (λ (b : Bool). b && all_pass test t) (sym (le-leb 0 0 (omega arith)))
  all_both (x ∷ s) t = all_is x (s ++ t) ∙ ap (λ (b : Bool). test x && b) (all_both s t) ∙ sym (and_assoc (test x) (all_pass test s) (all_pass test t)) ∙ ap (λ (b : Bool). b && all_pass test t) (sym (all_is x s))
    where
      and_assoc : (a b c : Bool) → ((a && b) && c) ≡ (a && (b && c))
      and_assoc true b c = refl
      and_assoc false b c = refl

  pub cons_all : (x : A) (xs : List A) → test x ≡ true → all_pass test xs ≡ true → all_pass test (x ∷ xs) ≡ true
  unfolding first_failing
  cons_all x xs e h = rw e (le-leb (suc (length xs)) (suc (first_failing test xs)) (omega (arith, leb-true (length xs) (first_failing test xs) h)))
