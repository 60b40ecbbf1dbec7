-- The walk: a turn is one step, as many steps as bytes are never spent, and bytes before its start do not matter. Assumes nothing.
use mathlib.Core.Path.{◌≡◌, refl, sym, ap, ◌∙◌}
use mathlib.Core.Bool.{Bool, true, false, cond}
use mathlib.Core.List.{List}
use Prim.Native.Nat.{ℕ, zero, suc, ◌+◌, ◌-◌, ◌%◌, ◌<◌, ◌≤◌}
use native.Mathlib.Omega.{arith}
use lib.ListN.{length, take, drop, length-drop}
use lib.Seq.{take_all, drop-drop}
use lib.Dec.{leb}
use borrow.Author.Tests.{le-leb, lt-leb, leb-true}
use Rattle.fields.specs.Bytes.{Order}
use Rattle.chunks.specs.Walk.{header_length, size_in, next, Step, ends, on, visit, follow, walk}

-- ---- where the next chunk starts

-- behind the contents
pub next-behind : (at size : ℕ) → at + (header_length + size) ≤ next at size
unfolding next
next-behind at size = omega arith

-- .. so the walk goes further
pub next_further : (at size : ℕ) → at + header_length ≤ next at size
next_further at size = omega (arith, next-behind at size)

-- .. and from an even place to an even place
pub next_even : (at size : ℕ) → at % 2 ≡ 0 → next at size % 2 ≡ 0
unfolding next
next_even at size even = omega arith

-- a lent rest is the rest
pub lent_rest : (front : List ℕ) (at : ℕ) → take (length front - at) (drop at front) ≡ drop at front
lent_rest front at = take_all (length front - at) (drop at front) (simp length-drop (omega arith))

-- rows that agree from a place on agree from any later place on
drop-same : (k : ℕ) (a b : List ℕ) → drop k a ≡ drop k b → (at : ℕ) → k ≤ at → drop at a ≡ drop at b
drop-same k a b e at l =
    let split : k + (at - k) ≡ at = omega arith in
    ap (λ (n : ℕ). drop n a) (sym split) ∙ sym (drop-drop (at - k) k a) ∙ ap (drop (at - k)) e ∙ drop-drop (at - k) k b ∙ ap (λ (n : ℕ). drop n b) split

module _ (order : Order) {Met Answer : Type 0} (cut : Answer) (step : List ℕ → ℕ → Met → Step Met Answer) where
  -- ---- a chunk's header

  pub visit_whole : (rest : List ℕ) (at : ℕ) (met : Met) → header_length ≤ length rest → visit order cut step rest at met ≡ step rest at met
  unfolding visit
  visit_whole rest at met l = rw (le-leb header_length (length rest) l)

  pub visit_cut : (rest : List ℕ) (at : ℕ) (met : Met) → length rest < header_length → visit order cut step rest at met ≡ ends cut
  unfolding visit
  visit_cut rest at met l = rw (lt-leb header_length (length rest) l)

  -- a visit cuts the walk off, or is the step of a whole header
  pub data Visited (rest : List ℕ) (at : ℕ) (met : Met) (s : Step Met Answer) : Type 0 where
    cuts : ends cut ≡ s → Visited rest at met s
    steps : header_length ≤ length rest → step rest at met ≡ s → Visited rest at met s

  pub visited : (rest : List ℕ) (at : ℕ) (met : Met) (s : Step Met Answer) → visit order cut step rest at met ≡ s → Visited rest at met s
  unfolding visit
  visited rest at met s e = by (leb header_length (length rest)) refl e
    where
      by : (t : Bool) → leb header_length (length rest) ≡ t → cond t (step rest at met) (ends cut) ≡ s → Visited rest at met s
      by true whole is = steps (leb-true header_length (length rest) whole) is
      by false part is = cuts is

  -- a walk goes on only past a whole header
  pub went_on : (rest : List ℕ) (at : ℕ) (met seen : Met) → visit order cut step rest at met ≡ on seen →
      (header_length ≤ length rest) × (step rest at met ≡ on seen)
  went_on rest at met seen e = by (visited rest at met (on seen) e)
    where
      by : Visited rest at met (on seen) → (header_length ≤ length rest) × (step rest at met ≡ on seen)
      by (cuts is) = absurd (let z : ◌≡◌ {A = ℕ} 0 1 = cc in omega arith)
      by (steps whole is) = (whole, is)

  visit_at : (front : List ℕ) (at : ℕ) (met : Met) → at + header_length ≤ length front →
      visit order cut step (drop at front) at met ≡ step (drop at front) at met
  visit_at front at met l = visit_whole (drop at front) at met (simp length-drop (omega arith))

  pub visit_past : (front : List ℕ) (at : ℕ) (met : Met) → length front < at + header_length → visit order cut step (drop at front) at met ≡ ends cut
  visit_past front at met l = visit_cut (drop at front) at met (simp length-drop (omega arith))

  -- ---- steps enough

  -- two ways of going on that agree at the next chunk agree on the step
  follow_same : (f g : ℕ → Met → Answer) (place : ℕ) → ((met : Met) → f place met ≡ g place met) → (s : Step Met Answer) →
      follow order cut step f place s ≡ follow order cut step g place s
  follow_same f g place agree (ends answer) = refl
  follow_same f g place agree (on met) = agree met

  module _ (front : List ℕ) where
    -- where the chunk behind the one at a place starts
    abbrev after : ℕ → ℕ
    after at = next at (size_in order (drop at front))

    -- where no header is left, any number of steps comes to `cut`
    past : (n at : ℕ) (met : Met) → length front < at + header_length → walk order cut step n front at met ≡ cut
    unfolding walk
    past zero at met l = refl
    past (suc n) at met l = ap (follow order cut step (walk order cut step n front) (after at)) (visit_past front at met l)

    -- any two numbers of steps that no byte outnumbers come to the same
    pub never_spent : (m n at : ℕ) (met : Met) → length front ≤ at + m → length front ≤ at + n →
        walk order cut step m front at met ≡ walk order cut step n front at met
    unfolding walk
    never_spent zero n at met l k = sym (past n at met (omega arith))
    never_spent (suc m) zero at met l k = past (suc m) at met (omega arith)
    never_spent (suc m) (suc n) at met l k =
        follow_same (walk order cut step m front) (walk order cut step n front) (after at)
        (λ (seen : Met). let far = next_further at (size_in order (drop at front)) in never_spent m n (after at) seen (omega arith) (omega arith))
        (visit order cut step (drop at front) at met)

    -- ---- a reader's loop

    -- a turn of the loop is one step
    pub turn : (at : ℕ) (met : Met) →
        walk order cut step (length front) front at met
        ≡ follow order cut step (walk order cut step (length front) front) (after at) (visit order cut step (drop at front) at met)
    unfolding walk
    turn at met = never_spent (length front) (suc (length front)) at met (omega arith) (omega arith)

    -- an answer ends the walk
    pub walk_ends : (at : ℕ) (met : Met) (answer : Answer) → at + header_length ≤ length front → step (drop at front) at met ≡ ends answer →
        walk order cut step (length front) front at met ≡ answer
    walk_ends at met answer l e =
        turn at met ∙ ap (follow order cut step (walk order cut step (length front) front) (after at)) (visit_at front at met l ∙ e)

    -- else it goes on at the next chunk
    pub walk_on : (at : ℕ) (met seen : Met) → at + header_length ≤ length front → step (drop at front) at met ≡ on seen →
        walk order cut step (length front) front at met ≡ walk order cut step (length front) front (after at) seen
    walk_on at met seen l e =
        turn at met ∙ ap (follow order cut step (walk order cut step (length front) front) (after at)) (visit_at front at met l ∙ e)

    -- a header that is not wholly there is cut off
    pub walk_past : (at : ℕ) (met : Met) → length front < at + header_length → walk order cut step (length front) front at met ≡ cut
    walk_past at met l = past (length front) at met l

  -- ---- bytes before the walk's start

  pub from_there : (n k : ℕ) (a b : List ℕ) → drop k a ≡ drop k b → (at : ℕ) (met : Met) → k ≤ at →
      walk order cut step n a at met ≡ walk order cut step n b at met
  unfolding walk
  from_there zero k a b e at met l = refl
  from_there (suc n) k a b e at met l =
      let rest : drop at a ≡ drop at b = drop-same k a b e at l in
      let far = next_further at (size_in order (drop at b)) in
      rw rest (follow_same (walk order cut step n a) (walk order cut step n b) (next at (size_in order (drop at b)))
      (λ (seen : Met). from_there n k a b e (next at (size_in order (drop at b))) seen (omega arith))
      (visit order cut step (drop at b) at met))
