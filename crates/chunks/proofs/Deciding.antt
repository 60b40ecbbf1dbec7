-- Where a walk ends, and that nothing after what the deciding chunk looks at decides. Assumes nothing.
use mathlib.Core.Path.{◌≡◌, refl, sym, ap, ◌∙◌}
use mathlib.Core.List.{List}
use Prim.Native.Nat.{ℕ, zero, suc, ◌+◌, ◌%◌, ◌≤◌}
use native.Mathlib.Omega.{arith}
use lib.ListN.{length, drop}
use Rattle.fields.specs.Bytes.{Order}
use Rattle.chunks.specs.Walk.{header_length, size_in, next, Step, ends, on, visit, follow, walk}
use Rattle.chunks.proofs.Alike.{Alike, alike_drop, field_alike}
use Rattle.chunks.proofs.Walks.{next-behind, next_further, next_even, visit_whole, visit_past, went_on, turn}

module _ (order : Order) {Met Answer : Type 0} (cut : Answer) (step : List ℕ → ℕ → Met → Step Met Answer) where
  -- a step looks only at its own chunk: at the header, and at no more than the contents
  pub record OwnChunk (reach : List ℕ → ℕ) : Type 0 where
    pub header : (rest : List ℕ) → header_length ≤ reach rest
    pub contents : (rest : List ℕ) → reach rest ≤ header_length + size_in order rest
    pub looks : (r q : List ℕ) (at : ℕ) (met : Met) → Alike (reach r) r q → step r at met ≡ step q at met

  -- the walk from a chunk comes to the chunk at a place, with what it has met by then
  pub data Comes (front : List ℕ) : ℕ → Met → ℕ → Met → Type 0 where
    here : {at : ℕ} {met : Met} → Comes front at met at met
    there : {at place : ℕ} {met seen last : Met} → visit order cut step (drop at front) at met ≡ on seen →
        Comes front (next at (size_in order (drop at front))) seen place last → Comes front at met place last

  pub comes_further : (front : List ℕ) (at place : ℕ) (met last : Met) → Comes front at met place last → at ≤ place
  comes_further front at place met last here = omega arith
  comes_further front at place met last (there {seen = seen} e c) =
      omega (arith, next_further at (size_in order (drop at front)), comes_further front (next at (size_in order (drop at front))) place seen last c)

  -- from an even place on, every chunk starts at one
  pub comes_even : (front : List ℕ) (at place : ℕ) (met last : Met) → Comes front at met place last → at % 2 ≡ 0 → place % 2 ≡ 0
  comes_even front at place met last here even = even
  comes_even front at place met last (there {seen = seen} e c) even =
      let size = size_in order (drop at front) in
      comes_even front (next at size) place seen last c (next_even at size even)

  -- ---- every walk ends at a chunk

  pub record Landing (front : List ℕ) (at : ℕ) (met : Met) (answer : Answer) : Type 0 where
    pub place : ℕ
    pub last : Met
    pub comes : Comes front at met place last
    pub decided : visit order cut step (drop place front) place last ≡ ends answer

  module _ (front : List ℕ) where
    abbrev after : ℕ → ℕ
    after at = next at (size_in order (drop at front))

    landing_of : (f : ℕ → Met → Answer) (at : ℕ) (met : Met) (s : Step Met Answer) → visit order cut step (drop at front) at met ≡ s →
        ((seen : Met) → Landing front (after at) seen (f (after at) seen)) → Landing front at met (follow order cut step f (after at) s)
    landing_of f at met (ends answer) e later = record { place = at; last = met; comes = here; decided = e }
    landing_of f at met (on seen) e later =
        let l = later seen in
        record { place = l.place; last = l.last; comes = there e l.comes; decided = l.decided }

    pub landing : (n at : ℕ) (met : Met) → length front ≤ at + n → Landing front at met (walk order cut step n front at met)
    unfolding walk
    landing zero at met l = record { place = at; last = met; comes = here; decided = visit_past order cut step front at met (omega arith) }
    landing (suc n) at met l =
        landing_of (walk order cut step n front) at met (visit order cut step (drop at front) at met) refl
        (λ (seen : Met). let far = next_further at (size_in order (drop at front)) in landing n (after at) seen (omega arith))

  -- what every step on keeps holds of what was met last
  pub kept : (P : Met → Type 0) → ((rest : List ℕ) (at : ℕ) (met seen : Met) → P met → step rest at met ≡ on seen → P seen) →
      (front : List ℕ) (at place : ℕ) (met last : Met) → Comes front at met place last → P met → P last
  kept P keeps front at place met last here p = p
  kept P keeps front at place met last (there {seen = seen} e c) p =
      kept P keeps front (next at (size_in order (drop at front))) place seen last c (keeps (drop at front) at met seen p (went_on order cut step (drop at front) at met seen e).1)

  -- ---- nothing after the deciding chunk decides

  module _ (reach : List ℕ → ℕ) (own : OwnChunk reach) where
    visit_alike : (r q : List ℕ) (at : ℕ) (met : Met) → Alike (reach r) r q → visit order cut step r at met ≡ visit order cut step q at met
    visit_alike r q at met a =
        let h = own.header r in
        visit_whole order cut step r at met (omega (arith, a.long)) ∙ own.looks r q at met a
        ∙ sym (visit_whole order cut step q at met (omega (arith, a.long')))

    -- two fronts that agree up to what the deciding chunk of one looks at have the same answer
    pub decides : (a b : List ℕ) (at place : ℕ) (met last : Met) (answer : Answer) → Comes a at met place last →
        visit order cut step (drop place a) place last ≡ ends answer → Alike (place + reach (drop place a)) a b →
        walk order cut step (length b) b at met ≡ answer
    decides a b at place met last answer here e same_bytes =
        turn order cut step b at met
        ∙ ap (follow order cut step (walk order cut step (length b) b) (next at (size_in order (drop at b))))
        (sym (visit_alike (drop at a) (drop at b) at met (alike_drop (at + reach (drop at a)) a b same_bytes at (reach (drop at a)) (omega arith))) ∙ e)
    decides a b at place met last answer (there {seen = seen} e₀ c) e same_bytes =
        let far = comes_further a (next at (size_in order (drop at a))) place seen last c in
        let room : at + reach (drop at a) ≤ place + reach (drop place a) =
        omega (arith, own.contents (drop at a), next-behind at (size_in order (drop at a))) in
        let rests = alike_drop (place + reach (drop place a)) a b same_bytes at (reach (drop at a)) room in
        let sizes : size_in order (drop at a) ≡ size_in order (drop at b) =
        field_alike (reach (drop at a)) (drop at a) (drop at b) rests order 4 4 (own.header (drop at a)) in
        turn order cut step b at met
        ∙ ap (follow order cut step (walk order cut step (length b) b) (next at (size_in order (drop at b))))
        (sym (visit_alike (drop at a) (drop at b) at met rests) ∙ e₀)
        ∙ ap (λ (n : ℕ). walk order cut step (length b) b (next at n) seen) (sym sizes)
        ∙ decides a b (next at (size_in order (drop at a))) place seen last answer c e same_bytes
