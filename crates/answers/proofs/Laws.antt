-- The laws of a list of checks: accepted exactly if no check fails, else the case of the first that does, and every lent place
-- as before. Each call cites them. Assumes nothing.
use mathlib.Core.Path.{◌≡◌, refl, sym, ap, ◌∙◌, subst}
use mathlib.Core.Logic.{◌⊎◌, inl, inr}
use mathlib.Core.Bool.{Bool, true, false, cond, ◌&&◌, false≢true}
use mathlib.Core.List.{List, [], ◌∷◌, ◌++◌}
use Prim.Native.Nat.{ℕ, ◌<◌}
use native.Mathlib.Omega.{arith}
use borrow.Author.Tests.{ltb-true}
use lib.Dec.{ltb, lit<}
use Rattle.answers.specs.Answer.{Answer, accepted, number_in}
use Rattle.answers.specs.Checks.{Check, check, all_hold, choose, Outcome, decide, Done}
use Rattle.answers.specs.Judging.{First, here, later, Each, carried, all_refuse}

pub and_left : (a b : Bool) → (a && b) ≡ true → a ≡ true
and_left true b h = refl
and_left false b h = h

pub and_right : (a b : Bool) → (a && b) ≡ true → b ≡ true
and_right true b h = h
and_right false b h = absurd (false≢true h)

-- ---- the three steps of a call's proof: it refuses here, it goes on, it accepts

module _ (R L : Type 0) (before after : L) (result r : R) where
  pub refuses : (test : Bool) (case : R) (cs : List (Check R)) → test ≡ false → r ≡ case →
      Done (decide (record { holds = test; otherwise = case } ∷ cs) before result after) r before
  unfolding decide
  refuses test case cs e d = rw (e, d) (record { result_is = refl; lent_is = refl })

  pub refuses_here : (test : Bool) (cs : List (Check R)) → test ≡ false → Done (decide (record { holds = test; otherwise = r } ∷ cs) before result after) r before
  refuses_here test cs e = refuses test r cs e refl

  -- the last of the checks, whose case is worked out
  pub refuses_last : (test : Bool) (case : R) → test ≡ false → r ≡ case → Done (decide (record { holds = test; otherwise = case } ∷ []) before result after) r before
  refuses_last test case e d = refuses test case [] e d

  pub goes_on : (lent : L) (test : Bool) (case : R) (cs : List (Check R)) → test ≡ true → Done (decide cs before result after) r lent →
      Done (decide (record { holds = test; otherwise = case } ∷ cs) before result after) r lent
  unfolding decide
  goes_on lent test case cs e d = rw e d

  pub accepts : (lent : L) → r ≡ result → lent ≡ after → Done (decide [] before result after) r lent
  unfolding decide
  accepts lent e d = record { result_is = e; lent_is = d }

-- the same for a call that changes no place
module _ (R : Type 0) (result r : R) where
  pub chosen_here : (test : Bool) (cs : List (Check R)) → test ≡ false → r ≡ choose (record { holds = test; otherwise = r } ∷ cs) result
  unfolding choose
  chosen_here test cs e = rw e

  pub chosen_on : (test : Bool) (case : R) (cs : List (Check R)) → test ≡ true → r ≡ choose cs result → r ≡ choose (record { holds = test; otherwise = case } ∷ cs) result
  unfolding choose
  chosen_on test case cs e d = rw e d

  pub chosen_last : r ≡ result → r ≡ choose [] result
  unfolding choose
  chosen_last e = e

-- ---- accepted if none fails, else the first that fails

module _ {R L : Type 0} (before after : L) (result : R) where
  pub all_accept : (cs : List (Check R)) → all_hold cs ≡ true → decide cs before result after ≡ record { result = result; lent = after }
  unfolding decide all_hold
  all_accept [] e = refl
  all_accept (c ∷ cs) e = rw (and_left c.holds (all_hold cs) e) (all_accept cs (and_right c.holds (all_hold cs) e))

  pub first_refuses : {cs : List (Check R)} {r : R} → First cs r → decide cs before result after ≡ record { result = r; lent = before }
  unfolding decide
  first_refuses (here e) = rw e
  first_refuses (later e f) = rw e (first_refuses f)

  -- what holds of each case under the tests that lead to it holds of the answer
  pub every : (P : R → Type 0) (cs : List (Check R)) → Each P cs result → P (decide cs before result after).result
  unfolding decide Each
  every P [] h = h
  every P (c ∷ cs) h = by c.holds h.0 (λ e. every P cs (h.1 e))
    where
      by : (t : Bool) → (t ≡ false → P c.otherwise) → (t ≡ true → P (decide cs before result after).result) →
          P (cond t (decide cs before result after) (record { result = c.otherwise; lent = before })).result
      by true f g = g refl
      by false f g = f refl

pub chosen_first : {R : Type 0} (result : R) {cs : List (Check R)} {r : R} → First cs r → choose cs result ≡ r
unfolding choose
chosen_first result (here e) = rw e
chosen_first result (later e f) = rw e (chosen_first result f)

-- a call's answer is that of its checks alone
pub decided : {R L : Type 0} (before after : L) (result : R) (cs : List (Check R)) → (decide cs before result after).result ≡ choose cs result
unfolding decide choose
decided before after result [] = refl
decided before after result (c ∷ cs) = by c.holds (decided before after result cs)
  where
    by : (t : Bool) → (decide cs before result after).result ≡ choose cs result →
        (cond t (decide cs before result after) (record { result = c.otherwise; lent = before })).result ≡ cond t (choose cs result) c.otherwise
    by true e = e
    by false e = refl

-- what holds of each case under the tests that lead to it holds of that answer too
pub chosen_every : {R : Type 0} (result : R) (P : R → Type 0) (cs : List (Check R)) → Each P cs result → P (choose cs result)
chosen_every result P cs h = subst P (decided [] [] result cs) (every {L = List ℕ} [] [] result P cs h)

pub first_fails : {R : Type 0} {cs : List (Check R)} {r : R} → First cs r → all_hold cs ≡ false
unfolding all_hold
first_fails (here e) = rw e
first_fails (later e f) = rw e (first_fails f)

pub all_or_first : {R : Type 0} (cs : List (Check R)) → (all_hold cs ≡ true) ⊎ ((r : R) × First cs r)
unfolding all_hold
all_or_first [] = inl refl
all_or_first {R} (c ∷ cs) = by c.holds refl (all_or_first cs)
  where
    by : (t : Bool) → c.holds ≡ t → (all_hold cs ≡ true) ⊎ ((r : R) × First cs r) → ((t && all_hold cs) ≡ true) ⊎ ((r : R) × First (c ∷ cs) r)
    by false e h = inr (c.otherwise, here e)
    by true e (inl h) = inl h
    by true e (inr h) = inr (h.0, later e h.1)

-- a check that another list holds, with the case of the first that fails, is that list in its place; what its case is where all hold is never answered
pub in_line : {Q R L : Type 0} (before after : L) (result : R) (F : Q → R) (other : Q) (xs : List (Check Q)) (cs : List (Check R)) →
    decide (check (all_hold xs) (F (choose xs other)) ∷ cs) before result after ≡ decide (carried F xs ++ cs) before result after
unfolding all_hold choose decide carried
in_line before after result F other [] cs = refl
in_line {R = R} {L = L} before after result F other (x ∷ xs) cs = by x.holds (in_line before after result F other xs cs)
  where
    rest : Outcome R L
    rest = decide (carried F xs ++ cs) before result after

    by : (t : Bool) → cond (all_hold xs) (decide cs before result after) (record { result = F (choose xs other); lent = before }) ≡ rest →
        cond (t && all_hold xs) (decide cs before result after) (record { result = F (cond t (choose xs other) x.otherwise); lent = before }) ≡
        cond t rest (record { result = F x.otherwise; lent = before })
    by true e = e
    by false e = refl

-- ---- in the rule book's numbers

first-numbered : {R A : Type 0} (answer_of : R → Answer A) {cs : List (Check R)} {r : R} → all_refuse answer_of cs ≡ true → First cs r →
    ltb 0 (number_in (answer_of r)) ≡ true
unfolding all_refuse
first-numbered answer_of e (here {r = r} {cs = cs} d) = and_left (ltb 0 (number_in (answer_of r))) (all_refuse answer_of cs) e
first-numbered answer_of e (later {case = x} {cs = cs} d h) =
    first-numbered answer_of (and_right (ltb 0 (number_in (answer_of x))) (all_refuse answer_of cs) e) h

module _ {R A : Type 0} (answer_of : R → Answer A) (cs : List (Check R)) (result : R) where
  -- an answer without a number: no check failed
  pub unnumbered_holds : all_refuse answer_of cs ≡ true → number_in (answer_of (choose cs result)) ≡ 0 → all_hold cs ≡ true
  unnumbered_holds e z = by (all_or_first cs)
    where
      by : (all_hold cs ≡ true) ⊎ ((r : R) × First cs r) → all_hold cs ≡ true
      by (inl h) = h
      by (inr h) =
          let f : 0 < number_in (answer_of h.0) = ltb-true 0 (number_in (answer_of h.0)) (first-numbered answer_of e h.1) in
          let g : number_in (answer_of h.0) ≡ 0 = sym (ap (λ (r : R). number_in (answer_of r)) (chosen_first result h.1)) ∙ z in
          absurd (omega arith)

  -- an accepted one has none
  pub chosen_holds : (a : A) → all_refuse answer_of cs ≡ true → answer_of (choose cs result) ≡ accepted a → all_hold cs ≡ true
  chosen_holds a e d = unnumbered_holds e (ap number_in d)

module _ {R L A : Type 0} (answer_of : R → Answer A) (cs : List (Check R)) (before after : L) (result : R) where
  pub accepted_holds : (a : A) → all_refuse answer_of cs ≡ true → answer_of (decide cs before result after).result ≡ accepted a → all_hold cs ≡ true
  accepted_holds a e d = chosen_holds answer_of cs result a e (sym (ap answer_of (decided before after result cs)) ∙ d)

  -- a refusal leaves every lent place as it was
  pub refused_keeps : (number_in (answer_of (decide cs before result after).result) ≡ 0 → ⊥) → number_in (answer_of result) ≡ 0 →
      (decide cs before result after).lent ≡ before
  refused_keeps n z = by (all_or_first cs)
    where
      by : (all_hold cs ≡ true) ⊎ ((r : R) × First cs r) → (decide cs before result after).lent ≡ before
      by (inl h) = absurd (n (ap (λ (o : Outcome R L). number_in (answer_of o.result)) (all_accept before after result cs h) ∙ z))
      by (inr h) = ap (λ (o : Outcome R L). o.lent) (first_refuses before after result h.1)

-- ---- no second answer fits, of any call

pub one_answer : {R L : Type 0} {o : Outcome R L} {r q : R} {l m : L} → Done o r l → Done o q m → (r ≡ q) × (l ≡ m)
one_answer d e = (d.result_is ∙ sym e.result_is, d.lent_is ∙ sym e.lent_is)

-- a map with a way back takes no two cases to one answer
pub one_case : {R A : Type 0} (answer_of : R → Answer A) (back : Answer A → R) → ((r : R) → back (answer_of r) ≡ r) → {a : Answer A} {r q : R} →
    answer_of r ≡ a → answer_of q ≡ a → r ≡ q
one_case answer_of back way {r = r} {q = q} d e = sym (way r) ∙ ap back (d ∙ sym e) ∙ way q

-- ---- for search: P of each case

module _ (R : Type 0) (P : R → Type 0) (result : R) where
  pub each_end : P result → Each P [] result
  unfolding Each
  each_end h = h

  pub each_next : (test : Bool) (case : R) (cs : List (Check R)) → (test ≡ false → P case) → (test ≡ true → Each P cs result) →
      Each P (record { holds = test; otherwise = case } ∷ cs) result
  unfolding Each
  each_next test case cs f g = (f, g)

pub ruleset eaching = (each_end, each_next, lit<)
