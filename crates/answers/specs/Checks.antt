-- How a call refuses: one list of checks, in order.
use Rattle.std.specs.Prelude.{◌≡◌, Bool, true, cond, ◌&&◌, List, [], ◌∷◌}

-- rule 6.3: a test that must hold, and the case that the call answers where it does not; R is the call's own type, a `Result`
pub record Check (R : Type 0) : Type 0 where
  pub holds : Bool
  pub otherwise : R

-- rule 6.3: a line of the list
abbrev pub check : {R : Type 0} → Bool → R → Check R
check test case = record { holds = test; otherwise = case }

-- rule 6.6: no check fails
unfoldable pub all_hold : {R : Type 0} → List (Check R) → Bool
all_hold [] = true
all_hold (c ∷ cs) = c.holds && all_hold cs

-- rule 6.3, for a call that changes no place: the case of the first check that fails, the result if none fails
unfoldable pub choose : {R : Type 0} → List (Check R) → (result : R) → R
choose [] result = result
choose (c ∷ cs) result = cond c.holds (choose cs result) c.otherwise

-- rule 6.10: what a call answers, and what the places lent to it hold afterwards
pub record Outcome (R L : Type 0) : Type 0 where
  pub result : R
  pub lent : L

-- rules 6.3, 6.4: the first check that fails is the answer, and every lent place is as it was before; if none fails, the result and what it leaves
unfoldable pub decide : {R L : Type 0} → List (Check R) → (before : L) → (result : R) → (after : L) → Outcome R L
decide [] before result after = record { result = result; lent = after }
decide (c ∷ cs) before result after = cond c.holds (decide cs before result after) (record { result = c.otherwise; lent = before })

-- rule 6.10, a call's promise: its answer and its lent places are those
pub record Done {R L : Type 0} (o : Outcome R L) (result : R) (lent : L) : Type 0 where
  pub result_is : result ≡ o.result
  pub lent_is : lent ≡ o.lent
