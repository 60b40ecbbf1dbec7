-- A check's test, from what a branch of the code tells. Assumes nothing.
use mathlib.Core.Path.{◌≡◌, sym, ap, ◌∙◌}
use mathlib.Core.Bool.{Bool, true, false, not, false≢true}
use mathlib.Core.List.{List}
use Prim.Native.Nat.{ℕ}
use borrow.Author.Tests.{not-true, not-false, eq-eqb, ne_eqb, lt-ltb, le-ltb, le-leb, lt-leb}
use lib.Dec.{eqb}
use lib.IntN.{ℤ}
use mir.Syntax.{w32}
use mir.Val.{SFits, to_z, of_z}
use mir.Facts.{to_z-of_z}
use Rattle.std.specs.Prelude.{Option, Some, None, is_some, position}
use Rattle.answers.specs.First.{all_pass}
use Rattle.answers.specs.Range.{within}
use Rattle.answers.proofs.Firsts.{found, found_none}
use Rattle.answers.proofs.Laws.{refuses_here, goes_on, accepts}

-- ---- a call's answer, and its negation

pub told : (test r u : Bool) → r ≡ test → r ≡ u → test ≡ u
told test r u e d = sym e ∙ d

pub told_no : (test r : Bool) → r ≡ test → not r ≡ true → test ≡ false
told_no test r e d = sym e ∙ not-true r d

pub told_yes : (test r : Bool) → r ≡ test → not r ≡ false → test ≡ true
told_yes test r e d = sym e ∙ not-false r d

-- ---- `within` at a signed number, which the machine hands on as its bits

pub within_is : (lo hi : ℤ) {z : ℤ} {r u : Bool} → SFits w32 z → r ≡ within lo hi (to_z w32 (of_z w32 z)) → r ≡ u → within lo hi z ≡ u
within_is lo hi f e d = ap (within lo hi) (sym (to_z-of_z f)) ∙ sym e ∙ d

pub within_no : (lo hi z : ℤ) (r : Bool) → r ≡ within lo hi (to_z w32 (of_z w32 z)) → SFits w32 z → not r ≡ true → within lo hi z ≡ false
within_no lo hi z r e f d = within_is lo hi f e (not-true r d)

pub within_yes : (lo hi z : ℤ) (r : Bool) → r ≡ within lo hi (to_z w32 (of_z w32 z)) → SFits w32 z → not r ≡ false → within lo hi z ≡ true
within_yes lo hi z r e f d = within_is lo hi f e (not-false r d)

-- ---- a place that was looked for: one that fails

module _ {A : Type 0} (test : A → Bool) (s : List A) where
  pub some_fails : (r : Option ℕ) → r ≡ position (λ x. not (test x)) s → is_some r ≡ true → all_pass test s ≡ false
  some_fails None e d = absurd (false≢true d)
  some_fails (Some i) e d = (found test s i (sym e)).0

  pub none_fails : (r : Option ℕ) → r ≡ position (λ x. not (test x)) s → is_some r ≡ false → all_pass test s ≡ true
  none_fails None e d = found_none test s (sym e)
  none_fails (Some i) e d = absurd (false≢true (sym d))

-- ---- a number that a call answered

pub same : (a b k : ℕ) → k ≡ b → a ≡ k → eqb a b ≡ true
same a b k e d = eq-eqb a b (d ∙ e)

pub other : (a b k : ℕ) → k ≡ b → (a ≡ k → ⊥) → eqb a b ≡ false
other a b k e n = ne_eqb a b (λ q. n (q ∙ sym e))

-- ---- all of them, for search: a test from the branch that was taken

pub ruleset branches = (eq-eqb, ne_eqb, le-leb, lt-leb, lt-ltb, le-ltb, told, told_no, told_yes, within_no, within_yes, some_fails, none_fails, same, other)

pub ruleset judging = (refuses_here, goes_on, accepts, branches)
