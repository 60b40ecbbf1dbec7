-- The gains of accepted arguments are ones that a block takes. Assumes nothing.
use mathlib.Core.Path.{◌≡◌, refl, sym, ap, ◌∙◌}
use mathlib.Core.Bool.{Bool, true, false, cond}
use mathlib.Core.List.{List, [], ◌∷◌}
use Prim.Native.Nat.{ℕ, suc}
use native.Mathlib.Omega.{arith}
use borrow.Author.Tests.{le-leb, le-ltb, eqb-true}
use lib.Dec.{eqb}
use lib.ListN.{length}
use lib.IntN.{ℤ, pos}
use Rattle.answers.specs.Answer.{Answer, accepted, refused}
use Rattle.answers.specs.Unit.{largest_gain}
use Rattle.answers.specs.Range.{within, all_within}
use Rattle.answers.proofs.Ranges.{cons_all}
use Rattle.std.specs.Prelude.{Option, Some, None}
use Rattle.arguments.specs.Argument.{argument_of}
use Rattle.arguments.specs.Arguments.{bands, with, each_gain, arguments_of}
use Rattle.arguments.proofs.ArgumentGain.{gain_small}
use Rattle.blocks.proofs.Outputs.{none_within}
use Rattle.runs.proofs.NeverRefused.{Allowed}

refuses : {A : Type 0} {B : Type 0} {k p : ℕ} {b : B} → refused k p ≡ accepted b → A
refuses e = let z : ◌≡◌ {A = ℕ} 0 1 = cc in absurd (omega arith)

gain_within : (s : List ℕ) (g : ℤ) → argument_of s ≡ Some g → within (pos 0) (pos largest_gain) g ≡ true
gain_within s g e =
    let l = gain_small s g (sym e) in
    rw (l.1.0, le-ltb l.0 0 (omega arith)) (le-leb l.0 largest_gain l.1.1)

-- as many as the texts, each from 0 to 16,384
each_allowed : (texts : List (List ℕ)) (gs : List ℤ) → each_gain texts ≡ accepted gs → (length gs ≡ length texts) × (all_within (pos 0) (pos largest_gain) gs ≡ true)
unfolding each_gain
each_allowed [] gs e = let r : gs ≡ [] = cc in rw r (refl, none_within (pos 0) (pos largest_gain))
each_allowed (text ∷ texts) gs e = by (argument_of text) (gain_within text) (each_gain texts) (each_allowed texts) e
  where
    by : (a : Option ℤ) → ((g : ℤ) → a ≡ Some g → within (pos 0) (pos largest_gain) g ≡ true) → (b : Answer (List ℤ)) →
        ((gs : List ℤ) → b ≡ accepted gs → (length gs ≡ length texts) × (all_within (pos 0) (pos largest_gain) gs ≡ true)) →
        with a b ≡ accepted gs → (length gs ≡ suc (length texts)) × (all_within (pos 0) (pos largest_gain) gs ≡ true)
    by (Some g) one (accepted hs) more e =
        let r : gs ≡ g ∷ hs = cc in
        rw r (ap suc (more hs refl).0, cons_all (pos 0) (pos largest_gain) g hs (one g refl) (more hs refl).1)
    by (Some g) one (refused k p) more e = refuses e
    by None one b more e = refuses e

pub arguments_allowed : (texts : List (List ℕ)) (gains : List ℤ) → arguments_of texts ≡ accepted gains → Allowed gains
unfolding arguments_of
arguments_allowed texts gains = by (eqb (length texts) bands) refl
  where
    by : (b : Bool) → eqb (length texts) bands ≡ b → cond b (each_gain texts) (refused 30 0) ≡ accepted gains → Allowed gains
    by true e h = let a = each_allowed texts gains h in record { eight = a.0 ∙ eqb-true (length texts) bands e; each = a.1 }
    by false e h = refuses h
