-- Arguments that are taken one after the other. Assumes nothing.
use mathlib.Core.Path.{◌≡◌, refl, ap, ◌∙◌}
use mathlib.Core.Bool.{Bool, true, false, cond}
use mathlib.Core.List.{List, [], ◌∷◌, ◌++◌}
use Prim.Native.Nat.{ℕ}
use lib.Dec.{leb}
use lib.ListN.{length}
use lib.IntN.{ℤ}
use Rattle.std.specs.Prelude.{Option, Some, None}
use Rattle.arguments.specs.Argument.{place_of, argument_of}
use Rattle.arguments.specs.Arguments.{another, all_of}
use Rattle.arguments.specs.Given.{OneTaken, AllTaken}

-- an argument of no bytes is refused, as is one that is too long
pub refused_one : (before : Option ℕ) (gains : List ℤ) → OneTaken before gains None gains
unfolding another argument_of place_of
refused_one None gains = record { text = []; is = refl }
refused_one (Some n) gains = record { text = []; is = by (leb (length gains) n) }
  where
    by : (b : Bool) → (None, gains) ≡ cond {A = Option ℕ × List ℤ} b (None, gains) (None, gains)
    by true = refl
    by false = refl

pub none_taken : (gains : List ℤ) → AllTaken gains (Some 0) gains
unfolding all_of
none_taken gains = record { texts = []; is = refl }

last : (s : Option ℕ × List ℤ) (texts : List (List ℕ)) (text : List ℕ) → another (all_of s texts).0 text (all_of s texts).1 ≡ all_of s (texts ++ text ∷ [])
unfolding all_of
last s [] text = refl
last s (t ∷ texts) text = last (another s.0 t s.1) texts text

pub one_more : (gains g h : List ℤ) (a b : Option ℕ) → AllTaken gains a g → OneTaken a g b h → AllTaken gains b h
one_more gains g h a b t o =
    record {
      texts = t.texts ++ o.text ∷ [];
      is = o.is ∙ ap (λ (s : Option ℕ × List ℤ). another s.0 o.text s.1) t.is ∙ last (Some 0, gains) t.texts o.text;
    }
