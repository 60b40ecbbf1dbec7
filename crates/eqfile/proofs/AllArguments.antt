-- The arguments' promise: the arguments taken one after the other come to the one answer for all of them. Assumes nothing.
use mathlib.Core.Path.{◌≡◌, refl, sym, ap, ap₂, subst, ◌∙◌}
use mathlib.Core.Logic.{◌⊎◌, inl, inr, ⊎_elim}
use mathlib.Core.Bool.{Bool, true, false, cond}
use mathlib.Core.List.{List, [], ◌∷◌, ◌++◌, append_assoc}
use Prim.Native.Nat.{ℕ, suc, ◌+◌, ◌<◌}
use native.Mathlib.Nat.{add-zero}
use native.Mathlib.Omega.{arith}
use borrow.Author.Tests.{eqb-true, eqb-false}
use lib.Dec.{eqb, leb}
use lib.ListN.{length, length-append}
use lib.IntN.{ℤ}
use Rattle.answers.specs.Answer.{Answer, accepted, refused}
use Rattle.std.specs.Prelude.{Option, Some, None}
use Rattle.std.proofs.Math.Seq.{set-append_seam}
use Rattle.arguments.specs.Argument.{argument_of}
use Rattle.arguments.specs.Arguments.{bands, put, another, with, each_gain, arguments_of, all_of}
use Rattle.eqfile.specs.Start.{start_of}
use Rattle.eqfile.proofs.StartOrder.{arguments_refused, not_eight}
use Rattle.arguments.proofs.NextArgument.{comes_to}

-- ---- refused once, refused for good

refused_stays : (texts : List (List ℕ)) (gains : List ℤ) → (all_of (None, gains) texts).0 ≡ None
unfolding all_of another
refused_stays [] gains = refl
refused_stays (text ∷ texts) gains = refused_stays texts gains

-- ---- some are taken, and there are as many places as texts

abbrev Comes : Answer (List ℤ) → List ℤ → ℕ → Option ℕ × List ℤ → Type 0
Comes (accepted gs) before n so_far = so_far ≡ (Some n, before ++ gs)
Comes (refused k p) before n so_far = so_far.0 ≡ None

one_longer : (before : List ℤ) (g : ℤ) → length (before ++ g ∷ []) ≡ length before + 1
one_longer before g = length-append before (g ∷ [])

taken_so_far : (text : List ℕ) (before rest : List ℤ) (r g : ℤ) → length before < length (before ++ r ∷ rest) → Some g ≡ argument_of text →
    (Some (length (before ++ g ∷ [])), (before ++ g ∷ []) ++ rest) ≡ another (Some (length before)) text (before ++ r ∷ rest)
taken_so_far text before rest r g places e =
    ap₂ (λ (n : ℕ) (l : List ℤ). (Some n, l)) (one_longer before g) (append_assoc before (g ∷ []) rest ∙ sym (set-append_seam before r rest g)) ∙
    comes_to text (before ++ r ∷ rest) (length before) (Some g) places e

shift : (before : List ℤ) (g : ℤ) (n : ℕ) (b : Answer (List ℤ)) (s : Option ℕ × List ℤ) → Comes b (before ++ g ∷ []) (length (before ++ g ∷ []) + n) s →
    Comes (with (Some g) b) before (length before + suc n) s
shift before g n (accepted gs) s h =
    h ∙ ap₂ (λ (k : ℕ) (l : List ℤ). (Some k, l)) (omega (arith, one_longer before g)) (append_assoc before (g ∷ []) gs)
shift before g n (refused k p) s h = h

come : (texts : List (List ℕ)) (before rest : List ℤ) → length rest ≡ length texts →
    Comes (each_gain texts) before (length before + length texts) (all_of (Some (length before), before ++ rest) texts)
unfolding each_gain all_of
come [] before [] l = ap (λ (n : ℕ). (Some n, before ++ [])) (sym (add-zero (length before)))
come [] before (r ∷ rest) l = absurd (omega arith)
come (text ∷ texts) before [] l = absurd (omega arith)
come (text ∷ texts) before (r ∷ rest) l =
    let places : length before < length (before ++ r ∷ rest) = omega (arith, length-append before (r ∷ rest)) in
    by (argument_of text) refl (λ g. come texts (before ++ g ∷ []) rest (omega arith)) places
  where
    by : (a : Option ℤ) → argument_of text ≡ a →
        ((g : ℤ) → Comes (each_gain texts) (before ++ g ∷ []) (length (before ++ g ∷ []) + length texts) (all_of (Some (length (before ++ g ∷ [])), (before ++ g ∷ []) ++ rest) texts)) →
        length before < length (before ++ r ∷ rest) →
        Comes (with a (each_gain texts)) before (length before + suc (length texts)) (all_of (another (Some (length before)) text (before ++ r ∷ rest)) texts)
    by None e go places =
        ap (λ (s : Option ℕ × List ℤ). (all_of s texts).0) (sym (comes_to text (before ++ r ∷ rest) (length before) None places (sym e))) ∙
        refused_stays texts (before ++ r ∷ rest)
    by (Some g) e go places =
        subst (λ (s : Option ℕ × List ℤ). Comes (with (Some g) (each_gain texts)) before (length before + suc (length texts)) (all_of s texts))
        (taken_so_far text before rest r g places (sym e))
        (shift before g (length texts) (each_gain texts) (all_of (Some (length (before ++ g ∷ [])), (before ++ g ∷ []) ++ rest) texts) (go g))

-- ---- any other number of arguments

abbrev Ends : ℕ → Option ℕ → Type 0
Ends n a = (a ≡ None) ⊎ (a ≡ Some n)

one_more : (text : List ℕ) (n : ℕ) (gains : List ℤ) → Ends (n + 1) (another (Some n) text gains).0
unfolding another
one_more text n gains = by (leb (length gains) n) (argument_of text)
  where
    by : (b : Bool) (a : Option ℤ) → Ends (n + 1) (cond {A = Option ℕ × List ℤ} b (None, gains) (put n a gains)).0
    by true a = inl refl
    by false (Some g) = inr refl
    by false None = inl refl

counted : (texts : List (List ℕ)) (n : ℕ) (s : Option ℕ × List ℤ) → s.0 ≡ Some n → Ends (n + length texts) (all_of s texts).0
unfolding all_of
counted [] n s e = inr (e ∙ ap Some (sym (add-zero n)))
counted (text ∷ texts) n s e =
    ⊎_elim
    (λ (r : (another s.0 text s.1).0 ≡ None). inl (ap (λ (q : Option ℕ × List ℤ). (all_of q texts).0) (pair_is (another s.0 text s.1) None r) ∙ refused_stays texts (another s.0 text s.1).1))
    (λ (r : (another s.0 text s.1).0 ≡ Some (n + 1)). subst (λ (k : ℕ). Ends k (all_of (another s.0 text s.1) texts).0) (omega arith) (counted texts (n + 1) (another s.0 text s.1) r))
    (subst (λ (a : Option ℕ). Ends (n + 1) (another a text s.1).0) (sym e) (one_more text n s.1))
  where
    pair_is : (q : Option ℕ × List ℤ) (a : Option ℕ) → q.0 ≡ a → q ≡ (a, q.1)
    pair_is q a e = ap (λ (x : Option ℕ). (x, q.1)) e

other_number : (texts : List (List ℕ)) (gains : List ℤ) (front : List ℕ) → (length texts ≡ bands → ⊥) → start_of (all_of (Some 0, gains) texts).0 front ≡ refused 30 0
other_number texts gains front n =
    ⊎_elim
    (λ (r : (all_of (Some 0, gains) texts).0 ≡ None). ap (λ (a : Option ℕ). start_of a front) r ∙ sym (arguments_refused front))
    (λ (r : (all_of (Some 0, gains) texts).0 ≡ Some (0 + length texts)).
    ap (λ (a : Option ℕ). start_of a front) r ∙ sym (not_eight (0 + length texts) front (λ e. n (omega arith))))
    (counted texts 0 (Some 0, gains) refl)

-- ---- the promise

-- accepted arguments are all taken, and their gains stand in order; refused ones refuse the run with 30, whatever the header is
abbrev pub Promised : Answer (List ℤ) → Option ℕ × List ℤ → Type 0
Promised (accepted gs) so_far = so_far ≡ (Some bands, gs)
Promised (refused k p) so_far = (front : List ℕ) → start_of so_far.0 front ≡ refused 30 0

pub arguments_promise : (texts : List (List ℕ)) (gains : List ℤ) → length gains ≡ bands → Promised (arguments_of texts) (all_of (Some 0, gains) texts)
unfolding arguments_of
arguments_promise texts gains l = by (eqb (length texts) bands) refl
  where
    eight : length texts ≡ bands → (a : Answer (List ℤ)) → Comes a [] (0 + length texts) (all_of (Some 0, gains) texts) → Promised a (all_of (Some 0, gains) texts)
    eight e (accepted gs) h = h ∙ ap (λ (n : ℕ). (Some n, gs)) (omega arith)
    eight e (refused k p) h = λ front. ap (λ (a : Option ℕ). start_of a front) h ∙ sym (arguments_refused front)

    by : (b : Bool) → eqb (length texts) bands ≡ b → Promised (cond b (each_gain texts) (refused 30 0)) (all_of (Some 0, gains) texts)
    by true e = let n = eqb-true (length texts) bands e in eight n (each_gain texts) (come texts [] gains (omega arith))
    by false e = λ front. other_number texts gains front (eqb-false (length texts) bands e)
