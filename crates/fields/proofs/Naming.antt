-- Names: `same` is equality, and what two numbers of four bytes tell of them. Assumes nothing.
use mathlib.Core.Path.{◌≡◌, refl, sym, ap, ◌∙◌}
use mathlib.Core.Bool.{Bool, true, false, true≢false}
use mathlib.Core.List.{List, [], ◌∷◌}
use Prim.Native.Nat.{ℕ, ◌+◌, ◌*◌, ◌≤◌}
use native.Mathlib.Omega.{arith}
use lib.ListN.{length, get_or, take, drop, length-drop}
use lib.Seq.{length-take-le}
use lib.Dec.{eqb}
use borrow.Author.Tests.{eq-eqb, eqb-true}
use Rattle.answers.proofs.Laws.{and_left, and_right}
use Rattle.fields.specs.Bytes.{Bytes, number, number_in, little, ordered, lowest, field, same}
use Rattle.fields.proofs.FourBytes.{four_bytes}
use Rattle.fields.proofs.Numbers.{bytes_take, bytes_drop, little-number}

-- ---- `same` is equality

pub same_self : (s : List ℕ) → same s s ≡ true
unfolding same
same_self [] = refl
same_self (b ∷ s) = rw (eq-eqb b b refl) (same_self s)

pub same_is : (s t : List ℕ) → same s t ≡ true → s ≡ t
unfolding same
same_is [] [] h = refl
same_is [] (b ∷ t) h = absurd (true≢false (sym h))
same_is (a ∷ s) [] h = absurd (true≢false (sym h))
same_is (a ∷ s) (b ∷ t) h =
    ap (λ (x : ℕ). x ∷ s) (eqb-true a b (and_left (eqb a b) (same s t) h))
    ∙ ap (λ (r : List ℕ). b ∷ r) (same_is s t (and_right (eqb a b) (same s t) h))

-- ---- rows of bytes are equal where their numbers are

-- .. four bytes at a place, and a name
module _ (s name : List ℕ) (place x y : ℕ) (bytes : Bytes s) (name_bytes : Bytes name) (four : length name ≡ 4) (room : place + 4 ≤ length s)
    (is_x : x ≡ field lowest s place 4) (is_y : y ≡ get_or name 0 0 + get_or name 1 0 * 256 + get_or name 2 0 * 65536 + get_or name 3 0 * 16777216) where
  abbrev there : List ℕ
  there = take 4 (drop place s)

  there_long : length there ≡ 4
  there_long = length-take-le 4 (drop place s) (omega (arith, length-drop place s))

  there_bytes : Bytes there
  there_bytes = bytes_take 4 (drop place s) (bytes_drop place s bytes)

  x_number : x ≡ number there
  unfolding field number_in ordered
  x_number = is_x

  y_number : y ≡ number name
  y_number = is_y ∙ sym (four_bytes name (omega (arith, four)))

  as_rows : x ≡ y → there ≡ name
  as_rows e =
      sym (little-number there there_bytes)
      ∙ ap (λ (k : ℕ). little k (number there)) (there_long ∙ sym four)
      ∙ ap (little (length name)) (sym x_number ∙ e ∙ y_number)
      ∙ little-number name name_bytes

  pub named_by : eqb x y ≡ same there name
  named_by = by (eqb x y) (same there name) refl refl
    where
      by : (r q : Bool) → eqb x y ≡ r → same there name ≡ q → r ≡ q
      by true true e f = refl
      by false false e f = refl
      by true false e f = absurd (true≢false (sym (same_self name) ∙ ap (λ (t : List ℕ). same t name) (sym (as_rows (eqb-true x y e))) ∙ f))
      by false true e f =
          absurd (true≢false (sym (eq-eqb x y (x_number ∙ ap number (same_is there name f) ∙ sym y_number)) ∙ e))
