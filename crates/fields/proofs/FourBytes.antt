-- A number of up to four bytes, read and written in a row of four; a part of a buffer written anew. Assumes nothing.
use mathlib.Core.Path.{◌≡◌, refl, sym, ap, ◌∙◌}
use mathlib.Core.List.{List, [], ◌∷◌, ◌++◌, append_assoc}
use Prim.Native.Nat.{ℕ, zero, suc, ◌+◌, ◌-◌, ◌*◌, ◌/◌, ◌%◌, ◌^◌, ◌<◌, ◌≤◌}
use native.Mathlib.Nat.{suc-add, zero-add}
use native.Mathlib.Numerals.{add-one}
use native.Mathlib.Omega.{arith}
use lib.ListN.{length, get_or, take, drop, set, length-append, length-take, length-drop}
use lib.Seq.{drop-nil, drop-drop, sets, sets-eq, take_at, take-suc, get_or-drop, length-take-le}
use borrow.Rule.Slice.PartMut.{put_mid}
use Rattle.fields.specs.Bytes.{Bytes, Order, number, little, ordered, number_in, field, row}
use Rattle.fields.proofs.Numbers.{bytes_take, bytes_drop, number_append}
use Rattle.fields.proofs.Rows.{length-ordered, length-row, number_in-below, behind, sets_whole}

-- a part of a buffer is written anew
pub part_put : (l vs : List ℕ) (at k : ℕ) → length vs ≡ k → at + k ≤ length l → put_mid at (at + k - at) l vs ≡ sets l at vs
part_put l vs at k long room =
    let size : at + k - at ≡ k = omega arith in
    ap (λ (n : ℕ). take at l ++ (vs ++ drop n (drop at l))) (size ∙ sym long)
    ∙ ap (λ (r : List ℕ). take at l ++ (vs ++ r)) (drop-drop (length vs) at l)
    ∙ sym (append_assoc (take at l) vs (drop (at + length vs) l)) ∙ sym (sets-eq vs l at (omega arith))

-- ---- read

-- one byte more of a row is read
pub one_more : (l to from : List ℕ) (place i : ℕ) → place + i < length from → to ≡ sets l 0 (take i (drop place from)) →
    set to i (get_or from (place + i) 0) ≡ sets l 0 (take (i + 1) (drop place from))
one_more l to from place i room e =
    let rest = drop place from in
    let more : i < length rest = omega (arith, length-drop place from) in
    let b = get_or from (place + i) 0 in
    behind l to (set to i b) (take i rest) (b ∷ []) 0 i (length-take-le i rest (omega arith)) e (ap (λ (k : ℕ). set to k b) (sym (zero-add i)))
    ∙ ap (λ (x : ℕ). sets l 0 (take i rest ++ x ∷ [])) (sym (get_or-drop place from i 0))
    ∙ ap (sets l 0) (sym (take-suc rest i 0 more) ∙ ap (λ (n : ℕ). take n rest) (sym (add-one i)))

abbrev pub zeros : List ℕ
zeros = 0 ∷ 0 ∷ 0 ∷ 0 ∷ []

no_more : (n : ℕ) → number (drop n zeros) ≡ 0
unfolding number
no_more zero = refl
no_more (suc zero) = refl
no_more (suc (suc zero)) = refl
no_more (suc (suc (suc zero))) = refl
no_more (suc (suc (suc (suc n)))) = ap number (drop-nil n)

pub four_bytes : (s : List ℕ) → length s ≤ 4 → number s ≡ get_or s 0 0 + get_or s 1 0 * 256 + get_or s 2 0 * 65536 + get_or s 3 0 * 16777216
unfolding number
four_bytes [] h = refl
four_bytes (a ∷ []) h = omega arith
four_bytes (a ∷ b ∷ []) h = omega arith
four_bytes (a ∷ b ∷ x ∷ []) h = omega arith
four_bytes (a ∷ b ∷ x ∷ y ∷ []) h = omega arith
four_bytes (a ∷ b ∷ x ∷ y ∷ z ∷ s) h = absurd (omega arith)

-- bytes copied over the first zeros and turned to lowest first
module _ (order : Order) (n place : ℕ) (s read turned : List ℕ) (few : n ≤ 4) (room : place + n ≤ length s)
    (is_read : read ≡ sets (take n zeros) 0 (take n (drop place s))) (is_turned : turned ≡ ordered order read) where
  long : length (take n (drop place s)) ≡ n
  long = length-take-le n (drop place s) (omega (arith, length-drop place s))

  in_order : turned ≡ ordered order (take n (drop place s))
  in_order = is_turned ∙ ap (ordered order) (is_read ∙ sets_whole (take n zeros) (take n (drop place s)) (long ∙ sym (length-take-le n zeros few)))

  whole : number (turned ++ drop n zeros) ≡ number turned
  whole = number_append turned (drop n zeros) ∙ omega (arith, ap (λ (k : ℕ). 256 ^ length turned * k) (no_more n))

  is_field : number turned ≡ field order s place n
  unfolding field number_in
  is_field = ap number in_order

  as_long : length (turned ++ drop n zeros) ≤ 4
  as_long =
      omega (
        arith,
        length-append turned (drop n zeros),
        length-drop n zeros,
        ap length in_order,
        length-ordered order (take n (drop place s)),
        long,
      )

  pub number_read : (r : ℕ) →
      r ≡ (let t = turned ++ drop n zeros in get_or t 0 0 + get_or t 1 0 * 256 + get_or t 2 0 * 65536 + get_or t 3 0 * 16777216) →
      r ≡ field order s place n
  number_read r e = e ∙ sym (four_bytes (turned ++ drop n zeros) as_long) ∙ whole ∙ is_field

-- .. which is below that many powers
pub field_below : (order : Order) (s : List ℕ) (place n : ℕ) → Bytes s → field order s place n < 256 ^ n
unfolding field
field_below order s place n bytes =
    number_in-below order n (take n (drop place s)) (bytes_take n (drop place s) (bytes_drop place s bytes)) (omega (arith, length-take n (drop place s)))

-- ---- written

first_bytes : (n m x : ℕ) → take n (little (n + m) x) ≡ little n x
unfolding little
first_bytes zero m x = refl
first_bytes (suc n) m x = rw suc-add (ap (λ (s : List ℕ). x % 256 ∷ s) (first_bytes n m (x / 256)))

four_of : (x : ℕ) → little 4 x ≡ x % 256 ∷ x / 256 % 256 ∷ x / 65536 % 256 ∷ x / 16777216 % 256 ∷ []
unfolding little
four_of x =
    let third : x / 256 / 256 ≡ x / 65536 = omega arith in
    let fourth : x / 256 / 256 / 256 ≡ x / 16777216 = omega arith in
    rw (fourth, third)

module _ (order : Order) (n at x : ℕ) (l four turned put : List ℕ) (few : n ≤ 4) (room : at + n ≤ length l)
    (is_four : four ≡ x % 256 ∷ x / 256 % 256 ∷ x / 65536 % 256 ∷ x / 16777216 % 256 ∷ [])
    (is_turned : turned ≡ ordered order (take n four)) (is_put : put ≡ take n (turned ++ drop n four)) where
  is_row : turned ≡ row order n x
  unfolding row
  is_row =
      let size : n + (4 - n) ≡ 4 = omega arith in
      is_turned
      ∙ ap (λ (s : List ℕ). ordered order (take n s)) (is_four ∙ sym (four_of x) ∙ ap (λ (k : ℕ). little k x) (sym size))
      ∙ ap (ordered order) (first_bytes n (4 - n) x)

  put_row : put ≡ row order n x
  put_row = is_put ∙ take_at turned (drop n four) n (ap length is_row ∙ length-row order n x) ∙ is_row

  pub number_put : put_mid at (at + n - at) l put ≡ sets l at (row order n x)
  number_put = part_put l put at n (ap length put_row ∙ length-row order n x) room ∙ ap (sets l at) put_row
