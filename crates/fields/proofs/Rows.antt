-- Numbers in either order: a row and its number, a row that was put. Assumes nothing.
use mathlib.Core.Path.{◌≡◌, refl, sym, ap, ◌∙◌}
use mathlib.Core.List.{List, [], ◌∷◌, ◌++◌, append-nil, append_assoc, reverse_aux, reverse-reverse}
use Prim.Native.Nat.{ℕ, suc, ◌+◌, ◌^◌, ◌<◌, ◌≤◌}
use native.Mathlib.Nat.{add-zero, add-suc, suc-add, pow-le-pow_right}
use native.Mathlib.Omega.{arith}
use lib.ListN.{length, take, drop, set, length-reverse, drop_of_length-le}
use lib.Seq.{sets, sets-eq, length-take-le, take_at, drop_at}
use Rattle.fields.specs.Bytes.{Bytes, Order, lowest, highest, number, little, ordered, number_in, field, row}
use Rattle.fields.proofs.Numbers.{bytes_cons, no_bytes, length-little, number-little, little-number, number-below}

-- ---- orders

pub ordered_twice : (order : Order) (s : List ℕ) → ordered order (ordered order s) ≡ s
unfolding ordered
ordered_twice lowest s = refl
ordered_twice highest s = reverse-reverse s

pub length-ordered : (order : Order) (s : List ℕ) → length (ordered order s) ≡ length s
unfolding ordered
length-ordered lowest s = refl
length-ordered highest s = length-reverse s

bytes_behind : (s t : List ℕ) → Bytes s → Bytes t → Bytes (reverse_aux s t)
bytes_behind [] t a b = b
bytes_behind (x ∷ s) t a b = bytes_behind s (x ∷ t) (λ i. a (suc i)) (bytes_cons x t (a 0) b)

pub bytes_ordered : (order : Order) (s : List ℕ) → Bytes s → Bytes (ordered order s)
unfolding ordered
bytes_ordered lowest s bytes = bytes
bytes_ordered highest s bytes = bytes_behind s [] bytes no_bytes

-- ---- a row and its number

pub length-row : (order : Order) (k n : ℕ) → length (row order k n) ≡ k
unfolding row
length-row order k n = length-ordered order (little k n) ∙ length-little k n

pub number-row : (order : Order) (k n : ℕ) → n < 256 ^ k → number_in order (row order k n) ≡ n
unfolding row number_in
number-row order k n h = ap number (ordered_twice order (little k n)) ∙ number-little k n h

pub row_number : (order : Order) (s : List ℕ) → Bytes s → row order (length s) (number_in order s) ≡ s
unfolding row number_in
row_number order s bytes =
    ap (λ (k : ℕ). ordered order (little k (number (ordered order s)))) (sym (length-ordered order s))
    ∙ ap (ordered order) (little-number (ordered order s) (bytes_ordered order s bytes)) ∙ ordered_twice order s

pub number_in-below : (order : Order) (k : ℕ) (s : List ℕ) → Bytes s → length s ≤ k → number_in order s < 256 ^ k
unfolding number_in
number_in-below order k s bytes h =
    let below = number-below (ordered order s) (bytes_ordered order s bytes) in
    let most : 256 ^ length (ordered order s) ≤ 256 ^ k = pow-le-pow_right (omega arith) (rw (length-ordered order s) h) in
    omega arith

-- ---- rows stored

-- a row stored behind a row is the joined row
sets_append : (l xs ys : List ℕ) (at : ℕ) → sets (sets l at xs) (at + length xs) ys ≡ sets l at (xs ++ ys)
sets_append l [] ys at = ap (λ (k : ℕ). sets l k ys) (add-zero at)
sets_append l (x ∷ xs) ys at =
    ap (λ (k : ℕ). sets (sets (set l at x) (suc at) xs) k ys) (add-suc at (length xs) ∙ sym (suc-add at (length xs)))
    ∙ sets_append (set l at x) xs ys (suc at)

pub behind : (l m n xs ys : List ℕ) (at k : ℕ) → length xs ≡ k →
    m ≡ sets l at xs → n ≡ sets m (at + k) ys → n ≡ sets l at (xs ++ ys)
behind l m n xs ys at k long first second =
    second ∙ ap (λ (r : List ℕ). sets r (at + k) ys) first
    ∙ ap (λ (j : ℕ). sets (sets l at xs) (at + j) ys) (sym long) ∙ sets_append l xs ys at

-- a row as long as the buffer takes its place
pub sets_whole : (l vs : List ℕ) → length vs ≡ length l → sets l 0 vs ≡ vs
sets_whole l vs h =
    sets-eq vs l 0 (omega arith)
    ∙ ap (λ (r : List ℕ). vs ++ r) (drop_of_length-le l {i = 0 + length vs} (omega arith)) ∙ append-nil vs

-- ---- a row read back

-- where it stands between other bytes
pub field_between : (order : Order) (p q : List ℕ) (k n at : ℕ) → length p ≡ at → n < 256 ^ k → field order (p ++ (row order k n ++ q)) at k ≡ n
unfolding field
field_between order p q k n at long h =
    ap (λ (r : List ℕ). number_in order (take k r)) (drop_at p (row order k n ++ q) at long)
    ∙ ap (number_in order) (take_at (row order k n) q k (length-row order k n)) ∙ number-row order k n h

-- where it was put
pub field_put : (order : Order) (l : List ℕ) (at k n : ℕ) → at + k ≤ length l → n < 256 ^ k → field order (sets l at (row order k n)) at k ≡ n
field_put order l at k n room h =
    let vs = row order k n in
    let long : length vs ≡ k = length-row order k n in
    ap (λ (r : List ℕ). field order r at k) (sets-eq vs l at (omega arith) ∙ append_assoc (take at l) vs (drop (at + length vs) l))
    ∙ field_between order (take at l) (drop (at + length vs) l) k n at (length-take-le at l (omega arith)) h
