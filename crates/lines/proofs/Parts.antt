-- The parts of a row, one loop each, are the row. Over any prototype. Assumes nothing.
use mathlib.Core.Path.{◌≡◌, refl, sym, ap, ap₂, ◌∙◌}
use mathlib.Core.List.{List, [], ◌∷◌, ◌++◌}
use Prim.Native.Nat.{ℕ, zero, suc, ◌+◌, ◌-◌, ◌*◌, ◌≤◌, min}
use native.Mathlib.Numerals.{unary_clauses}
use native.Mathlib.Omega.{arith}
use lib.ListN.{length, take, drop, set}
use lib.Seq.{slice, take-take, length-take-le, drop-drop}
use lib.IntN.{ℤ}
use Rattle.tree.specs.Prototype.{Prototype}
use Rattle.lines.specs.Rows.{row_places, Lined, line}
use Rattle.lines.specs.Helpers.{Between, LineDone}

-- two runs one after the other
abbrev then : Lined → Lined → Lined
then l r = record { places = r.places; low = l.low ++ r.low; late = l.late ++ r.late }

-- a list up to n, cut at w
cut : (w n : ℕ) (x : List ℤ) → w ≤ n → take w x ++ slice w n x ≡ take n x
cut zero n x h = refl
cut (suc w) zero x h = absurd (omega arith)
cut (suc w) (suc n) [] h = refl
cut (suc w) (suc n) (a ∷ x) h = ap (λ (l : List ℤ). a ∷ l) (cut w n x (omega arith))

-- lists that are the same from w on have the same part from w on
same_part : (w n : ℕ) (x y : List ℤ) → length x ≡ length y → drop w x ≡ drop w y → slice w n x ≡ slice w n y
same_part zero n x y l e = ap (take n) e
same_part (suc w) zero x y l e = refl
same_part (suc w) (suc n) [] [] l e = refl
same_part (suc w) (suc n) [] (b ∷ y) l e = absurd (omega arith)
same_part (suc w) (suc n) (a ∷ x) [] l e = absurd (omega arith)
same_part (suc w) (suc n) (a ∷ x) (b ∷ y) l e = same_part w n x y (omega arith) e

module _ (p : Prototype) (size at L : ℕ) where
  line_append : (at : ℕ) (lines xs ys : List ℤ) →
      line p size L at lines (xs ++ ys) ≡ (let l = line p size L at lines xs in then l (line p size L (at + length xs) l.places ys))
  unfolding line
  line_append at lines [] ys = simp unary_clauses
  line_append at lines (x ∷ xs) ys = rw (line_append (suc at) (set lines at x) xs ys, shift at (length xs))
    where
      shift : (a n : ℕ) → a + suc n ≡ suc a + n
      shift a n = omega arith

  -- up to w and from there to n is up to n
  module _ (w n : ℕ) (lines m₀ ls m₁ ms m₂ : List ℤ) (ordered : w ≤ n) (short : n ≤ row_places) (long₀ : row_places ≤ length m₀) (long₁ : row_places ≤ length m₁) where
    pub parts : LineDone (line p size L at lines (take w m₀)) 0 w m₀ ls m₁ →
        LineDone (line p size L (at + w) ls (slice w n (take row_places m₁))) w n m₁ ms m₂ →
        LineDone (line p size L at lines (take n m₀)) 0 n m₀ ms m₂
    parts d e =
        let q = line p size L at lines (take w m₀) in
        let row₀ : length (take row_places m₀) ≡ row_places = length-take-le row_places m₀ long₀ in
        let row₁ : length (take row_places m₁) ≡ row_places = length-take-le row_places m₁ long₁ in
        let count : length (take w m₀) ≡ w = length-take-le w m₀ (omega arith) in
        let same : slice w n (take row_places m₁) ≡ slice w n (take row_places m₀) =
        same_part w n (take row_places m₁) (take row_places m₀) (row₁ ∙ sym row₀) d.unread in
        let up_to : (k : ℕ) → k ≤ row_places → take k (take row_places m₀) ≡ take k m₀ = λ k h. take-take k row_places m₀ h in
        let cut-here : take w m₀ ++ slice w n (take row_places m₁) ≡ take n m₀ =
        ap₂ (λ (u v : List ℤ). u ++ v) (sym (up_to w (omega arith))) same ∙ cut w n (take row_places m₀) ordered ∙ up_to n short in
        let whole : line p size L at lines (take n m₀) ≡ then q (line p size L (at + w) ls (slice w n (take row_places m₁))) =
        ap (line p size L at lines) (sym cut-here) ∙ line_append at lines (take w m₀) (slice w n (take row_places m₁)) ∙ rw (count, d.places_are) in
        rw whole
        (record {
          places_are = e.places_are;
          late_is = e.late_is ∙ rw d.late_is;
          low_is = e.low_is ∙ rw d.low_is;
          unread = e.unread ∙ later (take row_places m₁) (take row_places m₀) w n ordered d.unread;
        })
      where
        -- what is the same from w on is the same from n on
        later : (x y : List ℤ) (w n : ℕ) → w ≤ n → drop w x ≡ drop w y → drop n x ≡ drop n y
        later x y w n h e =
            let there : w + (n - w) ≡ n = omega arith in
            sym (ap (λ (k : ℕ). drop k x) there) ∙ sym (drop-drop (n - w) w x) ∙ ap (drop (n - w)) e ∙ drop-drop (n - w) w y ∙ ap (λ (k : ℕ). drop k y) there

  -- the first part, from 0
  pub starting : (w : ℕ) (lines m₀ ls m₁ : List ℤ) → w ≤ row_places → LineDone (line p size L (at + 0) lines (slice 0 w (take row_places m₀))) 0 w m₀ ls m₁ →
      LineDone (line p size L at lines (take w m₀)) 0 w m₀ ls m₁
  starting w lines m₀ ls m₁ h d =
      let here : at + 0 ≡ at = omega arith in
      rw (here, take-take w row_places m₀ h) at d

-- ---- the parts of a row

-- where the three parts end, and what is known of each
pub record Cuts (at L n w v : ℕ) : Type 0 where
  pub first : w ≤ v
  pub second : v ≤ n
  pub near : Between 0 9 L at 0 w
  pub far : Between 9 18 L at w v
  pub straight : Between 18 19 L at v n

pub cuts : (at L n w v : ℕ) → w ≡ min (9 * L - at) n → v ≡ min (18 * L - at) n → Cuts at L n w v
cuts at L n w v ew ev =
    record {
      first = omega arith;
      second = omega arith;
      near = λ s. (omega arith, λ r. omega arith);
      far = λ s. (omega arith, λ r. omega arith);
      straight = λ s. (omega arith, λ r. omega arith);
    }
