-- Samples one after the other through all lines, or a row through one line after the other: the same, for any places. Over any prototype
-- that the rings hold. Assumes nothing.
use mathlib.Core.Path.{◌≡◌, refl, sym, ap, ap₂, ◌∙◌}
use mathlib.Core.List.{List, [], ◌∷◌, ◌++◌, map}
use Prim.Native.Nat.{ℕ, zero, suc, ◌+◌, ◌*◌, ◌^◌, ◌≤◌, ◌<◌}
use native.Mathlib.Nat.{pow-succ', mul-le-mul_left}
use native.Mathlib.Omega.{arith}
use lib.Pow.{pow_mono}
use lib.ListN.{length, take, drop, set, length-set, length-drop, take-append-drop}
use lib.Seq.{take_at, drop_at, set-append_left, length-take-le}
use lib.IntN.{ℤ}
use Rattle.tree.specs.Prototype.{Prototype}
use Rattle.ring.specs.Line.{low_value, late_value}
use Rattle.lines.specs.Cascade.{step}
use Rattle.lines.specs.Rows.{Lined, Rowed, line, rowed, before, columns, Even}
use Rattle.ring.specs.Helpers.{Centred}
use Rattle.ring.proofs.Places.{low_same, late-same}

-- the places and the aligned samples, with no position
pub record Passed : Type 0 where
  pub places : List ℤ
  pub aligned : List (List ℤ)

abbrev the_passed : List ℤ → List (List ℤ) → Passed
the_passed places aligned = record { places = places; aligned = aligned }

-- a line's run, with what stands behind the line
abbrev behind : List ℤ → Lined → Lined
behind t l = record { places = l.places ++ t; low = l.low; late = l.late }

-- a line's row, and the lines below
abbrev join : Lined → Passed → Passed
join l r = record { places = l.places ++ r.places; aligned = before l.late r.aligned }

-- rows read by the sample
abbrev pub read : Rowed → Passed
read r = record { places = r.places; aligned = columns r.rows }

module _ (p : Prototype) (size : ℕ) where
  -- samples in turn where the position only counts up
  unfoldable pub passed : ℕ → ℕ → ℕ → List ℤ → List ℤ → Passed
  passed k L at lines [] = record { places = lines; aligned = [] }
  passed k L at lines (x ∷ xs) =
      let s = step p size k L at lines x in
      let r = passed k L (suc at) s.places xs in
      record { places = r.places; aligned = s.aligned ∷ r.aligned }

  pub line_length_lem : (L at : ℕ) (s xs : List ℤ) → length (line p size L at s xs).places ≡ length s
  unfolding line
  line_length_lem L at s [] = refl
  line_length_lem L at s (x ∷ xs) = line_length_lem L (suc at) (set s at x) xs ∙ length-set s at x

  pub low_length : (L at : ℕ) (s xs : List ℤ) → length (line p size L at s xs).low ≡ length xs
  unfolding line
  low_length L at s [] = refl
  low_length L at s (x ∷ xs) = ap suc (low_length L (suc at) (set s at x) xs)

  late-length : (L at : ℕ) (s xs : List ℤ) → length (line p size L at s xs).late ≡ length xs
  unfolding line
  late-length L at s [] = refl
  late-length L at s (x ∷ xs) = ap suc (late-length L (suc at) (set s at x) xs)

  -- a row for each line and one below them, all as long as the row that came in
  pub rows_count : (k L at : ℕ) (lines xs : List ℤ) → length (rowed p size k L at lines xs).rows ≡ suc k
  unfolding rowed
  rows_count zero L at lines xs = refl
  rows_count (suc k) L at lines xs = ap suc (rows_count k (2 * L) at (drop size lines) (line p size L at lines xs).low)

  pub rows_even : (k L at : ℕ) (lines xs : List ℤ) → Even (length xs) (rowed p size k L at lines xs).rows
  unfolding rowed Even
  rows_even zero L at lines xs = (refl, tt)
  rows_even (suc k) L at lines xs =
      (late-length L at lines xs, rw (low_length L at lines xs) at (rows_even k (2 * L) at (drop size lines) (line p size L at lines xs).low))

  passed_none : (L at : ℕ) (lines xs : List ℤ) → passed 0 L at lines xs ≡ record { places = lines; aligned = map (λ (x : ℤ). x ∷ []) xs }
  unfolding passed step
  passed_none L at lines [] = refl
  passed_none L at lines (x ∷ xs) = rw (passed_none L (suc at) lines xs)

  row_alone : (L at : ℕ) (lines xs : List ℤ) → record { places = lines; aligned = map (λ (x : ℤ). x ∷ []) xs } ≡ read (rowed p size 0 L at lines xs)
  unfolding rowed columns
  row_alone L at lines xs = refl

  columns-below : (k L at : ℕ) (row lines xs : List ℤ) → columns (row ∷ (rowed p size k L at lines xs).rows) ≡ before row (columns (rowed p size k L at lines xs).rows)
  unfolding rowed columns
  columns-below zero L at row lines xs = refl
  columns-below (suc k) L at row lines xs = refl

  module _ (is : Centred p) where
    line_behind : (L at : ℕ) (s t xs : List ℤ) → 1 ≤ L → 2 * (p.centre * L) ≤ size → length s ≡ size → at + length xs ≤ size →
        line p size L at (s ++ t) xs ≡ behind t (line p size L at s xs)
    unfolding line
    line_behind L at s t [] o r e h = refl
    line_behind L at s t (x ∷ xs) o r e h =
        rw (
          set-append_left s t at x (omega arith),
          low_same p is size L at s t x o r e (omega arith),
          late-same p is size L at s t o r e (omega arith),
          line_behind L (suc at) (set s at x) t xs o r (length-set s at x ∙ e) (omega arith),
        )

    -- one sample through a line and the lines below
    step_split : (k L at : ℕ) (s t : List ℤ) (x : ℤ) → 1 ≤ L → 2 * (p.centre * L) ≤ size → length s ≡ size → at < size →
        step p size (suc k) L at (s ++ t) x ≡
        (let below = step p size k (2 * L) at t (low_value p s size at L x) in record { places = set s at x ++ below.places; aligned = late_value p s size at L ∷ below.aligned })
    unfolding step
    step_split k L at s t x o r e h =
        rw (set-append_left s t at x (omega arith), take_at (set s at x) t size (length-set s at x ∙ e), drop_at s t size e, low_same p is size L at s t x o r e h, late-same p is size L at s t o r e h)

    -- one level: samples in turn are the line over the row, then the lines below over its low row
    pub interchange : (k L at : ℕ) (s t xs : List ℤ) → 1 ≤ L → 2 * (p.centre * L) ≤ size → length s ≡ size → at + length xs ≤ size →
        passed (suc k) L at (s ++ t) xs ≡ (let l = line p size L at s xs in join l (passed k (2 * L) at t l.low))
    unfolding passed line before
    interchange k L at s t [] o r e h = refl
    interchange k L at s t (x ∷ xs) o r e h =
        let below = step p size k (2 * L) at t (low_value p s size at L x) in
        rw (step_split k L at s t x o r e (omega arith), interchange k L (suc at) (set s at x) below.places xs o r (length-set s at x ∙ e) (omega arith))

    -- a line's run over a row, with the lines below
    abbrev over : (k L at : ℕ) → List ℤ → Lined → Rowed
    over k L at t q =
        let below = rowed p size k (2 * L) at t q.low in
        record { places = take size q.places ++ below.places; rows = q.late ∷ below.rows }

    -- the whole: what the code does by rows is what samples in turn give
    pub rows_are : (k L at : ℕ) (lines xs : List ℤ) → 1 ≤ L → p.centre * (L * 2 ^ k) ≤ size → length lines ≡ k * size → at + length xs ≤ size →
        passed k L at lines xs ≡ read (rowed p size k L at lines xs)
    unfolding rowed
    rows_are zero L at lines xs o r e h = passed_none L at lines xs ∙ row_alone L at lines xs
    rows_are (suc k) L at lines xs o r e h =
        let s = take size lines in
        let t = drop size lines in
        let l = line p size L at s xs in
        let twice-is : 2 * L * 2 ^ k ≡ L * 2 ^ suc k = rw pow-succ' (omega arith) in
        let r' : p.centre * (2 * L * 2 ^ k) ≤ size = rw twice-is r in
        let es : length s ≡ size = length-take-le size lines (omega arith) in
        let once : 2 * L ≤ 2 * L * 2 ^ k = omega (arith, mul-le-mul_left (2 * L) (pow_mono {i = 0} {j = k} (omega arith))) in
        let twice : 2 * (p.centre * L) ≤ size = omega (arith, r', mul-le-mul_left p.centre once) in
        let whole : lines ≡ s ++ t = sym (take-append-drop size lines) in
        let first : line p size L at lines xs ≡ behind t l = ap (λ (q : List ℤ). line p size L at q xs) whole ∙ line_behind L at s t xs o twice es h in
        let below = rowed p size k (2 * L) at t l.low in
        let cut : take size (l.places ++ t) ≡ l.places = take_at l.places t size (line_length_lem L at s xs ∙ es) in
        ap (λ (q : List ℤ). passed (suc k) L at q xs) whole ∙ interchange k L at s t xs o twice es h ∙
        ap (join l) (rows_are k (2 * L) at t l.low (omega arith) r' (simp length-drop (omega arith)) (rw (low_length L at s xs) h)) ∙
        sym
        (ap (λ (q : Lined). read (over k L at t q)) first ∙
        ap₂ (λ (u : List ℤ) (v : List (List ℤ)). the_passed (u ++ below.places) v) cut (columns-below k (2 * L) at l.late t l.low))
