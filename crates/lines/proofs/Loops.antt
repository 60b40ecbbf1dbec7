-- One line over a row in place, sample by sample: what the rest gives from here is what the whole part gives. Over any prototype.
-- Assumes nothing.
use mathlib.Core.Path.{◌≡◌, refl, sym, ap, ◌∙◌}
use mathlib.Core.List.{List, ◌++◌, append-nil}
use Prim.Native.Nat.{ℕ, suc, ◌+◌, ◌≤◌, ◌<◌}
use native.Mathlib.Numerals.{add-one}
use native.Mathlib.Omega.{arith}
use lib.ListN.{length, get_or, take, drop, set, length-set, length-drop}
use lib.Seq.{slice, slice-cons, slice_empty, take-suc-set, append_snoc, get_or-take, get_or-drop, length-take-le, take-set-le, take-set-lt, drop-set-lt, drop-set-add, drop-drop}
use lib.IntN.{ℤ, pos}
use mir.Syntax.{w32}
use mir.Val.{SFits}
use mir.Facts.{to_z-of_z}
use Rattle.whole.proofs.Rounded.{raw}
use Rattle.tree.specs.Prototype.{Prototype}
use Rattle.ring.specs.Line.{low_value, late_value}
use Rattle.lines.specs.Rows.{row_places, Lined, line}
use Rattle.lines.specs.Helpers.{Part, LineDone}

one_on : (at i : ℕ) → at + (i + 1) ≡ suc (at + i)
one_on at i = omega arith

-- the two rows of a matrix that a line works in
abbrev row : List ℤ → List ℤ
row m = take row_places m

abbrev below : List ℤ → List ℤ
below m = drop row_places m

-- ---- a store in either row

module _ (m : List ℤ) (i : ℕ) (y z : ℤ) (h : i < row_places) where
  row_stored : row (set (set m i z) (row_places + i) y) ≡ set (row m) i z
  row_stored = take-set-le row_places (set m i z) (row_places + i) y (omega arith) ∙ take-set-lt row_places m i z h

  below_stored : below (set (set m i z) (row_places + i) y) ≡ set (below m) i y
  below_stored = drop-set-add row_places (set m i z) i y ∙ ap (λ (l : List ℤ). set l i y) (drop-set-lt row_places m i z h)

-- ---- the loop

-- what stands once a line's run is written behind the i samples that stand
abbrev left : ℕ → List ℤ → Lined → List ℤ × List ℤ × List ℤ
left i m l = (l.places, take i (row m) ++ l.late, take i (below m) ++ l.low)

module _ (p : Prototype) (size at L from to : ℕ) (lines₀ m₀ : List ℤ) where
  pub record Going (lines m : List ℤ) (i : ℕ) : Type 0 where
    pub started : from ≤ i
    pub reached : i ≤ to
    pub same_lines : length lines ≡ length lines₀
    pub same_matrix : length m ≡ length m₀
    pub unread : drop i (row m) ≡ drop i (row m₀)
    pub rest : left i m (line p size L (at + i) lines (slice i to (row m₀))) ≡ left from m₀ (line p size L (at + from) lines₀ (slice from to (row m₀)))

  pub going_starts : from ≤ to → Going lines₀ m₀ from
  going_starts h = record { started = omega arith; reached = h; same_lines = refl; same_matrix = refl; unread = refl; rest = refl }

module _ {p : Prototype} {size at L from to : ℕ} {lines₀ m₀ lines m : List ℤ} {i : ℕ} (q : Part p lines₀ size at L from to m₀) (g : Going p size at L from to lines₀ m₀ lines m i) where
  -- its value has not been written over
  same_sample : i < to → get_or m i (pos 0) ≡ get_or (row m₀) i (pos 0)
  same_sample h =
      let here : i + 0 ≡ i = omega arith in
      let at_start : (l : List ℤ) → get_or (drop i l) 0 (pos 0) ≡ get_or l i (pos 0) = λ l. get_or-drop i l 0 (pos 0) ∙ ap (λ (k : ℕ). get_or l k (pos 0)) here in
      sym (get_or-take row_places m i (pos 0) (omega (arith, q.short))) ∙ sym (at_start (row m)) ∙ ap (λ (l : List ℤ). get_or l 0 (pos 0)) g.unread ∙ at_start (row m₀)

  pub going_on : (y z : ℤ) → i < to → SFits w32 (get_or m i (pos 0)) → SFits w32 y → SFits w32 z →
      y ≡ low_value p lines size (at + i) L (raw w32 (get_or m i (pos 0))) → z ≡ late_value p lines size (at + i) L →
      Going p size at L from to lines₀ m₀ (set lines (at + i) (raw w32 (get_or m i (pos 0)))) (set (set m i (raw w32 z)) (row_places + i) (raw w32 y)) (i + 1)
  unfolding line
  going_on y z h fx fy fz ey ez =
      let v = get_or (row m₀) i (pos 0) in
      let x-is : raw w32 (get_or m i (pos 0)) ≡ v = to_z-of_z fx ∙ same_sample h in
      let y-is : raw w32 y ≡ low_value p lines size (at + i) L v = to_z-of_z fy ∙ ey ∙ ap (low_value p lines size (at + i) L) x-is in
      let z-is : raw w32 z ≡ late_value p lines size (at + i) L = to_z-of_z fz ∙ ez in
      let few : i < row_places = omega (arith, q.short) in
      let row-long : length (row m) ≡ row_places = length-take-le row_places m (omega (arith, q.room, g.same_matrix)) in
      let row₀-long : length (row m₀) ≡ row_places = length-take-le row_places m₀ (omega (arith, q.room)) in
      let below-long : i < length (below m) = rw (length-drop row_places m) (omega (arith, q.room, g.same_matrix)) in
      let next-from : (l : List ℤ) → drop (i + 1) l ≡ drop 1 (drop i l) = λ l. sym (drop-drop 1 i l) in
      let low = low_value p lines size (at + i) L v in
      let late = late_value p lines size (at + i) L in
      rw (x-is, y-is, z-is)
      (record {
        started = omega (arith, g.started);
        reached = omega arith;
        same_lines = length-set lines (at + i) v ∙ g.same_lines;
        same_matrix = length-set (set m i late) (row_places + i) low ∙ length-set m i late ∙ g.same_matrix;
        unread =
            ap (drop (i + 1)) (row_stored m i low late few) ∙
            drop-set-lt (i + 1) (row m) i late (omega arith) ∙
            next-from (row m) ∙ ap (drop 1) g.unread ∙ sym (next-from (row m₀));
        rest =
            rw (
              one_on at i,
              add-one i,
              row_stored m i low late few,
              below_stored m i low late few,
              take-suc-set (row m) i late (omega (arith, row-long)),
              take-suc-set (below m) i low below-long,
              append_snoc (take i (row m)) late,
              append_snoc (take i (below m)) low,
            )
            (rw (slice-cons i to (row m₀) (pos 0) h (omega (arith, row₀-long, q.short))) at g.rest);
      })

  pub going_ends : to ≤ i → LineDone (line p size L (at + from) lines₀ (slice from to (row m₀))) from to m₀ lines m
  unfolding line
  going_ends h =
      let end : i ≡ to = omega (arith, g.reached) in
      let r = rw (end, slice_empty to (row m₀), append-nil (take to (row m)), append-nil (take to (below m))) at g.rest in
      record {
        places_are = ap (λ (u : List ℤ × List ℤ × List ℤ). u.0) r;
        late_is = ap (λ (u : List ℤ × List ℤ × List ℤ). u.1) r;
        low_is = ap (λ (u : List ℤ × List ℤ × List ℤ). u.2) r;
        unread = rw end at g.unread;
      }
