-- A row through one line and the lines below, from what the calls answer. Over any prototype. Assumes nothing.
use mathlib.Core.Path.{◌≡◌, refl, sym, ap, ap₂, subst, ◌∙◌}
use mathlib.Core.List.{List, [], ◌∷◌, ◌++◌, append-nil}
use Prim.Native.Nat.{ℕ, zero, suc, ◌+◌, ◌-◌, ◌*◌, ◌≤◌}
use native.Mathlib.Nat.{le_refl}
use native.Mathlib.Omega.{arith}
use lib.ListN.{length, take, drop, set, length-drop, drop_of_length-le}
use lib.Seq.{drop-set-lt, take_all, drop_at, take-append-le, length-take-le}
use lib.IntN.{ℤ}
use borrow.Rule.Slice.PartMut.{put_mid}
use Rattle.tree.specs.Prototype.{Prototype}
use Rattle.lines.specs.Rows.{row_places, line, rowed, Shown}
use Rattle.lines.specs.Helpers.{LineDone, RowRegion, RowsDone}
use Rattle.lines.proofs.Interchange.{line_length_lem}
use Rattle.lines.proofs.Regions.{less_one, less_two, held_of, behind_it, region_same}

-- what is lent on is what stands behind; what comes back is put there
pub rest_is : (k : ℕ) (m : List ℤ) → take (length m - k) (drop k m) ≡ drop k m
rest_is k m = take_all (length m - k) (drop k m) (simp length-drop (le_refl (length m - k)))

pub put_is : (k : ℕ) (m ys : List ℤ) → k ≤ length m → put_mid k (length m - k) m ys ≡ take k m ++ ys
put_is k m ys h =
    ap (λ (l : List ℤ). take k m ++ (ys ++ l)) (drop_of_length-le (drop k m) {i = length m - k} (simp length-drop (omega arith))) ∙
    ap (λ (l : List ℤ). take k m ++ l) (append-nil ys)

module _ (p : Prototype) (size at L n : ℕ) (lines matrix : List ℤ) where
  -- a line's run leaves what stands behind it
  line_drop : (at : ℕ) (lines xs : List ℤ) → at + length xs ≤ size → drop size (line p size L at lines xs).places ≡ drop size lines
  unfolding line
  line_drop at lines [] h = refl
  line_drop at lines (x ∷ xs) h = line_drop (suc at) (set lines at x) xs (omega arith) ∙ drop-set-lt size lines at x (omega arith)

  pub region_below : (bands : ℕ) (ls rs : List ℤ) → (bands ≡ 1 → ⊥) → RowRegion p bands size at L n lines matrix → length ls ≡ length lines → length rs ≡ length matrix →
      RowRegion p (bands - 1) size at (2 * L) n (take (length ls - size) (drop size ls)) (take (length rs - row_places) (drop row_places rs))
  region_below zero ls rs more r el er = absurd (omega (arith, r.region.some))
  region_below (suc zero) ls rs more r el er = absurd (more refl)
  region_below (suc (suc b)) ls rs more r el er =
      rw (rest_is size ls, rest_is row_places rs, less_one b)
      (record {
        region = behind_it p size L ls b (region_same el r.region);
        short = r.short;
        before_end = r.before_end;
        room = rw (length-drop row_places rs, er) (omega (arith, r.room));
      })

  pub one_band : (bands : ℕ) → bands ≡ 1 → RowsDone (rowed p size (bands - 1) L at lines (take n matrix)) n lines matrix
  unfolding rowed Shown
  one_band bands e = rw e (record { places_are = refl; shown = (refl, tt) })

  pub joined : (bands : ℕ) (ls rs ys zs : List ℤ) → (bands ≡ 1 → ⊥) → RowRegion p bands size at L n lines matrix → length rs ≡ length matrix →
      LineDone (line p size L at lines (take n matrix)) 0 n matrix ls rs →
      RowsDone (rowed p size (bands - 1 - 1) (2 * L) at (take (length ls - size) (drop size ls)) (take n (take (length rs - row_places) (drop row_places rs)))) n ys zs →
      RowsDone (rowed p size (bands - 1) L at lines (take n matrix)) n (put_mid size (length ls - size) ls ys) (put_mid row_places (length rs - row_places) rs zs)
  unfolding rowed Shown
  joined zero ls rs ys zs more r er l d = absurd (omega (arith, r.region.some))
  joined (suc zero) ls rs ys zs more r er l d = absurd (more refl)
  joined (suc (suc b)) ls rs ys zs more r er l d =
      let x = take n matrix in
      let q = line p size L at lines x in
      let count : length x ≡ n = length-take-le n matrix (omega (arith, r.room, r.short)) in
      let long : length ls ≡ length lines = ap length l.places_are ∙ line_length_lem p size L at lines x in
      let held : size ≤ length ls = rw long (held_of p size L lines b r.region) in
      let behind : drop size ls ≡ drop size lines = ap (drop size) l.places_are ∙ line_drop at lines x (rw count r.before_end) in
      let full : length (take row_places rs) ≡ row_places = length-take-le row_places rs (omega (arith, r.room)) in
      let below : RowsDone (rowed p size b (2 * L) at (drop size lines) q.low) n ys zs = rw (less_two b, rest_is size ls, rest_is row_places rs, behind, l.low_is) at d in
      rw (less_one b, put_is size ls ys held, put_is row_places rs zs (omega (arith, r.room)))
      (record {
        places_are = ap₂ (λ (u v : List ℤ). take size u ++ v) l.places_are below.places_are;
        shown = (
          take-append-le n (take row_places rs) zs (rw full r.short) ∙ l.late_is,
          subst (λ (m : List ℤ). Shown n (rowed p size b (2 * L) at (drop size lines) q.low).rows m) (sym (drop_at (take row_places rs) zs row_places full)) below.shown,
        );
      })
