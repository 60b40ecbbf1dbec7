-- One side's samples, row after row. Assumes nothing.
use mathlib.Core.Path.{◌≡◌, refl, sym, ap, ap₂, ◌∙◌}
use mathlib.Core.Bool.{Bool, true, false, cond}
use mathlib.Core.List.{List, [], ◌∷◌, ◌++◌, append_assoc, append-nil}
use Prim.Native.Nat.{ℕ, suc, ◌+◌, ◌-◌, ◌*◌, ◌^◌, ◌≤◌, ◌<◌}
use native.Mathlib.Nat.{mul-zero, mul-add, mul-le-mul_left, sub-zero}
use native.Mathlib.Omega.{arith}
use borrow.Author.Tests.{ltb-true}
use borrow.Rule.Slice.PartMut.{put_mid, same_len_mid}
use lib.Dec.{ltb}
use lib.ListN.{length, take, drop, length-drop}
use lib.Seq.{get_or-take, drop-drop, length-take-le}
use lib.IntN.{ℤ, pos}
use Rattle.frames.specs.Frames.{side}
use Rattle.frames.proofs.Laws.{side-length, side-add, side_front, put-side, put_alike}
use Rattle.tree.specs.Prototype.{published}
use Rattle.lines.specs.Cascade.{Ran, run}
use Rattle.lines.specs.Rows.{row_places, wrapped, rowed, columns}
use Rattle.lines.specs.Helpers.{Region, RowsDone}
use Rattle.ring.proofs.Places.{published_centred}
use Rattle.lines.proofs.Interchange.{rows_count, rows_even}
use Rattle.lines.proofs.Turns.{turn}
use Rattle.weighing.specs.Weighing.{out_of, band_sum, outputs}
use Rattle.weighing.specs.Helpers.{WeighedUnder}
use Rattle.block_rows.specs.Helpers.{SideDone}

-- ---- the position

pub wrapped_inside : (size at : ℕ) → 0 < size → wrapped size at < size
wrapped_inside size at h = by (ltb at size) refl
  where
    by : (t : Bool) → ltb at size ≡ t → cond t at 0 < size
    by true e = ltb-true at size e
    by false e = h

-- ---- the outputs of rows one after the other

outputs-append : (g : ℕ → ℤ) (xs ys : List (List ℤ)) → outputs (λ _. g) (xs ++ ys) ≡ outputs (λ _. g) xs ++ outputs (λ _. g) ys
unfolding outputs
outputs-append g [] ys = refl
outputs-append g (a ∷ xs) ys = ap (λ (l : List ℤ). out_of (band_sum g a) ∷ l) (outputs-append g xs ys)

-- ---- a row

-- what the matrix shows is what is weighed
row-outputs : (bands size at : ℕ) (lines xs : List ℤ) {channels s n : ℕ} {g : ℕ → ℤ} {ys matrix before after : List ℤ} → 1 ≤ bands → length xs ≡ n →
    RowsDone (rowed published size (bands - 1) 1 at lines xs) n ys matrix → WeighedUnder channels s n bands g matrix before after →
    side channels s n after ≡ outputs (λ _. g) (columns (rowed published size (bands - 1) 1 at lines xs).rows)
row-outputs bands size at lines xs some long d w =
    let R = rowed published size (bands - 1) 1 at lines xs in
    let count : length R.rows ≡ bands = rows_count published size (bands - 1) 1 at lines xs ∙ suc_less bands some in
    w.weighed R.rows count (rw (sym long) (rows_even published size (bands - 1) 1 at lines xs)) d.shown
  where
    suc_less : (n : ℕ) → 1 ≤ n → suc (n - 1) ≡ n
    suc_less n h = omega arith

-- ---- the loop

-- what has been written and what a run gives from there
record Went : Type 0 where
  pub places : List ℤ
  pub position : ℕ
  pub outs : List ℤ

abbrev went : (ℕ → ℤ) → List ℤ → Ran → Went
went g done r = record { places = r.places; position = r.position; outs = done ++ outputs (λ _. g) r.aligned }

-- a row more is written: `r` was what the rest gave before it, `r'` what it gives behind it
went_on : (g : ℕ → ℤ) (done outs : List ℤ) (cols : List (List ℤ)) (t : Ran) {written : List ℤ} {r r' : Ran} {whole : Went} → written ≡ done ++ outs → outs ≡ outputs (λ _. g) cols → r' ≡ t →
    r ≡ record { places = t.places; position = t.position; aligned = cols ++ t.aligned } → went g done r ≡ whole → went g written r' ≡ whole
went_on g done outs cols t w o e b rest =
    ap₂ (λ (l : List ℤ) (q : Ran). went g l q) w e ∙
    ap (λ (l : List ℤ). record { places = t.places; position = t.position; outs = l }) joined ∙
    ap (went g done) (sym b) ∙ rest
  where
    joined : (done ++ outs) ++ outputs (λ _. g) t.aligned ≡ done ++ outputs (λ _. g) (cols ++ t.aligned)
    joined =
        append_assoc done outs (outputs (λ _. g) t.aligned) ∙
        ap (λ (l : List ℤ). done ++ l) (ap (λ (l : List ℤ). l ++ outputs (λ _. g) t.aligned) o ∙ sym (outputs-append g cols t.aligned))

-- up to frame i the outputs are written; what the rest gives from here is what the whole run gives
pub record Going (bands size from c s frames : ℕ) (g : ℕ → ℤ) (lines₀ input rows₀ output₀ lines rows output : List ℤ) (at i : ℕ) : Type 0 where
  pub inside : at < size
  pub reached : i ≤ frames
  pub same_lines : length lines ≡ length lines₀
  pub same_output : length output ≡ length output₀
  pub same_rows : length rows ≡ length rows₀
  pub rest : went g (side c s i output) (run published size (bands - 1) at lines (side c s (frames - i) (drop (c * i) input))) ≡
      went g [] (run published size (bands - 1) from lines₀ (side c s frames input))
  pub others : (t : ℕ) → t < c → (t ≡ s → ⊥) → side c t frames output ≡ side c t frames output₀

pub going_starts : (bands size from c s frames : ℕ) (g : ℕ → ℤ) (lines input rows output : List ℤ) → from < size →
    Going bands size from c s frames g lines input rows output lines rows output from 0
unfolding side
going_starts bands size from c s frames g lines input rows output h =
    record {
      inside = h;
      reached = omega arith;
      same_lines = refl;
      same_output = refl;
      same_rows = refl;
      others = λ t l n. refl;
      rest = rw (mul-zero c, sub-zero frames) refl;
    }

module _ {bands size from c s frames : ℕ} {g : ℕ → ℤ} {lines₀ input rows₀ output₀ lines rows output : List ℤ} {at i : ℕ}
    (going : Going bands size from c s frames g lines₀ input rows₀ output₀ lines rows output at i) (region : Region published bands size 1 lines₀)
    (below : s < c) (whole : length input ≡ c * frames) (alike : length output₀ ≡ length input) (room : row_places * bands ≤ length rows₀) where
  -- the numbers of n frames from i on
  less : (n : ℕ) → c * (i + n) - c * i ≡ c * n
  less n = omega (arith, mul-add c i n)

  fewer : (n : ℕ) → n ≤ frames - i → c * (i + n) ≤ c * frames
  fewer n h = mul-le-mul_left {m = i + n} {n = frames} c (omega (arith, going.reached))

  part_length : (n : ℕ) (xs : List ℤ) → length xs ≡ c * frames → n ≤ frames - i → length (take (c * (i + n) - c * i) (drop (c * i) xs)) ≡ c * n
  part_length n xs e h = rw (less n) (length-take-le (c * n) (drop (c * i) xs) (rw (length-drop (c * i) xs, e) (omega (arith, fewer n h, mul-add c i n))))

  output_whole : length output ≡ c * frames
  output_whole = going.same_output ∙ alike ∙ whole

  pub out_length : (n : ℕ) → n ≤ frames - i → length (take (c * (i + n) - c * i) (drop (c * i) output)) ≡ c * n
  out_length n = part_length n output output_whole

  -- one side of those frames, and of the frames behind them
  side_split : (t n : ℕ) (xs : List ℤ) → t < c → length xs ≡ c * frames → n ≤ frames - i → side c t (frames - i) (drop (c * i) xs) ≡
      side c t n (take (c * (i + n) - c * i) (drop (c * i) xs)) ++ side c t (frames - (i + n)) (drop (c * (i + n)) xs)
  side_split t n xs l e h =
      let parts : frames - i ≡ n + (frames - (i + n)) = omega (arith, going.reached) in
      ap (λ (k : ℕ). side c t k (drop (c * i) xs)) parts ∙ side-add c t n (frames - (i + n)) (drop (c * i) xs) ∙
      ap₂ ◌++◌
      (side_front c t n (drop (c * i) xs) (take (c * n) (drop (c * i) xs)) l (λ k q. sym (get_or-take (c * n) (drop (c * i) xs) k (pos 0) q)) ∙
      ap (λ (k : ℕ). side c t n (take k (drop (c * i) xs))) (sym (less n)))
      (ap (side c t (frames - (i + n))) (drop-drop (c * n) (c * i) xs ∙ ap (λ (k : ℕ). drop k xs) (sym (mul-add c i n))))

  pub going_on : (n : ℕ) (ys rows' outs : List ℤ) → n ≤ frames - i → at + n ≤ size →
      length ys ≡ length lines → length rows' ≡ length rows →
      length outs ≡ length (take (c * (i + n) - c * i) (drop (c * i) output)) →
      RowsDone (rowed published size (bands - 1) 1 at lines (side c s n (take (c * (i + n) - c * i) (drop (c * i) input)))) n ys rows' →
      WeighedUnder c s n bands g rows' (take (c * (i + n) - c * i) (drop (c * i) output)) outs →
      Going bands size from c s frames g lines₀ input rows₀ output₀ ys rows' (put_mid (c * i) (c * (i + n) - c * i) output outs) (wrapped size (at + n)) (i + n)
  going_on n ys rows' outs left before ly lr lo d a =
      let k = bands - 1 in
      let xs = side c s n (take (c * (i + n) - c * i) (drop (c * i) input)) in
      let later = side c s (frames - (i + n)) (drop (c * (i + n)) input) in
      let R = rowed published size k 1 at lines xs in
      let T = run published size k (wrapped size (at + n)) R.places later in
      let long : length xs ≡ n = side-length c s n (take (c * (i + n) - c * i) (drop (c * i) input)) in
      let reach : 9 * (1 * 2 ^ (bands - 1)) ≤ size = omega (arith, region.sized) in
      let by_Row = turn published size published_centred k at lines xs later reach (going.same_lines ∙ region.whole) going.inside (rw long before) in
      let here : run published size k at lines (side c s (frames - i) (drop (c * i) input)) ≡ record { places = T.places; position = T.position; aligned = columns R.rows ++ T.aligned } =
      ap (run published size k at lines) (side_split s n input below whole left) ∙ rw long at by_Row in
      let many : length outs ≡ c * n = lo ∙ out_length n left in
      let put : side c s (i + n) (put_mid (c * i) (c * (i + n) - c * i) output outs) ≡ side c s i output ++ side c s n outs =
      put-side c s i n (c * (i + n) - c * i) output outs below (omega (arith, output_whole, fewer n left, mul-add c i n)) many in
      let same : run published size k (wrapped size (at + n)) ys later ≡ T = ap (λ (l : List ℤ). run published size k (wrapped size (at + n)) l later) d.places_are in
      record {
        inside = wrapped_inside size (at + n) (omega (arith, going.inside));
        reached = omega (arith, going.reached);
        same_lines = ly ∙ going.same_lines;
        same_output = same_len_mid (c * i) (c * (i + n) - c * i) output outs lo ∙ going.same_output;
        same_rows = lr ∙ going.same_rows;
        rest = went_on g (side c s i output) (side c s n outs) (columns R.rows) T put (row-outputs bands size at lines xs region.some long d a) same here going.rest;
        others = λ t l z. kept t l z ∙ going.others t l z;
      }
    where
      kept : (t : ℕ) → t < c → (t ≡ s → ⊥) → side c t frames (put_mid (c * i) (c * (i + n) - c * i) output outs) ≡ side c t frames output
      kept t l z =
          let all : frames ≡ i + (n + (frames - (i + n))) = omega (arith, going.reached) in
          ap₂ (λ (f k : ℕ). side c t f (put_mid (c * i) k output outs)) all (less n) ∙
          put_alike c t i n (frames - (i + n)) output outs l (omega (arith, output_whole, fewer n left)) (lo ∙ out_length n left) (rw (less n) at (a.others t l z)) ∙
          ap (λ (f : ℕ). side c t f output) (sym all)

  pub going_ends : frames ≤ i → SideDone c s (run published size (bands - 1) from lines₀ (side c s frames input)) g lines at output₀ output
  unfolding run outputs side
  going_ends h =
      let end : i ≡ frames = omega (arith, going.reached) in
      let over : frames - i ≡ 0 = omega arith in
      let r = run published size (bands - 1) from lines₀ (side c s frames input) in
      let none : run published size (bands - 1) at lines (side c s (frames - i) (drop (c * i) input)) ≡ record { places = lines; position = at; aligned = [] } =
      ap (λ (k : ℕ). run published size (bands - 1) at lines (side c s k (drop (c * i) input))) over in
      let written : side c s frames output ≡ side c s i output ++ [] = ap (λ (k : ℕ). side c s k output) (sym end) ∙ sym (append-nil (side c s i output)) in
      let all : record { places = lines; position = at; outs = side c s frames output } ≡ went g [] r =
      ap (λ (l : List ℤ). record { places = lines; position = at; outs = l }) written ∙ ap (went g (side c s i output)) (sym none) ∙ going.rest in
      let outs : side c s frames output ≡ outputs (λ _. g) r.aligned = ap (λ (w : Went). w.outs) all in
      let long : length (outputs (λ _. g) r.aligned) ≡ frames = ap length (sym outs) ∙ side-length c s frames output in
      record {
        places_are = ap (λ (w : Went). w.places) all;
        position_is = ap (λ (w : Went). w.position) all;
        put = record { here = rw long outs; others = λ t l n. rw long (going.others t l n) };
      }
