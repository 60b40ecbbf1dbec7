-- The gain sum by differences is the gain sum by bands, and the outputs of a row. Assumes nothing.
use mathlib.Core.Path.{◌≡◌, refl, sym, ap, ap₂, ◌∙◌}
use mathlib.Core.List.{List, [], ◌∷◌}
use Prim.Native.Nat.{ℕ, zero, suc, ◌+◌, ◌-◌, ◌*◌, ◌^◌, ◌≤◌, ◌<◌}
use native.Mathlib.Nat.{mul-le-mul, add-zero, add-suc}
use native.Mathlib.Omega.{arith}
use lib.ListN.{length, get_or}
use lib.Seq.{ext_get_or}
use lib.IntN.{ℤ, pos, nat_abs, ◌+ℤ◌, ◌-ℤ◌, ◌*ℤ◌, zero-*ℤ}
use lib.Signed.{nat_abs-le}
use mir.Syntax.{w32, w64}
use mir.Val.{SFits}
use mir.Facts.{to_z-of_z, sfits_widen}
use Rattle.answers.specs.Unit.{least_sample, most_sample, unity}
use Rattle.whole.specs.Nearest.{nearest}
use Rattle.whole.specs.Limit.{limit}
use Rattle.whole.specs.Sum.{sum}
use Rattle.whole.proofs.Signed.{var, lit, ◌⊕◌, ◌⊖◌, ◌⊗◌, eq_by, about}
use Rattle.whole.proofs.Magnitude.{abs-+ℤ, abs-*ℤ}
use Rattle.whole.proofs.Sums.{sum-ext, sum_none}
use Rattle.whole.proofs.Rounded.{raw}
use Rattle.frames.specs.Frames.{side}
use Rattle.frames.proofs.Laws.{side-length}
use Rattle.tree.specs.Signal.{gain_of}
use Rattle.lines.specs.Rows.{row_places, Shown, Even, columns}
use Rattle.lines.proofs.Columns.{shown_at, columns-length, column, column_is}
use Rattle.weighing.specs.Weighing.{out_of, band_sum, outputs}
use Rattle.weighing.specs.Helpers.{Differ, Small, Above, Below, gain_sum, SumDone, RowWeighed, SideWeighed, WeighedUnder}
use Rattle.weighing.proofs.Differing.{none_above}

-- ---- the sum by differences

sum_first : (n : ℕ) (f : ℕ → ℤ) → sum (suc n) f ≡ f 0 +ℤ sum n (λ k. f (suc k))
unfolding sum
sum_first zero f = eq_by (lit 0 ⊕ var (f 0)) (var (f 0) ⊕ lit 0) (omega arith)
sum_first (suc n) f =
    let s = sum n (λ k. f (suc k)) in
    ap (λ (z : ℤ). z +ℤ f (suc n)) (sum_first n f) ∙ eq_by (var (f 0) ⊕ var s ⊕ var (f (suc n))) (var (f 0) ⊕ (var s ⊕ var (f (suc n)))) (omega arith)

one_band : (g h a : ℤ) → pos 0 +ℤ (g -ℤ h) *ℤ a ≡ g *ℤ a -ℤ h *ℤ a
one_band g h a = eq_by (lit 0 ⊕ (var g ⊖ var h) ⊗ var a) (var g ⊗ var a ⊖ var h ⊗ var a) (omega arith)

one_more : (s h k a b : ℤ) → (h -ℤ k) *ℤ a +ℤ (s -ℤ h *ℤ b) ≡ (s +ℤ h *ℤ (a -ℤ b)) -ℤ k *ℤ a
one_more s h k a b =
    eq_by ((var h ⊖ var k) ⊗ var a ⊕ (var s ⊖ var h ⊗ var b)) ((var s ⊕ var h ⊗ (var a ⊖ var b)) ⊖ var k ⊗ var a) (omega arith)

no_gain_above : (s a : ℤ) {h : ℤ} → h ≡ pos 0 → s -ℤ h *ℤ a ≡ s
no_gain_above s a {h} e = rw e (eq_by (var s ⊖ lit 0 ⊗ var a) (var s) (omega arith))

module _ (ds : List ℤ) where
  -- from the aligned samples a(M), .., a(1)
  unfoldable by_differences : List ℤ → ℤ
  by_differences xs = sum (length xs) (λ k. get_or ds (length xs - 1 - k) (pos 0) *ℤ get_or xs k (pos 0))

  by_differences_lem : (g : ℕ → ℤ) (a : ℤ) (below : List ℤ) → Differ g ds →
      by_differences (a ∷ below) ≡ band_sum g (a ∷ below) -ℤ g (suc (length (a ∷ below))) *ℤ a
  unfolding by_differences band_sum sum
  by_differences_lem g a [] d = ap (λ (z : ℤ). pos 0 +ℤ z *ℤ a) (d.at_place 0) ∙ one_band (g 1) (g 2) a
  by_differences_lem g a (b ∷ below) d =
      let n = length (b ∷ below) in
      sum_first n (λ k. get_or ds (suc n - 1 - k) (pos 0) *ℤ get_or (a ∷ b ∷ below) k (pos 0)) ∙
      ap₂ (λ (u v : ℤ). u *ℤ a +ℤ v) (ap (λ (j : ℕ). get_or ds j (pos 0)) here ∙ d.at_place n)
      (sum-ext n (λ k h. ap (λ (j : ℕ). get_or ds j (pos 0) *ℤ get_or (b ∷ below) k (pos 0)) (down k)) ∙
      by_differences_lem g b below d) ∙
      one_more (band_sum g (b ∷ below)) (g (suc n)) (g (suc (suc n))) a b
    where
      here : suc (length (b ∷ below)) - 1 - 0 ≡ length (b ∷ below)
      here = omega arith

      down : (k : ℕ) → suc (length (b ∷ below)) - 1 - suc k ≡ length (b ∷ below) - 1 - k
      down k = omega arith

column_length : (i : ℕ) (rows : List (List ℤ)) → length (column i rows) ≡ length rows
unfolding column
column_length i [] = refl
column_length i (row ∷ rows) = ap suc (column_length i rows)

column_at : (i k : ℕ) (rows : List (List ℤ)) → k < length rows → get_or (column i rows) k (pos 0) ≡ get_or (get_or rows k []) i (pos 0)
unfolding column
column_at i k [] h = absurd (omega arith)
column_at i zero (row ∷ rows) h = refl
column_at i (suc k) (row ∷ rows) h = column_at i k rows (omega arith)

-- sample i of the rows that a matrix shows
sum_is : (g : ℕ → ℤ) (ds matrix : List ℤ) (n i : ℕ) (row : List ℤ) (rows : List (List ℤ)) → i < n → Shown n (row ∷ rows) matrix →
    Differ g ds → g (suc (length (row ∷ rows))) ≡ pos 0 →
    gain_sum (length (row ∷ rows)) (length (row ∷ rows)) i matrix ds ≡ band_sum g (column i (row ∷ rows))
unfolding by_differences column
sum_is g ds matrix n i row rows h sh d top =
    let M = length (row ∷ rows) in
    let x = get_or row i (pos 0) in
    let long : length (column i rows) ≡ length rows = column_length i rows in
    sum-ext M (λ k l. ap (λ (z : ℤ). get_or ds (M - 1 - k) (pos 0) *ℤ z) (shown_at n i k (row ∷ rows) matrix h l sh ∙ sym (column_at i k (row ∷ rows) l))) ∙
    ap (λ (m : ℕ). sum m (λ k. get_or ds (m - 1 - k) (pos 0) *ℤ get_or (x ∷ column i rows) k (pos 0))) (ap suc (sym long)) ∙
    by_differences_lem ds g x (column i rows) d ∙ no_gain_above (band_sum g (x ∷ column i rows)) x {h = g (suc (length (x ∷ column i rows)))} (rw long top)

-- ---- the code's loop over the lines

-- a difference times a place
part_small : (d a : ℤ) → nat_abs d ≤ 2 ^ 15 → SFits w32 a → nat_abs (d *ℤ a) ≤ 2 ^ 46
part_small d a h f = rw (abs-*ℤ d a) (mul-le-mul {n₂ = 2 ^ 15} {m₂ = 2 ^ 31} h (nat_abs-le a f.sfits))

widened : (d : ℤ) → SFits w32 d → raw w64 d ≡ d
widened d f = to_z-of_z {w = w64} {z = d} (sfits_widen {w = w32} {w' = w64} tt f)

pub weight_room : (d : ℤ) {w : ℤ} → nat_abs d ≤ 2 ^ 15 → SFits w32 d → w ≡ raw w32 d → nat_abs (raw w64 w) ≤ 2 ^ 30
weight_room d h f e = rw (e, to_z-of_z f, widened d f) (omega arith)

-- terms that are 0 at the end leave a sum as it is
sum_stays : (n m : ℕ) (f : ℕ → ℤ) → ((j : ℕ) → j < m → f (n + j) ≡ pos 0) → sum (n + m) f ≡ sum n f
unfolding sum
sum_stays n zero f e = ap (λ (k : ℕ). sum k f) (add-zero n)
sum_stays n (suc m) f e =
    ap (λ (k : ℕ). sum k f) (add-suc n m) ∙ ap₂ ◌+ℤ◌ (sum_stays n m f (λ j h. e j (omega arith))) (e m (omega arith)) ∙ eq_by (var (sum n f) ⊕ lit 0) (var (sum n f)) (omega arith)

-- the lines from line b on are added
pub record Summing (bands i : ℕ) (matrix ds : List ℤ) (s : ℤ) (b : ℕ) : Type 0 where
  pub left : b ≤ bands
  pub so_far : s ≡ gain_sum (bands - b) bands i matrix ds
  pub bounded : nat_abs s ≤ (bands - b) * 2 ^ 46

-- lines that do not count add nothing
nothing : (d a : ℤ) → d ≡ pos 0 → d *ℤ a ≡ pos 0
nothing d a e = rw e (zero-*ℤ a)

pub summing_starts : (bands top i : ℕ) (matrix ds : List ℤ) → top ≤ bands → Above top ds → Summing bands i matrix ds (pos 0) top
summing_starts bands top i matrix ds few a =
    record {
      left = few;
      so_far = sym (sum_none (bands - top) (λ k h. nothing (get_or ds (bands - 1 - k) (pos 0)) (get_or matrix (row_places * k + i) (pos 0)) (a.none (bands - 1 - k) (omega arith))));
      bounded = omega arith;
    }

module _ {bands i : ℕ} {matrix ds : List ℤ} {s : ℤ} {b : ℕ} (k : Summing bands i matrix ds s b) (few : bands ≤ 10) where
  pub sum_room : nat_abs s ≤ 2 ^ 61
  sum_room = omega (arith, k.bounded)

  -- the line below, whose sample stands at `at`
  pub summing_on : {w r : ℤ} (at c : ℕ) → c + 1 ≡ b → at ≡ row_places * (bands - 1 - c) + i → Small ds → SFits w32 (get_or ds c (pos 0)) → SFits w32 (get_or matrix at (pos 0)) →
      w ≡ raw w32 (get_or ds c (pos 0)) → r ≡ s +ℤ raw w64 w *ℤ raw w32 (get_or matrix at (pos 0)) → Summing bands i matrix ds (raw w64 r) c
  unfolding sum
  summing_on {w} {r} at c below place sm fd fx ew er =
      let d = get_or ds c (pos 0) in
      let x = get_or matrix at (pos 0) in
      let wide : raw w64 w ≡ d = ap (raw w64) (ew ∙ to_z-of_z fd) ∙ widened d fd in
      let r-is : r ≡ s +ℤ d *ℤ x = er ∙ ap₂ (λ (u v : ℤ). s +ℤ u *ℤ v) wide (to_z-of_z fx) in
      let more : bands - c ≡ suc (bands - b) = omega (arith, k.left) in
      let small : nat_abs r ≤ suc (bands - b) * 2 ^ 46 = rw r-is (omega (arith, abs-+ℤ s (d *ℤ x), part_small d x (sm.range c) fx, k.bounded)) in
      let back : raw w64 r ≡ r = to_z-of_z {w = w64} {z = r} (record { sfits = omega (arith, about r, small) }) in
      let here : c ≡ bands - 1 - (bands - b) = omega (arith, k.left) in
      let there : at ≡ row_places * (bands - b) + i = omega (arith, place, k.left) in
      record {
        left = omega (arith, k.left);
        so_far =
            back ∙ r-is ∙ ap₂ (λ (u v : ℤ). u +ℤ v *ℤ x) k.so_far (ap (λ (j : ℕ). get_or ds j (pos 0)) here) ∙
            ap (λ (j : ℕ). gain_sum (bands - b) bands i matrix ds +ℤ get_or ds (bands - 1 - (bands - b)) (pos 0) *ℤ get_or matrix j (pos 0)) there ∙
            ap (λ (n : ℕ). gain_sum n bands i matrix ds) (sym more);
        bounded = rw (back, more) small;
      }

  pub summing_ends : {low top : ℕ} → Below low top ds → b ≤ low → SumDone bands i matrix ds s
  summing_ends {low} l n =
      let all : bands - b + b ≡ bands = omega (arith, k.left) in
      let term : ℕ → ℤ = λ j. get_or ds (bands - 1 - j) (pos 0) *ℤ get_or matrix (row_places * j + i) (pos 0) in
      let rest : (j : ℕ) → j < b → term (bands - b + j) ≡ pos 0 =
      λ j h. nothing (get_or ds (bands - 1 - (bands - b + j)) (pos 0)) (get_or matrix (row_places * (bands - b + j) + i) (pos 0)) (l.none (bands - 1 - (bands - b + j)) (omega (arith, k.left))) in
      record { value = k.so_far ∙ sym (sum_stays (bands - b) b term rest) ∙ ap (λ (m : ℕ). gain_sum m bands i matrix ds) all; bounded = omega (arith, k.bounded, k.left) }

-- ---- the outputs of a row

pub outputs-length : (g : ℕ → ℕ → ℤ) (cols : List (List ℤ)) → length (outputs g cols) ≡ length cols
unfolding outputs
outputs-length g [] = refl
outputs-length g (a ∷ cols) = ap suc (outputs-length (λ i. g (suc i)) cols)

outputs_at : (g : ℕ → ℤ) (cols : List (List ℤ)) (i : ℕ) → i < length cols → get_or (outputs (λ _. g) cols) i (pos 0) ≡ out_of (band_sum g (get_or cols i []))
unfolding outputs
outputs_at g [] i h = absurd (omega arith)
outputs_at g (a ∷ cols) zero h = refl
outputs_at g (a ∷ cols) (suc i) h = outputs_at g cols i (omega arith)

-- the output that a sum comes to, in 32 bits
pub out_back : {bands i : ℕ} {matrix ds : List ℤ} {s n r : ℤ} → SFits w64 s → SFits w64 n → SFits w32 r → SumDone bands i matrix ds s →
    n ≡ nearest unity (raw w64 s) → r ≡ limit least_sample most_sample (raw w64 n) → raw w32 r ≡ out_of (gain_sum bands bands i matrix ds)
out_back fs fn fr d en er = to_z-of_z fr ∙ er ∙ ap (limit least_sample most_sample) (to_z-of_z fn ∙ en ∙ ap (nearest unity) (to_z-of_z fs ∙ d.value))

-- outputs of all samples are the outputs of the rows
pub outputs_weighed : (bands : ℕ) (matrix ds outs : List ℤ) → 1 ≤ bands → ((j : ℕ) → j < length outs → get_or outs j (pos 0) ≡ out_of (gain_sum bands bands j matrix ds)) → RowWeighed bands matrix ds outs
outputs_weighed bands matrix ds outs some stands = record { under = λ g rows d top count even sh. by g rows d top count even sh }
  where
    by : (g : ℕ → ℤ) (rows : List (List ℤ)) → Differ g ds → g (suc bands) ≡ pos 0 → length rows ≡ bands → Even (length outs) rows →
        Shown (length outs) rows matrix → outs ≡ outputs (λ _. g) (columns rows)
    by g [] d top count even sh = absurd (omega arith)
    by g (row ∷ rows) d top count even sh =
        let cols = columns (row ∷ rows) in
        let n = length outs in
        let long : length cols ≡ n = columns-length n row rows even in
        ext_get_or (pos 0) outs (outputs (λ _. g) cols) (sym (outputs-length (λ _. g) cols ∙ long))
        (λ j l. stands j l ∙
        ap out_of (ap (λ (m : ℕ). gain_sum m m j matrix ds) (sym count) ∙ sum_is g ds matrix n j row rows l sh d (rw count top) ∙
        ap (band_sum g) (sym (column_is n j row rows l even))) ∙
        sym (outputs_at g cols j (omega arith)))

-- .. under any gains with those differences, none above the bands
pub under_gains : {channels s n bands : ℕ} {matrix ds before after : List ℤ} (gains : List ℤ) → length gains ≤ bands → Differ (gain_of gains) ds → SideWeighed channels s n bands matrix ds before after →
    WeighedUnder channels s n bands (gain_of gains) matrix before after
under_gains {channels} {s} {n} {bands} {after = after} gains few d w =
    let long : length (side channels s n after) ≡ n = side-length channels s n after in
    record {
      weighed = λ rows count even shown. w.weighed.under (gain_of gains) rows d (none_above gains few) count (rw long even) (rw long shown);
      others = w.others;
    }
