-- Bookkeeping: what the functions of the weighing ask and answer (rule 13.10). They are helpers of the calls, which have judged their input.
use Rattle.std.specs.Prelude.{◌≡◌, List, ℕ, suc, ◌+◌, ◌-◌, ◌*◌, ◌^◌, ◌≤◌, ◌<◌, length, get_or, ℤ, pos, nat_abs, ◌-ℤ◌, ◌*ℤ◌}
use Rattle.whole.specs.Sum.{sum}
use Rattle.frames.specs.Frames.{side}
use Rattle.lines.specs.Rows.{row_places, Shown, columns, Even}
use Rattle.weighing.specs.Weighing.{outputs}

-- ---- the gains

-- what a block asks of the gains: at most one for each band, none beyond 16,384; the bands above the last have none
pub record Allowed (bands : ℕ) (gains : List ℤ) : Type 0 where
  pub counted : length gains ≤ bands
  pub range : (i : ℕ) → nat_abs (get_or gains i (pos 0)) ≤ 2 ^ 14

-- the gain differences that the code goes by: at place m - 1 the gain of band m less that of the band above
pub record Differ (g : ℕ → ℤ) (differences : List ℤ) : Type 0 where
  pub at_place : (i : ℕ) → get_or differences i (pos 0) ≡ g (suc i) -ℤ g (suc (suc i))

-- .. each within 2^15
pub record Small (differences : List ℤ) : Type 0 where
  pub range : (i : ℕ) → nat_abs (get_or differences i (pos 0)) ≤ 2 ^ 15

-- a line counts if its difference is not 0: none does from place `top` on
pub record Above (top : ℕ) (differences : List ℤ) : Type 0 where
  pub none : (i : ℕ) → top ≤ i → get_or differences i (pos 0) ≡ pos 0

-- .. and none does before place `low`
pub record Below (low top : ℕ) (differences : List ℤ) : Type 0 where
  pub few : low ≤ top
  pub none : (i : ℕ) → i < low → get_or differences i (pos 0) ≡ pos 0

-- ---- the rows weighed

-- the gain sum of sample i by differences (rule 3.13): the first n of the bands, the top one first; line bands - k stands in row k
abbrev pub gain_sum : (n bands i : ℕ) (matrix differences : List ℤ) → ℤ
gain_sum n bands i matrix differences = sum n (λ k. get_or differences (bands - 1 - k) (pos 0) *ℤ get_or matrix (row_places * k + i) (pos 0))

-- .. of all bands. |r| ≤ bands·2^46 for any places (rule 5.12)
pub record SumDone (bands i : ℕ) (matrix differences : List ℤ) (r : ℤ) : Type 0 where
  pub value : r ≡ gain_sum bands bands i matrix differences
  pub bounded : nat_abs r ≤ bands * 2 ^ 46

-- for any gains g with these differences and g(bands+1) = 0, the outputs of the rows that the matrix shows
pub record RowWeighed (bands : ℕ) (matrix differences outs : List ℤ) : Type 0 where
  pub under : (g : ℕ → ℤ) (rows : List (List ℤ)) → Differ g differences → g (suc bands) ≡ pos 0 → length rows ≡ bands → Even (length outs) rows →
      Shown (length outs) rows matrix → outs ≡ outputs (λ _. g) (columns rows)

-- .. those n outputs put back as side s of a block's frames, each other side as it was before
pub record SideWeighed (channels s n bands : ℕ) (matrix differences before after : List ℤ) : Type 0 where
  pub weighed : RowWeighed bands matrix differences (side channels s n after)
  pub others : (t : ℕ) → t < channels → (t ≡ s → ⊥) → side channels t n after ≡ side channels t n before

-- those outputs under gains g, of the rows that the matrix shows
pub record WeighedUnder (channels s n bands : ℕ) (g : ℕ → ℤ) (matrix before after : List ℤ) : Type 0 where
  pub weighed : (rows : List (List ℤ)) → length rows ≡ bands → Even n rows → Shown n rows matrix → side channels s n after ≡ outputs (λ _. g) (columns rows)
  pub others : (t : ℕ) → t < channels → (t ≡ s → ⊥) → side channels t n after ≡ side channels t n before
