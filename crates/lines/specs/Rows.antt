-- Bookkeeping: the machine by rows, as the code goes (rule 13.10). A row is some consecutive samples of a line, not past the ring's end. What a
-- reader believes is specs/Cascade; proofs/Interchange shows that both give the same.
use Rattle.std.specs.Prelude.{◌≡◌, cond, List, [], ◌∷◌, ◌++◌, map, ℕ, zero, suc, ◌*◌, ltb, length, take, drop, set, ℤ}
use Rattle.tree.specs.Prototype.{Prototype}
use Rattle.ring.specs.Line.{low_value, late_value}

-- the places of a row in the matrix of rows
abbrev pub row_places : ℕ
row_places = 32

-- the position at the end of a row that may reach the ring's end
abbrev pub wrapped : ℕ → ℕ → ℕ
wrapped size at = cond (ltb at size) at 0

-- one line over a row: the places afterwards, the low row, the aligned row
pub record Lined : Type 0 where
  pub places : List ℤ
  pub low : List ℤ
  pub late : List ℤ

-- a row through all lines: the places afterwards, and each line's aligned row, the top line's first
pub record Rowed : Type 0 where
  pub places : List ℤ
  pub rows : List (List ℤ)

module _ (p : Prototype) (size : ℕ) where
  -- one line over a row: every read of a sample comes before its store
  unfoldable pub line : ℕ → ℕ → List ℤ → List ℤ → Lined
  line L at lines [] = record { places = lines; low = []; late = [] }
  line L at lines (x ∷ xs) =
      let r = line L (suc at) (set lines at x) xs in
      record { places = r.places; low = low_value p lines size at L x ∷ r.low; late = late_value p lines size at L ∷ r.late }

  -- through k lines: the line over the row, then the lines behind it over the low row
  unfoldable pub rowed : ℕ → ℕ → ℕ → List ℤ → List ℤ → Rowed
  rowed zero L at lines xs = record { places = lines; rows = xs ∷ [] }
  rowed (suc k) L at lines xs =
      let l = line L at lines xs in
      let below = rowed k (2 * L) at (drop size lines) l.low in
      record { places = take size l.places ++ below.places; rows = l.late ∷ below.rows }

-- rows of n samples in a matrix, `row_places` each
unfoldable pub Shown : ℕ → List (List ℤ) → List ℤ → Type 0
Shown n [] matrix = Unit {0}
Shown n (row ∷ rows) matrix = (take n matrix ≡ row) × Shown n rows (drop row_places matrix)

-- rows of the same length
unfoldable pub Even : ℕ → List (List ℤ) → Type 0
Even n [] = Unit {0}
Even n (row ∷ rows) = (length row ≡ n) × Even n rows

-- a row put before the aligned samples of the lines below, sample by sample
unfoldable pub before : List ℤ → List (List ℤ) → List (List ℤ)
before [] rest = []
before (a ∷ row) [] = []
before (a ∷ row) (below ∷ rest) = (a ∷ below) ∷ before row rest

-- the rows read by the sample
unfoldable pub columns : List (List ℤ) → List (List ℤ)
columns [] = []
columns (row ∷ []) = map (λ (x : ℤ). x ∷ []) row
columns (row ∷ r ∷ rows) = before row (columns (r ∷ rows))
