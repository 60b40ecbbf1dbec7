-- A sample of the rows, by the line or by the sample. Assumes nothing.
use mathlib.Core.Path.{◌≡◌, refl, sym, ap, ◌∙◌}
use mathlib.Core.List.{List, [], ◌∷◌, map}
use Prim.Native.Nat.{ℕ, zero, suc, ◌+◌, ◌*◌, ◌<◌}
use native.Mathlib.Omega.{arith}
use lib.ListN.{length, get_or, drop, length-map}
use lib.Seq.{get_or-take, get_or-drop}
use lib.IntN.{ℤ, pos}
use Rattle.lines.specs.Rows.{row_places, Shown, Even, before, columns}

pub shown_at : (n i k : ℕ) (rows : List (List ℤ)) (matrix : List ℤ) → i < n → k < length rows → Shown n rows matrix →
    get_or matrix (row_places * k + i) (pos 0) ≡ get_or (get_or rows k []) i (pos 0)
unfolding Shown
shown_at n i k [] matrix h hk sh = absurd (omega arith)
shown_at n i zero (row ∷ rows) matrix h hk sh =
    let none : row_places * 0 + i ≡ i = omega arith in
    ap (λ (j : ℕ). get_or matrix j (pos 0)) none ∙ sym (get_or-take n matrix i (pos 0) h) ∙ ap (λ (l : List ℤ). get_or l i (pos 0)) sh.0
shown_at n i (suc k) (row ∷ rows) matrix h hk sh =
    let on : row_places * suc k + i ≡ row_places + (row_places * k + i) = omega arith in
    ap (λ (j : ℕ). get_or matrix j (pos 0)) on ∙ sym (get_or-drop row_places matrix (row_places * k + i) (pos 0)) ∙ shown_at n i k rows (drop row_places matrix) h (omega arith) sh.1

before_at : (i : ℕ) (row : List ℤ) (rest : List (List ℤ)) → i < length row → i < length rest → get_or (before row rest) i [] ≡ get_or row i (pos 0) ∷ get_or rest i []
unfolding before
before_at i [] rest h k = absurd (omega arith)
before_at i (a ∷ row) [] h k = absurd (omega arith)
before_at zero (a ∷ row) (b ∷ rest) h k = refl
before_at (suc i) (a ∷ row) (b ∷ rest) h k = before_at i row rest (omega arith) (omega arith)

before-length : (n : ℕ) (row : List ℤ) (rest : List (List ℤ)) → length row ≡ n → length rest ≡ n → length (before row rest) ≡ n
unfolding before
before-length n [] rest e f = e
before-length n (a ∷ row) [] e f = absurd (omega arith)
before-length zero (a ∷ row) (b ∷ rest) e f = absurd (omega arith)
before-length (suc n) (a ∷ row) (b ∷ rest) e f = ap suc (before-length n row rest (omega arith) (omega arith))

pub columns-length : (n : ℕ) (row : List ℤ) (rows : List (List ℤ)) → Even n (row ∷ rows) → length (columns (row ∷ rows)) ≡ n
unfolding columns Even
columns-length n row [] e = length-map row (λ (x : ℤ). x ∷ []) ∙ e.0
columns-length n row (r ∷ rows) e = before-length n row (columns (r ∷ rows)) e.0 (columns-length n r rows e.1)

-- one row alone
single : (i : ℕ) (row : List ℤ) → i < length row → get_or (map (λ (x : ℤ). x ∷ []) row) i [] ≡ get_or row i (pos 0) ∷ []
single i [] h = absurd (omega arith)
single zero (a ∷ row) h = refl
single (suc i) (a ∷ row) h = single i row (omega arith)

-- sample i of every row
unfoldable pub column : ℕ → List (List ℤ) → List ℤ
column i [] = []
column i (row ∷ rows) = get_or row i (pos 0) ∷ column i rows

-- .. is entry i of the columns
pub column_is : (n i : ℕ) (row : List ℤ) (rows : List (List ℤ)) → i < n → Even n (row ∷ rows) → get_or (columns (row ∷ rows)) i [] ≡ column i (row ∷ rows)
unfolding columns column Even
column_is n i row [] h e = single i row (omega (arith, e.0))
column_is n i row (r ∷ rows) h e =
    before_at i row (columns (r ∷ rows)) (omega (arith, e.0)) (omega (arith, columns-length n r rows e.1)) ∙
    ap (λ (l : List ℤ). get_or row i (pos 0) ∷ l) (column_is n i r rows h e.1)
