-- A chunk's header: whether it is in the front, the length that it states, and its bytes in a row. Assumes nothing.
use mathlib.Core.Path.{◌≡◌, sym, ap, ◌∙◌}
use mathlib.Core.Bool.{Bool, true, false}
use mathlib.Core.List.{List}
use Prim.Native.Nat.{ℕ, ◌+◌, ◌<◌, ◌≤◌}
use native.Mathlib.Omega.{arith}
use lib.ListN.{length, take, drop, length-append}
use lib.Seq.{sets, drop-drop}
use lib.Dec.{leb}
use borrow.Author.Tests.{leb-true, leb-false}
use Rattle.fields.specs.Bytes.{Order, number_in, field, row}
use Rattle.fields.proofs.Rows.{length-row, behind}
use Rattle.chunks.specs.Walk.{header_length, chunk_header, size_in}

-- ---- in the front

-- what a reader's loop is told by the test
module _ (n at : ℕ) (r : Bool) (is : r ≡ leb (at + header_length) n) where
  pub header_there : r ≡ true → at + header_length ≤ n
  header_there t = leb-true (at + header_length) n (sym is ∙ t)

  pub header_gone : r ≡ false → n < at + header_length
  header_gone t = leb-false (at + header_length) n (sym is ∙ t)

-- ---- the length, read at its place in the front

pub size_there : (order : Order) (front : List ℕ) (at : ℕ) → size_in order (drop at front) ≡ field order front (at + 4) 4
unfolding field
size_there order front at = ap (λ (s : List ℕ). number_in order (take 4 s)) (drop-drop 4 at front)

-- ---- the bytes

pub length-header : (order : Order) (name : List ℕ) (size : ℕ) → length name ≡ 4 → length (chunk_header order name size) ≡ header_length
unfolding chunk_header
length-header order name size four = length-append name (row order 4 size) ∙ omega (arith, length-row order 4 size)

pub header_row : (order : Order) (l m n name : List ℕ) (at size : ℕ) → length name ≡ 4 →
    m ≡ sets l at name → n ≡ sets m (at + 4) (row order 4 size) → n ≡ sets l at (chunk_header order name size)
unfolding chunk_header
header_row order l m n name at size four e₁ e₂ = behind l m n name (row order 4 size) at 4 four e₁ e₂
