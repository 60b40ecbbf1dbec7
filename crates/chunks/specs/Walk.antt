-- The walk over the chunks of a front, for any file format: what a chunk means is the format's `step`.
use Rattle.std.specs.Prelude.{ℕ, zero, suc, ◌+◌, ◌%◌, Bool, ◌&&◌, cond, List, ◌++◌, length, take, drop, replicate, leb}
use Rattle.fields.specs.Bytes.{Order, field, row, same}

-- rule 8.3: a file's name, its length and the name of its form come before the first chunk
abbrev pub form_length : ℕ
form_length = 12

-- rule 8.3: whether a front starts with a name and a form
abbrev pub is_form : (front name form : List ℕ) → Bool
is_form front name form = leb form_length (length front) && (same (take 4 front) name && same (take 4 (drop 8 front)) form)

-- rule 8.4: a chunk's header is its name and the length of its contents, four bytes each
abbrev pub header_length : ℕ
header_length = 8

-- rule 8.4: such a header
unfoldable pub chunk_header : Order → List ℕ → ℕ → List ℕ
chunk_header order name size = name ++ row order 4 size

-- rule 8.4: the length that a chunk's header states; `rest` is the front from the chunk on
abbrev pub size_in : Order → List ℕ → ℕ
size_in order rest = field order rest 4 4

-- rule 8.4: whether a chunk has a name
abbrev pub named : List ℕ → List ℕ → Bool
named rest name = same (take 4 rest) name

-- rule 8.4: how many bytes follow contents of a length, which that length does not count: one if it is odd
abbrev pub padding : ℕ → ℕ
padding size = size % 2

-- rule 8.4: the bytes that such contents take
abbrev pub padded : ℕ → ℕ
padded size = size + padding size

-- rule 8.4: where the next chunk starts
unfoldable pub next : ℕ → ℕ → ℕ
next at size = at + header_length + padded size

-- rule 8.15: the pad that is written behind contents of a length: a zero byte, or none
abbrev pub pad : ℕ → List ℕ
pad size = replicate (padding size) 0

-- rule 8.6: whether a chunk's contents are all in the front
abbrev pub contained : Order → List ℕ → Bool
contained order rest = leb (header_length + size_in order rest) (length rest)

-- rule 8.4: what a chunk comes to: the answer, or on to the next chunk with what was met so far
pub data Step (Met Answer : Type 0) : Type 0 where
  ends : Answer → Step Met Answer
  on : Met → Step Met Answer

-- a format: its byte order, its answer to a header that is cut off, and what a chunk at a place comes to
module _ (order : Order) {Met Answer : Type 0} (cut : Answer) (step : List ℕ → ℕ → Met → Step Met Answer) where
  -- rule 8.5: first, whether the header is wholly in the front
  unfoldable pub visit : List ℕ → ℕ → Met → Step Met Answer
  visit rest at met = cond (leb header_length (length rest)) (step rest at met) (ends cut)

  -- rule 8.4: an answer ends the walk; else it goes on at the next chunk
  abbrev pub follow : (ℕ → Met → Answer) → ℕ → Step Met Answer → Answer
  follow walk place (ends answer) = answer
  follow walk place (on met) = walk place met

  -- rules 8.4, 8.11: the walk from a place on, for a number of steps; a front has fewer chunks than bytes, so that as many steps as bytes are never spent
  unfoldable pub walk : ℕ → List ℕ → ℕ → Met → Answer
  walk zero front at met = cut
  walk (suc steps) front at met = follow (walk steps front) (next at (size_in order (drop at front))) (visit (drop at front) at met)
