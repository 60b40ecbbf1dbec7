-- Numbers and names as bytes.
use Rattle.std.specs.Prelude.{ℕ, zero, suc, ◌+◌, ◌*◌, ◌/◌, ◌%◌, ◌<◌, Bool, true, false, ◌&&◌, List, [], ◌∷◌, reverse, get_or, take, drop, eqb}

-- rule 8.1: each number of a row is a byte
abbrev pub Bytes : List ℕ → Type 0
Bytes s = (i : ℕ) → get_or s i 0 < 256

-- rule 8.1: which byte of a number stands first
pub data Order : Type 0 where
  lowest : Order
  highest : Order

-- rule 8.1: the number that bytes stand for, the lowest first
unfoldable pub number : List ℕ → ℕ
number [] = 0
number (b ∷ s) = b + 256 * number s

-- rule 8.1: the k bytes of a number, the lowest first
unfoldable pub little : ℕ → ℕ → List ℕ
little zero n = []
little (suc k) n = n % 256 ∷ little k (n / 256)

-- rule 8.1: bytes that stand lowest first, in an order; and back. Highest first is the same row from behind
unfoldable pub ordered : Order → List ℕ → List ℕ
ordered lowest s = s
ordered highest s = reverse s

-- rule 8.1: the number that bytes in an order stand for
unfoldable pub number_in : Order → List ℕ → ℕ
number_in order s = number (ordered order s)

-- rule 8.1: the number in the k bytes from a place on
unfoldable pub field : Order → List ℕ → ℕ → ℕ → ℕ
field order s place k = number_in order (take k (drop place s))

-- rule 8.1: the k bytes of a number, in an order
unfoldable pub row : Order → ℕ → ℕ → List ℕ
row order k n = ordered order (little k n)

-- rule 8.1: whether two rows of bytes are equal
unfoldable pub same : List ℕ → List ℕ → Bool
same [] [] = true
same [] (b ∷ t) = false
same (a ∷ s) [] = false
same (a ∷ s) (b ∷ t) = eqb a b && same s t
