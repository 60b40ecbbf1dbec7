-- Bookkeeping: what the machine's functions ask and answer (rule 13.10). They are helpers of the calls, which have judged their input.
use Rattle.std.specs.Prelude.{◌≡◌, List, ◌++◌, ℕ, ◌+◌, ◌-◌, ◌*◌, ◌^◌, ◌≤◌, ◌<◌, length, take, drop, ℤ}
use Rattle.tree.specs.Prototype.{Prototype}
use Rattle.lines.specs.Rows.{row_places, Lined, Rowed, Shown}

-- ---- a row, in a matrix of rows

-- what a part of a row asks: the samples from `from` to `to` of the first row, at the position `at` and not past the ring's end, and a row behind it
pub record Part (p : Prototype) (lines : List ℤ) (size at L from to : ℕ) (matrix : List ℤ) : Type 0 where
  pub ordered : from ≤ to
  pub before_end : at + to ≤ size
  pub reach : 2 * (p.centre * L) ≤ size
  pub some : 1 ≤ L
  pub held : size ≤ length lines
  pub small : size ≤ 4608
  pub short : to ≤ row_places
  pub room : 2 * row_places ≤ length matrix

-- .. and what is known of the taps of each of its samples, if there are any: those up to back·L back stand before the position, those from
-- round·L back on around the end (none is known to where `round` is above the last, 18)
abbrev pub Between : (back round L at from to : ℕ) → Type 0
Between back round L at from to = from < to → (back * L ≤ at + from) × (round ≤ 18 → at + to ≤ round * L)

-- what it leaves: the line run over the part; its aligned samples in the first row and its low samples in the second, each behind those that
-- stood there; the samples behind the part as they were
pub record LineDone (l : Lined) (from to : ℕ) (matrix₀ places matrix : List ℤ) : Type 0 where
  pub places_are : places ≡ l.places
  pub late_is : take to (take row_places matrix) ≡ take from (take row_places matrix₀) ++ l.late
  pub low_is : take to (drop row_places matrix) ≡ take from (drop row_places matrix₀) ++ l.low
  pub unread : drop to (take row_places matrix) ≡ drop to (take row_places matrix₀)

-- ---- the cascade

-- just the lines of so many bands at stretch L, each of `size` places
pub record Region (p : Prototype) (bands size L : ℕ) (lines : List ℤ) : Type 0 where
  pub some : 1 ≤ bands
  pub few : bands ≤ 10
  pub stretch : 1 ≤ L
  pub sized : size ≡ p.centre * (L * 2 ^ (bands - 1))
  pub whole : length lines ≡ (bands - 1) * size
  pub small : size ≤ 4608

-- what a row of n samples through them asks: not longer than a row of the matrix, not past the ring's end, and a matrix with a row for each line
pub record RowRegion (p : Prototype) (bands size at L n : ℕ) (lines matrix : List ℤ) : Type 0 where
  pub region : Region p bands size L lines
  pub short : n ≤ row_places
  pub before_end : at + n ≤ size
  pub room : row_places * bands ≤ length matrix

-- what it leaves
pub record RowsDone (r : Rowed) (n : ℕ) (places matrix : List ℤ) : Type 0 where
  pub places_are : places ≡ r.places
  pub shown : Shown n r.rows matrix
