-- What is read on the bench, and where.
use Rattle.std.specs.Prelude.{List, ℕ, ℤ}
use Rattle.tree.specs.Prototype.{published}
use Rattle.tree.specs.Signal.{signal_of, gain_of}
use Rattle.tree.specs.Tree.{line, band, output}
use Rattle.std.specs.Float.{binary32}
use Rattle.std.specs.Float.Ieee.{of_bits}
use Rattle.answers.specs.Answer.{Answer, accepted, refused}
use Rattle.gain.specs.Answer.{answer_of}
use Rattle.gain.specs.Promise.{command_gain}
use Rattle.gain.specs.declared.Command.TheVariants.{Decibels}

-- rule 14.1: the output under gains, lowest first; a line; a band: each of a tree of M bands, fed with samples and then zeros; and a command
-- of decibels, by the bits of its f32
pub data Reading : Type 0 where
  output_of : (M : ℕ) (gains samples : List ℤ) → Reading
  line_of : (M k : ℕ) (samples : List ℤ) → Reading
  band_of : (M m : ℕ) (samples : List ℤ) → Reading
  decibels_of : (bits : ℕ) → Reading

-- rule 14.1: what the bench shows: a number, or a refusal
pub data Shown : Type 0 where
  number : ℤ → Shown
  refusal : ℕ → Shown

-- rule 14.1: an answer as the bench shows it
abbrev pub shown : Answer ℤ → Shown
shown (accepted g) = number g
shown (refused n place) = refusal n

-- rule 14.1: what the definitions give at n; a gain is the same at every n
unfoldable pub read : Reading → ℕ → Shown
read (output_of M gains samples) n = number (output published M (λ _. gain_of gains) (signal_of samples) n)
read (line_of M k samples) n = number (line published M (signal_of samples) k n)
read (band_of M m samples) n = number (band published M (line published M (signal_of samples)) m n)
read (decibels_of bits) n = shown (answer_of (command_gain (Decibels (of_bits binary32 bits))))

-- rule 14.1: a row of the table, as 313 at 0
pub record Row : Type 0 where
  pub reading : Reading
  pub at : ℕ
  pub value : Shown

-- rule 14.1: a row whose value is a number
abbrev pub row : Reading → ℕ → ℤ → Row
row r n v = record { reading = r; at = n; value = number v }
