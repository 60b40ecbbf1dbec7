-- Bookkeeping: what the private functions ask and answer (rule 13.10). No promise of a public call speaks of it.
use Rattle.std.specs.Prelude.{◌≡◌, true, List, ℕ, ◌%◌, ◌≤◌, length, ℤ, pos}
use Rattle.answers.specs.Range.{all_within}
use Rattle.answers.specs.Unit.{largest_gain}
use Rattle.block_rows.specs.Helpers.{Asked}
use Rattle.octave.specs.Block.{equalised}
use Rattle.octave.specs.Counts.{Counts}
use Rattle.octave.specs.Memory.{counts_in, accepts}

-- an accepted memory of these counts
pub record KeptCounts (counts : Counts) (memory : List ℤ) : Type 0 where
  pub kept : accepts memory ≡ true
  pub counts_are : counts ≡ counts_in memory

-- what has been judged when the samples run; a band above the last gain has none
pub record Judged (counts : Counts) (memory gains input output : List ℤ) : Type 0 where
  pub memory_kept : KeptCounts counts memory
  pub counted : length gains ≤ counts.bands
  pub allowed : all_within (pos 0) (pos largest_gain) gains ≡ true
  pub alike : length output ≡ length input
  pub whole : length input % counts.channels ≡ 0

-- .. and of a second weighing, if it is asked for
pub record JudgedAgain (bands : ℕ) (others input second : List ℤ) : Type 0 where
  pub counted : Asked others → length others ≤ bands
  pub allowed : all_within (pos 0) (pos largest_gain) others ≡ true
  pub alike : Asked others → length second ≡ length input

-- what they leave: the block call's memory and output, and what it would have written under the other gains
pub record Passed (memory gains others input memory' output' second' : List ℤ) : Type 0 where
  pub first : (memory', output') ≡ equalised memory gains input
  pub again : Asked others → second' ≡ (equalised memory others input).1
