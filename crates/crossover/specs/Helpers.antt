-- Bookkeeping: what the private functions ask and answer (rule 13.10). No promise of a public call speaks of it.
use Rattle.std.specs.Prelude.{◌≡◌, true, List, ℕ, ◌%◌, ◌≤◌, ◌<◌, length, get_or, ℤ, pos}
use Rattle.answers.specs.Range.{all_within}
use Rattle.answers.specs.Unit.{largest_gain}
use Rattle.octave.specs.Counts.{Counts}
use Rattle.octave.specs.Helpers.{KeptCounts}

-- ten places: the gains from place `from` on, and 0 before it
pub record FromOn (from : ℕ) (gains r : List ℤ) : Type 0 where
  pub ten : length r ≡ 10
  pub kept : (i : ℕ) → from ≤ i → get_or r i (pos 0) ≡ get_or gains i (pos 0)
  pub below : (i : ℕ) → i < from → get_or r i (pos 0) ≡ pos 0

-- what has been judged when the samples run
pub record Ready (counts : Counts) (memory gains : List ℤ) (s : ℕ) (input low high : List ℤ) : Type 0 where
  pub memory_kept : KeptCounts counts memory
  pub counted : length gains ≡ counts.bands
  pub below : s ≤ counts.bands
  pub allowed : all_within (pos 0) (pos largest_gain) gains ≡ true
  pub low_alike : length low ≡ length input
  pub high_alike : length high ≡ length input
  pub whole : length input % counts.channels ≡ 0
