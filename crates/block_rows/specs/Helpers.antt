-- Bookkeeping: what the functions ask and answer (rule 13.10). No promise of a public call speaks of it.
use Rattle.std.specs.Prelude.{◌≡◌, List, ℕ, ◌<◌, length, ℤ}
use Rattle.frames.specs.Helpers.{Scattered}
use Rattle.lines.specs.Cascade.{Ran}
use Rattle.tree.specs.Signal.{gain_of}
use Rattle.weighing.specs.Weighing.{outputs}
use Rattle.weighing.specs.Helpers.{Allowed}

-- a second weighing is asked for: there are gains for it
abbrev pub Asked : List ℤ → Type 0
Asked others = 0 < length others

-- what it asks: gains as a block asks them, and an output as long as the input
pub record Second (bands : ℕ) (others input second : List ℤ) : Type 0 where
  pub allowed : Asked others → Allowed bands others
  pub alike : Asked others → length second ≡ length input

-- one side's places and position, and its outputs put back as side s
pub record SideDone (channels s : ℕ) (r : Ran) (g : ℕ → ℤ) (places : List ℤ) (position : ℕ) (before after : List ℤ) : Type 0 where
  pub places_are : places ≡ r.places
  pub position_is : position ≡ r.position
  pub put : Scattered channels s (outputs (λ _. g) r.aligned) before after

-- .. and, where a second weighing is asked for, its outputs too
pub record BothDone (channels s : ℕ) (r : Ran) (gains others places : List ℤ) (position : ℕ) (before after before₂ after₂ : List ℤ) : Type 0 where
  pub first : SideDone channels s r (gain_of gains) places position before after
  pub again : Asked others → SideDone channels s r (gain_of others) places position before₂ after₂
