-- Bookkeeping: what the functions ask and answer (rule 13.10). No promise of a public call speaks of it.
use Rattle.std.specs.Prelude.{◌≡◌, List, ℕ, ◌-◌, ◌*◌, ◌%◌, ◌≤◌, length, ℤ}
use Rattle.frames.specs.Frames.{woven, behind, places_of}
use Rattle.tree.specs.Prototype.{published}
use Rattle.tree.specs.Signal.{gain_of}
use Rattle.lines.specs.Cascade.{Ran}
use Rattle.lines.specs.Helpers.{Region}
use Rattle.weighing.specs.Weighing.{outputs}
use Rattle.block_rows.specs.Helpers.{Asked}

-- what the samples of all sides ask: one or two channels, just the lines of each, whole frames
pub record Sides (bands size channels : ℕ) (lines input output : List ℤ) : Type 0 where
  pub some : 1 ≤ channels
  pub few : channels ≤ 2
  pub whole : length lines ≡ channels * ((bands - 1) * size)
  pub region : Region published bands size 1 (places_of ((bands - 1) * size) 0 lines)
  pub alike : length output ≡ length input
  pub frames : length input % channels ≡ 0

-- what n frames leave, `ran s` what side s gives: the places of all sides, the position, the outputs
pub record SidesDone (channels n : ℕ) (ran : ℕ → Ran) (g : ℕ → ℤ) (places : List ℤ) (position : ℕ) (outs : List ℤ) : Type 0 where
  pub places_are : places ≡ behind channels (λ s. (ran s).places)
  pub position_is : position ≡ (ran 0).position
  pub outputs_are : outs ≡ woven channels n (λ s. outputs (λ _. g) (ran s).aligned)

-- .. and, where a second weighing is asked for, its outputs too
pub record BothSidesDone (channels n : ℕ) (ran : ℕ → Ran) (gains others places : List ℤ) (position : ℕ) (outs outs₂ : List ℤ) : Type 0 where
  pub first : SidesDone channels n ran (gain_of gains) places position outs
  pub again : Asked others → SidesDone channels n ran (gain_of others) places position outs₂
