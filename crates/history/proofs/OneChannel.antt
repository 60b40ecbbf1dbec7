-- With one channel a block is its samples through the lines, and nothing of frames is left in it. Assumes nothing.
use mathlib.Core.Path.{◌≡◌, refl, ap, ap₂, ◌∙◌}
use mathlib.Core.List.{List, ◌∷◌}
use Prim.Native.Nat.{ℕ, ◌-◌, ◌/◌}
use native.Mathlib.Omega.{arith}
use lib.ListN.{length}
use lib.Seq.{take_all}
use lib.IntN.{ℤ, pos}
use Rattle.frames.specs.Frames.{side_of, places_of}
use Rattle.frames.proofs.Laws.{side-length, one_channel, woven_one, behind_one, places_left}
use Rattle.tree.specs.Prototype.{published}
use Rattle.tree.specs.Signal.{gain_of}
use Rattle.lines.specs.Cascade.{Ran, run}
use Rattle.lines.proofs.Lengths.{run_length}
use Rattle.weighing.specs.Weighing.{outputs}
use Rattle.weighing.proofs.GainSums.{outputs-length}
use Rattle.octave.specs.Memory.{line_length, side_places, memory_of}
use Rattle.octave.specs.Block.{equalised}

module _ (M at : ℕ) (lines gains input : List ℤ) (whole : length lines ≡ side_places M) where
  -- the samples through the lines, with no word of sides
  abbrev ran : Ran
  ran = run published (line_length M) (M - 1) at lines input

  -- what the definition runs for side s
  abbrev sided : ℕ → Ran
  sided s = run published (line_length M) (M - 1) at (places_of (side_places M) s lines) (side_of 1 s input)

  left_is : sided 0 ≡ ran
  left_is =
      ap₂ (λ (l xs : List ℤ). run published (line_length M) (M - 1) at l xs)
      (places_left (side_places M) lines ∙ take_all (side_places M) lines (omega (arith, whole))) (one_channel input)

  outs_length : length (outputs (λ _. gain_of gains) (sided 0).aligned) ≡ length input / 1
  outs_length =
      outputs-length (λ _. gain_of gains) (sided 0).aligned ∙
      run_length published (line_length M) (M - 1) at (places_of (side_places M) 0 lines) (side_of 1 0 input) ∙ side-length 1 0 (length input / 1) input

  pub one_channel_block : equalised (memory_of (record { count = pos M; channels = pos 1; position = pos at; lines = lines })) gains input ≡
      (memory_of (record { count = pos M; channels = pos 1; position = pos ran.position; lines = ran.places }), outputs (λ _. gain_of gains) ran.aligned)
  one_channel_block =
      ap₂ (λ (u v : List ℤ). (u, v))
      (ap₂ (λ (p : ℕ) (l : List ℤ). pos M ∷ pos 1 ∷ pos p ∷ l) (ap (λ (r : Ran). r.position) left_is)
      (behind_one 1 (λ s. (sided s).places) refl ∙ ap (λ (r : Ran). r.places) left_is))
      (woven_one (length input / 1) (λ s. outputs (λ _. gain_of gains) (sided s).aligned) outs_length ∙ ap (λ (r : Ran). outputs (λ _. gain_of gains) r.aligned) left_is)
