-- The block call's refusals: 41 has the place of the first float that is no number, and no refusal changes a sample. Assumes nothing.
use mathlib.Core.Path.{◌≡◌, refl, sym, ap, subst, ◌∙◌}
use mathlib.Core.Bool.{false, false≢true}
use mathlib.Core.List.{List}
use Prim.Native.Nat.{ℕ}
use lib.Dec.{eqb}
use lib.IntN.{ℤ}
use lib.Ieee.{Float, nan}
use lib.ListN.{length}
use Rattle.answers.specs.Answer.{Answer, refused, number_in, place_in}
use Rattle.answers.specs.First.{first_failing, FirstFails, all_pass}
use Rattle.answers.proofs.Firsts.{first_at}
use Rattle.answers.proofs.Laws.{every, eaching, refused_keeps}
use Rattle.floats.specs.Block.{is_number, samples_of, float_checks, from_floats, float_block_answer}
use Rattle.std.specs.Prelude.{Result, Ok, Err}
use Rattle.floats.specs.declared.block.FloatsError.{FloatsError}
use Rattle.floats.specs.declared.block.FloatsError.TheVariants.{BadFloat}

-- what 41 with place i tells of the floats
abbrev Told : List Float → ℕ → Result ℕ FloatsError → Type 0
Told values i r = float_block_answer r ≡ refused 41 i → FirstFails is_number nan values i

module _ (values : List Float) (i : ℕ) where
  -- another answer tells nothing
  not_41 : (r : Result ℕ FloatsError) → eqb (number_in (float_block_answer r)) 41 ≡ false → Told values i r
  not_41 r n e = absurd (false≢true (sym n ∙ ap (λ (a : Answer ℕ). eqb (number_in a) 41) e))

  -- 41 has the first one's place
  is_41 : all_pass is_number values ≡ false → Told values i (Err (BadFloat (first_failing is_number values)))
  is_41 t e = subst (FirstFails is_number nan values) (ap place_in e) (first_at is_number nan values t)

-- refused 41 with a place: there stands a NaN or an infinity, before it none
pub first_float : (values : List Float) (samples : List ℤ) (i : ℕ) → float_block_answer (from_floats values samples).result ≡ refused 41 i →
    FirstFails is_number nan values i
unfolding from_floats
first_float values samples i =
    every samples (samples_of values) (Ok (length values)) (Told values i) (float_checks values samples) (search (eaching, not_41, is_41) depth 20)

-- a refused call leaves the samples as they were
pub refused_unchanged : (values : List Float) (samples : List ℤ) → (number_in (float_block_answer (from_floats values samples).result) ≡ 0 → ⊥) →
    (from_floats values samples).lent ≡ samples
unfolding from_floats
refused_unchanged values samples n = refused_keeps float_block_answer (float_checks values samples) samples (samples_of values) (Ok (length values)) n refl
