-- Floats to samples by the block, as C calls it.
use Rattle.std.specs.Prelude.{List, [], ◌∷◌, ℕ, ◌^◌, ltb, length, ℤ, Float, Result, Err}
use Rattle.answers.specs.Checks.{check, Outcome, decide}
use Rattle.floats.specs.Block.{from_floats}
use Rattle.floats.specs.declared.block.FloatsError.{FloatsError}
use Rattle.floats.specs.declared.block.FloatsError.TheVariants.{WrongLength}

-- rule 12.10: the library's call, for fewer than 2 ^ 54 floats: a refusal's code has no room for a place beyond (12.5)
unfoldable pub floats_in_c : List Float → List ℤ → Outcome (Result ℕ FloatsError) (List ℤ)
floats_in_c values samples =
    decide (check (ltb (length values) (2 ^ 54)) (Err WrongLength) ∷ []) samples (from_floats values samples).result (from_floats values samples).lent
