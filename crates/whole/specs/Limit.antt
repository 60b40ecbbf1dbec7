-- Limiting.
use Rattle.std.specs.Prelude.{cond, ℤ}
use Rattle.std.specs.Int.Signed.{lt_z}

-- rule 1.6: z where it lies from lo to hi, else the end that it passed
abbrev pub limit : ℤ → ℤ → ℤ → ℤ
limit lo hi z = cond (lt_z z lo) lo (cond (lt_z hi z) hi z)
