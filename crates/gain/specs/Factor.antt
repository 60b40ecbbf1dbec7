-- A factor. A finite float is `fin s m e`: the number m·2^e, negative where s is true; 2^e is the fraction up e / down e.
use Rattle.std.specs.Prelude.{ℕ, ◌+◌, ◌*◌, ◌/◌, Bool, true, false, cond, pos, ◌==◌, nat_le, Float, Result, Ok, Err, ℤ}
use Rattle.std.specs.Float.{nan, inf, fin}
use Rattle.std.specs.Float.Ieee.{up, down}
use Rattle.answers.specs.Unit.{unity}
use Rattle.gain.specs.declared.GainError.{GainError}
use Rattle.gain.specs.declared.GainError.TheVariants.{NotFactor}

-- rule 7.5: ±v/d is from 0 to 4, both included, -0.0 as 0
abbrev pub up_to_four : Bool → ℕ → ℕ → Bool
up_to_four true v d = v == 0
up_to_four false v d = nat_le v (4 * d)

-- rule 7.6: a/b to the nearest whole number, a tie upward: a half more, cut
abbrev pub nearest_up : ℕ → ℕ → ℕ
nearest_up a b = (2 * a + b) / (2 * b)

-- rule 7.6: of the factor ±v/d: that many times unity, rounded
unfoldable pub times_gain : Bool → ℕ → ℕ → Result ℤ GainError
times_gain s v d = cond (up_to_four s v d) (Ok (pos (nearest_up (unity * v) d))) (Err NotFactor)

-- rule 7.5: of the factor ±m·2^e; a NaN and the infinities have no gain
unfoldable pub factor_gain : Float → Result ℤ GainError
unfolding times_gain
factor_gain nan = Err NotFactor
factor_gain (inf s) = Err NotFactor
factor_gain (fin s m e) = times_gain s (m * up e) (down e)
