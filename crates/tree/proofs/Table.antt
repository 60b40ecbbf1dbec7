-- The facts of the prototype's table (rules 2.1 to 2.4), computed. Assumes nothing.
use mathlib.Core.Path.{◌≡◌, refl}
use mathlib.Core.List.{reverse}
use lib.IntN.{pos}
use Rattle.whole.specs.Sum.{sum, sumℕ}
use Rattle.tree.specs.Prototype.{coefficient, taps, magnitudes, published}

-- rule 2.1: nineteen
pub nineteen : taps published ≡ 19
nineteen = refl

-- rule 2.1: symmetric
pub symmetric : reverse published.coefficients ≡ published.coefficients
symmetric = refl

-- rule 2.3: the sum
pub adds_up : sum (taps published) (coefficient published) ≡ pos 100016
unfolding sum
adds_up = refl

-- rule 2.4: the sum of the magnitudes
pub magnitudes_add_up : magnitudes published ≡ 140240
unfolding sumℕ
magnitudes_add_up = refl
