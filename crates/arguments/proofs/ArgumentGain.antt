-- An argument's gain is the gain command's answer. Assumes nothing.
use mathlib.Core.Path.{◌≡◌, sym, ap, ◌∙◌, subst}
use mathlib.Core.List.{List}
use Prim.Native.Nat.{ℕ, ◌≤◌, ◌<◌}
use native.Mathlib.Omega.{arith}
use lib.IntN.{ℤ, pos, ◌-ℤ◌}
use lib.Ieee.{Float}
use lib.Signed.{mag}
use Rattle.answers.specs.Unit.{largest_gain}
use Rattle.gain.specs.Decibels.{Half}
use Rattle.gain.specs.Promise.{command_gain}
use Rattle.gain.specs.Table.{entry}
use Rattle.gain.specs.declared.GainError.{GainError}
use Rattle.gain.specs.declared.Command.TheVariants.{Decibels}
use Rattle.gain.proofs.Every.{place_range}
use Rattle.gain.proofs.Halves.{accepted_half}
use Rattle.gain.proofs.Table.{entry_small}
use Rattle.std.specs.Prelude.{Option, Some, None, Result, Ok}
use Rattle.std.specs.Result.{result_ok}
use Rattle.arguments.specs.Argument.{place_of, gain_for, argument_of}
use Rattle.arguments.proofs.ArgumentText.{Inside, place_inside}

module _ (s : List ℕ) where
  pub no_argument : None ≡ place_of s → None ≡ argument_of s
  unfolding argument_of
  no_argument e = ap gain_for e

  module _ (i : ℕ) (e : Some i ≡ place_of s) where
    pub inside : i < 49
    inside = subst Inside (sym e) (place_inside s)

    -- a float that has the value (i - 24)/2: the command answers the table's entry
    module _ (x : Float) (h : Half x (pos i -ℤ pos 24)) where
      answered : command_gain (Decibels x) ≡ Ok (pos (entry (pos i -ℤ pos 24)))
      answered = accepted_half x (pos i -ℤ pos 24) (place_range i inside) h

      pub argument_gain : (r : Result ℤ GainError) → r ≡ command_gain (Decibels x) → result_ok r ≡ argument_of s
      unfolding argument_of
      argument_gain r p = ap result_ok (p ∙ answered) ∙ ap gain_for e

-- an argument's gain is from 0 to 16,384
pub gain_small : (s : List ℕ) (g : ℤ) → Some g ≡ argument_of s → (n : ℕ) × ((g ≡ pos n) × (n ≤ largest_gain))
unfolding argument_of
gain_small s g = by (place_of s) (place_inside s)
  where
    by : (p : Option ℕ) → Inside p → Some g ≡ gain_for p → (n : ℕ) × ((g ≡ pos n) × (n ≤ largest_gain))
    by (Some i) l e =
        let r : g ≡ pos (entry (pos i -ℤ pos 24)) = cc in
        (entry (pos i -ℤ pos 24), (r, entry_small (pos i -ℤ pos 24) (place_range i l)))
    by None l e = let z : ◌≡◌ {A = ℕ} 0 1 = cc in absurd (omega arith)

-- .. so it is a machine number
pub argument_small : (s : List ℕ) (g : ℤ) → Some g ≡ argument_of s → mag g < 2147483648
argument_small s g e = let l = gain_small s g e in rw l.1.0 (omega (arith, l.1.1))
