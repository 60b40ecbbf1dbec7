-- The prototype (rule 2.6): a parameter of the whole tree. One instance is in use.
use Rattle.std.specs.Prelude.{List, [], ◌∷◌, ℕ, length, get_or, ℤ, pos, negsuc, nat_abs}
use Rattle.whole.specs.Sum.{sumℕ}

-- rule 2.6: the coefficients c0, c1, .., and D, the delay of the low-pass
pub record Prototype : Type 0 where
  pub coefficients : List ℤ
  pub centre : ℕ

-- rule 2.2: what stands for 1
abbrev pub scale : ℕ
scale = 100000

-- rule 2.1: c(i)
abbrev pub coefficient : Prototype → ℕ → ℤ
coefficient p i = get_or p.coefficients i (pos 0)

-- rule 2.1: how many coefficients there are
abbrev pub taps : Prototype → ℕ
taps p = length p.coefficients

-- rule 2.4: what the magnitudes add up to
abbrev pub magnitudes : Prototype → ℕ
magnitudes p = sumℕ (taps p) (λ i. nat_abs (coefficient p i))

-- rules 2.2, 2.5: the table in use, D = 9
abbrev pub published : Prototype
published =
    record {
      coefficients =
          pos 313 ∷ pos 0 ∷ negsuc 1337 ∷ pos 0 ∷ pos 3593 ∷ pos 0 ∷ negsuc 8717 ∷ pos 0 ∷ pos 31158 ∷ pos 50000 ∷
          pos 31158 ∷ pos 0 ∷ negsuc 8717 ∷ pos 0 ∷ pos 3593 ∷ pos 0 ∷ negsuc 1337 ∷ pos 0 ∷ pos 313 ∷ [];
      centre = 9;
    }
