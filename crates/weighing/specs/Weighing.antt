-- From the aligned samples of the lines to the outputs: gains enter here alone.
use Rattle.std.specs.Prelude.{List, [], ◌∷◌, ℕ, suc, length, ℤ, pos, ◌+ℤ◌, ◌-ℤ◌, ◌*ℤ◌}
use Rattle.answers.specs.Unit.{least_sample, most_sample, unity}
use Rattle.whole.specs.Nearest.{nearest}
use Rattle.whole.specs.Limit.{limit}

-- rule 3.11: a gain sum over unity, rounded once, limited once
abbrev pub out_of : ℤ → ℤ
out_of z = limit least_sample most_sample (nearest unity z)

-- rule 5.8: g(1)·a(1) + Σ over k = 2..M of g(k)·(a(k) - a(k-1)), from the list a(M), .., a(1)
unfoldable pub band_sum : (ℕ → ℤ) → List ℤ → ℤ
band_sum g [] = pos 0
band_sum g (a ∷ []) = g 1 *ℤ a
band_sum g (a ∷ b ∷ below) = band_sum g (b ∷ below) +ℤ g (length (a ∷ b ∷ below)) *ℤ (a -ℤ b)

-- rules 3.10, 5.8: each sample's output under its own gains: g i m is the gain of band m for sample i
unfoldable pub outputs : (ℕ → ℕ → ℤ) → List (List ℤ) → List ℤ
outputs g [] = []
outputs g (a ∷ rest) = out_of (band_sum (g 0) a) ∷ outputs (λ i. g (suc i)) rest
