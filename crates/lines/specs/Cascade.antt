-- One sample through the lines, and samples in turn, over any prototype p: lines one behind the other, each of `size` places, all at the
-- position `at`; the stretch of the first is L. No gain stands here: what the lines hold does not depend on any.
use Rattle.std.specs.Prelude.{List, [], ◌∷◌, ◌++◌, ℕ, zero, suc, ◌*◌, take, drop, set, ℤ}
use Rattle.tree.specs.Prototype.{Prototype}
use Rattle.ring.specs.Line.{next, low_value, late_value}

-- rules 5.7, 5.8: the places after one sample, and the aligned samples a(M), .., a(1), the top line's first
pub record Stepped : Type 0 where
  pub places : List ℤ
  pub aligned : List ℤ

-- rule 5.9: the places and the position after some samples, and the aligned samples of each
pub record Ran : Type 0 where
  pub places : List ℤ
  pub position : ℕ
  pub aligned : List (List ℤ)

module _ (p : Prototype) (size : ℕ) where
  -- rules 5.7 to 5.10: through k lines. The low sample goes to the lines behind this one, the stretch doubled; below the last line it is a(1)
  unfoldable pub step : ℕ → ℕ → ℕ → List ℤ → ℤ → Stepped
  step zero L at lines x = record { places = lines; aligned = x ∷ [] }
  step (suc k) L at lines x =
      let below = step k (2 * L) at (drop size lines) (low_value p lines size at L x) in
      record { places = take size (set lines at x) ++ below.places; aligned = late_value p lines size at L ∷ below.aligned }

  -- rule 5.9: samples in turn, through k lines from the position `at` on
  unfoldable pub run : ℕ → ℕ → List ℤ → List ℤ → Ran
  run k at lines [] = record { places = lines; position = at; aligned = [] }
  run k at lines (x ∷ xs) =
      let s = step k 1 at lines x in
      let r = run k (next size at) s.places xs in
      record { places = r.places; position = r.position; aligned = s.aligned ∷ r.aligned }
