use Rattle.std.proofs.Common.{◌≡◌, ℕ, ◌<◌, ◌≤◌, true, false, rules, arith}
use Rattle.std.specs.Prelude.{Option, Some, None, MatchOption}
use Rattle.std.specs.Float.Ieee.{eq}
use Rattle.std.proofs.lemmas.Iterator.{first_from_Range}
use Rattle.gain.specs.Decibels.{half_decibel}
use Rattle.gain.proofs.decibels.place_of.Goals as goal

-- of what `find` says, what is promised
first : (P N : ℕ → Type 0) (r : Option ℕ) →
    MatchOption r ((k : ℕ) → 0 ≤ k → k < 49 → N k) (λ i. (0 ≤ i) × (i < 49) × P i × ((k : ℕ) → 0 ≤ k → k < i → N k)) →
    MatchOption r ((k : ℕ) → k < 49 → N k) (λ i. (i < 49) × P i)
first P N None h = λ k l. h k (omega arith) l
first P N (Some i) h = (h.1, h.2)

pub returns : goal.returns
returns c =
    let x = c.args.x in
    first (λ (i : ℕ). eq x (half_decibel i) ≡ true) (λ (i : ℕ). eq x (half_decibel i) ≡ false) c.find.result
    (first_from_Range _ _ _ c.find.result (λ (i : ℕ). eq x (half_decibel i) ≡ true) (λ (i : ℕ). eq x (half_decibel i) ≡ false) c.find.ensures.ran
    (λ i q k. search rules) (λ i q k. search rules))
