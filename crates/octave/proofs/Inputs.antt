-- The input as it is judged: what a refusal tells, and what is known where there is none. Assumes nothing.
use mathlib.Core.Path.{◌≡◌, refl, ap, ◌∙◌}
use mathlib.Core.Bool.{Bool, true, false, cond}
use mathlib.Core.List.{List, [], ◌∷◌}
use Prim.Native.Nat.{ℕ, ◌/◌, ◌%◌}
use lib.Dec.{eqb, leb}
use lib.ListN.{length}
use lib.IntN.{ℤ}
use Rattle.std.specs.Prelude.{Result, Ok, Err}
use Rattle.answers.specs.Checks.{check, choose, decide, Done}
use Rattle.answers.specs.Range.{first_outside, all_within}
use Rattle.answers.specs.Unit.{least_sample, most_sample, block_limit}
use Rattle.octave.specs.declared.input.InputError.{InputError}
use Rattle.octave.specs.declared.input.InputError.TheVariants.{PartFrame, TooLong, Sample}
use Rattle.octave.specs.Counts.{Counts}
use Rattle.octave.specs.Memory.{channels_in}
use Rattle.octave.specs.Input.{input_of}
use Rattle.octave.specs.Helpers.{KeptCounts}

-- an input that is not refused
pub record Right (c : ℕ) (input : List ℤ) (frames : ℕ) : Type 0 where
  pub whole : eqb (length input % c) 0 ≡ true
  pub short : leb (length input / c) block_limit ≡ true
  pub samples : all_within least_sample most_sample input ≡ true
  pub frames_are : frames ≡ length input / c

-- the checks of the input, at the end of a call's own
module _ {R L : Type 0} (before after : L) (result : R) (of : InputError → R) (c : ℕ) (input : List ℤ) where
  pub input_refused : (e : InputError) → Err e ≡ input_of c input →
      Done (decide (
      check (eqb (length input % c) 0) (of PartFrame) ∷
      check (leb (length input / c) block_limit) (of TooLong) ∷
      check (all_within least_sample most_sample input) (of (Sample (first_outside least_sample most_sample input))) ∷ [])
      before result after) (of e) before
  unfolding choose decide
  input_refused e = by (eqb (length input % c) 0) (leb (length input / c) block_limit) (all_within least_sample most_sample input)
    where
      by : (t u v : Bool) → Err e ≡ cond t (cond u (cond v (Ok (length input / c)) (Err (Sample (first_outside least_sample most_sample input)))) (Err TooLong)) (Err PartFrame) →
          Done (decide (check t (of PartFrame) ∷ check u (of TooLong) ∷ check v (of (Sample (first_outside least_sample most_sample input))) ∷ []) before result after) (of e) before
      by false u v h = let is : e ≡ PartFrame = cc in record { result_is = ap of is; lent_is = refl }
      by true false v h = let is : e ≡ TooLong = cc in record { result_is = ap of is; lent_is = refl }
      by true true false h = let is : e ≡ Sample (first_outside least_sample most_sample input) = cc in record { result_is = ap of is; lent_is = refl }
      by true true true h = absurd cc

  pub input_accepted : {frames : ℕ} → Right c input frames → {r : R} {lent : L} → r ≡ result → lent ≡ after →
      Done (decide (
      check (eqb (length input % c) 0) (of PartFrame) ∷
      check (leb (length input / c) block_limit) (of TooLong) ∷
      check (all_within least_sample most_sample input) (of (Sample (first_outside least_sample most_sample input))) ∷ [])
      before result after) r lent
  unfolding decide
  input_accepted right d l = rw (right.whole, right.short, right.samples) (record { result_is = d; lent_is = l })

pub input_right : (c : ℕ) (input : List ℤ) (frames : ℕ) → Ok frames ≡ input_of c input → Right c input frames
unfolding choose
input_right c input frames = by (eqb (length input % c) 0) (leb (length input / c) block_limit) (all_within least_sample most_sample input) refl refl refl
  where
    by : (t u v : Bool) → eqb (length input % c) 0 ≡ t → leb (length input / c) block_limit ≡ u → all_within least_sample most_sample input ≡ v →
        Ok frames ≡ cond t (cond u (cond v (Ok (length input / c)) (Err (Sample (first_outside least_sample most_sample input)))) (Err TooLong)) (Err PartFrame) → Right c input frames
    by false u v p q r h = absurd cc
    by true false v p q r h = absurd cc
    by true true false p q r h = absurd cc
    by true true true p q r h = record { whole = p; short = q; samples = r; frames_are = cc }

-- what it is judged as by the counts of a memory
pub input_kept : {m : List ℤ} {k : Counts} → KeptCounts k m → (input : List ℤ) {r : Result ℕ InputError} → r ≡ input_of k.channels input → r ≡ input_of (channels_in m) input
input_kept h input e = e ∙ ap (λ (x : Counts). input_of x.channels input) h.counts_are
