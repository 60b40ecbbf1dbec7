-- The reader's answer can be returned, and what it found fits its five places: by the cases of its answer. Assumes nothing.
use mathlib.Core.Path.{◌≡◌, refl}
use mathlib.Core.List.{List, [], ◌∷◌}
use Prim.Native.Nat.{ℕ, ◌≤◌}
use native.Mathlib.Omega.{arith}
use lib.Dec.{lit<}
use lib.ListN.{length}
use Rattle.answers.specs.Answer.{Answer, accepted, refused}
use Rattle.answers.specs.Unit.{front_length}
use Rattle.samples.specs.Channels.{count_of}
use Rattle.samples.specs.Format.{bits_of}
use Rattle.wave.specs.Walk.{read_of}
use Rattle.wave.specs.declared.found.Found.{Found}
use Rattle.wave.proofs.Answers.{Told, accepts, refuses, read_told, accepted_start}
use Rattle.parts.specs.Found.{of_found}
use Rattle.capi.specs.Found.{found_after}
use Rattle.encoding.specs.Parts.{Counted}
use Rattle.capi.specs.Private.{StartFits}

pub read_counted : (lent : List ℕ) → Counted (of_found (read_of lent))
read_counted lent = by (read_of lent) (read_told lent)
  where
    by : {P : Found → Type 0} (a : Answer Found) → Told P 25 a → Counted (of_found a)
    by (accepted f) (accepts p) = search lit<
    by (refused n place) (refuses l m) = (omega arith, omega arith, search lit<)

-- ---- the five places

pub start_fits : (lent : List ℕ) → StartFits (read_of lent)
start_fits lent = by (read_of lent) (λ f e. accepted_start lent f e)
  where
    by : (a : Answer Found) → ((f : Found) → a ≡ accepted f → f.start ≤ front_length) → StartFits a
    by (accepted f) h = omega (arith, h f refl)
    by (refused number place) h = tt

-- five places are all set, whatever they held
pub found_is : (f : Found) (old : List ℕ) → length old ≡ 5 →
    found_after (accepted f) old ≡ f.rate ∷ bits_of f.format ∷ f.size ∷ f.start ∷ count_of f.channels ∷ []
found_is f (p ∷ q ∷ r ∷ s ∷ t ∷ []) h = refl
found_is f [] h = absurd (omega arith)
found_is f (p ∷ []) h = absurd (omega arith)
found_is f (p ∷ q ∷ []) h = absurd (omega arith)
found_is f (p ∷ q ∷ r ∷ []) h = absurd (omega arith)
found_is f (p ∷ q ∷ r ∷ s ∷ []) h = absurd (omega arith)
found_is f (p ∷ q ∷ r ∷ s ∷ t ∷ u ∷ v) h = absurd (omega arith)
