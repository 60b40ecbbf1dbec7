-- A feed is the equaliser with the gains of the other feed's bands read as 0: its sum, its outputs, and what the call writes. Assumes nothing.
use mathlib.Core.Path.{◌≡◌, refl, sym, ap, ap₂, fun_ext, ◌∙◌}
use mathlib.Core.Bool.{Bool, true, false, cond}
use mathlib.Core.List.{List, [], ◌∷◌}
use Prim.Native.Nat.{ℕ, zero, suc, ◌+◌, ◌-◌, ◌≤◌}
use native.Mathlib.Nat.{add-zero, add-suc, suc-add}
use native.Mathlib.Omega.{arith}
use lib.ListN.{length, get_or, take}
use lib.IntN.{ℤ, pos, ◌+ℤ◌, ◌-ℤ◌, ◌*ℤ◌, zero-*ℤ}
use Rattle.answers.specs.First.{first_failing}
use Rattle.answers.specs.Range.{within, all_within}
use Rattle.answers.specs.Unit.{largest_gain}
use Rattle.answers.proofs.Ranges.{all_cons, cons_all}
use Rattle.frames.specs.Frames.{woven}
use Rattle.tree.specs.Signal.{gain_of}
use Rattle.weighing.specs.Weighing.{out_of, band_sum, outputs}
use Rattle.octave.specs.Memory.{channels_in}
use Rattle.octave.specs.Block.{frames_of, ran_side, equalised}
use Rattle.crossover.specs.Feeds.{Feed, bass, horn, goes, feed_sum, feed_outputs, gains_from, feed_gains}
use Rattle.crossover.specs.Cross.{feed_of, crossed}

-- ---- the sum and the outputs of a feed

-- a band of the other feed adds nothing
cond_times : (t : Bool) (g a : ℤ) → cond t (g *ℤ a) (pos 0) ≡ cond t g (pos 0) *ℤ a
cond_times true g a = refl
cond_times false g a = sym (zero-*ℤ a)

module _ (to : ℕ → Bool) (g : ℕ → ℤ) where
  pub feed_sum_is : (a : List ℤ) → feed_sum to g a ≡ band_sum (λ m. cond (to m) (g m) (pos 0)) a
  unfolding feed_sum band_sum
  feed_sum_is [] = refl
  feed_sum_is (a ∷ []) = cond_times (to 1) (g 1) a
  feed_sum_is (a ∷ b ∷ below) =
      let m = suc (suc (length below)) in
      ap₂ ◌+ℤ◌ (feed_sum_is (b ∷ below)) (cond_times (to m) (g m) (a -ℤ b))

  pub feed_outputs_are : (aligned : List (List ℤ)) → feed_outputs to g aligned ≡ outputs (λ _. λ m. cond (to m) (g m) (pos 0)) aligned
  unfolding feed_outputs outputs
  feed_outputs_are [] = refl
  feed_outputs_are (a ∷ rest) = ap₂ (λ (u : ℤ) (v : List ℤ). out_of u ∷ v) (feed_sum_is a) (feed_outputs_are rest)

-- ---- gains that agree from band 1 on weigh alike

module _ (g h : ℕ → ℤ) (e : (m : ℕ) → 1 ≤ m → g m ≡ h m) where
  pub band_sum-ext : (a : List ℤ) → band_sum g a ≡ band_sum h a
  unfolding band_sum
  band_sum-ext [] = refl
  band_sum-ext (a ∷ []) = ap (λ (z : ℤ). z *ℤ a) (e 1 (omega arith))
  band_sum-ext (a ∷ b ∷ below) = ap₂ (λ (u v : ℤ). u +ℤ v *ℤ (a -ℤ b)) (band_sum-ext (b ∷ below)) (e (suc (suc (length below))) (omega arith))

  pub outputs-ext : (aligned : List (List ℤ)) → outputs (λ _. g) aligned ≡ outputs (λ _. h) aligned
  unfolding outputs
  outputs-ext [] = refl
  outputs-ext (a ∷ rest) = ap₂ (λ (u : ℤ) (v : List ℤ). out_of u ∷ v) (band_sum-ext a) (outputs-ext rest)

-- ---- the gains of a feed

pub gains-length : (m : ℕ) (to : ℕ → Bool) (gains : List ℤ) → length (gains_from m to gains) ≡ length gains
unfolding gains_from
gains-length m to [] = refl
gains-length m to (g ∷ gains) = ap suc (gains-length (suc m) to gains)

none_either : (t : Bool) → pos 0 ≡ cond t (pos 0) (pos 0)
none_either true = refl
none_either false = refl

-- beyond the last band both are 0
pub gain_at : (m : ℕ) (to : ℕ → Bool) (gains : List ℤ) (i : ℕ) → get_or (gains_from m to gains) i (pos 0) ≡ cond (to (m + i)) (get_or gains i (pos 0)) (pos 0)
unfolding gains_from
gain_at m to [] i = none_either (to (m + i))
gain_at m to (g ∷ gains) zero = ap (λ (k : ℕ). cond (to k) g (pos 0)) (sym (add-zero m))
gain_at m to (g ∷ gains) (suc i) =
    gain_at (suc m) to gains i ∙ ap (λ (k : ℕ). cond (to k) (get_or gains i (pos 0)) (pos 0)) (suc-add m i ∙ sym (add-suc m i))

-- the gain of band m in a feed
pub feed_gain_lem : (f : Feed) (s : ℕ) (gains : List ℤ) (m : ℕ) → 1 ≤ m → gain_of (feed_gains f s gains) m ≡ cond (goes f s m) (gain_of gains m) (pos 0)
feed_gain_lem f s gains m h =
    let up : 1 + (m - 1) ≡ m = omega arith in
    gain_at 1 (goes f s) gains (m - 1) ∙ ap (λ (k : ℕ). cond (goes f s k) (gain_of gains m) (pos 0)) up

from-within : (m : ℕ) (to : ℕ → Bool) (gains : List ℤ) → all_within (pos 0) (pos largest_gain) gains ≡ true →
    all_within (pos 0) (pos largest_gain) (gains_from m to gains) ≡ true
unfolding gains_from
from-within m to [] e = e
from-within m to (g ∷ gains) e =
    let both = all_cons (pos 0) (pos largest_gain) g gains e in
    cons_all (pos 0) (pos largest_gain) (cond (to m) g (pos 0)) (gains_from (suc m) to gains) (either (to m) both.0) (from-within (suc m) to gains both.1)
  where
    either : (t : Bool) → within (pos 0) (pos largest_gain) g ≡ true → within (pos 0) (pos largest_gain) (cond t g (pos 0)) ≡ true
    either true h = h
    either false h = refl

-- gains read as 0 stay allowed
pub gains-within : (f : Feed) (s : ℕ) (gains : List ℤ) → all_within (pos 0) (pos largest_gain) gains ≡ true → all_within (pos 0) (pos largest_gain) (feed_gains f s gains) ≡ true
gains-within f s gains e = from-within 1 (goes f s) gains e

-- .. and so do the first of them
pub first-within : (s : ℕ) (gains : List ℤ) → all_within (pos 0) (pos largest_gain) gains ≡ true → all_within (pos 0) (pos largest_gain) (take s gains) ≡ true
unfolding first_failing
first-within zero gains e = refl
first-within (suc s) [] e = refl
first-within (suc s) (g ∷ gains) e =
    let both = all_cons (pos 0) (pos largest_gain) g gains e in
    cons_all (pos 0) (pos largest_gain) g (take s gains) both.0 (first-within s gains both.1)

-- ---- the call

-- rule 16.4: each feed is the equaliser's output with the gains of the other feed's bands read as 0
pub feed_is : (f : Feed) (memory gains : List ℤ) (s : ℕ) (input : List ℤ) → feed_of f memory gains s input ≡ (equalised memory (feed_gains f s gains) input).1
feed_is f memory gains s input =
    ap (woven (channels_in memory) (frames_of memory input))
    (fun_ext (λ side.
    let a = (ran_side memory input side).aligned in
    feed_outputs_are (goes f s) (gain_of gains) a ∙
    outputs-ext (λ m. cond (goes f s m) (gain_of gains m) (pos 0)) (gain_of (feed_gains f s gains)) (λ m h. sym (feed_gain_lem f s gains m h)) a))

-- gains that agree from band 1 on do the same to a block
equalised-ext : (memory gains others input : List ℤ) → ((m : ℕ) → 1 ≤ m → gain_of gains m ≡ gain_of others m) → equalised memory gains input ≡ equalised memory others input
equalised-ext memory gains others input e =
    ap (λ (w : ℕ → List ℤ). ((equalised memory gains input).0, woven (channels_in memory) (frames_of memory input) w))
    (fun_ext (λ side. outputs-ext (gain_of gains) (gain_of others) e (ran_side memory input side).aligned))

-- rule 16.3: a pass that weighs with the gains of each feed does all that the call does; the memory does not depend on the gains
pub crossed_is : (memory gains : List ℤ) (s : ℕ) (input : List ℤ) {m low high : List ℤ} (first : List ℤ) → ((b : ℕ) → 1 ≤ b → gain_of first b ≡ gain_of (feed_gains bass s gains) b) →
    (m, low) ≡ equalised memory first input → high ≡ (equalised memory (feed_gains horn s gains) input).1 → (m, low, high) ≡ crossed memory gains s input
crossed_is memory gains s input first same e h =
    ap₂ (λ (p : List ℤ × List ℤ) (l : List ℤ). (p.0, p.1, l)) (e ∙ equalised-ext memory first (feed_gains bass s gains) input same) h ∙
    ap₂ (λ (u v : List ℤ). ((equalised memory gains input).0, u, v)) (sym (feed_is bass memory gains s input)) (sym (feed_is horn memory gains s input))
