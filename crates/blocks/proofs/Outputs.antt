-- A block call that is accepted answers as many outputs as samples, each in range; one that is refused leaves the memory. Assumes nothing.
use mathlib.Core.Path.{◌≡◌, refl, sym, ap, subst, ◌∙◌}
use mathlib.Core.Logic.{⊎_elim}
use Rattle.std.specs.Prelude.{Result, Ok, Err, is_ok}
use Rattle.octave.proofs.Refusals.{block_held}
use mathlib.Core.Bool.{Bool, true, false, cond, false≢true, true≢false}
use mathlib.Core.List.{List, [], ◌∷◌}
use Prim.Native.Nat.{ℕ, zero, suc, ◌%◌}
use borrow.Author.Tests.{eqb-true}
use lib.Dec.{T, eqb}
use lib.ListN.{length, get_or, drop}
use lib.IntN.{ℤ, pos}
use lib.Signed.{lt_z, le_z, ◌≤ℤ◌, lt_z_yes, clash_ℤ}
use Rattle.answers.specs.Answer.{number_in}
use Rattle.answers.specs.Checks.{all_hold, Outcome}
use Rattle.answers.specs.First.{first_failing}
use Rattle.answers.specs.Range.{within, all_within}
use Rattle.answers.specs.Unit.{least_sample, most_sample, largest_gain, unity}
use Rattle.answers.proofs.Ranges.{all_cons, cons_all}
use Rattle.answers.proofs.Laws.{and_left, and_right, all_accept, all_or_first, first_refuses}
use Rattle.whole.specs.Nearest.{nearest}
use Rattle.whole.proofs.Limit.{limit-least, limit_most}
use Rattle.tree.specs.Signal.{gain_of}
use Rattle.frames.specs.Frames.{frame, woven}
use Rattle.frames.proofs.Laws.{whole_frames_lem, woven-length}
use Rattle.samples.proofs.InRange.{all_append}
use Rattle.weighing.specs.Weighing.{out_of, band_sum, outputs}
use Rattle.octave.specs.declared.block.BlockError.{BlockError}
use Rattle.octave.specs.Answer.{block_answer}
use Rattle.octave.specs.Memory.{channels_in, accepts, bands_in}
use Rattle.octave.specs.Block.{frames_of, block_checks, ran_side, equalised, block_of}

-- ---- in range

abbrev pub in_range : ℤ → Bool
in_range = within least_sample most_sample

abbrev pub all_in_range : List ℤ → Bool
all_in_range = all_within least_sample most_sample

pub none_within : (lo hi : ℤ) → all_within lo hi [] ≡ true
unfolding first_failing
none_within lo hi = refl

pub next_in_range : (z : ℤ) (s : List ℤ) → in_range z ≡ true → all_in_range s ≡ true → all_in_range (z ∷ s) ≡ true
next_in_range = cons_all least_sample most_sample

pub in_range_drop : (n : ℕ) (s : List ℤ) → all_in_range s ≡ true → all_in_range (drop n s) ≡ true
in_range_drop zero s e = e
in_range_drop (suc n) [] e = e
in_range_drop (suc n) (z ∷ s) e = in_range_drop n s (all_cons least_sample most_sample z s e).1

true_of : (t : Bool) → T t → t ≡ true
true_of true h = refl
true_of false h = absurd h

between : (lo hi z : ℤ) → lo ≤ℤ z → z ≤ℤ hi → within lo hi z ≡ true
between lo hi z l h = by (lt_z z lo) refl
  where
    by : (t : Bool) → lt_z z lo ≡ t → cond t false (le_z z hi) ≡ true
    by true e = clash_ℤ (lt_z_yes {a = z} {b = lo} (subst T (sym e) tt)) l
    by false e = true_of (le_z z hi) h.le

pub out_in_range : (z : ℤ) → in_range (out_of z) ≡ true
out_in_range z =
    let order : least_sample ≤ℤ most_sample = record { le = tt } in
    between least_sample most_sample (out_of z) (limit-least least_sample most_sample (nearest unity z) order) (limit_most least_sample most_sample (nearest unity z) order)

-- whatever the aligned samples and the gains of each
outputs_in_range : (g : ℕ → ℕ → ℤ) (aligned : List (List ℤ)) → all_in_range (outputs g aligned) ≡ true
unfolding outputs
outputs_in_range g [] = none_within least_sample most_sample
outputs_in_range g (a ∷ rest) =
    next_in_range (out_of (band_sum (g 0) a)) (outputs (λ i. g (suc i)) rest) (out_in_range (band_sum (g 0) a)) (outputs_in_range (λ i. g (suc i)) rest)

-- ---- frames

pub in_range_at : (i : ℕ) (s : List ℤ) → all_in_range s ≡ true → in_range (get_or s i (pos 0)) ≡ true
in_range_at i [] e = refl
in_range_at zero (z ∷ s) e = (all_cons least_sample most_sample z s e).0
in_range_at (suc i) (z ∷ s) e = in_range_at i s (all_cons least_sample most_sample z s e).1

frame_in_range : (c : ℕ) (f : ℕ → ℤ) → ((s : ℕ) → in_range (f s) ≡ true) → all_in_range (frame c f) ≡ true
unfolding frame
frame_in_range zero f e = none_within least_sample most_sample
frame_in_range (suc c) f e = next_in_range (f 0) (frame c (λ s. f (suc s))) (e 0) (frame_in_range c (λ s. f (suc s)) (λ s. e (suc s)))

-- frames of sides in range
pub woven_in_range : (c n : ℕ) (sides : ℕ → List ℤ) → ((s : ℕ) → all_in_range (sides s) ≡ true) → all_in_range (woven c n sides) ≡ true
unfolding woven
woven_in_range c zero sides e = none_within least_sample most_sample
woven_in_range c (suc n) sides e =
    all_append least_sample most_sample (frame c (λ s. get_or (sides s) 0 (pos 0))) (woven c n (λ s. drop 1 (sides s)))
    (frame_in_range c (λ s. get_or (sides s) 0 (pos 0)) (λ s. in_range_at 0 (sides s) (e s)))
    (woven_in_range c n (λ s. drop 1 (sides s)) (λ s. in_range_drop 1 (sides s) (e s)))

module _ (m gains input : List ℤ) where
  -- as many outputs as samples, in whole frames
  pub equalised_long : length input % channels_in m ≡ 0 → length (equalised m gains input).1 ≡ length input
  equalised_long whole = woven-length (channels_in m) (frames_of m input) _ ∙ sym (whole_frames_lem (length input) (channels_in m) whole refl)

  pub equalised_in_range : all_in_range (equalised m gains input).1 ≡ true
  equalised_in_range = woven_in_range (channels_in m) (frames_of m input) _ (λ s. outputs_in_range (λ _. gain_of gains) (ran_side m input s).aligned)

-- ---- the block call

module _ (m gains input before : List ℤ) where
  pub held_ran : all_hold (block_checks m gains input before) ≡ true → block_of m gains input before ≡ record { result = Ok (frames_of m input); lent = equalised m gains input }
  held_ran h = all_accept (m, before) (equalised m gains input) (Ok (frames_of m input)) (block_checks m gains input before) h

  -- .. whose samples are whole frames
  pub held_whole : all_hold (block_checks m gains input before) ≡ true → length input % channels_in m ≡ 0
  unfolding all_hold
  held_whole h =
      let counted = and_right (accepts m) _ h in
      let allowed = and_right (eqb (length gains) (bands_in m)) _ counted in
      let alike = and_right (all_within (pos 0) (pos largest_gain) gains) _ allowed in
      let framed = and_right (eqb (length before) (length input)) _ alike in
      eqb-true (length input % channels_in m) 0 (and_left (eqb (length input % channels_in m) 0) _ framed)

  -- an accepted answer: no check failed
  pub written_held : is_ok (block_of m gains input before).result ≡ true → all_hold (block_checks m gains input before) ≡ true
  written_held e = block_held m gains input before (by (block_of m gains input before).result e)
    where
      by : (b : Result ℕ BlockError) → is_ok b ≡ true → number_in (block_answer b) ≡ 0
      by (Ok n) e = refl
      by (Err r) e = absurd (false≢true e)

  -- .. and a refused one leaves what was lent
  pub refused_kept : is_ok (block_of m gains input before).result ≡ false → (block_of m gains input before).lent ≡ (m, before)
  refused_kept e =
      ⊎_elim (λ h. absurd (true≢false (sym (ap (λ (b : Outcome (Result ℕ BlockError) (List ℤ × List ℤ)). is_ok b.result) (held_ran h)) ∙ e)))
      (λ h. ap (λ (b : Outcome (Result ℕ BlockError) (List ℤ × List ℤ)). b.lent) (first_refuses (m, before) (equalised m gains input) (Ok (frames_of m input)) h.1))
      (all_or_first (block_checks m gains input before))
