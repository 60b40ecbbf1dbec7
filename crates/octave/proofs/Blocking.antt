-- The block call: what the samples' run asks, and its places after the samples. Assumes nothing.
use mathlib.Core.Path.{◌≡◌, sym, ap, ap₂, ◌∙◌}
use mathlib.Core.Bool.{true}
use mathlib.Core.List.{List, [], ◌∷◌}
use Prim.Native.Nat.{ℕ, ◌+◌, ◌-◌, ◌*◌, ◌/◌, ◌%◌, ◌^◌, ◌≤◌, ◌<◌}
use native.Mathlib.Nat.{one-mul}
use native.Mathlib.Omega.{arith}
use native.Mathlib.Decide.{dec_lt}
use borrow.Rule.Slice.PartMut.{put_mid}
use lib.ListN.{length, get_or, take, drop, set, length-drop, get_or-eq_default}
use lib.IntN.{ℤ, pos, nat_abs}
use lib.Signed.{pos-nat_abs}
use mir.Syntax.{w32}
use mir.Val.{to_z}
use mir.Facts.{to_z_pos}
use Rattle.answers.specs.Range.{within, all_within}
use Rattle.answers.specs.Unit.{largest_gain}
use Rattle.answers.proofs.Ranges.{all_at}
use Rattle.whole.proofs.Signed.{about}
use Rattle.tree.specs.Prototype.{published}
use Rattle.tree.specs.Signal.{gain_of}
use Rattle.ring.specs.Line.{next}
use Rattle.lines.specs.Cascade.{Ran, step, run}
use Rattle.octave.specs.Memory.{line_length, side_places, head_places, held_in, memory_of}
use Rattle.weighing.specs.Weighing.{outputs}
use Rattle.octave.specs.Block.{equalised}
use Rattle.weighing.specs.Helpers.{Allowed}
use Rattle.block_rows.specs.Helpers.{Second}
use Rattle.block_sides.specs.Helpers.{Sides, SidesDone}
use Rattle.octave.specs.Helpers.{JudgedAgain}
use Rattle.frames.specs.Frames.{side_of, woven, behind, places_of}
use Rattle.frames.proofs.Laws.{places_length}
use Rattle.octave.proofs.Ranges.{within_parts}
use Rattle.octave.proofs.Layouts.{line_small}
use Rattle.octave.proofs.Memories.{lent_is, memory_with, Accepted, bands_few, channels_few}
use Rattle.block_rows.proofs.Running.{wrapped_inside}

-- ---- the gains

gain_small : (g : ℤ) → within (pos 0) (pos largest_gain) g ≡ true → nat_abs g ≤ 2 ^ 14
gain_small g e = omega (arith, about g, within_parts (pos 0) (pos largest_gain) g e)

pub allowed_gains : (gains : List ℤ) {bands : ℕ} → length gains ≤ bands → all_within (pos 0) (pos largest_gain) gains ≡ true → Allowed bands gains
allowed_gains gains {bands} l e = record { counted = l; range = λ i. by i (dec_lt i (length gains)) }
  where
    by : (i : ℕ) → Dec (i < length gains) → nat_abs (get_or gains i (pos 0)) ≤ 2 ^ 14
    by i (yes h) = gain_small (get_or gains i (pos 0)) (all_at (pos 0) (pos largest_gain) gains e i h)
    by i (no n) = rw (get_or-eq_default gains (pos 0) {n = i} (omega arith)) (omega arith)

-- .. and those of a second weighing
pub asked_again : {bands : ℕ} {others input second : List ℤ} → JudgedAgain bands others input second → Second bands others input second
asked_again {others = others} j = record { allowed = λ asked. allowed_gains others (j.counted asked) j.allowed; alike = j.alike }

-- ---- the samples

-- `next` wraps as the rows do
position_inside : (size k : ℕ) (xs lines : List ℤ) (at : ℕ) → at < size → (run published size k at lines xs).position < size
unfolding run
position_inside size k [] lines at h = h
position_inside size k (x ∷ xs) lines at h =
    position_inside size k xs (step published size k 1 at lines x).places (next size at) (wrapped_inside size (at + 1) (omega arith))

-- the lines as the code lends them
abbrev lent : List ℤ → List ℤ
lent m = take (length m - head_places) (drop head_places m)

module _ {m : List ℤ} {bands channels size from : ℕ} (a : Accepted m bands channels) (es : size ≡ line_length bands) (ef : from ≡ nat_abs (held_in m).position) where
  few : bands ≤ 10
  few = (bands_few a).1

  lent_length : length (held_in m).lines ≡ channels * side_places bands
  lent_length = length-drop head_places m ∙ omega (arith, a.long)

  pub sides_are : {input output : List ℤ} → length output ≡ length input → length input % channels ≡ 0 → Sides bands size channels (lent m) input output
  sides_are alike whole =
      rw (lent_is m, es)
      (record {
        some = (channels_few a).0;
        few = (channels_few a).1;
        whole = lent_length;
        region =
            record {
              some = omega (arith, (bands_few a).0);
              few = few;
              stretch = omega arith;
              sized = ap (λ (k : ℕ). 9 * k) (sym (one-mul (2 ^ (bands - 1))));
              whole = places_length channels (side_places bands) 0 (held_in m).lines lent_length (channels_few a).0;
              small = line_small bands few;
            };
        alike = alike;
        frames = whole;
      })

  pub from_inside : from < size
  from_inside = rw (es, ef) a.inside

  module _ (gains input : List ℤ) {ys outs : List ℤ} {at : ℕ}
      (d : SidesDone channels (length input / channels) (λ s. run published size (bands - 1) from (places_of ((bands - 1) * size) s (lent m)) (side_of channels s input)) (gain_of gains) ys at outs) where
    pub position_small : at < 2 ^ 31
    position_small =
        rw d.position_is
        (omega (arith, position_inside size (bands - 1) (side_of channels 0 input) (places_of ((bands - 1) * size) 0 (lent m)) from from_inside, es, line_small bands few))

    pub equalised_is : (set (put_mid head_places (length m - head_places) m ys) 2 (to_z w32 at), outs) ≡ equalised m gains input
    equalised_is =
        let count : (held_in m).count ≡ pos bands = sym (pos-nat_abs (held_in m).count a.count.not_negative) ∙ ap pos a.bands_are in
        let sides : (held_in m).channels ≡ pos channels = sym (pos-nat_abs (held_in m).channels a.sides.not_negative) ∙ ap pos a.channels_are in
        let done : SidesDone channels (length input / channels) (ran bands channels) (gain_of gains) ys at outs = rw (lent_is m, es, ef) at d in
        let lines = behind channels (λ s. (ran bands channels s).places) in
        let kept : set (put_mid head_places (length m - head_places) m ys) 2 (to_z w32 at) ≡ pos bands ∷ pos channels ∷ pos (ran bands channels 0).position ∷ lines =
        memory_with m ys (to_z w32 at) (omega (arith, a.long)) ∙ ap₂ (λ (b n : ℤ). b ∷ n ∷ to_z w32 at ∷ ys) count sides ∙
        ap₂ (λ (z : ℤ) (l : List ℤ). pos bands ∷ pos channels ∷ z ∷ l) (to_z_pos w32 position_small ∙ ap pos done.position_is) done.places_are in
        ◌∙◌ {b = through bands channels} (ap₂ (λ (u v : List ℤ). (u, v)) kept done.outputs_are) (ap₂ through (sym a.bands_are) (sym a.channels_are))
      where
        -- side s with M bands and c channels
        ran : (M c s : ℕ) → Ran
        ran M c s = run published (line_length M) (M - 1) (nat_abs (held_in m).position) (places_of (side_places M) s (held_in m).lines) (side_of c s input)

        -- memory and output then
        through : (M c : ℕ) → List ℤ × List ℤ
        through M c = (
          memory_of (record { count = pos M; channels = pos c; position = pos (ran M c 0).position; lines = behind c (λ s. (ran M c s).places) }),
          woven c (length input / c) (λ s. outputs (λ _. gain_of gains) (ran M c s).aligned),
        )
