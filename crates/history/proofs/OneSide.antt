-- One side of a block call is the block call of one channel, fed with that side: for any accepted memory, whatever its signal places hold (rule 11.11).
-- Assumes nothing.
use mathlib.Core.Path.{◌≡◌, refl, sym, ap, ap₂, ◌∙◌}
use mathlib.Core.Bool.{Bool, true, ◌&&◌}
use mathlib.Core.List.{List, ◌∷◌}
use Prim.Native.Nat.{ℕ, ◌+◌, ◌-◌, ◌*◌, ◌/◌, ◌%◌, ◌≤◌, ◌<◌}
use native.Mathlib.Nat.{mod-one, div-one, one-mul}
use native.Mathlib.Omega.{arith}
use borrow.Author.Tests.{eqb-true, eq-eqb, leb-true, le-leb}
use lib.Dec.{eqb, leb}
use lib.ListN.{length, length-drop}
use lib.IntN.{ℤ, pos, nat_abs}
use lib.Signed.{pos-nat_abs}
use Rattle.std.specs.Prelude.{Ok}
use Rattle.answers.specs.Checks.{all_hold}
use Rattle.answers.specs.Range.{within, all_within}
use Rattle.answers.specs.Unit.{least_sample, most_sample, largest_gain, block_limit}
use Rattle.answers.proofs.Laws.{and_left, and_right, all_accept}
use Rattle.answers.proofs.Ranges.{all_at, at_all}
use Rattle.frames.specs.Frames.{side, side_of, woven, behind, places_of}
use Rattle.frames.proofs.Laws.{whole_frames_lem, place_inside, side-length, side_at, side_of_lem, side-woven, woven-length, places_length, places_behind}
use Rattle.tree.specs.Prototype.{published}
use Rattle.tree.specs.Signal.{gain_of}
use Rattle.lines.specs.Cascade.{Ran}
use Rattle.lines.proofs.Lengths.{run_places, run_length, run_position}
use Rattle.weighing.specs.Weighing.{outputs}
use Rattle.weighing.proofs.GainSums.{outputs-length}
use Rattle.octave.specs.Memory.{line_length, side_places, head_places, held_in, bands_in, channels_in, accepts}
use Rattle.octave.specs.Block.{frames_of, block_checks, ran_side, equalised, block_of}
use Rattle.octave.proofs.Memories.{not_negative, Accepted, accepted_is, accepted_count, accepts_is, channels_few}
use Rattle.history.specs.History.{side_memory}
use Rattle.history.proofs.Accepted.{RanIt}
use Rattle.history.proofs.OneChannel.{one_channel_block}

-- ---- what an accepted call was judged by

-- each check of a call that held
pub record Judged (m gains input before : List ℤ) : Type 0 where
  pub kept : accepts m ≡ true
  pub counted : eqb (length gains) (bands_in m) ≡ true
  pub allowed : all_within (pos 0) (pos largest_gain) gains ≡ true
  pub alike : length before ≡ length input
  pub whole : length input % channels_in m ≡ 0
  pub few : frames_of m input ≤ block_limit
  pub in_range : all_within least_sample most_sample input ≡ true

module _ (m gains input before : List ℤ) where
  pub judged : all_hold (block_checks m gains input before) ≡ true → Judged m gains input before
  unfolding all_hold
  judged h =
      let A : Bool = accepts m in
      let C : Bool = eqb (length gains) (bands_in m) in
      let G : Bool = all_within (pos 0) (pos largest_gain) gains in
      let L : Bool = eqb (length before) (length input) in
      let W : Bool = eqb (length input % channels_in m) 0 in
      let F : Bool = leb (frames_of m input) block_limit in
      let S : Bool = all_within least_sample most_sample input in
      let h1 : (C && (G && (L && (W && (F && (S && true)))))) ≡ true = and_right A (C && (G && (L && (W && (F && (S && true)))))) h in
      let h2 : (G && (L && (W && (F && (S && true))))) ≡ true = and_right C (G && (L && (W && (F && (S && true))))) h1 in
      let h3 : (L && (W && (F && (S && true)))) ≡ true = and_right G (L && (W && (F && (S && true)))) h2 in
      let h4 : (W && (F && (S && true))) ≡ true = and_right L (W && (F && (S && true))) h3 in
      let h5 : (F && (S && true)) ≡ true = and_right W (F && (S && true)) h4 in
      let h6 : (S && true) ≡ true = and_right F (S && true) h5 in
      record {
        kept = and_left A (C && (G && (L && (W && (F && (S && true)))))) h;
        counted = and_left C (G && (L && (W && (F && (S && true))))) h1;
        allowed = and_left G (L && (W && (F && (S && true)))) h2;
        alike = eqb-true (length before) (length input) (and_left L (W && (F && (S && true))) h3);
        whole = eqb-true (length input % channels_in m) 0 (and_left W (F && (S && true)) h4);
        few = leb-true (frames_of m input) block_limit (and_left F (S && true) h5);
        in_range = and_left S true h6;
      }

  pub each_holds : Judged m gains input before → all_hold (block_checks m gains input before) ≡ true
  unfolding all_hold
  each_holds j =
      rw (
        j.kept,
        j.counted,
        j.allowed,
        eq-eqb (length before) (length input) j.alike,
        eq-eqb (length input % channels_in m) 0 j.whole,
        le-leb (frames_of m input) block_limit j.few,
        j.in_range,
      )

-- samples in range are in range on either side
pub side_in_range : (c s n : ℕ) (xs : List ℤ) → s < c → length xs ≡ c * n → all_within least_sample most_sample xs ≡ true → all_within least_sample most_sample (side c s n xs) ≡ true
side_in_range c s n xs l e h =
    at_all least_sample most_sample (side c s n xs)
    (λ i k.
    let inside : i < n = omega (arith, side-length c s n xs) in
    ap (within least_sample most_sample) (side_at c s n i xs inside) ∙
    all_at least_sample most_sample xs h (c * i + s) (omega (arith, e, place_inside c i s n inside l)))

-- ---- one call

module _ (m gains input before : List ℤ) (ran : RanIt m gains input before) (s : ℕ) (below : s < channels_in m) where
  j : Judged m gains input before
  j = judged m gains input before ran.held

  accepted : Accepted m (bands_in m) (channels_in m)
  accepted = accepted_is m (bands_in m) (channels_in m) j.kept refl refl

  some : 0 < channels_in m
  some = (channels_few accepted).0

  pub whole : length input ≡ channels_in m * frames_of m input
  whole = whole_frames_lem (length input) (channels_in m) j.whole refl

  lines_length : length (held_in m).lines ≡ channels_in m * side_places (bands_in m)
  lines_length = length-drop head_places m ∙ omega (arith, accepted.long)

  -- the places of one side
  region_length : (t : ℕ) → t < channels_in m → length (places_of (side_places (bands_in m)) t (held_in m).lines) ≡ side_places (bands_in m)
  region_length t h = places_length (channels_in m) (side_places (bands_in m)) t (held_in m).lines lines_length h

  kept : accepts (side_memory s m) ≡ true
  kept =
      accepts_is (side_memory s m) (accepted_count m j.kept) refl (omega (arith, region_length s below, one-mul (side_places (bands_in m)))) accepted.not_below accepted.inside

  pub frames_same : frames_of (side_memory s m) (side_of (channels_in m) s input) ≡ frames_of m input
  frames_same = div-one (length (side_of (channels_in m) s input)) ∙ side-length (channels_in m) s (frames_of m input) input

  side-judged : Judged (side_memory s m) gains (side_of (channels_in m) s input) (side_of (channels_in m) s before)
  side-judged =
      record {
        kept = kept;
        counted = j.counted;
        allowed = j.allowed;
        alike =
            side-length (channels_in m) s (length before / channels_in m) before ∙ ap (λ (k : ℕ). k / channels_in m) j.alike ∙
            sym (side-length (channels_in m) s (frames_of m input) input);
        whole = mod-one (length (side_of (channels_in m) s input));
        few = omega (arith, frames_same, j.few);
        in_range = side_in_range (channels_in m) s (frames_of m input) input below whole j.in_range;
      }

  -- what each side gives
  abbrev r : ℕ → Ran
  r = ran_side m input

  outs : ℕ → List ℤ
  outs t = outputs (λ _. gain_of gains) (r t).aligned

  outs_length : (t : ℕ) → length (outs t) ≡ frames_of m input
  unfolding outs
  outs_length t =
      outputs-length (λ _. gain_of gains) (r t).aligned ∙
      run_length published (line_length (bands_in m)) (bands_in m - 1) (nat_abs (held_in m).position) (places_of (side_places (bands_in m)) t (held_in m).lines) (side_of (channels_in m) t input) ∙
      side-length (channels_in m) t (frames_of m input) input

  -- the memory of one side, and the output of one side
  side_lent : equalised (side_memory s m) gains (side_of (channels_in m) s input) ≡ (side_memory s (equalised m gains input).0, side_of (channels_in m) s (equalised m gains input).1)
  unfolding outs
  side_lent =
      let k = side_places (bands_in m) in
      let lines = places_of k s (held_in m).lines in
      let count : (held_in m).count ≡ pos (bands_in m) = sym (pos-nat_abs (held_in m).count accepted.count.not_negative) in
      let position : (held_in m).position ≡ pos (nat_abs (held_in m).position) = sym (pos-nat_abs (held_in m).position (not_negative (held_in m).position accepted.not_below)) in
      let same : (r s).position ≡ (r 0).position =
      run_position published (line_length (bands_in m)) (bands_in m - 1) (nat_abs (held_in m).position) lines (places_of k 0 (held_in m).lines) (side_of (channels_in m) s input) (side_of (channels_in m) 0 input)
      (side-length (channels_in m) s (frames_of m input) input ∙ sym (side-length (channels_in m) 0 (frames_of m input) input)) in
      let found : places_of k s (behind (channels_in m) (λ t. (r t).places)) ≡ (r s).places =
      places_behind (channels_in m) k s (λ t. (r t).places)
      (λ t h. run_places published (line_length (bands_in m)) (bands_in m - 1) (nat_abs (held_in m).position) (places_of k t (held_in m).lines) (side_of (channels_in m) t input) (region_length t h)) below in
      let w = woven (channels_in m) (frames_of m input) outs in
      ap₂ (λ (b p : ℤ). equalised (b ∷ pos 1 ∷ p ∷ lines) gains (side_of (channels_in m) s input)) count position ∙
      one_channel_block (bands_in m) (nat_abs (held_in m).position) lines gains (side_of (channels_in m) s input) (region_length s below) ∙
      ap₂ (λ (u v : List ℤ). (u, v))
      (ap₂ (λ (p : ℕ) (l : List ℤ). pos (bands_in m) ∷ pos 1 ∷ pos p ∷ l) same (sym found))
      (sym (side_of_lem (channels_in m) s (frames_of m input) w some (woven-length (channels_in m) (frames_of m input) outs) ∙ side-woven (channels_in m) (frames_of m input) s outs below (outs_length s)))

  -- one side of the call is the call of one channel with that side
  pub side_block : block_of (side_memory s m) gains (side_of (channels_in m) s input) (side_of (channels_in m) s before) ≡
      record { result = Ok (frames_of m input); lent = (side_memory s (equalised m gains input).0, side_of (channels_in m) s (equalised m gains input).1) }
  side_block =
      let m' = side_memory s m in
      let input' = side_of (channels_in m) s input in
      let before' = side_of (channels_in m) s before in
      all_accept (m', before') (equalised m' gains input') (Ok (frames_of m' input')) (block_checks m' gains input' before') (each_holds m' gains input' before' side-judged) ∙
      ap₂ (λ (f : ℕ) (l : List ℤ × List ℤ). record { result = Ok f; lent = l }) frames_same side_lent
