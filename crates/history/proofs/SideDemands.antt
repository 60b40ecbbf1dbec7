-- The demands for each side: what holds of the equaliser of one channel holds of either side of two (rule 11.11); what one side is handed the other does not
-- notice (rule 11.12), but a bad sample, which refuses the block for both (rule 11.13). Assumes nothing.
use mathlib.Core.Path.{◌≡◌, refl, sym, ap, ap₂, ◌∙◌}
use mathlib.Core.Bool.{true, false, cond, false≢true}
use mathlib.Core.List.{List, [], ◌∷◌, ◌++◌}
use Prim.Native.Nat.{ℕ, ◌+◌, ◌-◌, ◌*◌, ◌/◌, ◌^◌, ◌≤◌, ◌<◌}
use native.Mathlib.Nat.{div-add-mod}
use native.Mathlib.Omega.{arith}
use lib.Dec.{ltb}
use lib.ListN.{length, get_or}
use lib.IntN.{ℤ, pos, neg_ℤ, nat_abs, ◌-ℤ◌, ◌*ℤ◌}
use lib.Signed.{◌<ℤ◌}
use Rattle.std.specs.Prelude.{Ok}
use Rattle.answers.specs.Answer.{number_in}
use Rattle.answers.specs.Range.{within}
use Rattle.answers.specs.Unit.{least_sample, most_sample, least_place, most_place, unity}
use Rattle.answers.proofs.Laws.{refused_keeps}
use Rattle.answers.proofs.Ranges.{all_at}
use Rattle.whole.specs.Nearest.{nearest}
use Rattle.whole.specs.Limit.{limit}
use Rattle.frames.specs.Frames.{side_of}
use Rattle.frames.proofs.Laws.{place_inside, side-length, side_at}
use Rattle.tree.specs.Prototype.{published}
use Rattle.tree.specs.Signal.{back, signal_of, gain_of}
use Rattle.tree.specs.Tree.{low_pass, level, delay, output}
use Rattle.tree.specs.Exact.{common_scale, slack, farthest}
use Rattle.octave.specs.Answer.{block_answer}
use Rattle.octave.specs.Memory.{channels_in, prepared}
use Rattle.octave.specs.Block.{frames_of, block_checks, equalised, block_of}
use Rattle.history.specs.History.{Call, played, AllAccepted, joined, carried, from, written, exact, side_calls, written_on, SameSide}
use Rattle.history.proofs.Accepted.{unnumbered_ran}
use Rattle.history.proofs.WholeHistory.{whole_history, cutting_alike}
use Rattle.history.proofs.Demands.{limit_never_acts, written_near, written_within_302, written_equal, loud_above, loud_below}
use Rattle.history.proofs.Sides.{side_accepted, side-played, side-joined, as_long}

module _ (M c s : ℕ) (least : 2 ≤ M) (most : M ≤ 10) (below : s < c) (cs : List Call) (all : AllAccepted (prepared M c) cs) where
  -- one side of the calls
  abbrev mine : List Call
  mine = side_calls c s cs

  taken : AllAccepted (prepared M 1) (side_calls c s cs)
  taken = side_accepted M c s below cs all

  -- ---- the second demand

  -- rule 11.2: one side of the outputs joined is the tree's for that side of the samples
  pub side_history : side_of c s (played (prepared M c) cs).output ≡ from 0 (length (joined mine)) (output published M (carried mine) (signal_of (joined mine)))
  side_history = side-played M c s below cs all ∙ whole_history M least most mine taken

  -- ---- the 32-bit limit

  -- rule 5.11
  pub side_never_limited : (n j : ℕ) → j < 9 →
      limit least_place most_place (low_pass published (2 ^ j) (level published j (signal_of (joined mine))) n) ≡ low_pass published (2 ^ j) (level published j (signal_of (joined mine))) n
  side_never_limited n = limit_never_acts (prepared M 1) mine taken n

  -- ---- the third demand, for the output of frame n

  module _ (n : ℕ) (inside : n < length (joined mine)) where
    -- it is what the equaliser of one channel wrote for that side
    pub side-written : written_on M c s cs n ≡ written M mine n
    side-written =
        let out = (played (prepared M c) cs).output in
        let frames : length (joined mine) ≡ length out / c =
        ap length (side-joined M c s below cs all) ∙ side-length c s (length (joined cs) / c) (joined cs) ∙ ap (λ (k : ℕ). k / c) (sym (as_long M c s below cs all)) in
        sym (side_at c s (length out / c) n out (omega (arith, frames))) ∙ ap (λ (l : List ℤ). get_or l n (pos 0)) (side-played M c s below cs all)

    -- rule 11.5
    pub side_near : nat_abs (pos (unity * common_scale M) *ℤ written_on M c s cs n -ℤ exact M mine n) ≤ 2048 * common_scale M + slack published M (carried mine) n
    side_near = rw side-written (written_near M least most mine taken n inside)

    -- rule 11.6
    pub side_within_302 : nat_abs (pos (unity * common_scale M) *ℤ written_on M c s cs n -ℤ exact M mine n) ≤ farthest * (unity * common_scale M)
    side_within_302 = rw side-written (written_within_302 M least most mine taken n inside)

    -- rule 11.7
    pub side_equal : (G : ℤ) → ((m : ℕ) → 1 ≤ m → m ≤ M → carried mine n m ≡ G) →
        written_on M c s cs n ≡ limit least_sample most_sample (nearest unity (G *ℤ back (signal_of (joined mine)) n (delay published M)))
    side_equal G e = side-written ∙ written_equal M least most mine taken n inside G e

    -- rule 11.8
    pub side_loud_above : pos (farthest * (unity * common_scale M)) <ℤ exact M mine n → pos 0 <ℤ written_on M c s cs n
    side_loud_above h = rw side-written (loud_above M least most mine taken n inside h)

    pub side_loud_below : exact M mine n <ℤ neg_ℤ (pos (farthest * (unity * common_scale M))) → written_on M c s cs n <ℤ pos 0
    side_loud_below h = rw side-written (loud_below M least most mine taken n inside h)

-- ---- two runs that agree on one side

same-joined : (c s : ℕ) (cs ds : List Call) → SameSide c s cs ds → joined (side_calls c s cs) ≡ joined (side_calls c s ds)
unfolding SameSide side_calls joined
same-joined c s [] [] e = refl
same-joined c s [] (d ∷ ds) e = absurd e
same-joined c s (d ∷ cs) [] e = absurd e
same-joined c s (d ∷ cs) (b ∷ ds) e = ap₂ ◌++◌ e.1 (same-joined c s cs ds e.2)

same-carried : (c s : ℕ) (cs ds : List Call) → SameSide c s cs ds → (n m : ℕ) → carried (side_calls c s cs) n m ≡ carried (side_calls c s ds) n m
unfolding SameSide side_calls carried
same-carried c s [] [] e n m = refl
same-carried c s [] (d ∷ ds) e n m = absurd e
same-carried c s (d ∷ cs) [] e n m = absurd e
same-carried c s (d ∷ cs) (b ∷ ds) e n m =
    let k = length (side_of c s d.input) in
    ap₂ (λ (g : List ℤ) (z : ℤ). cond (ltb n k) (gain_of g m) z) e.0 (same-carried c s cs ds e.2 (n - k) m) ∙
    ap (λ (l : List ℤ). cond (ltb n (length l)) (gain_of b.gains m) (carried (side_calls c s ds) (n - length l) m)) e.1

-- the same gains and the same samples on one side, so blocks of the same lengths: the same output there, whatever the other side was handed
pub same-side : (M c s : ℕ) → 2 ≤ M → M ≤ 10 → s < c → (cs ds : List Call) → AllAccepted (prepared M c) cs → AllAccepted (prepared M c) ds → SameSide c s cs ds →
    side_of c s (played (prepared M c) cs).output ≡ side_of c s (played (prepared M c) ds).output
same-side M c s l h below cs ds a b e =
    side-played M c s below cs a ∙
    (cutting_alike M l h (side_calls c s cs) (side_calls c s ds) (side_accepted M c s below cs a) (side_accepted M c s below ds b) (same-joined c s cs ds e)
    (λ n m _. same-carried c s cs ds e n m)).0 ∙
    sym (side-played M c s below ds b)

-- ---- a bad sample on one side

-- refuses the block for both, and nothing is changed
pub bad_side : (m gains input before : List ℤ) (s i : ℕ) → s < channels_in m → i < frames_of m input →
    within least_sample most_sample (get_or (side_of (channels_in m) s input) i (pos 0)) ≡ false →
    (number_in (block_answer (block_of m gains input before).result) ≡ 0 → ⊥) × ((block_of m gains input before).lent ≡ (m, before))
bad_side m gains input before s i below inside bad =
    (refused, refused_keeps block_answer (block_checks m gains input before) (m, before) (equalised m gains input) (Ok (frames_of m input)) refused refl)
  where
    refused : number_in (block_answer (block_of m gains input before).result) ≡ 0 → ⊥
    refused e =
        let c = channels_in m in
        let place : c * i + s < length input = omega (arith, place_inside c i s (frames_of m input) inside below, div-add-mod (length input) c) in
        let good : within least_sample most_sample (get_or input (c * i + s) (pos 0)) ≡ true =
        all_at least_sample most_sample input (unnumbered_ran m gains input before e).in_range (c * i + s) place in
        false≢true (sym bad ∙ ap (within least_sample most_sample) (side_at c s (frames_of m input) i input inside) ∙ good)
