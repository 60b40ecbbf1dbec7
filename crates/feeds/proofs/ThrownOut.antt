-- What the crossover call's promise throws out: one output in both feeds, the feeds exchanged, one rounding for both (15.7). Assumes nothing.
use mathlib.Core.Path.{◌≡◌, sym, ap, ◌∙◌}
use mathlib.Core.List.{List, [], ◌∷◌}
use Prim.Native.Nat.{ℕ}
use native.Mathlib.Omega.{arith}
use lib.ListN.{get_or}
use lib.IntN.{ℤ, pos, negsuc, nat_abs, ◌-ℤ◌}
use Rattle.std.specs.Prelude.{Result}
use Rattle.answers.specs.Unit.{unity}
use Rattle.answers.specs.Checks.{all_hold, Outcome, decide, Done}
use Rattle.answers.specs.First.{first_failing}
use Rattle.whole.specs.Sum.{sum}
use Rattle.whole.proofs.Signed.{up}
use Rattle.ring.specs.Line.{tap, line_sum, low_value, late_value}
use Rattle.lines.specs.Cascade.{step, run}
use Rattle.frames.specs.Frames.{side, frame, woven, behind}
use Rattle.weighing.specs.Weighing.{band_sum, outputs}
use Rattle.octave.specs.declared.block.BlockError.{BlockError}
use Rattle.octave.specs.Memory.{prepared}
use Rattle.octave.specs.Block.{block_of}
use Rattle.crossover.specs.declared.cross.CrossError.{CrossError}
use Rattle.crossover.specs.Feeds.{feed_sum, feed_outputs}
use Rattle.crossover.specs.Cross.{cross_of}

-- 100,000 into a prepared memory of two bands, both gains 4,096: bass 313, horn -313
abbrev tried : Outcome (Result ℕ CrossError) (List ℤ × List ℤ × List ℤ)
tried = cross_of (prepared 2 1) (pos unity ∷ pos unity ∷ []) (pos 1) (pos 100000 ∷ []) (pos 0 ∷ []) (pos 0 ∷ [])

apart : ◌≡◌ {A = List ℤ} (pos 313 ∷ []) (negsuc 312 ∷ []) → ⊥
apart e = let h : ◌≡◌ {A = ℕ} 313 0 = ap (λ (l : List ℤ). up (get_or l 0 (pos 0))) e in absurd (omega arith)

module _ (r : Result ℕ CrossError) (m low high : List ℤ) (done : Done tried r (m, low, high)) where
  pub bass_first : low ≡ pos 313 ∷ []
  unfolding decide all_hold first_failing run step low_value late_value line_sum tap sum feed_outputs feed_sum side woven frame behind
  bass_first = ap (λ (l : List ℤ × List ℤ × List ℤ). l.1) done.lent_is

  pub horn_first : high ≡ negsuc 312 ∷ []
  unfolding decide all_hold first_failing run step low_value late_value line_sum tap sum feed_outputs feed_sum side woven frame behind
  horn_first = ap (λ (l : List ℤ × List ℤ × List ℤ). l.2) done.lent_is

  -- ---- one output in both feeds

  pub one_in_both : low ≡ high → ⊥
  one_in_both e = apart (sym bass_first ∙ e ∙ horn_first)

-- ---- the feeds exchanged

pub swap_the_feeds : (r : Result ℕ CrossError) (m low high : List ℤ) → Done tried r (m, low, high) → Done tried r (m, high, low) → ⊥
swap_the_feeds r m low high d e = apart (sym (bass_first r m high low e) ∙ horn_first r m low high d)

-- ---- one rounding for both

-- 320 with gains 2,048 and 4,096: bass 1 and horn -1, and the block call writes -1; so the horn is not its output less the bass
module _ (r : Result ℕ CrossError) (m low high : List ℤ) (done : Done (cross_of (prepared 2 1) (pos 2048 ∷ pos unity ∷ []) (pos 1) (pos 320 ∷ []) (pos 0 ∷ []) (pos 0 ∷ [])) r (m, low, high)) where
  small_feeds : (low ≡ pos 1 ∷ []) × (high ≡ negsuc 0 ∷ [])
  unfolding decide all_hold first_failing run step low_value late_value line_sum tap sum feed_outputs feed_sum side woven frame behind
  small_feeds = (ap (λ (l : List ℤ × List ℤ × List ℤ). l.1) done.lent_is, ap (λ (l : List ℤ × List ℤ × List ℤ). l.2) done.lent_is)

  module _ (q : Result ℕ BlockError) (k out : List ℤ) (block : Done (block_of (prepared 2 1) (pos 2048 ∷ pos unity ∷ []) (pos 320 ∷ []) (pos 0 ∷ [])) q (k, out)) where
    whole : out ≡ negsuc 0 ∷ []
    unfolding decide all_hold first_failing run step low_value late_value line_sum tap sum outputs band_sum side woven frame behind
    whole = ap (λ (l : List ℤ × List ℤ). l.1) block.lent_is

    pub one_rounding : get_or high 0 (pos 0) ≡ get_or out 0 (pos 0) -ℤ get_or low 0 (pos 0) → ⊥
    one_rounding e =
        let h : ◌≡◌ {A = ℕ} 1 2 = ap nat_abs (rw (small_feeds.0, small_feeds.1, whole) at e) in
        absurd (omega arith)
