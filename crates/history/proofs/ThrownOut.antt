-- The five misbuilds of rule 13.12, each with a witness on which the promise that it names fails.
-- The witnesses are two bands, gains (4,096, 0) or (0, 4,096), and one loud sample. Assumes nothing.
use mathlib.Core.Path.{◌≡◌, sym, ap, ◌∙◌}
use mathlib.Core.List.{List, [], ◌∷◌}
use Prim.Native.Nat.{ℕ, zero, suc, ◌*◌, ◌≤◌}
use native.Mathlib.Omega.{arith}
use lib.Dec.{lit≤}
use lib.ListN.{get_or}
use lib.IntN.{ℤ, pos, nat_abs, ◌-ℤ◌, ◌*ℤ◌}
use lib.Signed.{le_z_yes}
use Rattle.std.specs.Prelude.{Result, Ok}
use Rattle.whole.specs.Sum.{sum}
use Rattle.answers.specs.Unit.{unity}
use Rattle.tree.specs.Prototype.{published}
use Rattle.tree.specs.Signal.{Signal, back, signal_of, gain_of}
use Rattle.tree.specs.Tree.{weighted, band, hold_back, gain_sum, delay}
use Rattle.tree.specs.Exact.{common_scale, exact_level, exact_output, farthest}
use Rattle.tree.specs.Gains.{AllowedGains}
use Rattle.answers.specs.Answer.{accepted, number_in}
use Rattle.answers.specs.Checks.{all_hold, Outcome, decide, Done}
use Rattle.answers.specs.First.{first_failing}
use Rattle.ring.specs.Line.{tap, line_sum, low_value, late_value}
use Rattle.lines.specs.Cascade.{step, run}
use Rattle.frames.specs.Frames.{side, frame, woven, behind}
use Rattle.octave.specs.declared.block.BlockError.{BlockError}
use Rattle.octave.specs.Answer.{block_answer}
use Rattle.octave.specs.Memory.{prepared}
use Rattle.weighing.specs.Weighing.{band_sum, outputs}
use Rattle.octave.specs.Block.{frames_of, block_of}
use Rattle.history.proofs.Accepted.{accepted_ran}

-- the low band alone, and the high band alone
abbrev low_alone : List ℤ
low_alone = pos unity ∷ pos 0 ∷ []

abbrev high_alone : List ℤ
high_alone = pos 0 ∷ pos unity ∷ []

-- ---- refuse everything: a call without a fault is not refused

pub refuse_everything : (r : Result ℕ BlockError) (l : List ℤ × List ℤ) → (number_in (block_answer r) ≡ 0 → ⊥) → Done (block_of (prepared 2 1) low_alone [] []) r l → ⊥
unfolding decide all_hold first_failing run side woven frame behind
refuse_everything r l n d = n (ap (λ (q : Result ℕ BlockError). number_in (block_answer q)) d.result_is)

-- ---- all zeros, or the delayed input for any gains: unequal gains tell them

low_allowed : AllowedGains 2 (λ _. gain_of low_alone) 9
low_allowed zero l h = absurd (omega arith)
low_allowed (suc zero) l h = record { least = le_z_yes tt; most = le_z_yes tt }
low_allowed (suc (suc zero)) l h = record { least = le_z_yes tt; most = le_z_yes tt }
low_allowed (suc (suc (suc m))) l h = absurd (omega arith)

high_allowed : AllowedGains 2 (λ _. gain_of high_alone) 9
high_allowed zero l h = absurd (omega arith)
high_allowed (suc zero) l h = record { least = le_z_yes tt; most = le_z_yes tt }
high_allowed (suc (suc zero)) l h = record { least = le_z_yes tt; most = le_z_yes tt }
high_allowed (suc (suc (suc m))) l h = absurd (omega arith)

-- an answer f to every tree, gains, signal and sample that is never past 302 steps
abbrev Near : (ℕ → (ℕ → ℕ → ℤ) → Signal → ℕ → ℤ) → Type 0
Near f =
    (M : ℕ) → 2 ≤ M → M ≤ 10 → (g : ℕ → ℕ → ℤ) (x : Signal) (n : ℕ) → AllowedGains M g n →
    nat_abs (pos (unity * common_scale M) *ℤ f M g x n -ℤ exact_output published M g x n) ≤ farthest * (unity * common_scale M)

pub all_zeros : Near (λ M g x n. pos 0) → ⊥
unfolding exact_output gain_sum exact_level weighted sum band hold_back
all_zeros near =
    let h : unity * 50000 * 8000000 ≤ farthest * (unity * common_scale 2) =
    near 2 (lit≤ tt) (lit≤ tt) (λ _. gain_of low_alone) (signal_of (pos 8000000 ∷ [])) 9 low_allowed in
    omega arith

pub delayed_input : Near (λ M g x n. back x n (delay published M)) → ⊥
unfolding exact_output gain_sum exact_level weighted sum band hold_back
delayed_input near =
    let h : unity * 50000 * 8000000 ≤ farthest * (unity * common_scale 2) =
    near 2 (lit≤ tt) (lit≤ tt) (λ _. gain_of high_alone) (signal_of (pos 8000000 ∷ [])) 9 high_allowed in
    omega arith

-- ---- touch nothing: the first output of 100,000 is 313, and not what the output block held

pub touch_nothing : Done (block_of (prepared 2 1) low_alone (pos 100000 ∷ []) (pos 0 ∷ [])) (Ok 1) (prepared 2 1, pos 0 ∷ []) → ⊥
unfolding decide all_hold first_failing run step low_value late_value line_sum tap sum outputs band_sum side woven frame behind
touch_nothing d = let h : ◌≡◌ {A = ℕ} 0 313 = ap (λ (l : List ℤ × List ℤ). nat_abs (get_or l.1 0 (pos 0))) d.lent_is in omega arith

-- ---- filter the first block, then pass samples through: silence after 100,000 is answered by -1,338 at 2

-- the memory after the first block
abbrev filtered : List ℤ
filtered = (block_of (prepared 2 1) low_alone (pos 100000 ∷ []) (pos 0 ∷ [])).lent.0

pub pass_through : (m : List ℤ) → Done (block_of filtered low_alone (pos 0 ∷ pos 0 ∷ []) (pos 0 ∷ pos 0 ∷ [])) (Ok 2) (m, pos 0 ∷ pos 0 ∷ []) → ⊥
unfolding decide all_hold first_failing run step low_value late_value line_sum tap sum outputs band_sum side woven frame behind
pass_through m d = let h : ◌≡◌ {A = ℕ} 0 1338 = ap (λ (l : List ℤ × List ℤ). nat_abs (get_or l.1 1 (pos 0))) d.lent_is in omega arith

-- ---- invent the number of frames written: it is that of the block, for all inputs

pub invent_the_number : (memory gains input output : List ℤ) (r : Result ℕ BlockError) (l : List ℤ × List ℤ) (k : ℕ) → (k ≡ frames_of memory input → ⊥) → block_answer r ≡ accepted k →
    Done (block_of memory gains input output) r l → ⊥
invent_the_number memory gains input output r l k n a d =
    let ran = accepted_ran memory gains input output k (sym (ap block_answer d.result_is) ∙ a) in
    let e : accepted k ≡ accepted (frames_of memory input) =
    sym a ∙ ap block_answer d.result_is ∙ ap (λ (o : Outcome (Result ℕ BlockError) (List ℤ × List ℤ)). block_answer o.result) ran.is in
    n cc
