-- The plan asks for every byte of the file's frames. Assumes nothing.
use mathlib.Core.Path.{◌≡◌, sym, ap, ap₂, ◌∙◌}
use mathlib.Core.Bool.{Bool, cond}
use mathlib.Core.List.{List, [], ◌∷◌}
use Prim.Native.Nat.{ℕ, ◌+◌, ◌-◌, ◌*◌, min}
use native.Mathlib.Nat.{mul-zero, mul-add}
use native.Mathlib.Omega.{arith}
use borrow.Author.Tests.{eq-eqb}
use lib.ListN.{length, length-append}
use lib.IntN.{ℤ}
use Rattle.samples.specs.declared.channels.Channels.{Channels}
use Rattle.samples.specs.declared.format.Format.{Format}
use Rattle.eqfile.specs.Turn.{wanted_of, turn_of}
use Rattle.runs.specs.Program.{State, fresh, handed, frame_bytes, turn_at, next, after, Followed, ByPlan}

-- while all was read, the bytes of the block's frames are asked for
pub wanted_is : (size frames at read fed : ℕ) → read ≡ size * min at frames → wanted_of size frames at read fed ≡ size * min fed (frames - at)
unfolding wanted_of
wanted_is size frames at read fed e = ap (λ (b : Bool). cond b (size * min fed (frames - at)) 0) (eq-eqb read (size * min at frames) e)

-- those before the block and those of it
pub both : (size frames at fed : ℕ) → size * min at frames + size * min fed (frames - at) ≡ size * min (at + fed) frames
both size frames at fed = sym (mul-add size (min at frames) (min fed (frames - at))) ∙ ap (λ (k : ℕ). size * k) (omega arith)

pub start_is : (size frames : ℕ) → 0 ≡ size * min 0 frames
start_is size frames =
    let z : min 0 frames ≡ 0 = omega arith in
    sym (ap (λ (k : ℕ). size * k) z ∙ mul-zero size)

-- ---- no piece is short

module _ (gains : List ℤ) (format : Format) (channels : Channels) (frames : ℕ) where
  -- every turn was handed all that it wanted
  unfoldable pub NoneShort : State → List (List ℕ) → Type 0
  NoneShort s [] = Unit {0}
  NoneShort s (u ∷ us) = (length u ≡ (turn_at format channels frames s).wanted) × NoneShort (next gains format channels frames s u) us

  all_from : (s : State) (us : List (List ℕ)) → s.read ≡ frame_bytes format channels * min s.at frames → ByPlan gains format channels frames s us → NoneShort s us →
      s.read + length (handed us) ≡ frame_bytes format channels * frames
  unfolding Followed after handed NoneShort turn_of
  all_from s [] e (h, end) n =
      let m : min s.at frames ≡ frames = omega arith in
      let z : s.read ≡ frame_bytes format channels * frames = e ∙ ap (λ (k : ℕ). frame_bytes format channels * k) m in
      omega arith
  all_from s (u ∷ us) e (h, end) n =
      let size = frame_bytes format channels in
      let fed = (turn_at format channels frames s).fed in
      let on : s.read + length u ≡ size * min (s.at + fed) frames =
      ap₂ ◌+◌ e (n.0 ∙ wanted_is size frames s.at s.read fed e) ∙ both size frames s.at fed in
      let l = all_from (next gains format channels frames s u) us on (h.1, end) n.1 in
      omega (arith, length-append u (handed us))

  -- then all bytes of the file's frames are read
  pub all_handed : (us : List (List ℕ)) → ByPlan gains format channels frames (fresh channels) us → NoneShort (fresh channels) us → length (handed us) ≡ frame_bytes format channels * frames
  all_handed us h n = omega (arith, all_from (fresh channels) us (start_is (frame_bytes format channels) frames) h n)
