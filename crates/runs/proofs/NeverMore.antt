-- The plan never asks for more bytes than the header says. Assumes nothing.
use mathlib.Core.Path.{◌≡◌, ap, subst}
use mathlib.Core.Bool.{Bool, true, false, cond}
use mathlib.Core.List.{List, [], ◌∷◌}
use Prim.Native.Nat.{ℕ, ◌+◌, ◌-◌, ◌*◌, ◌/◌, ◌≤◌, min}
use native.Mathlib.Nat.{mul-le-mul_left, mul-div-le}
use native.Mathlib.Omega.{arith}
use lib.Dec.{ltb}
use Rattle.answers.specs.Answer.{Answer, accepted, refused}
use Rattle.answers.specs.Unit.{largest_data}
use Rattle.samples.specs.Channels.{count_of}
use Rattle.wave_values.specs.Values.{frame_size}
use Rattle.wave.specs.declared.found.Found.{Found}
use Rattle.eqfile.specs.declared.plan.Plan.{Plan}
use Rattle.eqfile.specs.Start.{plan_for}
use Rattle.eqfile.specs.Turn.{all_read, wanted_of, turn_of}

-- what was read for each block in turn: never more than was asked
unfoldable pub Reads : (count size frames at read : ℕ) → List ℕ → Type 0
Reads count size frames at read [] = Unit {0}
Reads count size frames at read (got ∷ gots) =
    (got ≤ (turn_of count size frames at read).wanted) × Reads count size frames (at + (turn_of count size frames at read).fed) (read + got) gots

unfoldable pub total : List ℕ → ℕ
total [] = 0
total (n ∷ ns) = n + total ns

-- a block leaves the bytes read within those of the frames fed
pub step : (size frames at read fed got : ℕ) → read ≤ size * min at frames → got ≤ wanted_of size frames at read fed → read + got ≤ size * min (at + fed) frames
unfolding wanted_of
step size frames at read fed got r g = by (all_read size frames at read) g
  where
    by : (b : Bool) → got ≤ cond b (size * min fed (frames - at)) 0 → read + got ≤ size * min (at + fed) frames
    by true h =
        let l : size * (min at frames + min fed (frames - at)) ≤ size * min (at + fed) frames = mul-le-mul_left size (omega arith) in
        omega arith
    by false h =
        let l : size * min at frames ≤ size * min (at + fed) frames = mul-le-mul_left size (omega arith) in
        omega arith

within : (count size frames at read : ℕ) (gots : List ℕ) → read ≤ size * min at frames → Reads count size frames at read gots → read + total gots ≤ size * frames
unfolding Reads total turn_of
within count size frames at read [] r h =
    let l : size * min at frames ≤ size * frames = mul-le-mul_left size (omega arith) in
    omega arith
within count size frames at read (got ∷ gots) r h =
    let t = turn_of count size frames at read in
    let l = within count size frames (at + t.fed) (read + got) gots (step size frames at read t.fed got r h.0) h.1 in
    omega arith

-- all blocks together ask for no more than size·frames bytes
pub never_more : (count size frames : ℕ) (gots : List ℕ) → Reads count size frames 0 0 gots → total gots ≤ size * frames
never_more count size frames gots h = omega (arith, within count size frames 0 0 gots (omega arith) h)

-- .. which is no more than the `data` length
pub within_the_data : (f : Found) (p : Plan) → plan_for f ≡ accepted p → frame_size (count_of f.channels) f.format * p.frames ≤ f.size
within_the_data f p = by (ltb largest_data (3 * (count * frames)))
  where
    count : ℕ
    count = count_of f.channels

    size : ℕ
    size = frame_size count f.format

    frames : ℕ
    frames = f.size / size

    by : (b : Bool) → cond b (refused 26 0) (accepted (record { rate = f.rate; format = f.format; channels = f.channels; frames = frames; start = f.start })) ≡ accepted p →
        size * p.frames ≤ f.size
    by true e = let z : ◌≡◌ {A = ℕ} 0 1 = cc in absurd (omega arith)
    by false e = subst (λ (n : ℕ). size * n ≤ f.size) (ap frames_in e) (mul-div-le f.size size)
      where
        frames_in : Answer Plan → ℕ
        frames_in (accepted q) = q.frames
        frames_in (refused k p) = 0
