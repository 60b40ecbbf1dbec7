-- The checks in their order. Assumes nothing.
use mathlib.Core.Path.{◌≡◌, refl}
use mathlib.Core.Bool.{Bool, true, false, cond}
use lib.Dec.{eqb, ltb}
use mathlib.Core.List.{List}
use Prim.Native.Nat.{ℕ, ◌*◌, ◌/◌, ◌≤◌}
use native.Mathlib.Omega.{arith}
use borrow.Author.Tests.{le-ltb, ltb-false, eq-eqb, ne_eqb}
use Rattle.std.specs.Prelude.{Option, Some, None}
use Rattle.answers.specs.Answer.{Answer, accepted, refused}
use Rattle.answers.specs.Unit.{largest_data}
use Rattle.samples.specs.Channels.{count_of}
use Rattle.samples.specs.declared.channels.Channels.{Channels}
use Rattle.samples.specs.declared.channels.Channels.TheVariants.{One, Two}
use Rattle.wave.specs.declared.found.Found.{Found}
use Rattle.wave.specs.Walk.{read_of}
use Rattle.wave_values.specs.Values.{frame_size}
use Rattle.arguments.specs.Arguments.{bands}
use Rattle.eqfile.specs.declared.plan.Plan.{Plan}
use Rattle.eqfile.specs.Start.{plan_for, plan_of, start_of}

-- the most samples that a header can state, as frames of so many channels
no_more_than : (channels : Channels) (n : ℕ) → n ≤ largest_data / 3 / count_of channels → 3 * (count_of channels * n) ≤ largest_data
no_more_than One n h = omega arith
no_more_than Two n h = omega arith

module _ (f : Found) (block count : ℕ) (is : block ≡ frame_size (count_of f.channels) f.format) (sides : count ≡ count_of f.channels) where
  abbrev frames : ℕ
  frames = f.size / frame_size (count_of f.channels) f.format

  pub to_be_written : f.size / block ≤ largest_data / 3 / count →
      accepted (record { rate = f.rate; format = f.format; channels = f.channels; frames = f.size / block; start = f.start }) ≡ plan_for f
  to_be_written h = rw (is, le-ltb largest_data (3 * (count_of f.channels * frames)) (no_more_than f.channels frames (rw (is, sides) at h)))

pub arguments_refused : (front : List ℕ) → refused 30 0 ≡ start_of None front
unfolding start_of
arguments_refused front = refl

pub not_eight : (n : ℕ) (front : List ℕ) → (n ≡ bands → ⊥) → refused 30 0 ≡ start_of (Some n) front
unfolding start_of
not_eight n front h = rw (ne_eqb n bands h)

pub eight : (n : ℕ) (front : List ℕ) (a : Answer Plan) → n ≡ bands → a ≡ plan_of (read_of front) → a ≡ start_of (Some n) front
unfolding start_of
eight n front a h e = rw (eq-eqb n bands h, e)

-- a run that starts has frames whose bytes a header can state
abbrev pub Writable : Answer Plan → Type 0
Writable (accepted p) = 3 * (count_of p.channels * p.frames) ≤ largest_data
Writable (refused k p) = Unit {0}

writable_plan : (f : Found) → Writable (plan_for f)
writable_plan f = by (ltb largest_data (3 * (count * frames))) refl
  where
    count : ℕ
    count = count_of f.channels

    frames : ℕ
    frames = f.size / frame_size count f.format

    by : (b : Bool) → ltb largest_data (3 * (count * frames)) ≡ b →
        Writable (cond b (refused 26 0) (accepted (record { rate = f.rate; format = f.format; channels = f.channels; frames = frames; start = f.start })))
    by true e = tt
    by false e = let h = ltb-false largest_data (3 * (count * frames)) e in omega arith

writable_read : (a : Answer Found) → Writable (plan_of a)
unfolding plan_of
writable_read (accepted f) = writable_plan f
writable_read (refused k p) = tt

pub writable : (a : Option ℕ) (front : List ℕ) → Writable (start_of a front)
unfolding start_of
writable None front = tt
writable (Some n) front = by (eqb n bands)
  where
    by : (b : Bool) → Writable (cond b (plan_of (read_of front)) (refused 30 0))
    by true = writable_read (read_of front)
    by false = tt
