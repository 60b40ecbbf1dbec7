-- What block calls write, side by side: on each side the outputs of one channel for that side's samples, and these frame by frame. Assumes nothing.
use mathlib.Core.Path.{◌≡◌, sym, ap, ◌∙◌, fun_ext}
use mathlib.Core.List.{List, [], ◌∷◌, ◌++◌}
use Prim.Native.Nat.{ℕ, ◌+◌, ◌*◌, ◌<◌}
use native.Mathlib.Nat.{mul-add}
use native.Mathlib.Omega.{arith}
use lib.ListN.{length, drop, replicate, length-append, length-drop, length-replicate}
use lib.Seq.{drop_at, ext_get_or}
use lib.IntN.{ℤ, pos}
use Rattle.frames.specs.Frames.{side, side_of, woven}
use Rattle.frames.proofs.Laws.{side-length, side_at, side-add, one_channel, woven_is, woven_one, side_of_lem, side_of-append}
use Rattle.tree.specs.Prototype.{published}
use Rattle.tree.specs.Signal.{Signal, signal_of, gain_of}
use Rattle.tree.specs.Tree.{output}
use Rattle.octave.specs.Memory.{prepared}
use Rattle.history.specs.History.{Call, played, AllAccepted, joined, from, side_calls}
use Rattle.history.proofs.Sides.{side_accepted, side-played, side-joined, as_long}
use Rattle.samples.specs.declared.channels.Channels.TheVariants.{One}
use Rattle.arguments.specs.Arguments.{bands}
use Rattle.eqfile.specs.Turn.{late}
use Rattle.runs.specs.Program.{outputs_of, frames_out}
use Rattle.runs.proofs.Written.{SameGains, zeros_after, from_long, so_far_are}

-- one side of zeros
side-zeros : (c s n : ℕ) → side c s n (replicate (c * n) (pos 0)) ≡ replicate n (pos 0)
side-zeros c s n =
    let all : List ℤ = replicate (c * n) (pos 0) in
    ext_get_or (pos 0) (side c s n all) (replicate n (pos 0)) (side-length c s n all ∙ sym (length-replicate n (pos 0)))
    (λ i h. side_at c s n i all (omega (arith, side-length c s n all)) ∙ zeros_after [] (c * n) (c * i + s) ∙ sym (zeros_after [] n i))

same-gains : (gains : List ℤ) (c s : ℕ) (cs : List Call) → SameGains gains cs → SameGains gains (side_calls c s cs)
unfolding SameGains side_calls
same-gains gains c s [] h = tt
same-gains gains c s (d ∷ cs) h = (h.0, same-gains gains c s cs h.1)

-- of any samples, n frames beyond the delay
module _ (gains : List ℤ) (c n : ℕ) (ys : List ℤ) (cs : List Call) (long : length ys ≡ c * (late + n)) (all : AllAccepted (prepared bands c) cs) (same : SameGains gains cs)
    (fed : joined cs ≡ ys) where
  abbrev out : List ℤ
  out = (played (prepared bands c) cs).output

  module _ (s : ℕ) (below : s < c) where
    out_long : length out ≡ c * (late + n)
    out_long = as_long bands c s below cs all ∙ ap length fed ∙ long

    -- what is written of one side
    side-written : side c s n (drop (c * late) out) ≡ outputs_of gains n (side_of c s ys)
    side-written =
        let rest = side c s n (drop (c * late) out) in
        let there : side_of c s out ≡ side c s late out ++ rest = side_of_lem c s (late + n) out (omega arith) out_long ∙ side-add c s late n out in
        let wide : length (side_of c s ys) ≡ late + n = ap length (side_of_lem c s (late + n) ys (omega arith) long) ∙ side-length c s (late + n) ys in
        sym (drop_at (side c s late out) rest late (side-length c s late out)) ∙ ap (drop late) (sym there ∙ side-played bands c s below cs all) ∙
        so_far_are gains (side_of c s ys) n (side_calls c s cs) (side_accepted bands c s below cs all) (same-gains gains c s cs same)
        (side-joined bands c s below cs all ∙ ap (side_of c s) fed) wide

  rest_long : 0 < c → length (drop (c * late) out) ≡ c * n
  rest_long some = length-drop (c * late) out ∙ omega (arith, out_long 0 some, mul-add c late n)

  -- .. of all sides
  pub frames_so_far : 0 < c → drop (c * late) out ≡ woven c n (λ s. outputs_of gains n (side_of c s ys))
  frames_so_far some =
      woven_is c n (λ s. outputs_of gains n (side_of c s ys)) (drop (c * late) out) some (rest_long some)
      (λ s h. from_long late n (output published bands (λ _. gain_of gains) (signal_of (side_of c s ys)))) side-written

-- zeros behind a side's samples are what its signal has anyhow
outputs_of_more : (gains : List ℤ) (n : ℕ) (xs : List ℤ) → outputs_of gains n (xs ++ replicate late (pos 0)) ≡ outputs_of gains n xs
outputs_of_more gains n xs = ap (λ (x : Signal). from late n (output published bands (λ _. gain_of gains) x)) (fun_ext (zeros_after xs late))

-- of a whole file: its frames, and then zeros
pub frames_written : (gains : List ℤ) (c frames : ℕ) (xs : List ℤ) (cs : List Call) → length xs ≡ c * frames → AllAccepted (prepared bands c) cs → SameGains gains cs →
    joined cs ≡ xs ++ replicate (c * late) (pos 0) → 0 < c →
    drop (c * late) (played (prepared bands c) cs).output ≡ woven c frames (λ s. outputs_of gains frames (side_of c s xs))
frames_written gains c frames xs cs long all same fed some =
    woven_is c frames (λ s. outputs_of gains frames (side_of c s xs)) (drop (c * late) (played (prepared bands c) cs).output) some
    (rest_long gains c frames (xs ++ zeros) cs whole all same fed some)
    (λ s h. from_long late frames (output published bands (λ _. gain_of gains) (signal_of (side_of c s xs))))
    (λ s h.
    side-written gains c frames (xs ++ zeros) cs whole all same fed s h ∙
    ap (outputs_of gains frames)
    (side_of-append c s frames late xs zeros h long silent ∙ ap (λ (l : List ℤ). side_of c s xs ++ l) (side_of_lem c s late zeros some silent ∙ side-zeros c s late)) ∙
    outputs_of_more gains frames (side_of c s xs))
  where
    zeros : List ℤ
    zeros = replicate (c * late) (pos 0)

    silent : length zeros ≡ c * late
    silent = length-replicate (c * late) (pos 0)

    whole : length (xs ++ zeros) ≡ c * (late + frames)
    whole = length-append xs zeros ∙ omega (arith, long, silent, mul-add c late frames)

-- with one channel, what is written is the outputs for the samples as they stand
pub only_side_out : (gains : List ℤ) (frames : ℕ) (xs : List ℤ) → frames_out gains One frames xs ≡ outputs_of gains frames xs
only_side_out gains frames xs =
    woven_one frames (λ s. outputs_of gains frames (side_of 1 s xs)) (from_long late frames (output published bands (λ _. gain_of gains) (signal_of (side_of 1 0 xs)))) ∙
    ap (outputs_of gains frames) (one_channel xs)
