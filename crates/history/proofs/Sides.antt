-- Each side of accepted calls is what the equaliser of one channel gives, fed with that side (rules 11.11, 11.12). Assumes nothing.
use mathlib.Core.Path.{◌≡◌, refl, sym, ap, ap₂, subst, ◌∙◌}
use mathlib.Core.List.{List, [], ◌∷◌, ◌++◌}
use Prim.Native.Nat.{ℕ, zero, suc, ◌+◌, ◌*◌, ◌<◌}
use native.Mathlib.Nat.{mul-zero, mul-add, one-mul}
use native.Mathlib.Omega.{arith}
use lib.ListN.{length, get_or, drop, replicate, length-append, length-replicate}
use lib.Seq.{ext_get_or, get_or-take, get_or-drop}
use lib.IntN.{ℤ, pos}
use Rattle.std.specs.Prelude.{Result, Ok}
use Rattle.answers.specs.Answer.{accepted}
use Rattle.answers.specs.Checks.{Outcome}
use Rattle.frames.specs.Frames.{side, side_of, places_of}
use Rattle.frames.proofs.Laws.{side_of_lem, side_of-append, woven-length, places_length}
use Rattle.octave.specs.declared.block.BlockError.{BlockError}
use Rattle.octave.specs.Answer.{block_answer}
use Rattle.octave.specs.Memory.{side_places, channels_in, prepared}
use Rattle.octave.specs.Block.{frames_of, ran_side, equalised}
use Rattle.tree.specs.Signal.{gain_of}
use Rattle.weighing.specs.Weighing.{outputs}
use Rattle.history.specs.History.{Call, called, after_call, played, AllAccepted, joined, side_call, side_calls, side_memory}
use Rattle.history.proofs.Accepted.{RanIt, accepted_ran}
use Rattle.history.proofs.OneSide.{side_block, frames_same, whole}
use Rattle.history.proofs.WholeHistory.{played_accepted}

-- ---- one call

-- what one side of an accepted call leaves
record SideCalled (c s : ℕ) (m : List ℤ) (d : Call) : Type 0 where
  pub is : called (side_memory s m) (side_call c s d) ≡ record { result = Ok (frames_of m d.input); lent = (side_memory s (after_call m d), side_of c s (called m d).lent.1) }
  pub frames : frames_of (side_memory s m) (side_of c s d.input) ≡ frames_of m d.input
  pub whole : length d.input ≡ c * frames_of m d.input
  pub written : length (called m d).lent.1 ≡ c * frames_of m d.input
  pub channels : channels_in (after_call m d) ≡ c

side-called : (s : ℕ) (m : List ℤ) (d : Call) → s < channels_in m → block_answer (called m d).result ≡ accepted (frames_of m d.input) → SideCalled (channels_in m) s m d
side-called s m d below a =
    let gains = d.gains in
    let input = d.input in
    let c = channels_in m in
    let f = frames_of m input in
    let ran : RanIt m gains input d.before = accepted_ran m gains input d.before f a in
    let lent : equalised m gains input ≡ (called m d).lent = sym (ap (λ (o : Outcome (Result ℕ BlockError) (List ℤ × List ℤ)). o.lent) ran.is) in
    record {
      is =
          side_block m gains input d.before ran s below ∙
          ap (λ (l : List ℤ × List ℤ). record { result = Ok f; lent = (side_memory s l.0, side_of c s l.1) }) lent;
      frames = frames_same m gains input d.before ran s below;
      whole = whole m gains input d.before ran s below;
      written = ap (λ (l : List ℤ × List ℤ). length l.1) (sym lent) ∙ woven-length c f (λ t. outputs (λ _. gain_of gains) (ran_side m input t).aligned);
      channels = ap (λ (l : List ℤ × List ℤ). channels_in l.0) (sym lent);
    }

-- ---- some accepted calls

-- one side of the calls, played on the memory of one channel
pub record SidePlayed (c s : ℕ) (m : List ℤ) (cs : List Call) : Type 0 where
  pub accepted : AllAccepted (side_memory s m) (side_calls c s cs)
  pub output_is : side_of c s (played m cs).output ≡ (played (side_memory s m) (side_calls c s cs)).output
  pub memory_is : side_memory s (played m cs).memory ≡ (played (side_memory s m) (side_calls c s cs)).memory
  pub joined_is : joined (side_calls c s cs) ≡ side_of c s (joined cs)
  pub frames : ℕ
  pub whole : length (joined cs) ≡ c * frames
  pub written : length (played m cs).output ≡ c * frames

-- from any accepted memory, whatever its signal places
pub sides_played : (c s : ℕ) (m : List ℤ) (cs : List Call) → channels_in m ≡ c → s < c → AllAccepted m cs → SidePlayed c s m cs
unfolding AllAccepted played joined side_calls side
sides_played c s m [] e below a =
    let none : side_of c s [] ≡ [] = side_of_lem c s 0 [] (omega arith) (sym (mul-zero c)) in
    record { accepted = tt; output_is = none; memory_is = refl; joined_is = sym none; frames = 0; whole = sym (mul-zero c); written = sym (mul-zero c) }
sides_played c s m (d ∷ cs) e below a =
    let here : SideCalled c s m d = subst (λ (k : ℕ). SideCalled k s m d) e (side-called s m d (omega (arith, e)) a.0) in
    let m1 = after_call m d in
    let rest : SidePlayed c s m1 cs = sides_played c s m1 cs here.channels below a.1 in
    let f = frames_of m d.input in
    let out = (called m d).lent.1 in
    let m' = side_memory s m in
    let d' = side_call c s d in
    let after : after_call m' d' ≡ side_memory s m1 = ap (λ (o : Outcome (Result ℕ BlockError) (List ℤ × List ℤ)). o.lent.0) here.is in
    let outs : (called m' d').lent.1 ≡ side_of c s out = ap (λ (o : Outcome (Result ℕ BlockError) (List ℤ × List ℤ)). o.lent.1) here.is in
    let answer : block_answer (called m' d').result ≡ accepted (frames_of m' d'.input) =
    ap (λ (o : Outcome (Result ℕ BlockError) (List ℤ × List ℤ)). block_answer o.result) here.is ∙ ap accepted (sym here.frames) in
    record {
      accepted = (answer, subst (λ (k : List ℤ). AllAccepted k (side_calls c s cs)) (sym after) rest.accepted);
      output_is =
          ap (side_of c s) (played_accepted m d cs a.0) ∙ side_of-append c s f rest.frames out (played m1 cs).output below here.written rest.written ∙
          ap₂ ◌++◌ (sym outs) (rest.output_is ∙ ap (λ (k : List ℤ). (played k (side_calls c s cs)).output) (sym after)) ∙
          sym (played_accepted m' d' (side_calls c s cs) answer);
      memory_is = rest.memory_is ∙ ap (λ (k : List ℤ). (played k (side_calls c s cs)).memory) (sym after);
      joined_is =
          ap (λ (l : List ℤ). side_of c s d.input ++ l) rest.joined_is ∙ sym (side_of-append c s f rest.frames d.input (joined cs) below here.whole rest.whole);
      frames = f + rest.frames;
      whole = length-append d.input (joined cs) ∙ ap₂ ◌+◌ here.whole rest.whole ∙ sym (mul-add c f rest.frames);
      written =
          ap length (played_accepted m d cs a.0) ∙ length-append out (played m1 cs).output ∙ ap₂ ◌+◌ here.written rest.written ∙ sym (mul-add c f rest.frames);
    }

-- ---- from prepared memory

zeros : (n k : ℕ) → get_or (replicate n (pos 0)) k (pos 0) ≡ pos 0
zeros zero k = refl
zeros (suc n) zero = refl
zeros (suc n) (suc k) = zeros n k

-- each side of prepared memory is prepared memory of one channel
pub side-prepared : (M c s : ℕ) → s < c → side_memory s (prepared M c) ≡ prepared M 1
side-prepared M c s h =
    let k = side_places M in
    let all : List ℤ = replicate (c * k) (pos 0) in
    let long : length (places_of k s all) ≡ k = places_length c k s all (length-replicate (c * k) (pos 0)) h in
    ap (λ (l : List ℤ). pos M ∷ pos 1 ∷ pos 0 ∷ l)
    (ext_get_or (pos 0) (places_of k s all) (replicate (1 * k) (pos 0)) (long ∙ sym (length-replicate (1 * k) (pos 0) ∙ one-mul k))
    (λ i l. get_or-take k (drop (s * k) all) i (pos 0) (omega (arith, long)) ∙ get_or-drop (s * k) all i (pos 0) ∙ zeros (c * k) (s * k + i) ∙ sym (zeros (1 * k) i)))

module _ (M c s : ℕ) (below : s < c) (cs : List Call) (all : AllAccepted (prepared M c) cs) where
  sided : SidePlayed c s (prepared M c) cs
  sided = sides_played c s (prepared M c) cs refl below all

  -- one side of the calls is accepted by the equaliser of one channel
  pub side_accepted : AllAccepted (prepared M 1) (side_calls c s cs)
  side_accepted = subst (λ (m : List ℤ). AllAccepted m (side_calls c s cs)) (side-prepared M c s below) sided.accepted

  -- .. and one side of the outputs is what it gives
  pub side-played : side_of c s (played (prepared M c) cs).output ≡ (played (prepared M 1) (side_calls c s cs)).output
  side-played = sided.output_is ∙ ap (λ (m : List ℤ). (played m (side_calls c s cs)).output) (side-prepared M c s below)

  -- .. for one side of the samples
  pub side-joined : joined (side_calls c s cs) ≡ side_of c s (joined cs)
  side-joined = sided.joined_is

  -- an output for each sample
  pub as_long : length (played (prepared M c) cs).output ≡ length (joined cs)
  as_long = sided.written ∙ sym sided.whole
