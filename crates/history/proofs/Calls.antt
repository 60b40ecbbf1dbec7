-- Accepted block calls on a memory that holds a history: the outputs are the tree's, and the memory holds the samples too. Assumes nothing.
use mathlib.Core.Path.{◌≡◌, refl, sym, ap, subst, ◌∙◌}
use mathlib.Core.List.{List}
use Prim.Native.Nat.{ℕ, zero, suc, ◌+◌, ◌-◌, ◌*◌, ◌^◌, ◌≤◌, ◌<◌}
use native.Mathlib.Nat.{one-mul}
use native.Mathlib.Omega.{arith}
use lib.Pow.{pow_pos}
use lib.ListN.{length, get_or, replicate, length-replicate}
use lib.IntN.{ℤ, pos}
use Rattle.std.specs.Prelude.{Result}
use Rattle.answers.specs.Answer.{accepted}
use Rattle.answers.specs.Checks.{Outcome}
use Rattle.tree.specs.Prototype.{Prototype, published}
use Rattle.tree.specs.Signal.{Signal, gain_of}
use Rattle.tree.specs.Tree.{output}
use Rattle.lines.specs.Cascade.{run}
use Rattle.ring.specs.Helpers.{Centred}
use Rattle.ring.proofs.Places.{published_centred}
use Rattle.lines.specs.Helpers.{Region}
use Rattle.octave.specs.declared.block.BlockError.{BlockError}
use Rattle.octave.specs.Answer.{block_answer}
use Rattle.octave.specs.Memory.{line_length, side_places, memory_of, prepared}
use Rattle.weighing.specs.Weighing.{outputs}
use Rattle.octave.specs.Block.{frames_of, equalised}
use Rattle.octave.proofs.Layouts.{line_small}
use Rattle.history.specs.History.{Call, called, from}
use Rattle.history.proofs.Holds.{Holds, Free, holds_none}
use Rattle.history.proofs.From.{from-ext}
use Rattle.history.proofs.Samples.{run_keeps}
use Rattle.history.proofs.Weighed.{output_ext, run_outputs}
use Rattle.history.proofs.Accepted.{accepted_ran}
use Rattle.history.proofs.OneChannel.{one_channel_block}

-- ---- a memory that holds a history

module _ (p : Prototype) (M : ℕ) where
  -- the places of a line: lineLength for any prototype
  abbrev ring : ℕ
  ring = p.centre * 2 ^ (M - 1)

  -- the counts, one channel, the position, and lines that hold the first n samples of x
  pub record State (x : Signal) (n : ℕ) (m : List ℤ) : Type 0 where
    pub at : ℕ
    pub lines : List ℤ
    pub memory_is : m ≡ memory_of (record { count = pos M; channels = pos 1; position = pos at; lines = lines })
    pub inside : at < ring
    pub region : Region p M ring 1 lines
    pub holds : Holds p x (M - 1) 0 ring at lines n

  -- what samples leave that follow the first n of x, under the gains g
  pub record Called (x : Signal) (n : ℕ) (g : ℕ → ℕ → ℤ) (input memory outs : List ℤ) : Type 0 where
    pub outputs_are : outs ≡ from n (length input) (output p M g x)
    pub state : State x (n + length input) memory

  -- samples through the lines of such a memory, under any gains of each sample
  pub samples_keep : Centred p → (x : Signal) (n : ℕ) (m input : List ℤ) → 1 ≤ M → ((k : ℕ) → Free p x (M - 1) 0 k) → (s : State x n m) →
      ((i : ℕ) → i < length input → get_or input i (pos 0) ≡ x (n + i)) → (g : ℕ → ℕ → ℤ) →
      (let r = run p ring (M - 1) s.at s.lines input in
      Called x n g input (memory_of (record { count = pos M; channels = pos 1; position = pos r.position; lines = r.places })) (outputs (λ i. g (n + i)) r.aligned))
  samples_keep is x n m input l free s e g =
      let whole : suc (M - 1) ≡ M = omega arith in
      let r = run p ring (M - 1) s.at s.lines input in
      let region : Region p (suc (M - 1)) ring 1 s.lines = subst (λ (b : ℕ). Region p b ring 1 s.lines) (sym whole) s.region in
      let k = run_keeps p is x (M - 1) ring free input s.lines s.at n s.inside region s.holds e in
      record {
        outputs_are =
            run_outputs p is x (M - 1) ring free input s.lines s.at n s.inside region s.holds e g ∙
            ap (λ (b : ℕ). from n (length input) (output p b g x)) whole;
        state =
            record {
              at = r.position;
              lines = r.places;
              memory_is = refl;
              inside = k.inside;
              region = subst (λ (b : ℕ). Region p b ring 1 r.places) whole k.region;
              holds = k.holds;
            };
      }

-- prepared memory holds the empty history
pub prepared_holds : (M : ℕ) (x : Signal) → 2 ≤ M → M ≤ 10 → State published M x 0 (prepared M 1)
prepared_holds M x l h =
    let k = 1 * side_places M in
    record {
      at = 0;
      lines = replicate k (pos 0);
      memory_is = refl;
      inside = omega (arith, pow_pos (M - 1));
      region =
          record {
            some = omega arith;
            few = h;
            stretch = omega arith;
            sized = ap (λ (j : ℕ). 9 * j) (sym (one-mul (2 ^ (M - 1))));
            whole = length-replicate k (pos 0) ∙ one-mul (side_places M);
            small = line_small M h;
          };
      holds = holds_none published x (M - 1) 0 (line_length M) (replicate k (pos 0)) (zeros k);
    }
  where
    zeros : (n k : ℕ) → get_or (replicate n (pos 0)) k (pos 0) ≡ pos 0
    zeros zero k = refl
    zeros (suc n) zero = refl
    zeros (suc n) (suc k) = zeros n k

-- ---- one accepted call

-- for any gains g of each sample that are the call's
pub call_keeps : (M : ℕ) (x : Signal) (n : ℕ) (m : List ℤ) (c : Call) → 2 ≤ M → ((k : ℕ) → Free published x (M - 1) 0 k) →
    State published M x n m → block_answer (called m c).result ≡ accepted (frames_of m c.input) →
    ((i : ℕ) → i < length c.input → get_or c.input i (pos 0) ≡ x (n + i)) →
    (g : ℕ → ℕ → ℤ) → ((i : ℕ) → n ≤ i → i < n + length c.input → (j : ℕ) → gain_of c.gains j ≡ g i j) →
    Called published M x n g c.input (called m c).lent.0 (called m c).lent.1
call_keeps M x n m c l free s a e g agree =
    let gains = c.gains in
    let input = c.input in
    let k = samples_keep published M published_centred x n m input (omega arith) free s e (λ _. gain_of gains) in
    let r = run published (line_length M) (M - 1) s.at s.lines input in
    let after = memory_of (record { count = pos M; channels = pos 1; position = pos r.position; lines = r.places }) in
    let is : (called m c).lent ≡ (after, outputs (λ _. gain_of gains) r.aligned) =
    ap (λ (o : Outcome (Result ℕ BlockError) (List ℤ × List ℤ)). o.lent) (accepted_ran m gains input c.before (frames_of m input) a).is ∙
    ap (λ (q : List ℤ). equalised q gains input) s.memory_is ∙ one_channel_block M s.at s.lines gains input s.region.whole in
    subst (λ (t : List ℤ × List ℤ). Called published M x n g input t.0 t.1) (sym is)
    (record {
      outputs_are = k.outputs_are ∙ from-ext n (length input) (λ i u v. output_ext published M (λ _. gain_of gains) g x i (agree i u v));
      state = k.state;
    })
