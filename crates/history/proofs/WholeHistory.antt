-- The whole history (rules 11.2 to 11.4): each output is the tree's for all samples accepted since the memory was prepared, however they
-- were cut into blocks, and whatever refused calls stood between. Assumes nothing.
use mathlib.Core.Path.{◌≡◌, refl, sym, ap, ap₂, subst, ◌∙◌}
use mathlib.Core.Bool.{cond}
use mathlib.Core.List.{List, [], ◌∷◌, ◌++◌}
use Prim.Native.Nat.{ℕ, ◌+◌, ◌-◌, ◌≤◌, ◌<◌}
use native.Mathlib.Nat.{add-zero, zero-add, add_assoc, sub-zero}
use native.Mathlib.Omega.{arith}
use borrow.Author.Tests.{lt-ltb, le-ltb}
use lib.Dec.{eqb}
use lib.ListN.{length, get_or, length-append, get_or-append}
use lib.Seq.{get_or-append-add}
use lib.IntN.{ℤ, pos}
use Rattle.answers.specs.Answer.{Answer, accepted, number_in}
use Rattle.tree.specs.Prototype.{published}
use Rattle.tree.specs.Signal.{Signal, signal_of, gain_of}
use Rattle.tree.specs.Tree.{output}
use Rattle.octave.specs.Answer.{block_answer}
use Rattle.octave.specs.Memory.{prepared}
use Rattle.history.specs.History.{Call, called, after_call, Played, played, AllAccepted, joined, carried, from}
use Rattle.history.proofs.Holds.{Free}
use Rattle.history.proofs.From.{from-ext, from-append, from_at}
use Rattle.history.proofs.Weighed.{output_ext}
use Rattle.history.proofs.Accepted.{samples_small, free_always}
use Rattle.history.proofs.Calls.{State, prepared_holds, Called, call_keeps}

-- ---- the gains of the call that carried a sample

pub carried_here : (c : Call) (cs : List Call) (n m : ℕ) → n < length c.input → carried (c ∷ cs) n m ≡ gain_of c.gains m
unfolding carried
carried_here c cs n m h = rw (lt-ltb n (length c.input) h)

pub carried_later : (c : Call) (cs : List Call) (n m : ℕ) → length c.input ≤ n → carried (c ∷ cs) n m ≡ carried cs (n - length c.input) m
unfolding carried
carried_later c cs n m h = rw (le-ltb n (length c.input) h)

same_rest : (i n N : ℕ) → i - n - N ≡ i - (n + N)
same_rest i n N = omega arith

-- ---- some accepted calls

-- calls from a memory that holds n samples of x: their outputs, and what the memory holds afterwards
pub record Continued (M : ℕ) (x : Signal) (n : ℕ) (cs : List Call) (p : Played) : Type 0 where
  pub outputs_are : p.output ≡ from n (length (joined cs)) (output published M (λ k. carried cs (k - n)) x)
  pub state : State published M x (n + length (joined cs)) p.memory

-- an accepted call's outputs are joined
pub played_accepted : (m : List ℤ) (c : Call) (cs : List Call) {k : ℕ} → block_answer (called m c).result ≡ accepted k →
    (played m (c ∷ cs)).output ≡ (called m c).lent.1 ++ (played (after_call m c) cs).output
unfolding played
played_accepted m c cs a =
    ap (λ (t : Answer ℕ). cond (eqb (number_in t) 0) ((called m c).lent.1 ++ (played (after_call m c) cs).output) (played (after_call m c) cs).output) a

calls_keep : (M : ℕ) (x : Signal) → 2 ≤ M → ((k : ℕ) → Free published x (M - 1) 0 k) → (cs : List Call) (m : List ℤ) (n : ℕ) →
    State published M x n m → AllAccepted m cs → ((i : ℕ) → i < length (joined cs) → get_or (joined cs) i (pos 0) ≡ x (n + i)) → Continued M x n cs (played m cs)
unfolding played AllAccepted joined from
calls_keep M x l free [] m n s a e =
    record { outputs_are = refl; state = subst (λ (k : ℕ). State published M x k m) (sym (add-zero n)) s }
calls_keep M x l free (c ∷ cs) m n s a e =
    let N = length c.input in
    let R = length (joined cs) in
    let m' = after_call m c in
    let all : length (c.input ++ joined cs) ≡ N + R = length-append c.input (joined cs) in
    let here : (i : ℕ) → i < N → get_or c.input i (pos 0) ≡ x (n + i) =
    λ i h. sym (get_or-append c.input (joined cs) (pos 0) i h) ∙ e i (omega (arith, all)) in
    let later : (i : ℕ) → i < R → get_or (joined cs) i (pos 0) ≡ x (n + N + i) =
    λ i h. sym (get_or-append-add c.input (joined cs) i (pos 0)) ∙ e (N + i) (omega (arith, all)) ∙ ap x (sym (add_assoc n N i)) in
    let G : ℕ → ℕ → ℤ = λ k. carried (c ∷ cs) (k - n) in
    let F : ℕ → ℤ = output published M G x in
    let first : Called published M x n G c.input m' (called m c).lent.1 =
    call_keeps M x n m c l free s a.0 here G (λ i p q j. sym (carried_here c cs (i - n) j (omega arith))) in
    let rest : Continued M x (n + N) cs (played m' cs) = calls_keep M x l free cs m' (n + N) first.state a.1 later in
    let rest-gains : (i j : ℕ) → N ≤ i - n → carried cs (i - (n + N)) j ≡ G i j =
    λ i j h. sym (carried_later c cs (i - n) j h ∙ ap (λ (k : ℕ). carried cs k j) (same_rest i n N)) in
    record {
      outputs_are =
          played_accepted m c cs a.0 ∙
          ap₂ (λ (u v : List ℤ). u ++ v)
          first.outputs_are
          (rest.outputs_are ∙ from-ext (n + N) R (λ i p q. output_ext published M (λ k. carried cs (k - (n + N))) G x i (λ j. rest-gains i j (omega arith)))) ∙
          sym (from-append n N R F) ∙ ap (λ (k : ℕ). from n k F) (sym all);
      state = subst (λ (k : ℕ). State published M x k (played m' cs).memory) (add_assoc n N R ∙ ap (λ (k : ℕ). n + k) (sym all)) rest.state;
    }

-- ---- the theorem

module _ (M : ℕ) (least : 2 ≤ M) (most : M ≤ 10) (cs : List Call) (all : AllAccepted (prepared M 1) cs) where
  continued : Continued M (signal_of (joined cs)) 0 cs (played (prepared M 1) cs)
  continued =
      calls_keep M (signal_of (joined cs)) least
      (λ k. free_always (signal_of (joined cs)) (samples_small (prepared M 1) cs all) (M - 1) k (omega arith)) cs (prepared M 1) 0
      (prepared_holds M (signal_of (joined cs)) least most) all (λ i h. ap (signal_of (joined cs)) (sym (zero-add i)))

  -- the outputs joined are the tree's outputs for the joined samples, sample n under the gains of the call that carried it
  pub whole_history : (played (prepared M 1) cs).output ≡ from 0 (length (joined cs)) (output published M (carried cs) (signal_of (joined cs)))
  whole_history =
      continued.outputs_are ∙
      from-ext 0 (length (joined cs))
      (λ i _ _. output_ext published M (λ k. carried cs (k - 0)) (carried cs) (signal_of (joined cs)) i (λ m. ap (λ (k : ℕ). carried cs k m) (sub-zero i)))

  -- .. sample by sample
  pub output_at : (n : ℕ) → n < length (joined cs) → get_or (played (prepared M 1) cs).output n (pos 0) ≡ output published M (carried cs) (signal_of (joined cs)) n
  output_at n h =
      ap (λ (l : List ℤ). get_or l n (pos 0)) whole_history ∙ from_at 0 (length (joined cs)) (output published M (carried cs) (signal_of (joined cs))) n h ∙
      ap (output published M (carried cs) (signal_of (joined cs))) (zero-add n)

  -- .. and the memory holds just those samples
  pub memory_holds : State published M (signal_of (joined cs)) (length (joined cs)) (played (prepared M 1) cs).memory
  memory_holds =
      subst (λ (k : ℕ). State published M (signal_of (joined cs)) k (played (prepared M 1) cs).memory) (zero-add (length (joined cs))) continued.state

-- two ways of cutting the same samples under the same gains give the same output and the same memory meaning
pub cutting_alike : (M : ℕ) → 2 ≤ M → M ≤ 10 → (cs ds : List Call) → AllAccepted (prepared M 1) cs → AllAccepted (prepared M 1) ds → joined cs ≡ joined ds →
    ((n m : ℕ) → n < length (joined cs) → carried cs n m ≡ carried ds n m) →
    ((played (prepared M 1) cs).output ≡ (played (prepared M 1) ds).output) ×
    State published M (signal_of (joined ds)) (length (joined ds)) (played (prepared M 1) cs).memory ×
    State published M (signal_of (joined ds)) (length (joined ds)) (played (prepared M 1) ds).memory
cutting_alike M l h cs ds a b e g = (
  whole_history M l h cs a ∙
      from-ext 0 (length (joined cs))
      (λ i _ q. output_ext published M (carried cs) (carried ds) (signal_of (joined cs)) i (λ m. g i m (omega (arith, zero-add (length (joined cs)))))) ∙
      ap (λ (xs : List ℤ). from 0 (length xs) (output published M (carried ds) (signal_of xs))) e ∙ sym (whole_history M l h ds b),
  subst (λ (xs : List ℤ). State published M (signal_of xs) (length xs) (played (prepared M 1) cs).memory) e (memory_holds M l h cs a),
  memory_holds M l h ds b,
)
