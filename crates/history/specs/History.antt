-- Calls one after the other, from some memory on: rules 11.2 to 11.4.
use Rattle.std.specs.Prelude.{◌≡◌, Bool, cond, List, [], ◌∷◌, ◌++◌, ℕ, zero, suc, ◌+◌, ◌-◌, ◌*◌, eqb, ltb, length, get_or, ℤ, pos, Result}
use Rattle.answers.specs.Answer.{accepted, number_in}
use Rattle.answers.specs.Checks.{Outcome}
use Rattle.tree.specs.Prototype.{published}
use Rattle.tree.specs.Signal.{signal_of, gain_of}
use Rattle.tree.specs.Exact.{exact_output}
use Rattle.octave.specs.declared.block.BlockError.{BlockError}
use Rattle.octave.specs.Answer.{block_answer}
use Rattle.octave.specs.Memory.{side_places, held_in, memory_of, bands_in, prepared}
use Rattle.frames.specs.Frames.{side_of, places_of}
use Rattle.octave.specs.Block.{frames_of, block_of}

-- rule 11.2: a block call: its gains, its samples, and what the output block held before
pub record Call : Type 0 where
  pub gains : List ℤ
  pub input : List ℤ
  pub before : List ℤ

-- rule 6.8, block: what a call does to a memory
abbrev pub called : List ℤ → Call → Outcome (Result ℕ BlockError) (List ℤ × List ℤ)
called m c = block_of m c.gains c.input c.before

-- rules 6.4, 6.7: the memory after it
abbrev pub after_call : List ℤ → Call → List ℤ
after_call m c = (called m c).lent.0

-- rule 6.6: whether it is accepted; no refusal has the number 0
abbrev pub is_accepted : List ℤ → Call → Bool
is_accepted m c = eqb (number_in (block_answer (called m c).result)) 0

-- rules 11.2, 11.4: the memory after some calls, and the outputs of the accepted ones joined
pub record Played : Type 0 where
  pub memory : List ℤ
  pub output : List ℤ

-- rules 11.2, 11.4: calls in turn
unfoldable pub played : List ℤ → List Call → Played
played m [] = record { memory = m; output = [] }
played m (c ∷ cs) =
    let rest = played (after_call m c) cs in
    record { memory = rest.memory; output = cond (is_accepted m c) ((called m c).lent.1 ++ rest.output) rest.output }

-- rule 11.4: the accepted ones among some calls, in their order
unfoldable pub accepted_of : List ℤ → List Call → List Call
accepted_of m [] = []
accepted_of m (c ∷ cs) = cond (is_accepted m c) (c ∷ accepted_of (after_call m c) cs) (accepted_of (after_call m c) cs)

-- rule 11.2: every call is accepted, with the number of its frames
unfoldable pub AllAccepted : List ℤ → List Call → Type 0
AllAccepted m [] = Unit {0}
AllAccepted m (c ∷ cs) = (block_answer (called m c).result ≡ accepted (frames_of m c.input)) × AllAccepted (after_call m c) cs

-- rule 11.2: the samples of the calls, joined
unfoldable pub joined : List Call → List ℤ
joined [] = []
joined (c ∷ cs) = c.input ++ joined cs

-- rule 3.10: the gains of the call that carried sample n
unfoldable pub carried : List Call → ℕ → ℕ → ℤ
carried [] n m = pos 0
carried (c ∷ cs) n m = cond (ltb n (length c.input)) (gain_of c.gains m) (carried cs (n - length c.input) m)

-- rule 11.2: f n, f (n + 1), .., k of them
unfoldable pub from : {A : Type 0} → ℕ → ℕ → (ℕ → A) → List A
from n zero f = []
from n (suc k) f = f n ∷ from (n + 1) k f

-- rule 11.2: the output that was written for sample n of calls from prepared memory of one channel
abbrev pub written : ℕ → List Call → ℕ → ℤ
written M cs n = get_or (played (prepared M 1) cs).output n (pos 0)

-- rule 4.5: 4,096·P times the exact output for sample n of those calls
abbrev pub exact : ℕ → List Call → ℕ → ℤ
exact M cs n = exact_output published M (carried cs) (signal_of (joined cs)) n

-- ---- one side of calls

-- rule 11.11: one side of a call, as a call of one channel
abbrev pub side_call : (channels s : ℕ) → Call → Call
side_call c s call = record { gains = call.gains; input = side_of c s call.input; before = side_of c s call.before }

-- rule 11.11: one side of calls
unfoldable pub side_calls : (channels s : ℕ) → List Call → List Call
side_calls c s [] = []
side_calls c s (call ∷ cs) = side_call c s call ∷ side_calls c s cs

-- rule 11.11: the memory of one channel that holds the lines of one side
abbrev pub side_memory : (s : ℕ) → List ℤ → List ℤ
side_memory s m =
    let h = held_in m in
    memory_of (record { count = h.count; channels = pos 1; position = h.position; lines = places_of (side_places (bands_in m)) s h.lines })

-- rule 11.11: the output that was written on side s for frame n of calls from prepared memory
abbrev pub written_on : (M channels s : ℕ) → List Call → ℕ → ℤ
written_on M c s cs n = get_or (played (prepared M c) cs).output (c * n + s) (pos 0)

-- rule 11.12: the calls of two runs carry the same gains and the same samples of one side
unfoldable pub SameSide : (channels s : ℕ) → List Call → List Call → Type 0
SameSide c s [] [] = Unit {0}
SameSide c s [] (e ∷ ds) = ⊥
SameSide c s (d ∷ cs) [] = ⊥
SameSide c s (d ∷ cs) (e ∷ ds) = (d.gains ≡ e.gains) × (side_of c s d.input ≡ side_of c s e.input) × SameSide c s cs ds
