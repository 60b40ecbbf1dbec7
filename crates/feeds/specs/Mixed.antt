-- Plain and crossover calls one after the other, from some memory on: rules 16.3 to 16.7. One feed f of them at a time.
use Rattle.std.specs.Prelude.{◌≡◌, Bool, true, cond, List, [], ◌∷◌, ◌++◌, map, ℕ, ◌+◌, ◌*◌, ◌/◌, ◌≤◌, ◌<◌, eqb, length, get_or, ℤ, pos, nat_abs, Result}
use Rattle.answers.specs.Answer.{Answer, accepted, number_in}
use Rattle.answers.specs.Checks.{Outcome}
use Rattle.frames.specs.Frames.{side_of}
use Rattle.tree.specs.Prototype.{published}
use Rattle.tree.specs.Signal.{Signal, signal_of, gain_of}
use Rattle.tree.specs.Exact.{exact_output}
use Rattle.octave.specs.Answer.{block_answer}
use Rattle.octave.specs.Memory.{prepared}
use Rattle.octave.specs.Block.{frames_of}
use Rattle.history.specs.History.{Call, called, Played, joined, carried, side_calls}
use Rattle.crossover.specs.declared.cross.CrossError.{CrossError}
use Rattle.crossover.specs.Answer.{cross_answer}
use Rattle.crossover.specs.Feeds.{Feed, bass, horn, goes, feed_gains}
use Rattle.crossover.specs.Cross.{split_allowed, cross_of}

-- ---- the calls

-- rule 16.3: a crossover call: its gains, its split, its samples, and what each feed's places held before
pub record Crossing : Type 0 where
  pub gains : List ℤ
  pub split : ℤ
  pub input : List ℤ
  pub before : Feed → List ℤ

-- rule 16.7: a call of a mixed run
pub data AnyCall : Type 0 where
  plain : Call → AnyCall
  cross : Crossing → AnyCall

-- rule 16.3: what a crossover call does to a memory
abbrev pub crossing : List ℤ → Crossing → Outcome (Result ℕ CrossError) (List ℤ × List ℤ × List ℤ)
crossing m x = cross_of m x.gains x.split x.input (x.before bass) (x.before horn)

-- rule 16.3: the places of a feed, among memory, bass and horn
abbrev pub places_in : Feed → List ℤ × List ℤ × List ℤ → List ℤ
places_in bass lent = lent.1
places_in horn lent = lent.2

-- rule 6.8: what a call answers
abbrev pub answered : List ℤ → AnyCall → Answer ℕ
answered m (plain c) = block_answer (called m c).result
answered m (cross x) = cross_answer (crossing m x).result

-- rules 6.4, 16.3: the memory after it
abbrev pub after_any : List ℤ → AnyCall → List ℤ
after_any m (plain c) = (called m c).lent.0
after_any m (cross x) = (crossing m x).lent.0

-- rules 16.3, 16.7: what a feed's places hold after it; the one output of a plain call stands in both feeds
abbrev pub fed_by : Feed → List ℤ → AnyCall → List ℤ
fed_by f m (plain c) = (called m c).lent.1
fed_by f m (cross x) = places_in f (crossing m x).lent

-- ---- calls as plain ones

-- rules 16.3, 16.7: a call as a plain one with its own gains
abbrev pub as_plain : AnyCall → Call
as_plain (plain c) = c
as_plain (cross x) = record { gains = x.gains; input = x.input; before = x.before bass }

-- rule 16.4: as one feed sees it: the gains of the other feed's bands read 0
abbrev pub as_feed : Feed → AnyCall → Call
as_feed f (plain c) = c
as_feed f (cross x) = record { gains = feed_gains f (nat_abs x.split) x.gains; input = x.input; before = x.before f }

-- rules 16.3, 16.7: calls as plain ones
abbrev pub plain_calls : List AnyCall → List Call
plain_calls xs = map as_plain xs

-- rule 16.4: .. as one feed sees them
abbrev pub feed_calls : Feed → List AnyCall → List Call
feed_calls f xs = map (as_feed f) xs

-- rule 16.7: the samples of calls, joined
abbrev pub samples : List AnyCall → List ℤ
samples xs = joined (plain_calls xs)

-- ---- runs

-- rule 6.6: whether it is accepted; no refusal has the number 0
abbrev pub taken : List ℤ → AnyCall → Bool
taken m a = eqb (number_in (answered m a)) 0

-- rule 16.7: calls in turn: the memory after them, and a feed's outputs of the accepted ones joined
unfoldable pub mixed : Feed → List ℤ → List AnyCall → Played
mixed f m [] = record { memory = m; output = [] }
mixed f m (a ∷ xs) =
    let rest = mixed f (after_any m a) xs in
    record { memory = rest.memory; output = cond (taken m a) (fed_by f m a ++ rest.output) rest.output }

-- rule 16.7: every call is accepted, with the number of its frames
unfoldable pub AllTaken : List ℤ → List AnyCall → Type 0
AllTaken m [] = Unit {0}
AllTaken m (a ∷ xs) = (answered m a ≡ accepted (frames_of m (as_plain a).input)) × AllTaken (after_any m a) xs

-- rules 11.4, 16.7: the accepted ones among some calls, in their order
unfoldable pub taken_of : List ℤ → List AnyCall → List AnyCall
taken_of m [] = []
taken_of m (a ∷ xs) = cond (taken m a) (a ∷ taken_of (after_any m a) xs) (taken_of (after_any m a) xs)

-- rules 3.10, 16.7: the call a carried frame n of some calls of so many channels
pub data Carries (channels : ℕ) (a : AnyCall) : ℕ → List AnyCall → Type 0 where
  here : {n : ℕ} {xs : List AnyCall} → n < length (as_plain a).input / channels → Carries channels a n (a ∷ xs)
  later : {n : ℕ} {b : AnyCall} {xs : List AnyCall} → Carries channels a n xs → Carries channels a (length (as_plain b).input / channels + n) (b ∷ xs)

-- rule 16.7: what a feed was written on side s for frame n of calls from prepared memory
abbrev pub fed_on : Feed → (M channels s : ℕ) → List AnyCall → ℕ → ℤ
fed_on f M c s xs n = get_or (mixed f (prepared M c) xs).output (c * n + s) (pos 0)

-- ---- one feed as the equaliser

-- rules 3.10, 16.4: the gains of a feed for frame n of side s: g n m for band m
abbrev pub feed_gain : Feed → (channels s : ℕ) → List AnyCall → ℕ → ℕ → ℤ
feed_gain f c s xs = carried (side_calls c s (feed_calls f xs))

-- rules 1.11, 3.1: the samples of side s as a signal
abbrev pub heard : (channels s : ℕ) → List AnyCall → Signal
heard c s xs = signal_of (side_of c s (samples xs))

-- rules 4.5, 16.4: 4,096·P times the exact output of a feed on side s for frame n
abbrev pub exact_on : Feed → (M channels s : ℕ) → List AnyCall → ℕ → ℤ
exact_on f M c s xs n = exact_output published M (feed_gain f c s xs) (heard c s xs) n

-- ---- crossover calls where plain ones stood

-- rules 16.1, 16.3: all that a crossover call asks beyond the plain one: an allowed split, and places of each feed for the input
abbrev pub Ready : (M : ℕ) → AnyCall → Type 0
Ready M (plain c) = Unit {0}
Ready M (cross x) = (split_allowed M x.split ≡ true) × ((f : Feed) → length (x.before f) ≡ length x.input)

-- rule 16.7: of each call
unfoldable pub AllReady : (M : ℕ) → List AnyCall → Type 0
AllReady M [] = Unit {0}
AllReady M (a ∷ xs) = Ready M a × AllReady M xs

-- ---- what one feed does not tell apart

-- rule 16.6: gains that agree at the bands of a feed
abbrev pub SameBands : Feed → (s : ℕ) → (gains others : List ℤ) → Type 0
SameBands f s gains others = (m : ℕ) → 1 ≤ m → goes f s m ≡ true → gain_of gains m ≡ gain_of others m

-- rule 16.6: what a feed reads of calls: the samples of each, and its gains with those of the other feed's bands at 0
abbrev pub read_by : Feed → List AnyCall → List (List ℤ × List ℤ)
read_by f xs = map (λ (c : Call). (c.gains, c.input)) (feed_calls f xs)
