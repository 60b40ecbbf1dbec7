-- A run goes to its end exactly if every sample of its data that is wholly there is a number; else it stops. Assumes nothing.
use mathlib.Core.Path.{◌≡◌, refl, sym, ap, ap₂, ◌∙◌}
use mathlib.Core.Logic.{◌⊎◌, inl, inr, ⊎_elim}
use mathlib.Core.Bool.{Bool, true, false, ◌&&◌, true≢false}
use Rattle.std.proofs.Math.Bool.{and-true, and-false}
use mathlib.Core.List.{List, [], ◌∷◌, ◌++◌, append-nil}
use Prim.Native.Nat.{ℕ, zero, suc, ◌+◌, ◌-◌, ◌*◌, ◌≤◌, min}
use native.Mathlib.Nat.{suc-add, zero-add, mul-zero, mul-add}
use native.Mathlib.Omega.{arith}
use lib.Dec.{leb}
use lib.ListN.{length, take, drop, length-append, length-drop}
use lib.Seq.{take-append-le, drop-append-le}
use lib.IntN.{ℤ}
use Rattle.answers.specs.First.{all_pass}
use Rattle.answers.proofs.Firsts.{all_both}
use Rattle.fields.specs.Bytes.{Bytes}
use Rattle.samples.specs.Channels.{count_of}
use Rattle.samples.specs.Format.{size_of}
use Rattle.samples.specs.Sample.{is_sample_in}
use Rattle.samples.specs.Samples.{pieces_of, first_bad, all_samples}
use Rattle.samples.specs.declared.channels.Channels.{Channels}
use Rattle.samples.specs.declared.format.Format.{Format}
use Rattle.samples.proofs.Pieces.{length_pieces}
use Rattle.eqfile.specs.Data.{there_of, numbers_from}
use Rattle.eqfile.specs.Turn.{late, fed_in_all, turn_of}
use Rattle.eqfile.proofs.Turns.{wanted_few}
use Rattle.runs.specs.Program.{State, fresh, handed, frame_bytes, turn_at, next, after, Followed, ByPlan}
use Rattle.runs.proofs.NeverMore.{step}
use Rattle.runs.proofs.SamplesInPieces.{all, fewer, both}
use Rattle.runs.proofs.BlockCalls.{Over, last_piece, over_nothing, by_samples, handed-within}
use Rattle.runs.proofs.OneMore.{at_grows, at_within}
use Rattle.runs.proofs.AllAsked.{wanted_is}
use Rattle.runs.proofs.Stopping.{no_numbers, stop_asks, stop_reads}
use Rattle.runs.proofs.AnyData.{Run, Stop, run_or_stop}

-- ---- samples in pieces

-- whole pieces, and then others
pieces_append : (a j size : ℕ) (x y : List ℕ) → length x ≡ size * a → pieces_of (a + j) size (x ++ y) ≡ pieces_of a size x ++ pieces_of j size y
unfolding pieces_of
pieces_append zero j size [] y l = ap (λ (k : ℕ). pieces_of k size y) (zero-add j)
pieces_append zero j size (b ∷ x) y l = absurd (omega (arith, mul-zero size))
pieces_append (suc a) j size x y l =
    let here : size ≤ length x = omega arith in
    ap (λ (k : ℕ). pieces_of k size (x ++ y)) (suc-add a j) ∙
    ap₂ (λ (s t : List ℕ). s ∷ pieces_of (a + j) size t) (take-append-le size x y here) (drop-append-le size x y here) ∙
    ap (λ (t : List (List ℕ)). take size x ∷ t) (pieces_append a j size (drop size x) y (length-drop size x ∙ omega arith))

all_samples_lem : (n : ℕ) (format : Format) (s : List ℕ) → all_samples n format s ≡ all_pass (is_sample_in format) (pieces_of n (size_of format) s)
all_samples_lem n format s = sym (ap (λ (k : ℕ). leb k (first_bad n format s)) (length_pieces n (size_of format) s))

numbers_is : (n k : ℕ) (format : Format) (s : List ℕ) → there_of n format s ≡ k → numbers_from n format s ≡ all_pass (is_sample_in format) (pieces_of k (size_of format) s)
unfolding numbers_from
numbers_is n k format s e = ap (λ (j : ℕ). all_samples j format s) e ∙ all_samples_lem k format s

-- a block's bytes and those behind it, as in `from-append`
numbers_append : (a b : ℕ) (format : Format) (x y : List ℕ) → length x ≤ size_of format * a → (length x ≡ size_of format * a) ⊎ (y ≡ []) →
    numbers_from (a + b) format (x ++ y) ≡ (numbers_from a format x && numbers_from b format y)
numbers_append a b format x y l (inl e) =
    let size = size_of format in
    let j = there_of b format y in
    numbers_is (a + b) (a + j) format (x ++ y) (both a b format (length (x ++ y)) (length y) (length-append x y ∙ ap (λ (k : ℕ). k + length y) e)) ∙
    ap (all_pass (is_sample_in format)) (pieces_append a j size x y e) ∙ all_both (is_sample_in format) (pieces_of a size x) (pieces_of j size y) ∙
    ap₂ ◌&&◌ (sym (numbers_is a a format x (all a format (length x) e))) (sym (numbers_is b j format y refl))
numbers_append a b format x y l (inr e) =
    let k = there_of a format x in
    ap (λ (z : List ℕ). numbers_from (a + b) format (x ++ z)) e ∙ ap (numbers_from (a + b) format) (append-nil x) ∙
    numbers_is (a + b) k format x (fewer a b format (length x) l) ∙ sym (numbers_is a k format x refl) ∙ sym (and-true (numbers_from a format x)) ∙
    ap (λ (t : Bool). numbers_from a format x && t) (sym (no_numbers b format y (ap length e)))

-- more room, no more bytes: nothing more is judged
numbers_more : (a b : ℕ) (format : Format) (s : List ℕ) → length s ≤ size_of format * a → numbers_from (a + b) format s ≡ numbers_from a format s
numbers_more a b format s l = let k = there_of a format s in numbers_is (a + b) k format s (fewer a b format (length s) l) ∙ sym (numbers_is a k format s refl)

-- ---- turns

module _ (gains : List ℤ) (format : Format) (channels : Channels) (frames : ℕ) where
  abbrev c : ℕ
  c = count_of channels

  abbrev size : ℕ
  size = frame_bytes format channels

  -- what turns by the plan read is numbers
  followed_numbers : (s : State) (us : List (List ℕ)) → s.read ≤ size * min s.at frames → Followed gains format channels frames s us →
      numbers_from (c * ((after gains format channels frames s us).at - s.at)) format (handed us) ≡ true
  unfolding Followed after handed turn_of
  followed_numbers s [] r h = no_numbers (c * (s.at - s.at)) format [] refl
  followed_numbers s (u ∷ us) r h =
      let fed = (turn_at format channels frames s).fed in
      let at = s.at in
      let read = s.read in
      let got = length u in
      let then = next gains format channels frames s u in
      let end = (after gains format channels frames then us).at in
      let own : got ≤ size * fed = omega (arith, h.0.arrives.read_most, wanted_few size frames at read fed) in
      let whole : c * (end - at) ≡ c * fed + c * (end - (at + fed)) =
      sym (sym (mul-add c fed (end - (at + fed))) ∙ ap (λ (n : ℕ). c * n) (omega (arith, at_grows gains format channels frames then us))) in
      ap (λ (n : ℕ). numbers_from n format (u ++ handed us)) whole ∙
      numbers_append (c * fed) (c * (end - (at + fed))) format u (handed us) (omega (arith, by_samples c (size_of format) fed))
      (⊎_elim (λ (e : got ≡ size * fed). inl (e ∙ by_samples c (size_of format) fed))
      (λ (o : Over size frames (at + fed) (read + got)). inr (over_nothing gains format channels frames then us o h.1)) (last_piece size frames at read fed got r own)) ∙
      ap₂ ◌&&◌ h.0.numbers (followed_numbers then us (step size frames at read fed got r h.0.arrives.read_most) h.1)

  -- a run that goes to its end has read numbers alone
  run_numbers : (us : List (List ℕ)) → ByPlan gains format channels frames (fresh channels) us → numbers_from (c * frames) format (handed us) ≡ true
  run_numbers us h =
      let end : (after gains format channels frames (fresh channels) us).at - 0 ≡ fed_in_all frames = omega (arith, h.1, at_within gains format channels frames (fresh channels) us (omega arith)) in
      sym (numbers_more (c * frames) (c * late) format (handed us) (omega (arith, by_samples c (size_of format) frames, handed-within gains format channels frames (fresh channels) us (omega arith) h.0))) ∙
      ap (λ (n : ℕ). numbers_from n format (handed us)) (sym (mul-add c frames late) ∙ ap (λ (n : ℕ). c * n) (sym end)) ∙
      followed_numbers (fresh channels) us (omega arith) h.0

  -- one that stops has read one that is none
  stop_numbers : (d : List ℕ) → Stop gains format channels frames d → numbers_from (c * frames) format d ≡ false
  unfolding turn_of
  stop_numbers d st =
      let us = st.turns in
      let u = st.piece in
      let rest = st.unread in
      let end = after gains format channels frames (fresh channels) us in
      let at = end.at in
      let fed = (turn_at format channels frames end).fed in
      let g = min fed (frames - at) in
      let reads = stop_reads st.stops in
      let w-is : (turn_at format channels frames end).wanted ≡ size * g = wanted_is size frames at end.read fed (stop_asks st.stops).0 in
      let few : length u ≤ size_of format * (c * g) = omega (arith, st.stops.arrives.read_most, w-is, by_samples c (size_of format) g) in
      let before : length (handed us) ≡ size_of format * (c * at) = reads.0 ∙ by_samples c (size_of format) at in
      let left : c * frames ≡ c * at + c * (frames - at) = parts at (frames - at) frames (omega (arith, reads.1)) in
      let here : c * (frames - at) ≡ c * g + c * (frames - at - g) = parts g (frames - at - g) (frames - at) (omega arith) in
      let room : c * fed ≡ c * g + c * (fed - g) = parts g (fed - g) fed (omega arith) in
      let none : numbers_from (c * g) format u ≡ false =
      sym (numbers_more (c * g) (c * (fed - g)) format u few) ∙ ap (λ (n : ℕ). numbers_from n format u) (sym room) ∙ st.stops.bad in
      ap (numbers_from (c * frames) format) (sym st.reads) ∙ ap (λ (n : ℕ). numbers_from n format (handed us ++ (u ++ rest))) left ∙
      numbers_append (c * at) (c * (frames - at)) format (handed us) (u ++ rest) (omega arith) (inl before) ∙
      ap (λ (b : Bool). numbers_from (c * at) format (handed us) && b)
      (ap (λ (n : ℕ). numbers_from n format (u ++ rest)) here ∙
      numbers_append (c * g) (c * (frames - at - g)) format u rest few
      (⊎_elim (λ (e : length u ≡ (turn_at format channels frames end).wanted). inl (e ∙ w-is ∙ by_samples c (size_of format) g)) (λ (e : rest ≡ []). inr e) st.last) ∙
      ap (λ (b : Bool). b && numbers_from (c * (frames - at - g)) format rest) none) ∙
      and-false (numbers_from (c * at) format (handed us))
    where
      parts : (a b n : ℕ) → a + b ≡ n → c * n ≡ c * a + c * b
      parts a b n e = ap (λ (k : ℕ). c * k) (sym e) ∙ mul-add c a b

  -- so all numbers, and the run goes to its end
  pub numbers_run : (d : List ℕ) → Bytes d → length d ≤ size * frames → numbers_from (c * frames) format d ≡ true → Run gains format channels frames d
  numbers_run d b l e = ⊎_elim (λ r. r) (λ st. absurd (true≢false (sym e ∙ stop_numbers d st))) (run_or_stop gains format channels frames d b l)

  -- .. and one that is none, and it stops
  pub bad_stops : (d : List ℕ) → Bytes d → length d ≤ size * frames → numbers_from (c * frames) format d ≡ false → Stop gains format channels frames d
  bad_stops d b l e =
      ⊎_elim (λ r. absurd (true≢false (sym (run_numbers r.turns r.runs) ∙ ap (numbers_from (c * frames) format) r.hands ∙ e))) (λ st. st)
      (run_or_stop gains format channels frames d b l)
