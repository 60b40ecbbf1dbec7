-- The turns as block calls: their samples are those of the bytes read, however these were handed over, and the zeros. Assumes nothing.
use mathlib.Core.Path.{◌≡◌, refl, sym, ap, ap₂, ◌∙◌}
use mathlib.Core.Logic.{◌⊎◌, inl, inr, ⊎_elim}
use mathlib.Core.Bool.{Bool, true, false, cond}
use mathlib.Core.List.{List, [], ◌∷◌, ◌++◌}
use Prim.Native.Nat.{ℕ, ◌+◌, ◌-◌, ◌*◌, ◌≤◌, ◌<◌, min}
use native.Mathlib.Nat.{sub-zero, mul-zero, mul-add, mul-le-mul_left}
use native.Mathlib.Omega.{arith}
use native.Mathlib.Decide.{dec_lt}
use borrow.Author.Tests.{eqb-true}
use lib.ListN.{length, replicate, length-append}
use Rattle.std.proofs.lemmas.List.{nil_from_length}
use lib.IntN.{ℤ, pos}
use Rattle.samples.specs.Channels.{count_of}
use Rattle.samples.specs.declared.channels.Channels.{Channels}
use Rattle.samples.specs.Format.{size_of}
use Rattle.samples.specs.declared.format.Format.{Format}
use Rattle.history.specs.History.{Call, joined}
use Rattle.eqfile.specs.Data.{samples_from}
use Rattle.eqfile.specs.Turn.{late, fed_in_all, all_read, wanted_of, turn_of}
use Rattle.blocks.specs.Equalise.{zeros}
use Rattle.runs.specs.Program.{State, fresh, handed, frame_bytes, turn_at, turn_samples, next, after, Followed, ByPlan, samples_read}
use Rattle.eqfile.proofs.Turns.{wanted_few}
use Rattle.runs.proofs.NeverMore.{step}
use Rattle.runs.proofs.OneMore.{at_grows, at_within}
use Rattle.runs.proofs.SamplesInPieces.{more_zeros, no_bytes, from-append}

-- ---- one turn

-- the data has ended, or it is all asked for
abbrev pub Over : (size frames at read : ℕ) → Type 0
Over size frames at read = (read < size * min at frames) ⊎ (frames ≤ at)

-- then nothing more is asked for
over_none : (size frames at read fed : ℕ) → Over size frames at read → wanted_of size frames at read fed ≡ 0
unfolding wanted_of
over_none size frames at read fed o = by (all_read size frames at read) refl o
  where
    by : (b : Bool) → all_read size frames at read ≡ b → Over size frames at read → cond b (size * min fed (frames - at)) 0 ≡ 0
    by true e (inl l) = absurd (omega (arith, eqb-true))
    by true e (inr l) =
        let z : min fed (frames - at) ≡ 0 = omega arith in
        ap (λ (k : ℕ). size * k) z ∙ mul-zero size
    by false e o = refl

-- .. and so it stays
over_stays : (size frames at read fed : ℕ) → Over size frames at read → Over size frames (at + fed) (read + 0)
over_stays size frames at read fed (inl l) =
    let m : size * min at frames ≤ size * min (at + fed) frames = mul-le-mul_left size (omega arith) in
    inl (omega arith)
over_stays size frames at read fed (inr l) = inr (omega arith)

-- a block that lacks some of its bytes is the last that has any
pub last_piece : (size frames at read fed got : ℕ) → read ≤ size * min at frames → got ≤ size * fed → (got ≡ size * fed) ⊎ Over size frames (at + fed) (read + got)
last_piece size frames at read fed got r own = by (dec_lt got (size * fed)) (dec_lt (at + fed) frames)
  where
    by : Dec (got < size * fed) → Dec (at + fed < frames) → (got ≡ size * fed) ⊎ Over size frames (at + fed) (read + got)
    by (no n) d = inl (omega arith)
    by (yes l) (no n) = inr (inr (omega arith))
    by (yes l) (yes d) =
        let before : min at frames ≡ at = omega arith in
        let after : min (at + fed) frames ≡ at + fed = omega arith in
        inr (inl (rw after (omega (arith, rw before at r))))

-- ---- all turns

-- the bytes of frames are those of their samples
pub by_samples : (count each n : ℕ) → count * each * n ≡ each * (count * n)
by_samples count each n = omega arith

module _ (gains : List ℤ) (format : Format) (channels : Channels) (frames : ℕ) where
  pub over_nothing : (s : State) (us : List (List ℕ)) → Over (frame_bytes format channels) frames s.at s.read → Followed gains format channels frames s us → handed us ≡ []
  unfolding Followed handed turn_of
  over_nothing s [] o h = refl
  over_nothing s (u ∷ us) o h =
      let size = frame_bytes format channels in
      let fed = (turn_at format channels frames s).fed in
      let z : length u ≡ 0 = omega (arith, h.0.arrives.read_most, over_none size frames s.at s.read fed o) in
      let o' : Over size frames (s.at + fed) (s.read + length u) = rw z (over_stays size frames s.at s.read fed o) in
      ap₂ ◌++◌ (nil_from_length u z) (over_nothing (next gains format channels frames s u) us o' h.1)

  -- never more bytes are read than those of the frames fed
  pub read-within : (s : State) (us : List (List ℕ)) → s.read ≤ frame_bytes format channels * min s.at frames → Followed gains format channels frames s us →
      (after gains format channels frames s us).read ≤ frame_bytes format channels * min (after gains format channels frames s us).at frames
  unfolding Followed after turn_of
  read-within s [] r h = r
  read-within s (u ∷ us) r h =
      read-within (next gains format channels frames s u) us
      (step (frame_bytes format channels) frames s.at s.read (turn_at format channels frames s).fed (length u) r h.0.arrives.read_most) h.1

  -- the count of them is that of the bytes handed over
  pub read_is : (s : State) (us : List (List ℕ)) → (after gains format channels frames s us).read ≡ s.read + length (handed us)
  unfolding after handed
  read_is s [] = omega arith
  read_is s (u ∷ us) = read_is (next gains format channels frames s u) us ∙ omega (arith, length-append u (handed us))

  -- .. nor than those of the file's frames
  pub handed-within : (s : State) (us : List (List ℕ)) → s.read ≤ frame_bytes format channels * min s.at frames → Followed gains format channels frames s us →
      s.read + length (handed us) ≤ frame_bytes format channels * frames
  handed-within s us r h =
      let e = after gains format channels frames s us in
      let size = frame_bytes format channels in
      let l : size * min e.at frames ≤ size * frames = mul-le-mul_left size (omega arith) in
      omega (arith, read_is s us, read-within s us r h)

  -- the turns as block calls
  unfoldable pub calls : State → List (List ℕ) → List Call
  calls s [] = []
  calls s (u ∷ us) =
      let input = turn_samples format channels frames s u in
      record { gains = gains; input = input; before = zeros input } ∷ calls (next gains format channels frames s u) us

  rest_joined : (s : State) (us : List (List ℕ)) → s.read ≤ frame_bytes format channels * min s.at frames → Followed gains format channels frames s us →
      joined (calls s us) ≡ samples_from (count_of channels * ((after gains format channels frames s us).at - s.at)) format (handed us)
  unfolding Followed after handed turn_of calls joined
  rest_joined s [] r h =
      let z : s.at - s.at ≡ 0 = omega arith in
      sym (ap (λ (n : ℕ). samples_from (count_of channels * n) format []) z ∙ ap (λ (n : ℕ). samples_from n format []) (mul-zero (count_of channels)) ∙ no_bytes 0 format)
  rest_joined s (u ∷ us) r h =
      let size = frame_bytes format channels in
      let count = count_of channels in
      let fed = (turn_at format channels frames s).fed in
      let at = s.at in
      let read = s.read in
      let got = length u in
      let then = next gains format channels frames s u in
      let end = (after gains format channels frames then us).at in
      let own : got ≤ size * fed = omega (arith, h.0.arrives.read_most, wanted_few size frames at read fed) in
      let all : count * fed + count * (end - (at + fed)) ≡ count * (end - at) =
      sym (mul-add count fed (end - (at + fed))) ∙ ap (λ (n : ℕ). count * n) (omega (arith, at_grows gains format channels frames then us)) in
      ap (λ (z : List ℤ). samples_from (count * fed) format u ++ z)
      (rest_joined then us (step size frames at read fed got r h.0.arrives.read_most) h.1) ∙
      from-append (count * fed) (count * (end - (at + fed))) format u (handed us) (omega (arith, by_samples count (size_of format) fed))
      (⊎_elim (λ (e : got ≡ size * fed). inl (e ∙ by_samples count (size_of format) fed))
      (λ (o : Over size frames (at + fed) (read + got)). inr (over_nothing then us o h.1)) (last_piece size frames at read fed got r own)) ∙
      ap (λ (n : ℕ). samples_from n format (u ++ handed us)) all

  -- the samples of some turns' calls are those of the bytes read for them
  pub calls_so_far : (us : List (List ℕ)) → Followed gains format channels frames (fresh channels) us →
      joined (calls (fresh channels) us) ≡ samples_from (count_of channels * (after gains format channels frames (fresh channels) us).at) format (handed us)
  calls_so_far us h =
      rest_joined (fresh channels) us (omega arith) h ∙
      ap (λ (n : ℕ). samples_from (count_of channels * n) format (handed us)) (sub-zero (after gains format channels frames (fresh channels) us).at)

  -- the calls of a whole run: those of the bytes read, and the zeros that follow
  pub calls_join : (us : List (List ℕ)) → ByPlan gains format channels frames (fresh channels) us →
      joined (calls (fresh channels) us) ≡ samples_read format channels frames (handed us) ++ replicate (count_of channels * late) (pos 0)
  calls_join us h =
      let count = count_of channels in
      let end : (after gains format channels frames (fresh channels) us).at ≡ fed_in_all frames = omega (arith, h.1, at_within gains format channels frames (fresh channels) us (omega arith)) in
      calls_so_far us h.0 ∙
      ap (λ (n : ℕ). samples_from n format (handed us)) (ap (λ (n : ℕ). count * n) end ∙ mul-add count frames late) ∙
      more_zeros (count * frames) (count * late) format (handed us) (omega (arith, by_samples count (size_of format) frames, handed-within (fresh channels) us (omega arith) h.0))
