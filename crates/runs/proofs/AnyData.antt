-- Whatever data a file has, there is a run that reads just that, or one that stops at a block with a sample that is no number. Assumes nothing.
use mathlib.Core.Path.{◌≡◌, refl, sym, ap, ap₂, ◌∙◌}
use mathlib.Core.Logic.{◌⊎◌, inl, inr}
use mathlib.Core.Bool.{Bool, true, false}
use mathlib.Core.List.{List, [], ◌∷◌, ◌++◌, append_assoc}
use Prim.Native.Nat.{ℕ, zero, suc, ◌+◌, ◌-◌, ◌*◌, ◌≤◌, ◌<◌, min}
use native.Mathlib.Decide.{dec_lt}
use native.Mathlib.Nat.{sub-zero, mul-zero, mul-add}
use native.Mathlib.Omega.{arith}
use lib.ListN.{length, take, drop, length-take, length-drop, take-append-drop, drop_of_length-le}
use lib.Seq.{get_or-drop, drop-nil, length-take-le}
use Rattle.std.proofs.lemmas.List.{nil_from_length}
use lib.IntN.{ℤ}
use Rattle.samples.specs.declared.channels.Channels.{Channels}
use Rattle.samples.specs.declared.format.Format.{Format}
use Rattle.fields.specs.Bytes.{Bytes}
use Rattle.fields.proofs.Numbers.{bytes_take}
use Rattle.eqfile.specs.Turn.{fed_in_all, wanted_of, turn_of}
use Rattle.runs.specs.Program.{State, fresh, Arrives, handed, frame_bytes, turn_at, turn_numbers, next, after, Followed, ByPlan}
use Rattle.runs.specs.Stopped.{Stops}
use Rattle.runs.proofs.AllAsked.{wanted_is, both, start_is}

-- ---- the bytes

-- so far all was read, or nothing is left
abbrev Reading : (size frames at read : ℕ) → List ℕ → Type 0
Reading size frames at read d = ((read ≡ size * min at frames) ⊎ (d ≡ [])) × (length d ≤ size * (frames - at))

reading_on : (size frames at read fed w : ℕ) (d : List ℕ) → w ≡ wanted_of size frames at read fed → Reading size frames at read d →
    Reading size frames (at + fed) (read + length (take w d)) (drop w d)
reading_on size frames at read fed w d v (inr e, l) =
    let none : drop w d ≡ [] = ap (drop w) e ∙ drop-nil w in
    (inr none, rw none (omega arith))
reading_on size frames at read fed w d v (inl e, l) =
    let is : w ≡ size * min fed (frames - at) = v ∙ wanted_is size frames at read fed e in
    (by is (dec_lt w (length d)), omega (arith, length-drop w d, left))
  where
    left : size * (frames - at) ≡ size * min fed (frames - at) + size * (frames - (at + fed))
    left = sym (sym (mul-add size (min fed (frames - at)) (frames - (at + fed))) ∙ ap (λ (k : ℕ). size * k) (omega arith))

    by : w ≡ size * min fed (frames - at) → Dec (w < length d) → (read + length (take w d) ≡ size * min (at + fed) frames) ⊎ (drop w d ≡ [])
    by is (yes h) = inl (ap₂ ◌+◌ e (length-take-le w d (omega arith) ∙ is) ∙ both size frames at fed)
    by is (no h) = inr (drop_of_length-le d {i = w} (omega arith))

module _ (gains : List ℤ) (format : Format) (channels : Channels) (frames : ℕ) where
  -- turns that read as much of some data as they want
  run_of : ℕ → State → List ℕ → List (List ℕ)
  run_of zero s d = []
  run_of (suc k) s d =
      let w = (turn_at format channels frames s).wanted in
      take w d ∷ run_of k (next gains format channels frames s (take w d)) (drop w d)

  -- all that a turn wants came, or nothing comes behind it
  abbrev Last : State → (u rest : List ℕ) → Type 0
  Last s u rest = (length u ≡ (turn_at format channels frames s).wanted) ⊎ (rest ≡ [])

  -- each turn's bytes arrive, as many as it wants while there are any
  unfoldable AllArrive : State → List (List ℕ) → Type 0
  AllArrive s [] = Unit {0}
  AllArrive s (u ∷ us) = Arrives (turn_at format channels frames s) u × (Last s u (handed us) × AllArrive (next gains format channels frames s u) us)

  run_hands : (k : ℕ) (s : State) (d : List ℕ) → Reading (frame_bytes format channels) frames s.at s.read d → fed_in_all frames ≤ s.at + k → handed (run_of k s d) ≡ d
  unfolding handed run_of turn_of
  run_hands zero s d (e, l) h =
      let z : frames - s.at ≡ 0 = omega arith in
      let size = frame_bytes format channels in
      sym (nil_from_length d (omega (arith, ap (λ (k : ℕ). size * k) z ∙ mul-zero size)))
  run_hands (suc k) s d r h =
      let t = turn_at format channels frames s in
      let w = t.wanted in
      ap (λ (z : List ℕ). take w d ++ z)
      (run_hands k (next gains format channels frames s (take w d)) (drop w d) (reading_on (frame_bytes format channels) frames s.at s.read t.fed w d refl r) (omega arith)) ∙
      take-append-drop w d

  run_turns : (k : ℕ) (s : State) (d : List ℕ) → Bytes d → Reading (frame_bytes format channels) frames s.at s.read d → fed_in_all frames ≤ s.at + k → AllArrive s (run_of k s d) × (fed_in_all frames ≤ (after gains format channels frames s (run_of k s d)).at)
  unfolding AllArrive after run_of turn_of
  run_turns zero s d b r h = (tt, omega arith)
  run_turns (suc k) s d b r h =
      let t = turn_at format channels frames s in
      let w = t.wanted in
      let then = next gains format channels frames s (take w d) in
      let on = reading_on (frame_bytes format channels) frames s.at s.read t.fed w d refl r in
      let rest = run_turns k then (drop w d) (λ i. rw (get_or-drop w d i 0) (b (w + i))) on (omega arith) in
      ((record { read_most = omega (arith, length-take w d); bytes = bytes_take w d b }, (last w d _ (run_hands k then (drop w d) on (omega arith)), rest.0)), rest.1)
    where
      last : (w : ℕ) (d behind : List ℕ) → behind ≡ drop w d → (length (take w d) ≡ w) ⊎ (behind ≡ [])
      last w d behind e = by (dec_lt w (length d))
        where
          by : Dec (w < length d) → (length (take w d) ≡ w) ⊎ (behind ≡ [])
          by (yes l) = inl (length-take-le w d (omega arith))
          by (no l) = inr (e ∙ drop_of_length-le d {i = w} (omega arith))

  -- ---- the numbers

  -- of some turns, those before the first with a sample that is no number
  record StopIn (s : State) (us : List (List ℕ)) : Type 0 where
    before : List (List ℕ)
    piece : List ℕ
    behind : List (List ℕ)
    is : us ≡ before ++ piece ∷ behind
    followed : Followed gains format channels frames s before
    arrives : Arrives (turn_at format channels frames (after gains format channels frames s before)) piece
    bad : turn_numbers format channels frames (after gains format channels frames s before) piece ≡ false
    last : Last (after gains format channels frames s before) piece (handed behind)

  go_or_stop : (s : State) (us : List (List ℕ)) → AllArrive s us → Followed gains format channels frames s us ⊎ StopIn s us
  unfolding AllArrive Followed after
  go_or_stop s [] a = inl tt
  go_or_stop s (u ∷ us) a = by (turn_numbers format channels frames s u) refl (go_or_stop (next gains format channels frames s u) us a.1.1)
    where
      by : (b : Bool) → turn_numbers format channels frames s u ≡ b →
          Followed gains format channels frames (next gains format channels frames s u) us ⊎ StopIn (next gains format channels frames s u) us →
          Followed gains format channels frames s (u ∷ us) ⊎ StopIn s (u ∷ us)
      by false e rest = inr (record { before = []; piece = u; behind = us; is = refl; followed = tt; arrives = a.0; bad = e; last = a.1.0 })
      by true e (inl h) = inl (record { arrives = a.0; numbers = e }, h)
      by true e (inr st) =
          inr
          (record {
            before = u ∷ st.before;
            piece = st.piece;
            behind = st.behind;
            is = ap (λ (l : List (List ℕ)). u ∷ l) st.is;
            followed = (record { arrives = a.0; numbers = e }, st.followed);
            arrives = st.arrives;
            bad = st.bad;
            last = st.last;
          })

  handed-append : (us : List (List ℕ)) (u : List ℕ) (vs : List (List ℕ)) → handed (us ++ u ∷ vs) ≡ handed us ++ (u ++ handed vs)
  unfolding handed
  handed-append [] u vs = refl
  handed-append (v ∷ us) u vs = ap (λ (l : List ℕ). v ++ l) (handed-append us u vs) ∙ sym (append_assoc v (handed us) (u ++ handed vs))

  -- a run that reads just some bytes
  pub record Run (d : List ℕ) : Type 0 where
    pub turns : List (List ℕ)
    pub runs : ByPlan gains format channels frames (fresh channels) turns
    pub hands : handed turns ≡ d

  -- one that stops, and leaves the bytes behind its last block
  pub record Stop (d : List ℕ) : Type 0 where
    pub turns : List (List ℕ)
    pub piece : List ℕ
    pub unread : List ℕ
    pub stops : Stops gains format channels frames turns piece
    pub reads : handed turns ++ (piece ++ unread) ≡ d
    pub last : Last (after gains format channels frames (fresh channels) turns) piece unread

  -- .. there is one or the other for any data, cut short or not
  pub run_or_stop : (d : List ℕ) → Bytes d → length d ≤ frame_bytes format channels * frames → Run d ⊎ Stop d
  run_or_stop d b l = by (go_or_stop (fresh channels) us all.0)
    where
      us : List (List ℕ)
      us = run_of (fed_in_all frames) (fresh channels) d

      start : Reading (frame_bytes format channels) frames 0 0 d
      start = (inl (start_is (frame_bytes format channels) frames), rw (sub-zero frames) l)

      all : AllArrive (fresh channels) us × (fed_in_all frames ≤ (after gains format channels frames (fresh channels) us).at)
      all = run_turns (fed_in_all frames) (fresh channels) d b start (omega arith)

      hands : handed us ≡ d
      hands = run_hands (fed_in_all frames) (fresh channels) d start (omega arith)

      by : Followed gains format channels frames (fresh channels) us ⊎ StopIn (fresh channels) us → Run d ⊎ Stop d
      by (inl h) = inl (record { turns = us; runs = (h, all.1); hands = hands })
      by (inr st) =
          inr
          (record {
            turns = st.before;
            piece = st.piece;
            unread = handed st.behind;
            stops = record { followed = st.followed; arrives = st.arrives; bad = st.bad };
            reads = sym (ap handed st.is ∙ handed-append st.before st.piece st.behind) ∙ hands;
            last = st.last;
          })
