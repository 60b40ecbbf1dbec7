-- What a run reads: the data that came with the front goes first, and what is short is what the header states but was not read. Assumes nothing.
use mathlib.Core.Path.{◌≡◌, refl, sym, ap, ap₂, subst, ◌∙◌}
use mathlib.Core.Logic.{◌⊎◌, inl, inr}
use mathlib.Core.List.{List, [], ◌∷◌, ◌++◌, append-nil, append_assoc}
use Prim.Native.Nat.{ℕ, ◌+◌, ◌-◌, ◌*◌, ◌≤◌, ◌<◌, min}
use native.Mathlib.Nat.{sub-zero, mul-le-mul_left}
use native.Mathlib.Omega.{arith}
use native.Mathlib.Decide.{dec_lt}
use lib.ListN.{length, take, drop, length-append, drop_of_length-le}
use lib.Seq.{take_all, take_at, take-add, take-nil, take-append-add, drop-drop, length-take-le}
use Rattle.std.proofs.lemmas.List.{nil_from_length}
use lib.IntN.{ℤ}
use Rattle.samples.specs.declared.channels.Channels.{Channels}
use Rattle.samples.specs.declared.format.Format.{Format}
use Rattle.eqfile.specs.Turn.{turn_of, short_of}
use Rattle.runs.specs.Program.{State, fresh, handed, frame_bytes, turn_at, next, after, Followed, ByPlan, AllFetched}
use Rattle.runs.specs.Started.{Started}
use Rattle.runs.proofs.BlockCalls.{handed-within}
use Rattle.runs.proofs.AllAsked.{wanted_is, both, start_is}
use Rattle.runs.proofs.Starting.{stated}

-- ---- what is short

-- the bytes read and those that are short are all bytes of the file's frames
pub short_adds_up : (gains : List ℤ) (format : Format) (channels : Channels) (frames : ℕ) (us : List (List ℕ)) → Followed gains format channels frames (fresh channels) us →
    length (handed us) + short_of (frame_bytes format channels) frames (length (handed us)) ≡ frame_bytes format channels * frames
short_adds_up gains format channels frames us h = omega (arith, handed-within gains format channels frames (fresh channels) us (omega arith) h)

-- .. so that what is short is the length of `data` that the header states, but the bytes read
pub short_is : {gains : List ℤ} {front : List ℕ} {rate : ℕ} {format : Format} {channels : Channels} {frames start : ℕ} (s : Started gains front rate format channels frames start) (us : List (List ℕ)) →
    short_of (frame_bytes format channels) frames (length (handed us)) ≡ (stated s).found.size - length (handed us)
short_is s us = ap (λ (n : ℕ). n - length (handed us)) (sym (stated s).size_is)

-- ---- the front

-- so far all was read, or the front has no more
abbrev FrontRead : (size frames at read has : ℕ) → Type 0
FrontRead size frames at read has = (read ≡ size * min at frames) ⊎ (has ≤ read)

-- a list's beginning is that of its parts
begins : (x y z : List ℕ) → take (length y) z ≡ y → take (length (x ++ y)) (x ++ z) ≡ x ++ y
begins x y z e = ap (λ (n : ℕ). take n (x ++ z)) (length-append x y) ∙ take-append-add x z (length y) ∙ ap (λ (l : List ℕ). x ++ l) e

-- of the front's data `there`, those bytes that are not read yet, up to the frames' end
abbrev Left : (all read : ℕ) → List ℕ → List ℕ
Left all read there = take (all - read) (drop read there)

-- one turn: the front has no more than it wants, or it takes just that many of the front's bytes
one_turn : (all read w : ℕ) (there u more rest : List ℕ) → w ≤ all - read → u ≡ take w (drop read there) ++ more → length u ≤ w →
    (w < length (drop read there) → take (length (Left all (read + w) there)) rest ≡ Left all (read + w) there) →
    take (length (Left all read there)) (u ++ rest) ≡ Left all read there
one_turn all read w there u more rest most is few on = by (dec_lt w (length (drop read there)))
  where
    here : List ℕ
    here = drop read there

    by : Dec (w < length here) → take (length (Left all read there)) (u ++ rest) ≡ Left all read there
    by (yes h) =
        let long : length (take w here) ≡ w = length-take-le w here (omega arith) in
        let none : more ≡ [] = nil_from_length more (omega (arith, ap length is, length-append (take w here) more)) in
        let u-is : u ≡ take w here = is ∙ ap (λ (l : List ℕ). take w here ++ l) none ∙ append-nil (take w here) in
        let next : drop w here ≡ drop (read + w) there = drop-drop w read there in
        let cut : all - read ≡ w + (all - (read + w)) = omega arith in
        let parts : Left all read there ≡ take w here ++ Left all (read + w) there =
        ap (λ (k : ℕ). take k here) cut ∙ take-add w (all - (read + w)) here ∙ ap (λ (l : List ℕ). take w here ++ take (all - (read + w)) l) next in
        ap (λ (l : List ℕ). take (length l) (u ++ rest)) parts ∙ ap (λ (l : List ℕ). take (length (take w here ++ Left all (read + w) there)) (l ++ rest)) u-is ∙
        begins (take w here) (Left all (read + w) there) rest (on h) ∙ sym parts
    by (no h) =
        let whole : Left all read there ≡ here = take_all (all - read) here (omega arith) in
        let u-is : u ++ rest ≡ here ++ (more ++ rest) =
        ap (λ (l : List ℕ). l ++ rest) (is ∙ ap (λ (l : List ℕ). l ++ more) (take_all w here (omega arith))) ∙ append_assoc here more rest in
        ap (λ (l : List ℕ). take (length l) (u ++ rest)) whole ∙ ap (take (length here)) u-is ∙ take_at here (more ++ rest) (length here) refl ∙ sym whole

module _ (gains : List ℤ) (format : Format) (channels : Channels) (frames : ℕ) (front : List ℕ) (start : ℕ) where
  abbrev size : ℕ
  size = frame_bytes format channels

  abbrev there : List ℕ
  there = drop start front

  -- nothing of the front is left
  none_left : (read : ℕ) (l : List ℕ) → length there ≤ read → take (length (Left (size * frames) read there)) l ≡ Left (size * frames) read there
  none_left read l h =
      let none : Left (size * frames) read there ≡ [] = ap (take (size * frames - read)) (drop_of_length-le there h) ∙ take-nil (size * frames - read) in
      ap (λ (k : List ℕ). take (length k) l) none ∙ sym none

  front_from : (s : State) (us : List (List ℕ)) → FrontRead size frames s.at s.read (length there) → ByPlan gains format channels frames s us →
      AllFetched gains format channels frames front start s us → take (length (Left (size * frames) s.read there)) (handed us) ≡ Left (size * frames) s.read there
  unfolding Followed after AllFetched handed turn_of
  front_from s us (inr h) plan f = none_left s.read (handed us) h
  front_from s [] (inl e) (h, end) f =
      let m : min s.at frames ≡ frames = omega arith in
      let all : size * frames - s.read ≡ 0 = omega (arith, e ∙ ap (λ (k : ℕ). size * k) m) in
      let none : Left (size * frames) s.read there ≡ [] = ap (λ (k : ℕ). take k (drop s.read there)) all in
      ap (λ (k : List ℕ). take (length k) []) none ∙ sym none
  front_from s (u ∷ us) (inl e) (h, end) f =
      let t = turn_at format channels frames s in
      let w = t.wanted in
      let is : w ≡ size * min t.fed (frames - s.at) = wanted_is size frames s.at s.read t.fed e in
      let behind : drop (start + s.read) front ≡ drop s.read there = sym (drop-drop s.read start front) in
      let u-is : u ≡ take w (drop s.read there) ++ f.0.more = f.0.is ∙ ap (λ (l : List ℕ). take w l ++ f.0.more) behind in
      let sum : s.read + w ≡ size * min (s.at + t.fed) frames = ap₂ ◌+◌ e is ∙ both size frames s.at t.fed in
      let l : size * min (s.at + t.fed) frames ≤ size * frames = mul-le-mul_left size (omega arith) in
      one_turn (size * frames) s.read w there u f.0.more (handed us) (omega arith) u-is h.0.arrives.read_most
      (λ more.
      let got : length u ≡ w = omega (arith, ap length u-is ∙ length-append (take w (drop s.read there)) f.0.more, length-take-le w (drop s.read there) (omega arith), h.0.arrives.read_most) in
      subst (λ (k : ℕ). take (length (Left (size * frames) (s.read + k) there)) (handed us) ≡ Left (size * frames) (s.read + k) there) got
      (front_from (next gains format channels frames s u) us (inl (ap (λ (k : ℕ). s.read + k) got ∙ sum)) (h.1, end) f.1))

  -- what of the data came with the front is the beginning of what is handed over
  pub front_first : (us : List (List ℕ)) → ByPlan gains format channels frames (fresh channels) us → AllFetched gains format channels frames front start (fresh channels) us →
      let came = take (size * frames) there in take (length came) (handed us) ≡ came
  front_first us plan f =
      subst (λ (n : ℕ). take (length (take n there)) (handed us) ≡ take n there) (sub-zero (size * frames))
      (front_from (fresh channels) us (inl (start_is size frames)) plan f)
