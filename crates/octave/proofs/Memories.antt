-- The memory: the prepared one, and what an accepted one is. Assumes nothing.
use mathlib.Core.Path.{◌≡◌, refl, sym, ap, subst, ◌∙◌}
use mathlib.Core.Bool.{Bool, true, false, cond, ◌&&◌, false≢true}
use mathlib.Core.List.{List, [], ◌∷◌, ◌++◌, append-nil}
use Prim.Native.Nat.{ℕ, suc, ◌+◌, ◌-◌, ◌*◌, ◌^◌, ◌≤◌, ◌<◌}
use native.Mathlib.Nat.{mul-sub}
use native.Mathlib.Omega.{arith}
use borrow.Author.Tests.{eqb-true, eq-eqb, ltb-true, lt-ltb}
use borrow.Rule.Slice.PartMut.{put_mid}
use lib.Dec.{T, eqb, ltb}
use lib.ListN.{length, take, drop, set, replicate, length-drop, drop_of_length-le}
use lib.Seq.{take_all}
use lib.IntN.{ℤ, pos, negsuc, nat_abs}
use lib.Signed.{lt_z, non_neg}
use Rattle.std.specs.Prelude.{Result, Ok, Err}
use Rattle.answers.specs.Checks.{all_hold, choose, Done}
use Rattle.answers.specs.Judging.{First, here, later}
use Rattle.answers.proofs.Laws.{and_left, and_right, first_fails, chosen_first, chosen_here, chosen_on, chosen_last}
use Rattle.answers.proofs.Branches.{judging}
use Rattle.tree.specs.Prototype.{published}
use Rattle.tree.specs.Tree.{delay}
use Rattle.octave.specs.declared.memory.Fault.{Fault}
use Rattle.octave.specs.declared.memory.Fault.TheVariants.{CountWrong, PositionOutside}
use Rattle.octave.specs.declared.memory.CountError.{CountError}
use Rattle.octave.specs.declared.memory.CountError.TheVariants.{BandCount, ChannelCount}
use Rattle.octave.specs.declared.memory.PrepareError.TheVariants as prepare_error
use Rattle.octave.specs.Counts.{Counts}
use Rattle.octave.specs.Helpers.{KeptCounts}
use Rattle.octave.specs.Memory.{counts_of, counts_in, memory_length_of, prepare_of, line_length, side_places, memory_length, count_allowed, channels_allowed, prepared, Held, head_places, held_in, memory_of, bands_in, channels_in, position_within, memory_checks, accepts, fault_of, kept_of}
use Rattle.octave.proofs.Ranges.{Count, bands_of, channels_of_lem}

-- ---- the head and the lines

-- a memory with a head is put together from what it shows
memory_is : (m : List ℤ) → head_places ≤ length m → memory_of (held_in m) ≡ m
memory_is [] h = absurd (omega arith)
memory_is (x ∷ []) h = absurd (omega arith)
memory_is (x ∷ y ∷ []) h = absurd (omega arith)
memory_is (x ∷ y ∷ z ∷ m) h = refl

-- the lines, as they are lent
pub lent_is : (m : List ℤ) → take (length m - head_places) (drop head_places m) ≡ (held_in m).lines
lent_is m = take_all (length m - head_places) (drop head_places m) (simp length-drop (omega arith))

-- other lines and another position under the same counts
pub memory_with : (m ys : List ℤ) (p : ℤ) → head_places ≤ length m →
    set (put_mid head_places (length m - head_places) m ys) 2 p ≡ memory_of (record { count = (held_in m).count; channels = (held_in m).channels; position = p; lines = ys })
memory_with m ys p h = ap (λ (l : List ℤ). set (put_mid head_places (length l - head_places) l ys) 2 p) (sym (memory_is m h)) ∙ held (held_in m)
  where
    held : (h : Held) → set (put_mid head_places (length (memory_of h) - head_places) (memory_of h) ys) 2 p ≡
        memory_of (record { count = h.count; channels = h.channels; position = p; lines = ys })
    held h =
        ap (λ (l : List ℤ). h.count ∷ h.channels ∷ p ∷ (ys ++ l)) (drop_of_length-le h.lines {i = length (memory_of h) - head_places} (omega arith)) ∙
        ap (λ (l : List ℤ). h.count ∷ h.channels ∷ p ∷ l) (append-nil ys)

-- ---- the prepared memory

-- zeros with the counts in front are the prepared memory
pub prepared_is : (M c : ℕ) {n : ℕ} → n ≡ memory_length M c → set (set (replicate n (pos 0)) 0 (pos M)) 1 (pos c) ≡ prepared M c
prepared_is M c {n} e = rw (e ∙ three (c * side_places M)) refl
  where
    three : (k : ℕ) → 3 + k ≡ suc (suc (suc k))
    three k = omega arith

pub delay_is : (M : ℕ) {n : ℕ} → n ≡ line_length M → n - 9 ≡ delay published M
delay_is M e = rw (e, mul-sub 9 (2 ^ (M - 1)) 1) refl

-- ---- the position

pub not_negative : (z : ℤ) → lt_z z (pos 0) ≡ false → T (non_neg z)
not_negative (pos n) e = tt
not_negative (negsuc n) e = absurd (subst (λ (t : Bool). T t) e tt)

position_parts : (size : ℕ) (at : ℤ) → position_within size at ≡ true → (lt_z at (pos 0) ≡ false) × (nat_abs at < size)
position_parts size at e = by (lt_z at (pos 0)) refl e
  where
    by : (t : Bool) → lt_z at (pos 0) ≡ t → cond t false (ltb (nat_abs at) size) ≡ true → (lt_z at (pos 0) ≡ false) × (nat_abs at < size)
    by true d e = absurd (false≢true e)
    by false d e = (d, ltb-true (nat_abs at) size e)

-- ---- an accepted memory

pub record Accepted (m : List ℤ) (bands channels : ℕ) : Type 0 where
  pub count : Count 2 10 (held_in m).count
  pub sides : Count 1 2 (held_in m).channels
  pub bands_are : bands_in m ≡ bands
  pub channels_are : channels_in m ≡ channels
  pub long : length m ≡ memory_length bands channels
  pub not_below : lt_z (held_in m).position (pos 0) ≡ false
  pub inside : nat_abs (held_in m).position < line_length bands

-- the counts within their ranges
pub bands_few : {m : List ℤ} {bands channels : ℕ} → Accepted m bands channels → (2 ≤ bands) × (bands ≤ 10)
bands_few a = (omega (arith, a.count.from, a.bands_are), omega (arith, a.count.to, a.bands_are))

pub channels_few : {m : List ℤ} {bands channels : ℕ} → Accepted m bands channels → (1 ≤ channels) × (channels ≤ 2)
channels_few a = (omega (arith, a.sides.from, a.channels_are), omega (arith, a.sides.to, a.channels_are))

pub accepted_is : (m : List ℤ) (bands channels : ℕ) → accepts m ≡ true → bands ≡ bands_in m → channels ≡ channels_in m → Accepted m bands channels
unfolding all_hold
accepted_is m bands channels e b c =
    let B : Bool = count_allowed (held_in m).count in
    let C : Bool = channels_allowed (held_in m).channels in
    let L : Bool = eqb (length m) (memory_length (bands_in m) (channels_in m)) in
    let P : Bool = position_within (line_length (bands_in m)) (held_in m).position in
    let sides : (C && (L && (P && true))) ≡ true = and_right B (C && (L && (P && true))) e in
    let rest : (L && (P && true)) ≡ true = and_right C (L && (P && true)) sides in
    let p = position_parts (line_length (bands_in m)) (held_in m).position (and_left P true (and_right L (P && true) rest)) in
    rw (b, c)
    (record {
      count = bands_of (held_in m).count (and_left B (C && (L && (P && true))) e);
      sides = channels_of_lem (held_in m).channels (and_left C (L && (P && true)) sides);
      bands_are = refl;
      channels_are = refl;
      long = eqb-true (length m) (memory_length (bands_in m) (channels_in m)) (and_left L (P && true) rest);
      not_below = p.0;
      inside = p.1;
    })

-- .. of a memory of these counts
pub counts_accepted : {m : List ℤ} {k : Counts} → KeptCounts k m → Accepted m k.bands k.channels
counts_accepted {m} {k} h = accepted_is m k.bands k.channels h.kept (ap (λ (x : Counts). x.bands) h.counts_are) (ap (λ (x : Counts). x.channels) h.counts_are)

pub counts_few : {m : List ℤ} {k : Counts} → KeptCounts k m → (2 ≤ k.bands) × (k.bands ≤ 10)
counts_few h = bands_few (counts_accepted h)

-- its band count, as a call told it
pub bands_kept : {m : List ℤ} {k : Counts} {n : ℕ} → KeptCounts k m → n ≡ k.bands → n ≡ bands_in m
bands_kept h e = e ∙ ap (λ (x : Counts). x.bands) h.counts_are

pub accepted_count : (m : List ℤ) → accepts m ≡ true → count_allowed (held_in m).count ≡ true
unfolding all_hold
accepted_count m e =
    and_left (count_allowed (held_in m).count)
    (channels_allowed (held_in m).channels && (eqb (length m) (memory_length (bands_in m) (channels_in m)) && (position_within (line_length (bands_in m)) (held_in m).position && true))) e

-- a memory whose parts are right is accepted
pub accepts_is : (m : List ℤ) → count_allowed (held_in m).count ≡ true → channels_allowed (held_in m).channels ≡ true → length m ≡ memory_length (bands_in m) (channels_in m) →
    lt_z (held_in m).position (pos 0) ≡ false → nat_abs (held_in m).position < line_length (bands_in m) → accepts m ≡ true
unfolding all_hold
accepts_is m b c l n h =
    rw (b, c, eq-eqb (length m) (memory_length (bands_in m) (channels_in m)) l, n, lt-ltb (nat_abs (held_in m).position) (line_length (bands_in m)) h)

-- ---- how judging tells it

-- the first check that fails is the fault
pub wrong_is : (m : List ℤ) (f : Fault) → First (memory_checks m) f → Err f ≡ kept_of m
wrong_is m f h = rw (first_fails h) (ap (λ (g : Fault). Err g) (sym (chosen_first PositionOutside h)))

pub right_is : (m : List ℤ) → accepts m ≡ true → Ok (counts_in m) ≡ kept_of m
right_is m e = rw e refl

-- a memory with fewer than two places has no channel count
pub too_short : (m : List ℤ) → length m < 2 → First (memory_checks m) CountWrong
too_short [] h = here refl
too_short (x ∷ []) h = by (count_allowed x) refl
  where
    by : (t : Bool) → count_allowed x ≡ t → First (memory_checks (x ∷ [])) CountWrong
    by true e = later e (here refl)
    by false e = here e
too_short (x ∷ y ∷ m) h = absurd (omega arith)

pub kept_wrong : (m : List ℤ) (f : Fault) → Err f ≡ kept_of m → (accepts m ≡ false) × (f ≡ fault_of m)
kept_wrong m f = by (accepts m)
  where
    by : (t : Bool) → Err f ≡ cond t (Ok (counts_in m)) (Err (fault_of m)) → (t ≡ false) × (f ≡ fault_of m)
    by true e = absurd cc
    by false e = (refl, cc)

pub kept_right : (m : List ℤ) (k : Counts) → Ok k ≡ kept_of m → KeptCounts k m
kept_right m k e = let b = by (accepts m) e in record { kept = b.0; counts_are = b.1 }
  where
    by : (t : Bool) → Ok k ≡ cond t (Ok (counts_in m)) (Err (fault_of m)) → (t ≡ true) × (k ≡ counts_in m)
    by true e = (refl, cc)
    by false e = absurd cc

-- ---- the counts as they are judged

-- what a refusal of two counts tells
pub data CountsRefused (bands channels : ℤ) : CountError → Type 0 where
  bands_wrong : count_allowed bands ≡ false → CountsRefused bands channels BandCount
  channels_wrong : count_allowed bands ≡ true → channels_allowed channels ≡ false → CountsRefused bands channels ChannelCount

abbrev both : (bands channels : ℤ) → Counts
both bands channels = record { bands = nat_abs bands; channels = nat_abs channels }

abbrev long_enough : Counts → Result ℕ CountError
long_enough k = Ok (memory_length k.bands k.channels)

-- .. and what an acceptance does
pub record CountsAre (bands channels : ℤ) (k : Counts) : Type 0 where
  pub bands_allowed : count_allowed bands ≡ true
  pub channels_allowed_lem : channels_allowed channels ≡ true
  pub counts_are : k ≡ both bands channels

module _ (bands channels : ℤ) where
  abbrev judged : (t u : Bool) → Result Counts CountError
  judged t u = cond t (cond u (Ok (both bands channels)) (Err ChannelCount)) (Err BandCount)

  pub counts_refused : (e : CountError) → Err e ≡ counts_of bands channels → CountsRefused bands channels e
  unfolding choose
  counts_refused e = by (count_allowed bands) (channels_allowed channels) refl refl
    where
      by : (t u : Bool) → count_allowed bands ≡ t → channels_allowed channels ≡ u → Err e ≡ judged t u → CountsRefused bands channels e
      by false u p q h = let is : BandCount ≡ e = cc in subst (CountsRefused bands channels) is (bands_wrong p)
      by true false p q h = let is : ChannelCount ≡ e = cc in subst (CountsRefused bands channels) is (channels_wrong p q)
      by true true p q h = absurd cc

  pub counts_are : (k : Counts) → Ok k ≡ counts_of bands channels → CountsAre bands channels k
  unfolding choose
  counts_are k = by (count_allowed bands) (channels_allowed channels) refl refl
    where
      by : (t u : Bool) → count_allowed bands ≡ t → channels_allowed channels ≡ u → Ok k ≡ judged t u → CountsAre bands channels k
      by false u p q h = absurd cc
      by true false p q h = absurd cc
      by true true p q h = record { bands_allowed = p; channels_allowed_lem = q; counts_are = cc }

  -- of the memory length
  pub length_refused : (e : CountError) → Err e ≡ counts_of bands channels → Err e ≡ memory_length_of bands channels
  length_refused e is = by (counts_refused e is)
    where
      by : {e : CountError} → CountsRefused bands channels e → Err e ≡ memory_length_of bands channels
      by (bands_wrong p) = search chosen_here
      by (channels_wrong p q) = search (chosen_here, chosen_on)

  pub length_is : (k : Counts) → Ok k ≡ counts_of bands channels → Ok (memory_length k.bands k.channels) ≡ memory_length_of bands channels
  length_is k is =
      let a = counts_are k is in
      let b : count_allowed bands ≡ true = a.bands_allowed in
      let n : channels_allowed channels ≡ true = a.channels_allowed_lem in
      let l = ap long_enough a.counts_are in
      search (chosen_on, chosen_last)

  -- of preparing
  pub prepare_refused : (m : List ℤ) (e : CountError) → Err e ≡ counts_of bands channels → Done (prepare_of bands channels m) (Err (prepare_error.Count e)) m
  prepare_refused m e is = by (counts_refused e is)
    where
      by : {e : CountError} → CountsRefused bands channels e → Done (prepare_of bands channels m) (Err (prepare_error.Count e)) m
      by (bands_wrong p) = search judging depth 12
      by (channels_wrong p q) = search judging depth 12

-- of a lent memory
pub counts_first : (m : List ℤ) (e : CountError) → Err e ≡ counts_of (held_in m).count (held_in m).channels → First (memory_checks m) CountWrong
counts_first m e is = by (counts_refused (held_in m).count (held_in m).channels e is)
  where
    by : {e : CountError} → CountsRefused (held_in m).count (held_in m).channels e → First (memory_checks m) CountWrong
    by (bands_wrong p) = here p
    by (channels_wrong p q) = later p (here q)
