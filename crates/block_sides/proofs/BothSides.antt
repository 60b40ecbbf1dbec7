-- The sides one after the other: the places lent to each, and what all leave. Assumes nothing.
use mathlib.Core.Path.{◌≡◌, refl, sym, ap, ap₂, ◌∙◌}
use mathlib.Core.List.{List, [], ◌∷◌, ◌++◌}
use Prim.Native.Nat.{ℕ, zero, suc, ◌+◌, ◌-◌, ◌*◌, ◌/◌, ◌≤◌, ◌<◌}
use native.Mathlib.Nat.{suc-mul, zero-mul, mul-le-mul_right}
use native.Mathlib.Omega.{arith}
use native.Mathlib.Decide.{dec_lt}
use borrow.Rule.Slice.PartMut.{put_mid, mid_of}
use lib.ListN.{length, take, drop, take-append-drop, length-drop}
use lib.Seq.{drop-drop}
use lib.IntN.{ℤ}
use Rattle.std.proofs.lemmas.List.{drop-take}
use Rattle.std.proofs.lemmas.Slice.{take-put_mid_below, drop-put_mid, between-put_mid}
use Rattle.frames.specs.Frames.{side, side_of, behind, places_of}
use Rattle.frames.proofs.Laws.{whole_frames_lem, side-length, woven_is, places_left, places_length}
use Rattle.tree.specs.Prototype.{published}
use Rattle.lines.specs.Cascade.{Ran, run}
use Rattle.lines.proofs.Lengths.{run_length, run_position}
use Rattle.weighing.specs.Weighing.{outputs}
use Rattle.weighing.proofs.GainSums.{outputs-length}
use Rattle.block_rows.specs.Helpers.{SideDone}
use Rattle.block_sides.specs.Helpers.{Sides, SidesDone}

-- another output as long as the input
pub with_output : {bands size c : ℕ} {lines input output : List ℤ} (second : List ℤ) → length second ≡ length input → Sides bands size c lines input output → Sides bands size c lines input second
with_output second e a = record { some = a.some; few = a.few; whole = a.whole; region = a.region; alike = e; frames = a.frames }

-- ---- the places of one side

module _ (k s : ℕ) (lines : List ℤ) where
  -- as the code lends them
  pub lent : mid_of (s * k) (s * k + k - s * k) lines ≡ places_of k s lines
  lent = ap (λ (n : ℕ). take n (drop (s * k) lines)) (omega arith)

  pub inside : (c : ℕ) → s < c → length lines ≡ c * k → s * k + k ≤ length lines
  inside c h e = omega (arith, e, suc-mul s k, mul-le-mul_right {m = suc s} {n = c} k h)

  -- .. and given back
  module _ (ys : List ℤ) (room : s * k + k ≤ length lines) (ly : length ys ≡ k) where
    abbrev back : List ℤ
    back = put_mid (s * k) (s * k + k - s * k) lines ys

    own : places_of k s back ≡ ys
    own = sym (ap (λ (n : ℕ). take n (drop (s * k) back)) (omega arith)) ∙ between-put_mid (s * k) (s * k + k - s * k) lines ys (s * k + k) (omega (arith, room)) (omega (arith, ly))

    other : (t : ℕ) → (t ≡ s → ⊥) → places_of k t back ≡ places_of k t lines
    other t n = by (dec_lt t s)
      where
        by : Dec (t < s) → places_of k t back ≡ places_of k t lines
        by (yes h) =
            let before : t * k + k ≤ s * k = omega (arith, suc-mul t k, mul-le-mul_right {m = suc t} {n = s} k h) in
            sym (drop-take (t * k) k back) ∙ ap (drop (t * k)) (take-put_mid_below (s * k) (s * k + k - s * k) lines ys (t * k + k) before (omega (arith, room))) ∙ drop-take (t * k) k lines
        by (no h) =
            let behind : s * k + k ≤ t * k = omega (arith, suc-mul s k, mul-le-mul_right {m = suc s} {n = t} k (omega (arith, n))) in
            ap (take k) (drop-put_mid (s * k) (s * k + k - s * k) lines ys (t * k) (omega (arith, behind)) (omega (arith, room)) (omega (arith, ly)))

-- places that hold those of each side are these one behind the other
behind_is : (c k : ℕ) (f : ℕ → List ℤ) (lines : List ℤ) → length lines ≡ c * k → ((s : ℕ) → s < c → places_of k s lines ≡ f s) → lines ≡ behind c f
unfolding behind
behind_is zero k f [] e h = refl
behind_is zero k f (x ∷ lines) e h = absurd (omega (arith, e, zero-mul k))
behind_is (suc c) k f lines e h =
    sym (take-append-drop k lines) ∙
    ap₂ ◌++◌ (sym (places_left k lines) ∙ h 0 (omega arith))
    (behind_is c k (λ s. f (suc s)) (drop k lines) (length-drop k lines ∙ omega (arith, e, suc-mul c k))
    (λ s l. ap (take k) (drop-drop (s * k) k lines ∙ ap (λ (n : ℕ). drop n lines) (omega (arith, suc-mul s k))) ∙ h (suc s) (omega arith)))

-- ---- the loop

-- the sides before s are done, and those from s on have their places still
pub record Going (c k : ℕ) (ran : ℕ → Ran) (g : ℕ → ℤ) (n : ℕ) (lines₀ lines : List ℤ) (at : ℕ) (outs : List ℤ) (s : ℕ) : Type 0 where
  pub done : (t : ℕ) → t < s → places_of k t lines ≡ (ran t).places
  pub later : (t : ℕ) → s ≤ t → places_of k t lines ≡ places_of k t lines₀
  pub moved : 0 < s → at ≡ (ran 0).position
  pub put : (t : ℕ) → t < s → side c t n outs ≡ outputs (λ _. g) (ran t).aligned

module _ {bands size c : ℕ} {lines input output : List ℤ} (a : Sides bands size c lines input output) where
  abbrev places : ℕ
  places = (bands - 1) * size

  module _ (from : ℕ) (g : ℕ → ℤ) where
    -- what side s gives
    abbrev ran : ℕ → Ran
    ran s = run published size (bands - 1) from (places_of places s lines) (side_of c s input)

    abbrev outs : ℕ → List ℤ
    outs s = outputs (λ _. g) (ran s).aligned

    outs_length : (s : ℕ) → length (outs s) ≡ length input / c
    outs_length s =
        outputs-length (λ _. g) (ran s).aligned ∙ run_length published size (bands - 1) from (places_of places s lines) (side_of c s input) ∙ side-length c s (length input / c) input

    -- each side moves the position as far
    same_position : (s : ℕ) → (ran s).position ≡ (ran 0).position
    same_position s =
        run_position published size (bands - 1) from (places_of places s lines) (places_of places 0 lines) (side_of c s input) (side_of c 0 input)
        (side-length c s (length input / c) input ∙ sym (side-length c 0 (length input / c) input))

    -- the sides before s are done
    abbrev pub To : List ℤ → ℕ → List ℤ → ℕ → Type 0
    To = Going c places ran g (length input / c) lines

    pub going_starts : (at : ℕ) → To lines at output 0
    going_starts at = record { done = λ t h. absurd (omega arith); later = λ t h. refl; moved = λ h. absurd (omega arith); put = λ t h. absurd (omega arith) }

    module _ {ls os : List ℤ} {at s : ℕ} (l : To ls at os s) (long : length ls ≡ length lines) where
      pub going_on : (zs after : List ℤ) {end : ℕ} → s < c → length zs ≡ length (mid_of (s * places) (s * places + places - s * places) ls) →
          SideDone c s (run published size (bands - 1) from (mid_of (s * places) (s * places + places - s * places) ls) (side_of c s input)) g zs end os after →
          To (put_mid (s * places) (s * places + places - s * places) ls zs) end after (s + 1)
      going_on zs after {end} h lz d' =
          let d : SideDone c s (ran s) g zs end os after = rw (lent places s ls ∙ l.later s (omega arith)) at d' in
          let room : s * places + places ≤ length ls = inside places s ls c h (long ∙ a.whole) in
          let lk : length zs ≡ places = lz ∙ ap length (lent places s ls) ∙ places_length c places s ls (long ∙ a.whole) h in
          record {
            done = λ t m. done_by d room lk t m (dec_lt t s);
            later = λ t m. other places s ls zs room lk t (λ e. omega arith) ∙ l.later t (omega arith);
            moved = λ _. d.position_is ∙ same_position s;
            put = λ t m. put_by d t m (dec_lt t s);
          }
        where
          last : (t : ℕ) → t < s + 1 → (t < s → ⊥) → t ≡ s
          last t m n = omega arith

          done_by : SideDone c s (ran s) g zs end os after → s * places + places ≤ length ls → length zs ≡ places → (t : ℕ) → t < s + 1 → Dec (t < s) →
              places_of places t (put_mid (s * places) (s * places + places - s * places) ls zs) ≡ (ran t).places
          done_by d room lk t m (yes q) = other places s ls zs room lk t (λ e. omega arith) ∙ l.done t q
          done_by d room lk t m (no q) = rw (last t m q) (own places s ls zs room lk ∙ d.places_are)

          put_by : SideDone c s (ran s) g zs end os after → (t : ℕ) → t < s + 1 → Dec (t < s) → side c t (length input / c) after ≡ outs t
          put_by d t m (yes q) = rw (outs_length s) at (d.put.others t (omega arith) (λ e. omega arith)) ∙ l.put t q
          put_by d t m (no q) = rw (last t m q) (rw (outs_length s) at d.put.here)

      pub going_ends : c ≤ s → length os ≡ length output → SidesDone c (length input / c) ran g ls at os
      going_ends h lo =
          record {
            places_are = behind_is c places (λ s. (ran s).places) ls (long ∙ a.whole) (λ t m. l.done t (omega arith));
            position_is = l.moved (omega (arith, a.some));
            outputs_are =
                woven_is c (length input / c) outs os a.some (lo ∙ a.alike ∙ whole_frames_lem (length input) c a.frames refl) (λ s _. outs_length s)
                (λ t m. l.put t (omega arith));
          }
