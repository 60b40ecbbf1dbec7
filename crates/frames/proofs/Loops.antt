-- Loops that take a side out of frames, or put it back. Assumes nothing.
use mathlib.Core.Path.{◌≡◌, refl, sym, ◌∙◌}
use mathlib.Core.List.{List, ◌++◌, append-nil}
use Prim.Native.Nat.{ℕ, ◌+◌, ◌-◌, ◌*◌, ◌≤◌, ◌<◌}
use native.Mathlib.Nat.{mul-zero, sub-zero}
use native.Mathlib.Numerals.{add-one}
use native.Mathlib.Decide.{dec_lt}
use native.Mathlib.Omega.{arith}
use lib.ListN.{length, get_or, take, drop, set, length-set}
use lib.Seq.{take-suc-set, append_snoc, ext_get_or, get_or-set_same, get_or-set_other}
use lib.IntN.{ℤ, pos}
use Rattle.frames.specs.Frames.{side}
use Rattle.frames.proofs.Laws.{side-length, side_at, side-from, other_side, other_frame, place_inside}

-- ---- taken out

-- the first i numbers stand in the row
pub record Gathering (c s n : ℕ) (block row₀ row : List ℤ) (i : ℕ) : Type 0 where
  pub reached : i ≤ n
  pub same_row : length row ≡ length row₀
  pub rest : take i row ++ side c s (n - i) (drop (c * i) block) ≡ side c s n block

module _ (c s n : ℕ) (block row₀ : List ℤ) where
  pub gathering_starts : Gathering c s n block row₀ row₀ 0
  gathering_starts = record { reached = omega arith; same_row = refl; rest = rw (mul-zero c, sub-zero n) refl }

  module _ (row : List ℤ) (i : ℕ) (g : Gathering c s n block row₀ row i) where
    pub gathering_on : i < n → n ≤ length row₀ → Gathering c s n block row₀ (set row i (get_or block (c * i + s) (pos 0))) (i + 1)
    gathering_on h room =
        let v = get_or block (c * i + s) (pos 0) in
        record {
          reached = omega arith;
          same_row = length-set row i v ∙ g.same_row;
          rest = rw (add-one i, take-suc-set row i v (omega (arith, g.same_row)), append_snoc) (rw (side-from c s n i block h) at g.rest);
        }

    pub gathering_ends : n ≤ i → take n row ≡ side c s n block
    unfolding side
    gathering_ends h =
        let end : i ≡ n = omega (arith, g.reached) in
        let none : n - n ≡ 0 = omega arith in
        rw (end, none, append-nil) at g.rest

-- ---- put back

-- the first i frames have the numbers f on side s, and the other sides are as they were
pub record Putting (c s : ℕ) (f : ℕ → ℤ) (block₀ block : List ℤ) (i : ℕ) : Type 0 where
  pub same_block : length block ≡ length block₀
  pub here : (j : ℕ) → j < i → get_or block (c * j + s) (pos 0) ≡ f j
  pub others : (j t : ℕ) → t < c → (t ≡ s → ⊥) → get_or block (c * j + t) (pos 0) ≡ get_or block₀ (c * j + t) (pos 0)

module _ (c s : ℕ) (f : ℕ → ℤ) (block₀ : List ℤ) where
  module _ {block : List ℤ} {i : ℕ} (g : Putting c s f block₀ block i) (below : s < c) where
    pub putting_on : (n : ℕ) (v : ℤ) → i < n → length block₀ ≡ c * n → v ≡ f i → Putting c s f block₀ (set block (c * i + s) v) (i + 1)
    putting_on n v h room e =
        record {
          same_block = length-set block at v ∙ g.same_block;
          here = λ j l. by j l (dec_lt j i);
          others = λ j t l n. get_or-set_other block at (c * j + t) v (pos 0) (other_side c i j s t below l n) ∙ g.others j t l n;
        }
      where
        at : ℕ
        at = c * i + s

        by : (j : ℕ) → j < i + 1 → Dec (j < i) → get_or (set block at v) (c * j + s) (pos 0) ≡ f j
        by j l (yes q) = get_or-set_other block at (c * j + s) v (pos 0) (other_frame c i j s below q) ∙ g.here j q
        by j l (no q) =
            let same : j ≡ i = omega arith in
            rw same (get_or-set_same block at v (pos 0) (omega (arith, g.same_block, room, place_inside c i s n h below)) ∙ e)

    -- once n frames are done
    pub put_here : (n j : ℕ) → n ≤ i → j < n → get_or (side c s n block) j (pos 0) ≡ f j
    put_here n j h l = side_at c s n j block l ∙ g.here j (omega arith)

    pub put_others : (n t : ℕ) → t < c → (t ≡ s → ⊥) → side c t n block ≡ side c t n block₀
    put_others n t l q =
        ext_get_or (pos 0) (side c t n block) (side c t n block₀) (side-length c t n block ∙ sym (side-length c t n block₀))
        (λ j m.
        let inside : j < n = omega (arith, side-length c t n block) in
        side_at c t n j block inside ∙ g.others j t l q ∙ sym (side_at c t n j block₀ inside))
