-- The gain differences of neighbouring bands. Assumes nothing.
use mathlib.Core.Path.{◌≡◌, refl, sym, ap₂, ◌∙◌}
use mathlib.Core.List.{List}
use Prim.Native.Nat.{ℕ, suc, ◌+◌, ◌-◌, ◌≤◌, ◌<◌, ◌^◌}
use native.Mathlib.Omega.{arith}
use native.Mathlib.Decide.{dec_lt}
use lib.ListN.{length, get_or, set, length-set, get_or-eq_default}
use Rattle.std.proofs.lemmas.List.Edits.{fill_by_more}
use lib.IntN.{ℤ, pos, nat_abs, ◌-ℤ◌}
use mir.Syntax.{w32}
use mir.Val.{SFits}
use mir.Facts.{to_z-of_z}
use Rattle.whole.proofs.Signed.{about}
use Rattle.whole.proofs.Magnitude.{abs--ℤ}
use Rattle.whole.proofs.Rounded.{raw}
use Rattle.tree.specs.Signal.{gain_of}
use Rattle.weighing.specs.Helpers.{Allowed, Differ, Small, Above, Below}

-- ---- one difference

pub record Lessened (a b : ℤ) : Type 0 where
  pub fits : SFits w32 (raw w32 a -ℤ raw w32 b)
  pub value : raw w32 (raw w32 a -ℤ raw w32 b) ≡ a -ℤ b
  pub small : nat_abs (raw w32 (raw w32 a -ℤ raw w32 b)) ≤ 2 ^ 15

pub lessened : (a b : ℤ) → SFits w32 a → SFits w32 b → nat_abs a ≤ 2 ^ 14 → nat_abs b ≤ 2 ^ 14 → Lessened a b
lessened a b fa fb ha hb =
    let h : nat_abs (a -ℤ b) ≤ 2 ^ 15 = omega (arith, abs--ℤ a b) in
    let f : SFits w32 (a -ℤ b) = record { sfits = omega (arith, about (a -ℤ b)) } in
    record { fits = rw (to_z-of_z fa, to_z-of_z fb) f; value = rw (to_z-of_z fa, to_z-of_z fb) (to_z-of_z f); small = rw (to_z-of_z fa, to_z-of_z fb, to_z-of_z f) h }

-- ---- all of them

-- up to place i the differences are found
abbrev pub Found : List ℤ → List ℤ → ℕ → Type 0
Found gains ds i = (length ds ≡ 10) × ((k : ℕ) → k < i → get_or ds k (pos 0) ≡ get_or gains k (pos 0) -ℤ get_or gains (k + 1) (pos 0))

pub found_on : (gains ds : List ℤ) (i : ℕ) (r : ℤ) → i < 10 → r ≡ get_or gains i (pos 0) -ℤ get_or gains (i + 1) (pos 0) → Found gains ds i → Found gains (set ds i r) (i + 1)
found_on gains ds i r h e f =
    (length-set ds i r ∙ f.0, rw e (fill_by_more (λ k. get_or gains k (pos 0) -ℤ get_or gains (k + 1) (pos 0)) ds i (pos 0) (omega (arith, f.0)) f.1))

module _ (gains ds : List ℤ) (allowed : Allowed 10 gains) {i : ℕ} (found : Found gains ds i) (all : 10 ≤ i) where
  -- above the last gain there is none
  without : (k : ℕ) → length gains ≤ k → get_or gains k (pos 0) -ℤ get_or gains (k + 1) (pos 0) ≡ pos 0
  without k h = rw (get_or-eq_default gains (pos 0) {n = k} h, get_or-eq_default gains (pos 0) {n = k + 1} (omega arith)) refl

  each : (k : ℕ) → get_or ds k (pos 0) ≡ get_or gains k (pos 0) -ℤ get_or gains (k + 1) (pos 0)
  each k = by (dec_lt k 10)
    where
      by : Dec (k < 10) → get_or ds k (pos 0) ≡ get_or gains k (pos 0) -ℤ get_or gains (k + 1) (pos 0)
      by (yes h) = found.1 k (omega arith)
      by (no n) = get_or-eq_default ds (pos 0) {n = k} (omega (arith, found.0)) ∙ sym (without k (omega (arith, allowed.counted)))

  pub differ : Differ (gain_of gains) ds
  differ = record { at_place = λ k. each k ∙ ap₂ (λ (u v : ℕ). get_or gains u (pos 0) -ℤ get_or gains v (pos 0)) (omega arith) (omega arith) }

  pub small : Small ds
  small = record { range = λ k. rw (each k) (omega (arith, abs--ℤ (get_or gains k (pos 0)) (get_or gains (k + 1) (pos 0)), allowed.range k, allowed.range (k + 1))) }

  pub above : Above (length gains) ds
  above = record { none = λ k h. each k ∙ without k h }

-- every line may count
pub below_starts : (top : ℕ) (ds : List ℤ) → Below 0 top ds
below_starts top ds = record { few = omega arith; none = λ i h. absurd (omega arith) }

-- a band above the last has no gain
pub none_above : (gains : List ℤ) {bands : ℕ} → length gains ≤ bands → gain_of gains (suc bands) ≡ pos 0
none_above gains {bands} e = get_or-eq_default gains (pos 0) {n = suc bands - 1} (omega arith)
