-- Bookkeeping: what the functions of a line ask and answer (rule 13.10). They are helpers of the calls, which have judged their input.
use Rattle.std.specs.Prelude.{◌≡◌, List, ℕ, ◌+◌, ◌*◌, ◌^◌, ◌≤◌, ◌<◌, length, ℤ, pos, negsuc, nat_abs, ◌+ℤ◌, ◌*ℤ◌}
use Rattle.tree.specs.Prototype.{Prototype, taps}

-- ---- a prototype that the rings hold: no tap beyond twice the centre, which is not 0
pub record Centred (p : Prototype) : Type 0 where
  pub reach : taps p ≤ 2 * p.centre + 1
  pub some : 1 ≤ p.centre

-- ---- a line

-- what a read of a line's taps asks: the position within the line, the taps within the line, the line within the places
pub record Within (p : Prototype) (line : List ℤ) (size at L : ℕ) : Type 0 where
  pub inside : at < size
  pub reach : 2 * (p.centre * L) ≤ size
  pub some : 1 ≤ L
  pub held : size ≤ length line
  pub small : size ≤ 4608

-- where its taps stand, as far as it is known: those up to back·L back before the position, those from round·L back on around the end (none is
-- known to where `round` is above the last, 18)
pub record Reach (back round at L : ℕ) : Type 0 where
  pub inside : back * L ≤ at
  pub around : round ≤ 18 → at < round * L

-- ---- the low-pass sum over eleven samples

-- c(i)·x(i) at i = 0, 2, 4, 6, 8, 9, 10, 12, 14, 16, 18; the other coefficients are 0
abbrev pub eleven : ℤ → ℤ → ℤ → ℤ → ℤ → ℤ → ℤ → ℤ → ℤ → ℤ → ℤ → ℤ
eleven x0 x2 x4 x6 x8 x9 x10 x12 x14 x16 x18 =
    pos 0 +ℤ pos 313 *ℤ x0 +ℤ negsuc 1337 *ℤ x2 +ℤ pos 3593 *ℤ x4 +ℤ negsuc 8717 *ℤ x6 +ℤ pos 31158 *ℤ x8 +ℤ pos 50000 *ℤ x9 +ℤ pos 31158 *ℤ x10 +ℤ negsuc 8717 *ℤ x12 +ℤ pos 3593 *ℤ x14 +ℤ negsuc 1337 *ℤ x16 +ℤ pos 313 *ℤ x18

-- .. far within 64 bits (rule 5.12)
pub record Weighed (x0 x2 x4 x6 x8 x9 x10 x12 x14 x16 x18 r : ℤ) : Type 0 where
  pub value : r ≡ eleven x0 x2 x4 x6 x8 x9 x10 x12 x14 x16 x18
  pub size : nat_abs r ≤ 2 ^ 51
