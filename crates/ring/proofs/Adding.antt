-- A chain of products added one by one: its value, and that it stays small. Assumes nothing.
use mathlib.Core.Path.{◌≡◌, refl, ap, ◌∙◌}
use Prim.Native.Nat.{ℕ, ◌+◌, ◌*◌, ◌≤◌, ◌^◌}
use native.Mathlib.Nat.{mul-le-mul, le_trans}
use native.Mathlib.Omega.{arith}
use lib.IntN.{ℤ, pos, nat_abs, ◌+ℤ◌, ◌*ℤ◌}
use lib.Signed.{nat_abs-le}
use mir.Syntax.{w32, w64}
use mir.Val.{SFits}
use mir.Facts.{to_z-of_z}
use Rattle.whole.proofs.Signed.{about}
use Rattle.whole.proofs.Magnitude.{abs-+ℤ, abs-*ℤ}
use Rattle.whole.proofs.Rounded.{raw}
use Rattle.ring.proofs.Pairs.{pair_size}

-- r is the sum z of k places, each weighed below 2^47 (a coefficient below 2^16, a place of 32 bits)
pub record Sum (k : ℕ) (z r : ℤ) : Type 0 where
  pub value : r ≡ z
  pub size : nat_abs r ≤ k * 2 ^ 47

pub sum_fits : {k : ℕ} {z r : ℤ} → k ≤ 2 ^ 15 → Sum k z r → SFits w64 r
sum_fits {k} {z} {r} h s = record { sfits = omega (arith, about r, s.size) }

-- as the machine hands it on
pub sum_raw : {k : ℕ} {z r : ℤ} → k ≤ 2 ^ 15 → Sum k z r → raw w64 r ≡ z
sum_raw h s = to_z-of_z (sum_fits h s) ∙ s.value

pub sum_small : {k : ℕ} {z r : ℤ} (B : ℕ) → k ≤ 2 ^ 15 → k * 2 ^ 47 ≤ B → Sum k z r → nat_abs (raw w64 r) ≤ B
sum_small B h l s = rw (to_z-of_z (sum_fits h s)) (le_trans s.size l)

-- c·x is added; x is the sum of so many places
added : {k : ℕ} {z s r : ℤ} (places : ℕ) (c x : ℤ) → k ≤ 2 ^ 15 → Sum k z s → nat_abs c ≤ 2 ^ 16 → nat_abs x ≤ places * 2 ^ 31 →
    r ≡ raw w64 s +ℤ c *ℤ x → Sum (k + places) (z +ℤ c *ℤ x) r
added {k} {z} {s} {r} places c x h before small size e =
    let v : r ≡ z +ℤ c *ℤ x = e ∙ ap (λ (a : ℤ). a +ℤ c *ℤ x) (sum_raw h before) in
    record {
      value = v;
      size =
          rw v
          (omega (
            arith,
            abs-+ℤ z (c *ℤ x),
            abs-*ℤ c x,
            mul-le-mul small size,
            rw before.value at before.size,
          ));
    }

-- .. one place
pub more : {k : ℕ} {z s r : ℤ} (c : ℤ) {x : ℤ} → k ≤ 2 ^ 15 → Sum k z s → nat_abs c ≤ 2 ^ 16 → SFits w32 x →
    r ≡ raw w64 s +ℤ c *ℤ raw w32 x → Sum (k + 1) (z +ℤ c *ℤ x) r
more c {x} h before small f e = added 1 c x h before small (nat_abs-le x f.sfits) (rw (to_z-of_z f) at e)

-- .. a pair of places
pub more_pair : {k : ℕ} {z s r : ℤ} (c : ℤ) {a b : ℤ} → k ≤ 2 ^ 15 → Sum k z s → nat_abs c ≤ 2 ^ 16 → SFits w32 a → SFits w32 b →
    r ≡ raw w64 s +ℤ c *ℤ (raw w32 a +ℤ raw w32 b) → Sum (k + 2) (z +ℤ c *ℤ (a +ℤ b)) r
more_pair c {a} {b} h before small fa fb e = added 2 c (a +ℤ b) h before small (pair_size fa fb) (rw (to_z-of_z fa, to_z-of_z fb) at e)

-- before the first product
pub none : Sum 0 (pos 0) (pos 0)
none = record { value = refl; size = omega arith }
