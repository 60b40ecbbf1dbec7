-- A way to settle a linear fact about signed numbers. `omega` reads no ℤ, so a number is carried as a difference of two
-- naturals, p - n. A `Diff` mirrors the ℤ term that it stands for (`z` computes to that term), and five laws turn what is
-- asked of z into a fact on p and n that `omega` settles. Products are multiplied out by `omega` itself.
-- Assumes nothing.
use mathlib.Core.Path.{◌≡◌, refl, sym, ap, subst}
use mathlib.Core.Bool.{Bool, true, false, not, cond}
use Prim.Native.Nat.{ℕ, zero, suc, ◌+◌, ◌*◌, ◌-◌, ◌≤◌, ◌<◌, min, pred}
use native.Mathlib.Omega.{arith}
use lib.Dec.{T, ltb, ltb→lt, nltb→le, leb→le, le→leb, lt→ltb}
use lib.IntN.{ℤ, pos, negsuc, neg_ℤ, nat_abs, sub_ℕ, ◌+ℤ◌, ◌*ℤ◌}
use lib.Signed as S
use lib.Signed.{mag, lt_z, le_z, ◌≤ℤ◌, ◌<ℤ◌}
use borrow.Author.Tests.{leb-false}

-- ---- the two parts of a number

abbrev pub up : ℤ → ℕ
up (pos n) = n
up (negsuc n) = 0

abbrev pub down : ℤ → ℕ
down (pos n) = 0
down (negsuc n) = suc n

cond_both : (b : Bool) (x y : ℤ) (P : ℤ → Type 0) → (T b → P x) → (T (not b) → P y) → P (cond b x y)
cond_both true x y P f g = f tt
cond_both false x y P f g = g tt

sub_parts : (a b : ℕ) → up (sub_ℕ a b) + b ≡ down (sub_ℕ a b) + a
sub_parts a b =
    cond_both (ltb a b) (negsuc (b - suc a)) (pos (a - b)) (λ (z : ℤ). up z + b ≡ down z + a) (λ t. below (ltb→lt a b t))
    (λ t. above (nltb→le a b t))
  where
    below : a < b → 0 + b ≡ suc (b - suc a) + a
    below h = omega arith

    above : b ≤ a → a - b + b ≡ 0 + a
    above h = omega arith

pub add_parts : (a b : ℤ) → up (a +ℤ b) + (down a + down b) ≡ down (a +ℤ b) + (up a + up b)
add_parts (pos a) (pos b) = omega arith
add_parts (pos a) (negsuc b) = omega (arith, sub_parts a (suc b))
add_parts (negsuc a) (pos b) = omega (arith, sub_parts b (suc a))
add_parts (negsuc a) (negsuc b) = omega arith

pub up_neg : (a : ℤ) → up (neg_ℤ a) ≡ down a
up_neg (pos zero) = refl
up_neg (pos (suc n)) = refl
up_neg (negsuc n) = refl

pub down_neg : (a : ℤ) → down (neg_ℤ a) ≡ up a
down_neg (pos zero) = refl
down_neg (pos (suc n)) = refl
down_neg (negsuc n) = refl

pub mul_parts : (a b : ℤ) →
    up (a *ℤ b) + (up a * down b + down a * up b) ≡ down (a *ℤ b) + (up a * up b + down a * down b)
mul_parts (pos a) (pos b) = omega arith
mul_parts (pos a) (negsuc b) = omega (arith, up_neg (pos (a * suc b)), down_neg (pos (a * suc b)))
mul_parts (negsuc a) (pos b) = omega (arith, up_neg (pos (suc a * b)), down_neg (pos (suc a * b)))
mul_parts (negsuc a) (negsuc b) = omega arith

-- ---- a number as a difference

pub record Diff : Type 0 where
  pub z : ℤ
  pub p : ℕ
  pub n : ℕ
  pub same : p + down z ≡ n + up z

infixl 6 ◌⊕◌ ◌⊖◌
infixl 7 ◌⊗◌
abbrev pub var : ℤ → Diff
var a = record { z = a; p = up a; n = down a; same = swapped }
  where
    swapped : up a + down a ≡ down a + up a
    swapped = omega arith

abbrev pub lit : ℕ → Diff
lit k = record { z = pos k; p = k; n = 0; same = here }
  where
    here : k + 0 ≡ 0 + k
    here = omega arith

abbrev pub neg : Diff → Diff
neg x = record { z = neg_ℤ x.z; p = x.n; n = x.p; same = turned }
  where
    turned : x.n + down (neg_ℤ x.z) ≡ x.p + up (neg_ℤ x.z)
    turned = omega (arith, x.same, up_neg x.z, down_neg x.z)

abbrev pub ◌⊕◌ : Diff → Diff → Diff
x ⊕ y = record { z = x.z +ℤ y.z; p = x.p + y.p; n = x.n + y.n; same = joined }
  where
    joined : x.p + y.p + down (x.z +ℤ y.z) ≡ x.n + y.n + up (x.z +ℤ y.z)
    joined = omega (arith, x.same, y.same, add_parts x.z y.z)

abbrev pub ◌⊖◌ : Diff → Diff → Diff
x ⊖ y = x ⊕ neg y

abbrev pub ◌⊗◌ : Diff → Diff → Diff
x ⊗ y = record { z = x.z *ℤ y.z; p = x.p * y.p + x.n * y.n; n = x.p * y.n + x.n * y.p; same = spread x y }
  where
    both : (p₁ n₁ u₁ d₁ p₂ n₂ u₂ d₂ U D : ℕ) → p₁ + d₁ ≡ n₁ + u₁ → p₂ + d₂ ≡ n₂ + u₂ →
        U + (u₁ * d₂ + d₁ * u₂) ≡ D + (u₁ * u₂ + d₁ * d₂) → p₁ * p₂ + n₁ * n₂ + D ≡ p₁ * n₂ + n₁ * p₂ + U
    both p₁ n₁ u₁ d₁ p₂ n₂ u₂ d₂ U D e₁ e₂ e =
        omega (
          arith,
          ap (λ (k : ℕ). k * p₂) e₁,
          ap (λ (k : ℕ). k * n₂) e₁,
          ap (λ (k : ℕ). u₁ * k) e₂,
          ap (λ (k : ℕ). d₁ * k) e₂,
        )

    spread : (x y : Diff) → x.p * y.p + x.n * y.n + down (x.z *ℤ y.z) ≡ x.p * y.n + x.n * y.p + up (x.z *ℤ y.z)
    spread x y =
        both x.p x.n (up x.z) (down x.z) y.p y.n (up y.z) (down y.z) (up (x.z *ℤ y.z))
        (down (x.z *ℤ y.z)) x.same y.same (mul_parts x.z y.z)

-- ---- relations by the parts

parts_eq : (a b : ℤ) → up a + down b ≡ up b + down a → a ≡ b
parts_eq (pos a) (pos b) e = ap pos (omega arith)
parts_eq (pos a) (negsuc b) e = absurd (omega arith)
parts_eq (negsuc a) (pos b) e = absurd (omega arith)
parts_eq (negsuc a) (negsuc b) e = ap negsuc (omega arith)

le_parts : (a b : ℤ) → up a + down b ≤ up b + down a → T (le_z a b)
le_parts (pos a) (pos b) h = le→leb a b (omega arith)
le_parts (pos a) (negsuc b) h = absurd (omega arith)
le_parts (negsuc a) (pos b) h = tt
le_parts (negsuc a) (negsuc b) h = le→leb b a (omega arith)

parts_le : (a b : ℤ) → T (le_z a b) → up a + down b ≤ up b + down a
parts_le (pos a) (pos b) t = omega (arith, leb→le a b t)
parts_le (pos a) (negsuc b) t = absurd t
parts_le (negsuc a) (pos b) t = omega arith
parts_le (negsuc a) (negsuc b) t = omega (arith, leb→le b a t)

lt_parts : (a b : ℤ) → up a + down b < up b + down a → T (lt_z a b)
lt_parts (pos a) (pos b) h = lt→ltb a b (omega arith)
lt_parts (pos a) (negsuc b) h = absurd (omega arith)
lt_parts (negsuc a) (pos b) h = tt
lt_parts (negsuc a) (negsuc b) h = lt→ltb b a (omega arith)

parts_lt : (a b : ℤ) → T (lt_z a b) → up a + down b < up b + down a
parts_lt (pos a) (pos b) t = omega (arith, ltb→lt a b t)
parts_lt (pos a) (negsuc b) t = absurd t
parts_lt (negsuc a) (pos b) t = omega arith
parts_lt (negsuc a) (negsuc b) t = omega (arith, ltb→lt b a t)

-- the sizes of a number by its parts, of which one is 0
pub record About (a : ℤ) : Type 0 where
  pub abs_is : nat_abs a ≡ up a + down a
  pub one_is_none : min (up a) (down a) ≡ 0
  pub mag_is : mag a ≡ up a + pred (down a)

pub about : (a : ℤ) → About a
about (pos n) = record { abs_is = omega arith; one_is_none = omega arith; mag_is = omega arith }
about (negsuc n) = record { abs_is = omega arith; one_is_none = omega arith; mag_is = omega arith }

-- ---- from a fact on p and n to one on z

pub eq_by : (x y : Diff) → x.p + y.n ≡ y.p + x.n → x.z ≡ y.z
eq_by x y e = parts_eq x.z y.z (omega (arith, x.same, y.same))

pub le_by : (x y : Diff) → x.p + y.n ≤ y.p + x.n → x.z ≤ℤ y.z
le_by x y h = record { le = le_parts x.z y.z (omega (arith, x.same, y.same)) }

pub lt_by : (x y : Diff) → x.p + y.n < y.p + x.n → x.z <ℤ y.z
lt_by x y h = record { lt = lt_parts x.z y.z (omega (arith, x.same, y.same)) }

pub abs_by : (x : Diff) (k : ℕ) → x.p ≤ k + x.n → x.n ≤ k + x.p → nat_abs x.z ≤ k
abs_by x k h l = omega (arith, x.same, about x.z)

pub mag_by : (x : Diff) (k : ℕ) → x.p < k + x.n → x.n ≤ k + x.p → mag x.z < k
mag_by x k h l = omega (arith, x.same, about x.z)

-- ---- from a fact on z to one on p and n

pub eq_of : (x y : Diff) → x.z ≡ y.z → x.p + y.n ≡ y.p + x.n
eq_of x y e = omega (arith, x.same, y.same, ap up e, ap down e)

pub le_of : (x y : Diff) → x.z ≤ℤ y.z → x.p + y.n ≤ y.p + x.n
le_of x y h = omega (arith, x.same, y.same, parts_le x.z y.z h.le)

pub lt_of : (x y : Diff) → x.z <ℤ y.z → x.p + y.n < y.p + x.n
lt_of x y h = omega (arith, x.same, y.same, parts_lt x.z y.z h.lt)

pub record Near (p n k : ℕ) : Type 0 where
  pub not_above : p ≤ k + n
  pub not_below : n ≤ k + p

pub abs_of : (x : Diff) (k : ℕ) → nat_abs x.z ≤ k → Near x.p x.n k
abs_of x k h =
    record {
      not_above = omega (arith, x.same, about x.z);
      not_below = omega (arith, x.same, about x.z);
    }

pub mag_of : (x : Diff) (k : ℕ) → mag x.z < k → (x.p < k + x.n) × (x.n ≤ k + x.p)
mag_of x k h = (omega (arith, x.same, about x.z), omega (arith, x.same, about x.z))

-- ---- the ruleset `signed`

-- `omega signed` reads hypotheses a ≡ b, a ≤ b, a < b on ℤ, and their tests, by itself where a and b are variables
pub read_eq : (a b : ℤ) → a ≡ b → up a + down b ≡ up b + down a
read_eq a b e = eq_of (var a) (var b) e

pub read_le : (a b : ℤ) → a ≤ℤ b → up a + down b ≤ up b + down a
read_le a b h = le_of (var a) (var b) h

pub read_lt : (a b : ℤ) → a <ℤ b → up a + down b < up b + down a
read_lt a b h = lt_of (var a) (var b) h

pub lt_z_yes : (a b : ℤ) → lt_z a b ≡ true → up a + down b < up b + down a
lt_z_yes a b e = parts_lt a b (subst T (sym e) tt)

pub le_z_yes : (a b : ℤ) → le_z a b ≡ true → up a + down b ≤ up b + down a
le_z_yes a b e = parts_le a b (subst T (sym e) tt)

pub lt_z_no : (a b : ℤ) → lt_z a b ≡ false → up b + down a ≤ up a + down b
lt_z_no a b e = le_of (var b) (var a) (S.lt_z_no (subst (λ (t : Bool). T (not t)) (sym e) tt))

pub le_z_no : (a b : ℤ) → le_z a b ≡ false → up b + down a < up a + down b
le_z_no (pos a) (pos b) e = omega (arith, leb-false a b e)
le_z_no (pos a) (negsuc b) e = omega arith
le_z_no (negsuc a) (pos b) e = absurd (subst (λ (t : Bool). T t) e tt)
le_z_no (negsuc a) (negsuc b) e = omega (arith, leb-false b a e)

pub ruleset signed = (arith, read_eq, read_le, read_lt, lt_z_yes, le_z_yes, lt_z_no, le_z_no)
