-- The laws of `nearest`. It is odd, so a law is proved for numbers from 0 on and carried to the others by `mirror`. Assumes nothing.
use mathlib.Core.Path.{◌≡◌, refl, sym, ap, ◌∙◌}
use mathlib.Core.List.{[], ◌∷◌, map}
use Prim.Native.Nat.{ℕ, zero, suc, ◌+◌, ◌*◌, ◌/◌, ◌%◌, ◌≤◌, ◌<◌}
use native.Mathlib.Nat.{div-add-mod, mod-lt, div-eq_of_lt, div-eq_of_lt-le, zero-lt-suc, le-div_iff_mul-le, div-mul-le_self, mul-div-le}
use native.Mathlib.Omega.{arith}
use lib.IntN.{ℤ, pos, negsuc, neg_ℤ, nat_abs, ◌-ℤ◌, ◌*ℤ◌, neg_ℤ-neg_ℤ}
use lib.Signed.{◌≤ℤ◌}
use Rattle.whole.specs.Nearest.{nearest}
use Rattle.whole.proofs.Signed.{up, down, var, lit, neg, ◌⊖◌, ◌⊗◌, eq_by, le_by, abs_by, read_le}
use Rattle.whole.proofs.Magnitude.{abs_neg}

-- ---- values

-- 49,999 and 50,000 over 100,000, and their negatives: a tie goes away from zero
pub nearest_ties : map (nearest 100000) (pos 49999 ∷ pos 50000 ∷ negsuc 49998 ∷ negsuc 49999 ∷ []) ≡ pos 0 ∷ pos 1 ∷ pos 0 ∷ negsuc 0 ∷ []
nearest_ties = refl

-- ---- from 0 on

-- nearest d (pos a) is pos (q d a)
abbrev q : ℕ → ℕ → ℕ
q d a = (a + d / 2) / d

half_below : (d : ℕ) → 0 < d → d / 2 < d
half_below d h = omega arith

q_zero : (d : ℕ) → (0 + d / 2) / d ≡ 0
q_zero zero = refl
q_zero (suc d) = div-eq_of_lt (omega (arith, half_below (suc d) (zero-lt-suc d)))

-- ---- odd

pub nearest-neg : (d : ℕ) (z : ℤ) → nearest d (neg_ℤ z) ≡ neg_ℤ (nearest d z)
nearest-neg d (pos zero) = ap pos (q_zero d) ∙ sym (ap (λ (k : ℕ). neg_ℤ (pos k)) (q_zero d))
nearest-neg d (pos (suc a)) = refl
nearest-neg d (negsuc a) = sym (neg_ℤ-neg_ℤ (pos ((suc a + d / 2) / d)))

-- to prove P z (nearest d z) for every z: prove it from 0 on, and that P z w gives P (-z) (-w)
mirror : (P : ℤ → ℤ → Type 0) (d : ℕ) → ((a : ℕ) → P (pos a) (pos (q d a))) →
    ((z w : ℤ) → P z w → P (neg_ℤ z) (neg_ℤ w)) → (z : ℤ) → P z (nearest d z)
mirror P d f g (pos a) = f a
mirror P d f g (negsuc a) = g (pos (suc a)) (pos ((suc a + d / 2) / d)) (f (suc a))

-- ---- the error, at most half a step

pub nearest_error : (d : ℕ) → 0 < d → (z : ℤ) → 2 * nat_abs (pos d *ℤ nearest d z -ℤ z) ≤ d
nearest_error d h z = mirror (λ z w. 2 * nat_abs (pos d *ℤ w -ℤ z) ≤ d) d right turned z
  where
    near : (a k r : ℕ) → d * k + r ≡ a + d / 2 → r < d → 2 * nat_abs (pos d *ℤ pos k -ℤ pos a) ≤ d
    near a k r e l =
        omega (arith, abs_by (lit d ⊗ lit k ⊖ lit a) (d / 2) (omega arith) (omega arith))

    right : (a : ℕ) → 2 * nat_abs (pos d *ℤ pos (q d a) -ℤ pos a) ≤ d
    right a = near a (q d a) ((a + d / 2) % d) (div-add-mod (a + d / 2) d) (mod-lt (a + d / 2) h)

    turned : (z w : ℤ) → 2 * nat_abs (pos d *ℤ w -ℤ z) ≤ d → 2 * nat_abs (pos d *ℤ neg_ℤ w -ℤ neg_ℤ z) ≤ d
    turned z w l =
        rw (eq_by (lit d ⊗ neg (var w) ⊖ neg (var z)) (neg (lit d ⊗ var w ⊖ var z)) (omega arith))
        (rw (abs_neg (pos d *ℤ w -ℤ z)) l)

-- k is the nearest if d·k ≤ a + d/2 < d·(k + 1)
pos_nearest : (d a k : ℕ) → d * k ≤ a + d / 2 → a + d / 2 < d * k + d → nearest d (pos a) ≡ pos k
pos_nearest d a k l h = ap pos (div-eq_of_lt-le d (omega arith) (omega arith))

-- ---- exact on multiples

pub nearest-exact : (d : ℕ) → 0 < d → (z : ℤ) → nearest d (pos d *ℤ z) ≡ z
nearest-exact d h (pos a) = pos_nearest d (d * a) a (omega arith) (omega (arith, half_below d h))
nearest-exact d h (negsuc a) =
    nearest-neg d (pos (d * suc a)) ∙
    ap neg_ℤ (pos_nearest d (d * suc a) (suc a) (omega arith) (omega (arith, half_below d h)))

-- ---- monotone

q_mono : (d : ℕ) → 0 < d → (a b : ℕ) → a ≤ b → (a + d / 2) / d ≤ (b + d / 2) / d
q_mono d h a b k = (le-div_iff_mul-le h).1 (omega (arith, div-mul-le_self (a + d / 2) d))

pub nearest-mono : (d : ℕ) → 0 < d → {y z : ℤ} → y ≤ℤ z → nearest d y ≤ℤ nearest d z
nearest-mono d h {y} {z} l = by y z (read_le y z l)
  where
    by : (y z : ℤ) → up y + down z ≤ up z + down y → nearest d y ≤ℤ nearest d z
    by (pos a) (pos b) k = le_by (lit (q d a)) (lit (q d b)) (omega (arith, q_mono d h a b (omega arith)))
    by (pos a) (negsuc b) k = absurd (omega arith)
    by (negsuc a) (pos b) k = le_by (neg (lit (q d (suc a)))) (lit (q d b)) (omega arith)
    by (negsuc a) (negsuc b) k =
        le_by (neg (lit (q d (suc a)))) (neg (lit (q d (suc b)))) (omega (arith, q_mono d h (suc b) (suc a) (omega arith)))

-- ---- size

pub nearest-abs : (d : ℕ) → 0 < d → (z : ℤ) → 2 * (d * nat_abs (nearest d z)) ≤ 2 * nat_abs z + d
nearest-abs d h z = mirror (λ z w. 2 * (d * nat_abs w) ≤ 2 * nat_abs z + d) d right turned z
  where
    right : (a : ℕ) → 2 * (d * q d a) ≤ 2 * a + d
    right a = omega (arith, mul-div-le (a + d / 2) d)

    turned : (z w : ℤ) → 2 * (d * nat_abs w) ≤ 2 * nat_abs z + d → 2 * (d * nat_abs (neg_ℤ w)) ≤ 2 * nat_abs (neg_ℤ z) + d
    turned z w l = rw (abs_neg w, abs_neg z) l

-- |nearest d z| ≤ (a + d/2) / d where |z| ≤ a
pub nearest-within : (d : ℕ) → 0 < d → (a : ℕ) (z : ℤ) → nat_abs z ≤ a → nat_abs (nearest d z) ≤ (a + d / 2) / d
nearest-within d h a (pos k) l = q_mono d h k a l
nearest-within d h a (negsuc k) l = rw (abs_neg (pos ((suc k + d / 2) / d))) (q_mono d h (suc k) a l)

-- ---- ties and zero

-- k + 1/2 goes to k + 1; below 0 by `nearest-neg`
pub nearest_tie : (h k : ℕ) → 0 < h → nearest (2 * h) (pos (2 * h * k + h)) ≡ pos (k + 1)
nearest_tie h k l = pos_nearest (2 * h) (2 * h * k + h) (k + 1) (omega arith) (omega arith)

pub nearest_zero : (d : ℕ) → nearest d (pos 0) ≡ pos 0
nearest_zero d = ap pos (q_zero d)
