-- The laws of `limit`, over any two ends; then at the ends of a place. Assumes nothing.
use mathlib.Core.Path.{◌≡◌, refl}
use mathlib.Core.Bool.{Bool, true, false, cond}
use Prim.Native.Nat.{ℕ, ◌+◌, ◌≤◌, ◌<◌, ◌^◌}
use native.Mathlib.Nat.{le_refl, mul-le-mul_left, mul-lt-mul_of_pos_left}
use lib.Dec.{T}
use native.Mathlib.Omega.{arith}
use lib.IntN.{ℤ, pos, nat_abs, ◌-ℤ◌, ◌*ℤ◌}
use lib.Signed.{lt_z, ◌≤ℤ◌, ◌<ℤ◌, ≤ℤ_refl}
use mir.Syntax.{w32}
use mir.Val.{SFits}
use Rattle.answers.specs.Unit.{least_place, most_place}
use Rattle.whole.specs.Limit.{limit}
use Rattle.whole.proofs.Signed.{up, down, var, lit, ◌⊖◌, ◌⊗◌, Near, eq_by, le_by, lt_by, abs_by, abs_of, mag_of, le_of, lt_of, lt_z_yes, lt_z_no, signed}
use Rattle.whole.proofs.Magnitude.{abs_sym}

-- ---- the three cases

-- to prove P (limit lo hi z): prove P lo where z < lo, P hi where hi < z, and P z where lo ≤ z ≤ hi
pub limit_cases : (lo hi z : ℤ) (P : ℤ → Type 0) → (z <ℤ lo → P lo) → (hi <ℤ z → P hi) → (lo ≤ℤ z → z ≤ℤ hi → P z) → P (limit lo hi z)
limit_cases lo hi z P below above within = outer (lt_z z lo) refl
  where
    inner : (t : Bool) → lt_z hi z ≡ t → lo ≤ℤ z → P (cond t hi z)
    inner true e l = above (lt_by (var hi) (var z) (lt_z_yes hi z e))
    inner false e l = within l (le_by (var z) (var hi) (lt_z_no hi z e))

    outer : (t : Bool) → lt_z z lo ≡ t → P (cond t lo (cond (lt_z hi z) hi z))
    outer true e = below (lt_by (var z) (var lo) (lt_z_yes z lo e))
    outer false e = inner (lt_z hi z) refl (le_by (var lo) (var z) (lt_z_no z lo e))

-- ---- range

pub limit-least : (lo hi z : ℤ) → lo ≤ℤ hi → lo ≤ℤ limit lo hi z
limit-least lo hi z o = limit_cases lo hi z (λ w. lo ≤ℤ w) (λ _. ≤ℤ_refl lo) (λ _. o) (λ l _. l)

pub limit_most : (lo hi z : ℤ) → lo ≤ℤ hi → limit lo hi z ≤ℤ hi
limit_most lo hi z o = limit_cases lo hi z (λ w. w ≤ℤ hi) (λ _. o) (λ _. ≤ℤ_refl hi) (λ _ h. h)

pub limit_id : (lo hi z : ℤ) → lo ≤ℤ z → z ≤ℤ hi → limit lo hi z ≡ z
limit_id lo hi z l h =
    limit_cases lo hi z (λ w. w ≡ z) (λ k. eq_by (var lo) (var z) (omega signed)) (λ k. eq_by (var hi) (var z) (omega signed))
    (λ _ _. refl)

-- ---- monotone

pub limit-mono : (lo hi : ℤ) → lo ≤ℤ hi → {y z : ℤ} → y ≤ℤ z → limit lo hi y ≤ℤ limit lo hi z
limit-mono lo hi o {y} {z} k =
    limit_cases lo hi y (λ w. w ≤ℤ limit lo hi z) (λ _. limit-least lo hi z o)
    (λ b. limit_cases lo hi z (λ w. hi ≤ℤ w) (λ c. le_by (var hi) (var lo) (omega signed)) (λ _. ≤ℤ_refl hi)
    (λ _ d. le_by (var hi) (var z) (omega signed)))
    (λ l h. limit_cases lo hi z (λ w. y ≤ℤ w) (λ c. le_by (var y) (var lo) (omega signed)) (λ _. h) (λ _ _. k))

-- ---- distance of two limited numbers

-- limit z - limit y ≤ |z - y|; with y and z exchanged it bounds the distance from both sides
gap : (lo hi : ℤ) → lo ≤ℤ hi → (y z : ℤ) → (limit lo hi z -ℤ limit lo hi y) ≤ℤ pos (nat_abs (z -ℤ y))
gap lo hi o y z =
    limit_cases lo hi y (λ w. (limit lo hi z -ℤ w) ≤ℤ pos d)
    (λ b. limit_cases lo hi z (λ w. (w -ℤ lo) ≤ℤ pos d) (λ _. zero_gap lo) (λ c. step hi lo (omega (signed, near.not_above)))
    (λ l h. step z lo (omega (signed, near.not_above))))
    (λ a. limit_cases lo hi z (λ w. (w -ℤ hi) ≤ℤ pos d) (λ _. step lo hi (omega signed)) (λ _. zero_gap hi)
    (λ l h. step z hi (omega signed)))
    (λ l h. limit_cases lo hi z (λ w. (w -ℤ y) ≤ℤ pos d) (λ _. step lo y (omega signed))
    (λ c. step hi y (omega (signed, near.not_above))) (λ _ _. step z y (omega (arith, near.not_above))))
  where
    d : ℕ
    d = nat_abs (z -ℤ y)

    near : Near (up z + down y) (down z + up y) d
    near = abs_of (var z ⊖ var y) d (le_refl d)

    step : (a b : ℤ) → up a + down b ≤ d + (down a + up b) → (a -ℤ b) ≤ℤ pos d
    step a b h = le_by (var a ⊖ var b) (lit d) (omega arith)

    zero_gap : (a : ℤ) → (a -ℤ a) ≤ℤ pos d
    zero_gap a = step a a (omega arith)

pub limit_near : (lo hi : ℤ) → lo ≤ℤ hi → (y z : ℤ) → nat_abs (limit lo hi z -ℤ limit lo hi y) ≤ nat_abs (z -ℤ y)
limit_near lo hi o y z =
    abs_by (var a ⊖ var b) (nat_abs (z -ℤ y)) (omega (arith, le_of (var a ⊖ var b) (lit (nat_abs (z -ℤ y))) (gap lo hi o y z)))
    (omega (arith, le_of (var b ⊖ var a) (lit (nat_abs (y -ℤ z))) (gap lo hi o z y), abs_sym y z))
  where
    a : ℤ
    a = limit lo hi z

    b : ℤ
    b = limit lo hi y

-- ---- multiples

true_of : (t : Bool) → T t → t ≡ true
true_of true _ = refl
true_of false x = absurd x

false_of : (t : Bool) → (T t → ⊥) → t ≡ false
false_of true n = absurd (n tt)
false_of false n = refl

lt_z_scale : (k : ℕ) → 0 < k → (a b : ℤ) → lt_z (pos k *ℤ a) (pos k *ℤ b) ≡ lt_z a b
lt_z_scale k h a b = by (lt_z a b) refl
  where
    by : (t : Bool) → lt_z a b ≡ t → lt_z (pos k *ℤ a) (pos k *ℤ b) ≡ t
    by true e =
        true_of (lt_z (pos k *ℤ a) (pos k *ℤ b))
        (lt_by (lit k ⊗ var a) (lit k ⊗ var b) (omega (arith, mul-lt-mul_of_pos_left (lt_z_yes a b e) h))).lt
    by false e =
        false_of (lt_z (pos k *ℤ a) (pos k *ℤ b))
        (λ t. absurd (omega (arith, mul-le-mul_left k (lt_z_no a b e), lt_of (lit k ⊗ var a) (lit k ⊗ var b) (record { lt = t }))))

-- limiting k·z to k·lo and k·hi is k times the limited z
pub limit-scale : (k : ℕ) → 0 < k → (lo hi z : ℤ) → limit (pos k *ℤ lo) (pos k *ℤ hi) (pos k *ℤ z) ≡ pos k *ℤ limit lo hi z
limit-scale k h lo hi z = rw (lt_z_scale k h z lo, lt_z_scale k h hi z) (by (lt_z z lo) (lt_z hi z))
  where
    by : (t u : Bool) → cond t (pos k *ℤ lo) (cond u (pos k *ℤ hi) (pos k *ℤ z)) ≡ pos k *ℤ cond t lo (cond u hi z)
    by true u = refl
    by false true = refl
    by false false = refl

-- ---- a place's ends

-- what fits 32 bits is not moved
pub limit32_id : {z : ℤ} → SFits w32 z → limit least_place most_place z ≡ z
limit32_id {z} f =
    limit_id least_place most_place z (le_by (var least_place) (var z) (omega (arith, mag_of (var z) (2 ^ 31) f.sfits)))
    (le_by (var z) (var most_place) (omega (arith, mag_of (var z) (2 ^ 31) f.sfits)))
