-- The table of 49 gains: its rule at every half decibel, by one computed test, and what follows for its entries.
-- Assumes nothing.
use Rattle.std.proofs.Common.{◌≡◌, ℕ, zero, suc, ◌+◌, ◌-◌, ◌*◌, ◌^◌, ◌<◌, ◌≤◌, Bool, true, false, not, ◌&&◌, ◌||◌, T, eqb, ltb, leb, List, [], ◌∷◌, get_or, ℤ, pos, negsuc, ◌-ℤ◌, neg_ℤ, nat_abs, ◌<ℤ◌, refl, le_of_suc-le-suc, lt_of_le_of_lt, le_antisymm, lt_of_mul-lt-mul_right, lt_of_not-le, not-le_of_lt, arith, eqb→eq, ltb→lt, leb→le}
use native.Mathlib.Nat.{pow-le-pow_left}
use lib.Ieee.Fits.{and_l, and_r}
use lib.Signed.{lt_z}
use Rattle.answers.specs.Unit as unit
use Rattle.gain.specs.Table.{gains, entry, FortiethRule}
use Rattle.gain.proofs.Every.{at, every, at_half}

-- ---- the rule

rule_test : ℤ → ℕ → Bool
rule_test (pos n) g = leb ((2 * g - 1) ^ 40) (8192 ^ 40 * 10 ^ n) && ltb (8192 ^ 40 * 10 ^ n) ((2 * g + 1) ^ 40)
rule_test (negsuc k) g = leb ((2 * g - 1) ^ 40 * 10 ^ suc k) (8192 ^ 40) && ltb (8192 ^ 40) ((2 * g + 1) ^ 40 * 10 ^ suc k)

both : (a b c : ℕ) → T (leb a b && ltb b c) → (a ≤ b) × (b < c)
both a b c t = (leb→le a b (and_l (leb a b) (ltb b c) t), ltb→lt b c (and_r (leb a b) (ltb b c) t))

rule_right : (n : ℤ) (g : ℕ) → T (rule_test n g) → FortiethRule n g
unfolding rule_test FortiethRule
rule_right (pos n) g t = both ((2 * g - 1) ^ 40) (8192 ^ 40 * 10 ^ n) ((2 * g + 1) ^ 40) t
rule_right (negsuc k) g t = both ((2 * g - 1) ^ 40 * 10 ^ suc k) (8192 ^ 40) ((2 * g + 1) ^ 40 * 10 ^ suc k) t

entry_test : ℤ → Bool
entry_test n = rule_test n (entry n)

-- the one computed test
every_entry : T (every entry_test)
unfolding entry_test rule_test entry
every_entry = tt

-- the fortieth-power rule, at every n from -24 to 24
pub rule : (n : ℤ) → nat_abs n ≤ 24 → FortiethRule n (entry n)
unfolding entry_test
rule n h = rule_right n (entry n) (at_half entry_test every_entry n h)

-- no second entry meets the rule
odd_step : (g h : ℕ) → g < h → 2 * g + 1 ≤ 2 * h - 1
odd_step g h l = omega arith

smaller : (g h : ℕ) → (2 * h - 1) ^ 40 < (2 * g + 1) ^ 40 → h ≤ g
smaller g h p = le_of_suc-le-suc (lt_of_not-le (λ (l : g < h). not-le_of_lt p (pow-le-pow_left (odd_step g h l) 40)))

pub one_entry : (n : ℤ) (g h : ℕ) → FortiethRule n g → FortiethRule n h → g ≡ h
unfolding FortiethRule
one_entry (pos n) g h p q = le_antisymm (smaller h g (lt_of_le_of_lt p.0 q.1)) (smaller g h (lt_of_le_of_lt q.0 p.1))
one_entry (negsuc k) g h p q =
    let t = 10 ^ suc k in
    le_antisymm
    (smaller h g (lt_of_mul-lt-mul_right t (lt_of_le_of_lt p.0 q.1)))
    (smaller g h (lt_of_mul-lt-mul_right t (lt_of_le_of_lt q.0 p.1)))

-- ---- order and size

small_test : ℤ → Bool
small_test n = leb (entry n) unit.largest_gain

pub entry_small : (n : ℤ) → nat_abs n ≤ 24 → entry n ≤ unit.largest_gain
unfolding small_test entry
entry_small n h = leb→le (entry n) unit.largest_gain (at_half small_test tt n h)

above_test : ℤ → ℤ → Bool
above_test m n = not (lt_z m n) || ltb (entry m) (entry n)

row_test : ℤ → Bool
row_test m = every (above_test m)

every_row : T (every row_test)
unfolding row_test above_test entry
every_row = tt

passed : (a b : Bool) → T (not a || b) → T a → T b
passed true b t h = t
passed false b t h = absurd h

-- the table is strictly increasing
pub increasing : (m n : ℤ) → nat_abs m ≤ 24 → nat_abs n ≤ 24 → m <ℤ n → entry m < entry n
unfolding row_test above_test
increasing m n h k l =
    ltb→lt (entry m) (entry n) (passed (lt_z m n) (ltb (entry m) (entry n)) (at_half (above_test m) (at_half row_test every_row m h) n k) l.lt)

-- ---- unity

-- a · b is 4,096 · 4,096 within half of a + b, which is half a step on either gain
abbrev pub NearUnity : ℕ → ℕ → Type 0
NearUnity a b = (2 * (a * b) ≤ 2 * unit.unity ^ 2 + (a + b)) × (2 * unit.unity ^ 2 ≤ 2 * (a * b) + (a + b))

unity_test : ℤ → Bool
unity_test n =
    let a = entry n in
    let b = entry (neg_ℤ n) in
    leb (2 * (a * b)) (2 * unit.unity ^ 2 + (a + b)) && leb (2 * unit.unity ^ 2) (2 * (a * b) + (a + b))

every_unity : T (every unity_test)
unfolding unity_test entry
every_unity = tt

near : (a b : ℕ) → T (leb (2 * (a * b)) (2 * unit.unity ^ 2 + (a + b)) && leb (2 * unit.unity ^ 2) (2 * (a * b) + (a + b))) → NearUnity a b
near a b t =
    let upper = leb (2 * (a * b)) (2 * unit.unity ^ 2 + (a + b)) in
    let lower = leb (2 * unit.unity ^ 2) (2 * (a * b) + (a + b)) in
    (leb→le (2 * (a * b)) (2 * unit.unity ^ 2 + (a + b)) (and_l upper lower t), leb→le (2 * unit.unity ^ 2) (2 * (a * b) + (a + b)) (and_r upper lower t))

-- the gains of n and of -n half decibels multiply to unity
pub unity : (n : ℤ) → nat_abs n ≤ 24 → NearUnity (entry n) (entry (neg_ℤ n))
unfolding unity_test
unity n h = near (entry n) (entry (neg_ℤ n)) (at_half unity_test every_unity n h)

-- ---- the table as it is written, by places

place_test : ℕ → Bool
place_test i = eqb (entry (pos i -ℤ pos 24)) (get_or gains i 0)

pub entry_at : (i : ℕ) → i < 49 → entry (pos i -ℤ pos 24) ≡ get_or gains i 0
unfolding place_test entry gains
entry_at i h = eqb→eq (entry (pos i -ℤ pos 24)) (get_or gains i 0) (at place_test 49 tt i h)

-- the same numbers as signed ones
abbrev pub positives : List ℕ → List ℤ
positives [] = []
positives (x ∷ xs) = pos x ∷ positives xs

pub get_d_positives : (xs : List ℕ) (i : ℕ) → get_or (positives xs) i (pos 0) ≡ pos (get_or xs i 0)
get_d_positives [] i = refl
get_d_positives (x ∷ xs) zero = refl
get_d_positives (x ∷ xs) (suc i) = get_d_positives xs i
