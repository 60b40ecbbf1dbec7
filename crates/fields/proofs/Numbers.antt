-- Bytes and the numbers they stand for, the lowest byte first, over any width. Assumes nothing.
use mathlib.Core.Path.{◌≡◌, refl, sym, ap, subst}
use mathlib.Core.List.{List, [], ◌∷◌, ◌++◌}
use Prim.Native.Nat.{ℕ, zero, suc, ◌+◌, ◌*◌, ◌/◌, ◌%◌, ◌^◌, ◌<◌}
use native.Mathlib.Nat.{pow-zero, pow-succ', one-le-pow}
use native.Mathlib.Omega.{arith}
use lib.ListN.{length, take, drop}
use lib.Seq.{get_or-drop}
use Rattle.fields.specs.Bytes.{Bytes, number, little}

-- ---- bytes

pub no_bytes : Bytes []
no_bytes i = omega arith

pub bytes_cons : (b : ℕ) (s : List ℕ) → b < 256 → Bytes s → Bytes (b ∷ s)
bytes_cons b s h rest zero = h
bytes_cons b s h rest (suc i) = rest i

pub bytes_take : (n : ℕ) (s : List ℕ) → Bytes s → Bytes (take n s)
bytes_take zero s bytes = no_bytes
bytes_take (suc n) [] bytes = no_bytes
bytes_take (suc n) (b ∷ s) bytes = bytes_cons b (take n s) (bytes 0) (bytes_take n s (λ i. bytes (suc i)))

pub bytes_drop : (n : ℕ) (s : List ℕ) → Bytes s → Bytes (drop n s)
bytes_drop n s bytes i = rw (get_or-drop n s i 0) (bytes (n + i))

-- ---- powers

pow_more : (k : ℕ) → 256 ^ suc k ≡ 256 * 256 ^ k
pow_more k = pow-succ' 256 k

pub pow_positive : (k : ℕ) → 0 < 256 ^ k
pow_positive k = one-le-pow k 256 (omega arith)

-- ---- a number's bytes

pub length-little : (k n : ℕ) → length (little k n) ≡ k
unfolding little
length-little zero n = refl
length-little (suc k) n = ap suc (length-little k (n / 256))

-- ---- there and back

pub number-little : (k n : ℕ) → n < 256 ^ k → number (little k n) ≡ n
unfolding number little
number-little zero n h = omega (arith, pow-zero 256)
number-little (suc k) n h =
    let below : n < 256 * 256 ^ k = subst (λ (p : ℕ). n < p) (pow_more k) h in
    let rest : number (little k (n / 256)) ≡ n / 256 = number-little k (n / 256) (omega arith) in
    omega arith

pub little-number : (s : List ℕ) → Bytes s → little (length s) (number s) ≡ s
unfolding number little
little-number [] bytes = refl
little-number (b ∷ s) bytes =
    let l : b < 256 = bytes 0 in
    let low : (b + 256 * number s) % 256 ≡ b = omega arith in
    let high : (b + 256 * number s) / 256 ≡ number s = omega arith in
    rw (low, high) (ap (λ (t : List ℕ). b ∷ t) (little-number s (λ i. bytes (suc i))))

pub number-below : (s : List ℕ) → Bytes s → number s < 256 ^ length s
unfolding number
number-below [] bytes = pow_positive 0
number-below (b ∷ s) bytes =
    let l : b < 256 = bytes 0 in
    let rest : number s < 256 ^ length s = number-below s (λ i. bytes (suc i)) in
    subst (λ (p : ℕ). b + 256 * number s < p) (sym (pow_more (length s))) (omega arith)

-- ---- rows joined

pub number_append : (s t : List ℕ) → number (s ++ t) ≡ number s + 256 ^ length s * number t
unfolding number
number_append [] t = omega arith
number_append (b ∷ s) t =
    let rest : number (s ++ t) ≡ number s + 256 ^ length s * number t = number_append s t in
    rw (pow_more (length s)) (omega arith)
