-- The samples of bytes that come in pieces. Assumes nothing.
use mathlib.Core.Path.{◌≡◌, refl, sym, ap, ap₂, ◌∙◌}
use mathlib.Core.Logic.{◌⊎◌, inl, inr}
use mathlib.Core.List.{List, [], ◌∷◌, ◌++◌, append-nil, append_assoc}
use Prim.Native.Nat.{ℕ, zero, suc, ◌+◌, ◌-◌, ◌*◌, ◌/◌, ◌≤◌, min}
use native.Mathlib.Nat.{suc-add, zero-add, sub-zero}
use native.Mathlib.Omega.{arith}
use lib.ListN.{length, take, drop, replicate, length-append, length-drop, length-replicate, replicate-append-replicate}
use lib.Seq.{take-append-le, drop-append-le}
use lib.IntN.{ℤ, pos}
use Rattle.samples.specs.Samples.{samples_of}
use Rattle.samples.specs.Format.{size_of}
use Rattle.samples.specs.Sample.{sample_in}
use Rattle.samples.specs.declared.format.Format.{Format}
use Rattle.samples.proofs.Taking.{length-samples}
use Rattle.samples.specs.declared.format.Format.TheVariants.{Bits16, Bits24, Float32}
use Rattle.eqfile.specs.Data.{samples_from}

-- whole samples, and then others
samples-append : (a j : ℕ) (format : Format) (x y : List ℕ) → length x ≡ size_of format * a →
    samples_of (a + j) format (x ++ y) ≡ samples_of a format x ++ samples_of j format y
unfolding samples_of
samples-append zero j format [] y l = ap (λ (k : ℕ). samples_of k format y) (zero-add j)
samples-append zero j format (b ∷ x) y l = absurd (omega arith)
samples-append (suc a) j format x y l =
    let size = size_of format in
    let here : size ≤ length x = omega arith in
    ap (λ (k : ℕ). samples_of k format (x ++ y)) (suc-add a j) ∙
    ap₂ (λ (s t : List ℕ). sample_in format s ∷ samples_of (a + j) format t) (take-append-le size x y here) (drop-append-le size x y here) ∙
    ap (λ (t : List ℤ). sample_in format (take size x) ∷ t) (samples-append a j format (drop size x) y (length-drop size x ∙ omega arith))

-- ---- how many samples are wholly there, of so many bytes

-- no bytes, none
pub none : (n : ℕ) (format : Format) → min (0 / size_of format) n ≡ 0
none n Bits16 = omega arith
none n Bits24 = omega arith
none n Float32 = omega arith

-- all bytes of a samples
pub all : (a : ℕ) (format : Format) (n : ℕ) → n ≡ size_of format * a → min (n / size_of format) a ≡ a
all a Bits16 n h = omega arith
all a Bits24 n h = omega arith
all a Float32 n h = omega arith

-- no more bytes than those of a samples
pub fewer : (a b : ℕ) (format : Format) (n : ℕ) → n ≤ size_of format * a → min (n / size_of format) (a + b) ≡ min (n / size_of format) a
fewer a b Bits16 n h = omega arith
fewer a b Bits24 n h = omega arith
fewer a b Float32 n h = omega arith

-- all bytes of a samples, and more
pub both : (a b : ℕ) (format : Format) (n m : ℕ) → n ≡ size_of format * a + m → min (n / size_of format) (a + b) ≡ a + min (m / size_of format) b
both a b Bits16 n m h = omega arith
both a b Bits24 n m h = omega arith
both a b Float32 n m h = omega arith

-- ---- the samples

-- k samples that are wholly there, and z zeros
from_is : (n k z : ℕ) (format : Format) (s : List ℕ) → min (length s / size_of format) n ≡ k → n - k ≡ z →
    samples_from n format s ≡ samples_of k format s ++ replicate z (pos 0)
unfolding samples_from
from_is n k z format s e f = ap (λ (j : ℕ). samples_of j format s ++ replicate (n - j) (pos 0)) e ∙ ap (λ (j : ℕ). samples_of k format s ++ replicate j (pos 0)) f

pub length_from : (n : ℕ) (format : Format) (s : List ℕ) → length (samples_from n format s) ≡ n
length_from n format s =
    let k = min (length s / size_of format) n in
    ap length (from_is n k (n - k) format s refl refl) ∙ length-append (samples_of k format s) (replicate (n - k) (pos 0)) ∙
    ap₂ ◌+◌ (length-samples k format s) (length-replicate (n - k) (pos 0)) ∙ omega arith

-- samples past the bytes are zeros
pub more_zeros : (a b : ℕ) (format : Format) (s : List ℕ) → length s ≤ size_of format * a → samples_from (a + b) format s ≡ samples_from a format s ++ replicate b (pos 0)
more_zeros a b format s l =
    let k = min (length s / size_of format) a in
    from_is (a + b) k (a - k + b) format s (fewer a b format (length s) l) (omega arith) ∙
    ap (λ (z : List ℤ). samples_of k format s ++ z) (sym (replicate-append-replicate (a - k) b (pos 0))) ∙
    sym (append_assoc (samples_of k format s) (replicate (a - k) (pos 0)) (replicate b (pos 0))) ∙
    ap (λ (z : List ℤ). z ++ replicate b (pos 0)) (sym (from_is a k (a - k) format s refl refl))

-- no bytes, only zeros
pub no_bytes : (n : ℕ) (format : Format) → samples_from n format [] ≡ replicate n (pos 0)
unfolding samples_of
no_bytes n format = from_is n 0 n format [] (none n format) (sub-zero n)

-- a block's bytes and those of the blocks after it: it has all of its own, or none follow
pub from-append : (a b : ℕ) (format : Format) (x y : List ℕ) → length x ≤ size_of format * a → (length x ≡ size_of format * a) ⊎ (y ≡ []) →
    samples_from a format x ++ samples_from b format y ≡ samples_from (a + b) format (x ++ y)
from-append a b format x y l (inl e) =
    let j = min (length y / size_of format) b in
    ap₂ ◌++◌ (from_is a a 0 format x (all a format (length x) e) (omega arith) ∙ append-nil (samples_of a format x)) (from_is b j (b - j) format y refl refl) ∙
    sym (append_assoc (samples_of a format x) (samples_of j format y) (replicate (b - j) (pos 0))) ∙
    ap (λ (s : List ℤ). s ++ replicate (b - j) (pos 0)) (sym (samples-append a j format x y e)) ∙
    sym (from_is (a + b) (a + j) (b - j) format (x ++ y) (both a b format (length (x ++ y)) (length y) (length-append x y ∙ ap (λ (k : ℕ). k + length y) e)) (omega arith))
from-append a b format x y l (inr e) =
    ap (λ (z : List ℕ). samples_from a format x ++ samples_from b format z) e ∙ ap (λ (z : List ℤ). samples_from a format x ++ z) (no_bytes b format) ∙
    sym (more_zeros a b format x l) ∙ ap (samples_from (a + b) format) (sym (append-nil x) ∙ ap (λ (z : List ℕ). x ++ z) (sym e))
