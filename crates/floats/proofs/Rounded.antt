-- The nearest whole number of a float's value: it turns on the value alone, not on how the fraction is written. Assumes nothing.
use mathlib.Core.Path.{◌≡◌, refl, sym, ap, ◌∙◌}
use mathlib.Core.Bool.{Bool, true, false}
use Prim.Native.Nat.{ℕ, suc, ◌+◌, ◌*◌, ◌/◌, ◌<◌, ◌^◌}
use native.Mathlib.Nat.{add-zero, pow-suc, div-one, div-eq_of_lt-le, mul-one}
use native.Mathlib.Omega.{arith}
use lib.IntN.{ℤ, pos, negsuc}
use lib.Pow.{pow_pos}
use lib.Ieee.{Float, nan, inf, fin, up, down}
use lib.Ieee.Exact.{HasValue}
use lib.Ieee.Nearest.{div_same}
use Rattle.answers.specs.Unit.{least_sample, most_sample}
use Rattle.whole.specs.Limit.{limit}
use Rattle.whole.specs.Nearest.{nearest}
use Rattle.whole.proofs.Nearest.{nearest-neg}
use Rattle.floats.specs.Value.{signed, full_scale, float_sample}
use Rattle.std.specs.Prelude.{Ok}

-- the sign does not change the rounding
pub nearest-signed : (s : Bool) (d a : ℕ) → nearest d (signed s a) ≡ signed s ((a + d / 2) / d)
nearest-signed false d a = refl
nearest-signed true d a = nearest-neg d (pos a)

-- a whole number and a fraction over 2h that is equal to it
whole_same : (a b h : ℕ) → 0 < h → a * (2 * h) ≡ b → a ≡ (b + h) / (2 * h)
whole_same a b h p e = sym (div-eq_of_lt-le (2 * h) (omega arith) (omega arith))

-- two equal fractions over even numbers
even_same : (a g b h : ℕ) → 0 < g → 0 < h → a * (2 * h) ≡ b * (2 * g) → (a + g) / (2 * g) ≡ (b + h) / (2 * h)
even_same a g b h p q e = div_same (a + g) (2 * g) (b + h) (2 * h) (omega arith) (omega arith) (omega arith)

-- half of an even number
half_of : (d g : ℕ) → d ≡ g * 2 → d / 2 ≡ g
half_of d g e = omega arith

-- the factor in front
twice : (d g : ℕ) → d ≡ g * 2 → d ≡ 2 * g
twice d g e = omega arith

-- a over 2 ^ -e, to the nearest, is that of any equal fraction over an even number
pub rounded_same : (e : ℤ) (a b h : ℕ) → 0 < h → a * (2 * h) ≡ b * down e → (a + down e / 2) / down e ≡ (b + h) / (2 * h)
rounded_same (pos k) a b h p q = ap (λ (x : ℕ). x / 1) (add-zero a) ∙ div-one a ∙ whole_same a b h p (q ∙ mul-one b)
rounded_same (negsuc k) a b h p q =
    let g = 2 ^ k in
    let d = 2 ^ suc k in
    let even : d ≡ 2 * g = twice d g (pow-suc 2 k) in
    ap (λ (x : ℕ). (a + x) / d) (half_of d g (pow-suc 2 k))
    ∙ ap (λ (x : ℕ). (a + g) / x) even
    ∙ even_same a g b h (pow_pos k) p (q ∙ ap (λ (x : ℕ). b * x) even)

-- equal fractions, each times 8,388,608
scaled : (v w d c : ℕ) → v * c ≡ w * d → full_scale * v * c ≡ full_scale * w * d
scaled v w d c e = omega arith

-- the sample of a float whose value is known as a fraction over an even number
pub sample_of_value : (x : Float) (s : Bool) (a h : ℕ) → 0 < h → HasValue x s a (2 * h) →
    float_sample x ≡ Ok (limit least_sample most_sample (signed s ((full_scale * a + h) / (2 * h))))
unfolding float_sample
sample_of_value nan s a h p v = absurd v
sample_of_value (inf t) s a h p v = absurd v
sample_of_value (fin t m e) s a h p v =
    rw v.0
    (ap (λ (z : ℤ). Ok (limit least_sample most_sample z)) (nearest-signed s (down e) (full_scale * (m * up e)))
    ∙ ap (λ (n : ℕ). Ok (limit least_sample most_sample (signed s n)))
    (rounded_same e (full_scale * (m * up e)) (full_scale * a) h p (scaled (m * up e) a (down e) (2 * h) v.1)))
