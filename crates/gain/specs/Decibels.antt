-- Decibels. A finite float is `fin s m e`: the number m·2^e, negative where s is true; 2^e is the fraction up e / down e.
use Rattle.std.specs.Prelude.{◌≡◌, ℕ, ◌*◌, ◌/◌, ◌%◌, Bool, false, cond, ◌&&◌, ℤ, pos, negsuc, neg_ℤ, ◌==◌, nat_le, unsigned_abs, Float, Result, Ok, Err}
use Rattle.std.specs.Float.{nan, inf, fin, binary32}
use Rattle.std.specs.Float.Ieee.{up, down, mul, sub, of_int}
use Rattle.gain.specs.Table.{entry}
use Rattle.gain.specs.declared.GainError.{GainError}
use Rattle.gain.specs.declared.GainError.TheVariants.{NotHalfDecibels}

-- rule 7.8: k, or -k where s is true; both signs of 0 are 0
abbrev pub signed : Bool → ℕ → ℤ
signed s k = cond s (neg_ℤ (pos k)) (pos k)

-- rules 7.2, 7.8: the float has the value n/2: m·2^e is |n|/2, and the sign s makes n of |n|
abbrev pub Half : Float → ℤ → Type 0
Half nan n = ⊥
Half (inf s) n = ⊥
Half (fin s m e) n = (2 * (m * up e) ≡ unsigned_abs n * down e) × (signed s (unsigned_abs n) ≡ n)

-- rule 7.2: of ±t/d half decibels: accepted if t/d is whole and at most 24, with the entry of ±t/d
unfoldable pub halves_gain : Bool → ℕ → ℕ → Result ℤ GainError
unfolding entry
halves_gain s t d = cond (t % d == 0 && nat_le (t / d) 24) (Ok (pos (entry (signed s (t / d))))) (Err NotHalfDecibels)

-- rule 7.2: of ±m·2^e decibels, which are twice as many half decibels; a NaN and the infinities have no gain
unfoldable pub decibels_gain : Float → Result ℤ GainError
unfolding halves_gain
decibels_gain nan = Err NotHalfDecibels
decibels_gain (inf s) = Err NotHalfDecibels
decibels_gain (fin s m e) = halves_gain s (2 * (m * up e)) (down e)

-- rule 7.2: the float of the table's place i: i less 24, which is 3·2^3, times 1·2^-1, each step as f32 works it out
unfoldable pub half_decibel : ℕ → Float
half_decibel i = mul binary32 (sub binary32 (of_int binary32 (pos i)) (fin false 3 (pos 3))) (fin false 1 (negsuc 0))
