-- The floats of the table's places: the 49 are computed, and each has the value (i - 24)/2. Assumes nothing.
use Rattle.std.proofs.Common.{◌≡◌, ℕ, ◌*◌, ◌<◌, Bool, false, ◌&&◌, T, eqb, ℤ, pos, ◌-ℤ◌, nat_abs, sym, subst, eqb→eq}
use lib.Ieee.{Float, nan, inf, fin, up, down, mul, sub, of_int, round}
use lib.Ieee.Bits.{is_true}
use lib.Ieee.Fits.{and_l, and_r}
use Rattle.std.specs.Ordering.{int_eq}
use Rattle.std.proofs.lemmas.Bool.Decides.{Decides-int_eq}
use Rattle.gain.specs.Decibels.{signed, Half, half_decibel}
use Rattle.gain.proofs.Every.{at}

half_test : Float → ℤ → Bool
half_test nan n = false
half_test (inf s) n = false
half_test (fin s m e) n = eqb (2 * (m * up e)) (nat_abs n * down e) && int_eq (signed s (nat_abs n)) n

half_right : (x : Float) (n : ℤ) → T (half_test x n) → Half x n
unfolding half_test
half_right nan n t = absurd t
half_right (inf s) n t = absurd t
half_right (fin s m e) n t =
    let size = eqb (2 * (m * up e)) (nat_abs n * down e) in
    let sign = int_eq (signed s (nat_abs n)) n in
    (eqb→eq (2 * (m * up e)) (nat_abs n * down e) (and_l size sign t), (Decides-int_eq (signed s (nat_abs n)) n).0 (is_true sign (and_r size sign t)))

place_test : ℕ → Bool
place_test i = half_test (half_decibel i) (pos i -ℤ pos 24)

-- the float of a place has its value
pub half_at : (x : Float) (i : ℕ) → x ≡ half_decibel i → i < 49 → Half x (pos i -ℤ pos 24)
unfolding place_test half_test half_decibel mul sub of_int round
half_at x i e h = subst (λ (y : Float). Half y (pos i -ℤ pos 24)) (sym e) (half_right (half_decibel i) (pos i -ℤ pos 24) (at place_test 49 tt i h))
