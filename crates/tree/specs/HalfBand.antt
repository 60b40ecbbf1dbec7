-- What the low-pass goes by (rule 5.13): of a table that is served all of it holds.
use Rattle.std.specs.Prelude.{◌≡◌, ℕ, ◌+◌, ◌-◌, ◌*◌, ◌^◌, ◌≤◌, pos, nat_abs}
use Rattle.tree.specs.Prototype.{Prototype, coefficient, taps}

-- rule 5.13: D is odd, 2·half + 1; there are D coefficients on either side of c(D), and those that mirror each other are the same; at an even distance there is 0
pub record HalfBand (p : Prototype) : Type 0 where
  pub half : ℕ
  pub odd : p.centre ≡ 2 * half + 1
  pub least : 9 ≤ p.centre
  pub most : p.centre ≤ 27
  pub counted : taps p ≡ 2 * p.centre + 1
  pub mirrored : (i : ℕ) → i ≤ p.centre → coefficient p (p.centre + i) ≡ coefficient p (p.centre - i)
  pub empty : (i : ℕ) → 1 ≤ i → i ≤ half → coefficient p (p.centre - 2 * i) ≡ pos 0
  pub small : (i : ℕ) → nat_abs (coefficient p i) ≤ 2 ^ 18
