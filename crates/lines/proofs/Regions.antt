-- The lines of some bands: what a row of the first line asks, and the lines behind it. Over any prototype. Assumes nothing.
use mathlib.Core.Path.{◌≡◌, refl, ap, ◌∙◌}
use mathlib.Core.List.{List}
use Prim.Native.Nat.{ℕ, zero, suc, ◌-◌, ◌*◌, ◌^◌, ◌≤◌}
use native.Mathlib.Nat.{pow-succ', mul-le-mul_left, mul-le-mul_right}
use native.Mathlib.Omega.{arith}
use lib.Pow.{pow_mono}
use lib.ListN.{length, drop, length-drop}
use lib.IntN.{ℤ}
use Rattle.tree.specs.Prototype.{Prototype}
use Rattle.lines.specs.Helpers.{Part, Region, RowRegion}

pub less_one : (b : ℕ) → suc (suc b) - 1 ≡ suc b
less_one b = omega arith

pub less_two : (b : ℕ) → suc (suc b) - 1 - 1 ≡ b
less_two b = omega arith

module _ (p : Prototype) (size L : ℕ) (lines : List ℤ) where
  -- the taps of the first line are within it
  pub reach_of : (b : ℕ) → Region p (suc (suc b)) size L lines → 2 * (p.centre * L) ≤ size
  reach_of b r =
      let twice : L * 2 ≤ L * 2 ^ (suc (suc b) - 1) = mul-le-mul_left L (pow_mono {i = 1} {j = suc (suc b) - 1} (omega arith)) in
      omega (arith, r.sized, mul-le-mul_left p.centre twice)

  -- .. and the line is there
  pub held_of : (b : ℕ) → Region p (suc (suc b)) size L lines → size ≤ length lines
  held_of b r = omega (arith, r.whole, mul-le-mul_right {m = 1} {n = suc (suc b) - 1} size (omega arith))

  -- behind it stand the lines of one band fewer, the stretch doubled
  pub behind_it : (b : ℕ) → Region p (suc (suc b)) size L lines → Region p (suc b) size (2 * L) (drop size lines)
  behind_it b r =
      record {
        some = omega arith;
        few = omega (arith, r.few);
        stretch = omega (arith, r.stretch);
        sized = r.sized ∙ ap (λ (k : ℕ). p.centre * k) halved;
        whole = rw (length-drop size lines, r.whole, less_one b, one_off) (omega arith);
        small = r.small;
      }
    where
      one_off : suc b - 1 ≡ b
      one_off = omega arith

      halved : L * 2 ^ (suc (suc b) - 1) ≡ 2 * L * 2 ^ (suc b - 1)
      halved = rw (less_one b, one_off, pow-succ' 2 b) (omega arith)

-- lines of the same length are the same region
pub region_same : {p : Prototype} {bands size L : ℕ} {lines ls : List ℤ} → length ls ≡ length lines → Region p bands size L lines → Region p bands size L ls
region_same e r = record { some = r.some; few = r.few; stretch = r.stretch; sized = r.sized; whole = e ∙ r.whole; small = r.small }

-- a row of the first line
pub row_of : (p : Prototype) (size at L bands n : ℕ) (lines matrix : List ℤ) → (bands ≡ 1 → ⊥) → RowRegion p bands size at L n lines matrix → Part p lines size at L 0 n matrix
row_of p size at L zero n lines matrix more r = absurd (omega (arith, r.region.some))
row_of p size at L (suc zero) n lines matrix more r = absurd (more refl)
row_of p size at L (suc (suc b)) n lines matrix more r =
    record {
      ordered = omega arith;
      before_end = r.before_end;
      reach = reach_of p size L lines b r.region;
      some = r.region.stretch;
      held = held_of p size L lines b r.region;
      small = r.region.small;
      short = r.short;
      room = omega (arith, r.room);
    }
