-- The lengths of the layout, for 2 to 10 bands. Assumes nothing.
use Prim.Native.Nat.{ℕ, ◌-◌, ◌*◌, ◌≤◌}
use native.Mathlib.Nat.{mul-le-mul}
use native.Mathlib.Omega.{arith}
use lib.Pow.{pow_mono}
use Rattle.octave.specs.Memory.{line_length, side_places, memory_length}

pub line_small : (M : ℕ) → M ≤ 10 → line_length M ≤ 4608
line_small M h = omega (arith, pow_mono {i = M - 1} {j = 9} (omega arith))

pub side_small : (M : ℕ) → M ≤ 10 → side_places M ≤ 9 * 4608
side_small M h = mul-le-mul {n₂ = 9} {m₂ = 4608} (omega arith) (line_small M h)

pub memory_small : (M c : ℕ) → M ≤ 10 → c ≤ 2 → memory_length M c ≤ 82947
memory_small M c h l = omega (arith, mul-le-mul {n₂ = 2} {m₂ = 9 * 4608} l (side_small M h))
