-- With both gains at unity the output is 0 but for 100,000 at 9, at every n and not only at those of the table. Assumes nothing.
use mathlib.Core.Path.{◌≡◌, refl, ap, ◌∙◌}
use mathlib.Core.List.{[], ◌∷◌}
use Prim.Native.Nat.{ℕ, zero, suc, ◌≤◌}
use native.Mathlib.Omega.{arith}
use lib.IntN.{ℤ, pos, ◌*ℤ◌}
use Rattle.answers.specs.Unit.{least_sample, most_sample, unity}
use Rattle.tree.specs.Prototype.{published}
use Rattle.tree.specs.Signal.{signal_of, gain_of}
use Rattle.tree.proofs.EqualGains.{equal_gains}
use Rattle.tree.proofs.AfterOneSample.{unmet}
use Rattle.whole.specs.Nearest.{nearest}
use Rattle.whole.specs.Limit.{limit}
use Rattle.bench_readings.specs.Reading.{read, output_of, number}

both_unity : (m : ℕ) → 1 ≤ m → m ≤ 2 → gain_of (pos unity ∷ pos unity ∷ []) m ≡ pos unity
both_unity zero l h = absurd (omega arith)
both_unity (suc zero) l h = refl
both_unity (suc (suc zero)) l h = refl
both_unity (suc (suc (suc m))) l h = absurd (omega arith)

pub zero_elsewhere : (n : ℕ) → (9 ≡ n → ⊥) → read (output_of 2 (pos unity ∷ pos unity ∷ []) (pos 100000 ∷ [])) n ≡ number (pos 0)
unfolding read
zero_elsewhere n h =
    ap number
    (equal_gains published 2 (pos unity) (λ _. gain_of (pos unity ∷ pos unity ∷ [])) (signal_of (pos 100000 ∷ [])) n (omega arith) both_unity ∙
    ap (λ (z : ℤ). limit least_sample most_sample (nearest unity (◌*ℤ◌ (pos unity) z))) (unmet published (pos 100000) n 9 h))
