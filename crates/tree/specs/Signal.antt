-- Signals (rule 3.1): a whole number for each n, counted from the first sample.
use Rattle.std.specs.Prelude.{cond, ℕ, ◌-◌, leb, List, get_or, ℤ, pos}

-- rule 3.1: a number for each n
abbrev pub Signal : Type 0
Signal = ℕ → ℤ

-- rule 3.1: s at n - d, 0 before the first sample
abbrev pub back : Signal → ℕ → ℕ → ℤ
back s n d = cond (leb d n) (s (n - d)) (pos 0)

-- rule 3.1: the samples of a list in turn, zeros after them
abbrev pub signal_of : List ℤ → Signal
signal_of xs n = get_or xs n (pos 0)

-- rule 1.3: the gain of band m from a list of gains, the lowest first
abbrev pub gain_of : List ℤ → ℕ → ℤ
gain_of gs m = get_or gs (m - 1) (pos 0)
