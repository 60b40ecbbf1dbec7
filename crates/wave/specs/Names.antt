-- The four names (rule 8.1), in ASCII.
use Rattle.std.specs.Prelude.{ℕ, List, [], ◌∷◌}

-- rule 8.1: RIFF
abbrev pub riff : List ℕ
riff = 82 ∷ 73 ∷ 70 ∷ 70 ∷ []

-- rule 8.1: WAVE
abbrev pub wave : List ℕ
wave = 87 ∷ 65 ∷ 86 ∷ 69 ∷ []

-- rule 8.1: `fmt `
abbrev pub fmt : List ℕ
fmt = 102 ∷ 109 ∷ 116 ∷ 32 ∷ []

-- rule 8.1: `data`
abbrev pub data' : List ℕ
data' = 100 ∷ 97 ∷ 116 ∷ 97 ∷ []
