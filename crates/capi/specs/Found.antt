-- The five places that are lent to the header reader: rate, bits, length, start, channels.
use Rattle.std.specs.Prelude.{List, ℕ, set}
use Rattle.answers.specs.Answer.{Answer, accepted, refused}
use Rattle.samples.specs.Channels.{count_of}
use Rattle.samples.specs.Format.{bits_of}
use Rattle.wave.specs.declared.found.Found.{Found}

-- rule 12.7: the places afterwards: each of the five is set, and a refusal leaves them as they were
abbrev pub found_after : Answer Found → List ℕ → List ℕ
found_after (accepted f) before =
    set (set (set (set (set before 0 f.rate) 1 (bits_of f.format)) 2 f.size) 3 f.start) 4 (count_of f.channels)
found_after (refused number place) before = before
