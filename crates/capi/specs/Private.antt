-- What a private function asks: a reader of the promises needs none of it.
use Rattle.std.specs.Prelude.{◌<◌, ◌^◌}
use Rattle.answers.specs.Answer.{Answer, accepted, refused}
use Rattle.wave.specs.declared.found.Found.{Found}

-- what was found starts at a place that 32 bits hold
abbrev pub StartFits : Answer Found → Type 0
StartFits (accepted f) = f.start < 2 ^ 32
StartFits (refused number place) = Unit
