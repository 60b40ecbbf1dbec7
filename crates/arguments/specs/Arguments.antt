-- The program's arguments, lowest band first.
use Rattle.std.specs.Prelude.{cond, List, [], ◌∷◌, ℕ, ◌+◌, eqb, leb, length, set, ℤ, Option, Some, None}
use Rattle.answers.specs.Answer.{Answer, accepted, refused}
use Rattle.answers.specs.Unit.{front_length}
use Rattle.arguments.specs.Argument.{argument_of}

-- rule 10.1: the program's band count, so many arguments
abbrev pub bands : ℕ
bands = 8

-- ---- one after the other

-- rule 10.3: an accepted gain is put at place n
abbrev pub put : ℕ → Option ℤ → List ℤ → Option ℕ × List ℤ
put n (Some g) gains = (Some (n + 1), set gains n g)
put n None gains = (None, gains)

-- rule 10.3: one more argument: refused if it is, or if there is no place for its gain, or after a refused one
unfoldable pub another : Option ℕ → List ℕ → List ℤ → Option ℕ × List ℤ
unfolding argument_of
another (Some n) text gains = cond (leb (length gains) n) (None, gains) (put n (argument_of text) gains)
another None text gains = (None, gains)

-- rule 10.3: all arguments
unfoldable pub all_of : Option ℕ × List ℤ → List (List ℕ) → Option ℕ × List ℤ
all_of so_far [] = so_far
all_of so_far (text ∷ texts) = all_of (another so_far.0 text so_far.1) texts

-- rule 10.5: the bytes of the front to be read: none before as many arguments are taken as there are bands
abbrev pub front_wanted : Option ℕ → ℕ
front_wanted (Some n) = cond (eqb n bands) front_length 0
front_wanted None = 0

-- ---- all at once

-- rule 10.3: a gain before others; refused if one is
abbrev pub with : Option ℤ → Answer (List ℤ) → Answer (List ℤ)
with (Some g) (accepted gs) = accepted (g ∷ gs)
with (Some g) (refused k p) = refused k p
with None gs = refused 30 0

-- rule 10.3: the gains of the arguments in turn
unfoldable pub each_gain : List (List ℕ) → Answer (List ℤ)
unfolding argument_of
each_gain [] = accepted []
each_gain (text ∷ texts) = with (argument_of text) (each_gain texts)

-- rule 10.3: the gains of eight accepted arguments, else 30
unfoldable pub arguments_of : List (List ℕ) → Answer (List ℤ)
unfolding each_gain
arguments_of texts = cond (eqb (length texts) bands) (each_gain texts) (refused 30 0)

-- in the rule book's numbers
abbrev pub arguments_answer : Option ℕ → Answer ℕ
arguments_answer (Some n) = accepted n
arguments_answer None = refused 30 0
