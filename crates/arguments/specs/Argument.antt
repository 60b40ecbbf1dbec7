-- One argument of the program: a whole number of half decibels from -24 to 24, one or two digits after at most one minus.
use Rattle.std.specs.Prelude.{Bool, not, false, cond, List, ℕ, ◌+◌, ◌-◌, ◌*◌, eqb, leb, ltb, length, get_or, drop, ℤ, pos, ◌-ℤ◌, Option, Some, None}
use Rattle.gain.specs.Table.{entry}
use Rattle.answers.specs.Answer.{Answer, accepted, refused}

-- rule 10.2: the bytes 48 to 57
abbrev pub is_digit : ℕ → Bool
is_digit b = cond (ltb b 48) false (leb b 57)

-- rule 10.2: two digits, tens and ones, if they come to at most 24
abbrev pub up_to24 : ℕ → ℕ → Option ℕ
up_to24 tens ones =
    let n = 10 * (tens - 48) + (ones - 48) in
    cond (not (is_digit tens)) None (cond (not (is_digit ones)) None (cond (leb n 24) (Some n) None))

-- rule 10.2: one digit or two: one digit d is 0d
abbrev pub digits_of : List ℕ → Option ℕ
digits_of s =
    cond (eqb (length s) 1) (up_to24 48 (get_or s 0 0))
    (cond (eqb (length s) 2) (up_to24 (get_or s 0 0) (get_or s 1 0))
    None)

-- rule 7.3: the place in the gain table of n half decibels
abbrev pub above : Option ℕ → Option ℕ
above (Some n) = Some (24 + n)
above None = None

-- rule 7.3: and of -n
abbrev pub below : Option ℕ → Option ℕ
below (Some n) = Some (24 - n)
below None = None

-- rule 10.2: after at most one minus, which is the byte 45
unfoldable pub place_of : List ℕ → Option ℕ
place_of s = cond (eqb (get_or s 0 0) 45) (below (digits_of (drop 1 s))) (above (digits_of s))

-- rule 10.4: the table's gain for place i, which is i - 24 half decibels
abbrev pub gain_for : Option ℕ → Option ℤ
gain_for (Some i) = Some (pos (entry (pos i -ℤ pos 24)))
gain_for None = None

-- rule 10.4: the gain of an argument's bytes, or 30
unfoldable pub argument_of : List ℕ → Option ℤ
unfolding place_of
argument_of s = gain_for (place_of s)

-- in the rule book's numbers
abbrev pub argument_answer : Option ℤ → Answer ℤ
argument_answer (Some g) = accepted g
argument_answer None = refused 30 0
