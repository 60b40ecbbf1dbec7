-- A float as a sample, by ranges of its exponent, from its 32 bits: one of sign, eight of exponent, 23 of digits.
use Rattle.std.specs.Prelude.{Bool, cond, ℕ, ◌+◌, ◌-◌, ◌/◌, ◌%◌, ◌^◌, ℤ, pos, eqb, leb, Result, Ok, Err}
use Rattle.answers.specs.Unit.{least_sample, most_sample}
use Rattle.whole.specs.Limit.{limit}
use Rattle.floats.specs.Value.{signed}
use Rattle.floats.specs.declared.code.NotNumber.{NotNumber}

-- rule 9.8: whether the sign is a minus
abbrev pub minus : (code : ℕ) → Bool
minus code = leb (2 ^ 31) code

-- rule 9.8: the exponent's eight bits
abbrev pub exponent : (code : ℕ) → ℕ
exponent code = code / 2 ^ 23 % 256

-- rule 9.8: the digits with the leading one, that of exponents from 1 to 254
abbrev pub digits : (code : ℕ) → ℕ
digits code = 2 ^ 23 + code % 2 ^ 23

-- rule 9.8: from 1.0 on, either way, the end of the range
abbrev pub end_of : Bool → ℤ
end_of negative = cond negative least_sample most_sample

-- rule 9.8: n / 2 ^ k, to the nearest, a tie away from zero, limited: just below 1.0 it rounds past the range
abbrev pub shifted : Bool → (n k : ℕ) → ℤ
shifted negative n k = limit least_sample most_sample (signed negative ((n + 2 ^ (k - 1)) / 2 ^ k))

-- rule 9.8: 255 is no number, from 127 up the limit, 103 to 126 a shift, below zero
unfoldable pub by_exponent : (code : ℕ) → Result ℤ NotNumber
by_exponent code =
    let x = exponent code in
    cond (eqb x 255) (Err (record {}))
    (cond (leb 127 x) (Ok (end_of (minus code)))
    (cond (leb 103 x) (Ok (shifted (minus code) (digits code) (127 - x)))
    (Ok (pos 0))))
