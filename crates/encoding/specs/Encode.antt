-- The one encoding of an answer as a 64-bit number: an accepted answer is its value, a refusal INT64_MIN + number + 256·place.
use Rattle.std.specs.Prelude.{◌≡◌, false, cond, ◌+◌, ◌*◌, ◌/◌, ◌%◌, ◌<◌, ◌^◌, ℤ, pos, negsuc, nat_abs, ◌+ℤ◌, ◌-ℤ◌}
use Rattle.std.specs.Int.Signed.{lt_z}
use Rattle.answers.specs.Answer.{Answer, accepted, refused}

-- rule 12.3: INT64_MIN, -2^63
abbrev pub least : ℤ
least = negsuc 9223372036854775807

-- rule 12.4: INT64_MIN / 2, -2^62: every refusal lies below it, every accepted answer does not
abbrev pub halfway : ℤ
halfway = negsuc 4611686018427387903

-- rules 12.2, 12.3: an accepted answer as itself, a refusal above INT64_MIN
unfoldable pub encode : Answer ℤ → ℤ
encode (accepted z) = z
encode (refused number place) = least +ℤ pos (number + 256 * place)

-- rule 12.4: what the header's helpers work out
unfoldable pub decode : ℤ → Answer ℤ
decode r = cond (lt_z r halfway) (refused (nat_abs (r -ℤ least) % 256) (nat_abs (r -ℤ least) / 256)) (accepted r)

-- rule 12.5: the answers that the encoding keeps apart
abbrev pub Apart : Answer ℤ → Type 0
Apart (accepted z) = lt_z z halfway ≡ false
Apart (refused number place) = (number < 256) × (place < 2 ^ 54)
