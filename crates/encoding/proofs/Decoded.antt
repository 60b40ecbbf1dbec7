-- The encoding can be decoded, so that no refusal meets an accepted answer and no two refusals meet. Assumes nothing.
use mathlib.Core.Path.{◌≡◌, sym, ap, ap₂, ◌∙◌}
use mathlib.Core.Bool.{true}
use Prim.Native.Nat.{ℕ, suc, ◌+◌, ◌*◌, ◌-◌, ◌/◌, ◌%◌, ◌<◌, ◌^◌}
use native.Mathlib.Omega.{arith}
use borrow.Author.Tests.{lt-ltb, le-ltb}
use lib.IntN.{ℤ, pos, nat_abs, ◌+ℤ◌, ◌-ℤ◌}
use lib.Signed.{lt_z}
use Rattle.answers.specs.Answer.{Answer, accepted, refused}
use Rattle.encoding.specs.Encode.{least, halfway, encode, decode, Apart}
use Rattle.encoding.proofs.Encoding.{above-least}

-- ---- a refusal's code

-- number and place are the digits of one count below 2^62
module _ (number place : ℕ) (h : number < 256) (g : place < 2 ^ 54) where
  count_small : number + 256 * place < 2 ^ 62
  count_small = omega arith

  number-back : (number + 256 * place) % 256 ≡ number
  number-back = omega arith

  place-back : (number + 256 * place) / 256 ≡ place
  place-back = omega arith

-- such a count above INT64_MIN lies below halfway, and comes back
module _ (k : ℕ) (h : k < 2 ^ 62) where
  refusal_below : lt_z (least +ℤ pos k) halfway ≡ true
  refusal_below = rw (above-least k (omega arith)) (lt-ltb 4611686018427387903 (9223372036854775807 - k) (omega arith))

  count_back : nat_abs ((least +ℤ pos k) -ℤ least) ≡ k
  count_back =
      rw (above-least k (omega arith), le-ltb 9223372036854775808 (suc (9223372036854775807 - k)) (omega arith)) (omega arith)

-- ---- decoding

pub decode-encode : (a : Answer ℤ) → Apart a → decode (encode a) ≡ a
unfolding encode decode
decode-encode (accepted z) h = rw h
decode-encode (refused number place) h =
    rw (
      refusal_below (number + 256 * place) (count_small number place h.0 h.1),
      count_back (number + 256 * place) (count_small number place h.0 h.1),
    )
    (ap₂ refused (number-back number place h.0 h.1) (place-back number place h.0 h.1))

-- one code stands for one answer
pub encode_one : (a b : Answer ℤ) → Apart a → Apart b → encode a ≡ encode b → a ≡ b
encode_one a b h g e = sym (decode-encode a h) ∙ ap decode e ∙ decode-encode b g

accepted_not_refused : (z : ℤ) (number place : ℕ) → ◌≡◌ {A = Answer ℤ} (accepted z) (refused number place) → ⊥
accepted_not_refused z number place e = let n : ◌≡◌ {A = ℕ} 0 1 = cc in omega arith

-- a refusal is never an accepted answer's code
pub never-meets :
    (z : ℤ) (number place : ℕ) → Apart (accepted z) → Apart (refused number place) → encode (accepted z) ≡ encode (refused number place) → ⊥
never-meets z number place h g e = accepted_not_refused z number place (encode_one (accepted z) (refused number place) h g e)
