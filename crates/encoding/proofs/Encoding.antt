-- The encoding in 64 bits, and which answers it keeps apart. Assumes nothing.
use mathlib.Core.Path.{◌≡◌, refl, ap, ◌∙◌}
use Prim.Native.Nat.{ℕ, ◌-◌, ◌<◌, ◌^◌}
use native.Mathlib.Omega.{arith}
use borrow.Author.Tests.{lt-ltb}
use borrow.Author.Rules.{sfits_of}
use lib.IntN.{ℤ, pos, negsuc, ◌+ℤ◌}
use lib.Signed.{mag}
use mir.Syntax.{w64}
use mir.Val.{SFits, to_z, of_z}
use mir.Facts.{to_z-of_z, to_z_pos}
use Rattle.std.proofs.Common.{Result, Ok, Err}
use Rattle.std.specs.Prelude.{MatchResult}
use Rattle.answers.specs.Answer.{Answer, accepted, refused, answered}
use Rattle.answers.specs.Checks.{Outcome, Done}
use Rattle.answers.specs.declared.refused.Refused.{Refused}
use Rattle.encoding.specs.Answers.{of_count, Returned}
use Rattle.encoding.specs.Encode.{least, encode, Apart}
use Rattle.encoding.specs.Parts.{PlaceFits, CountFits, Returnable, Counted}

-- ---- 64 bits

-- a result in range comes through as itself
pub returned : {z w : ℤ} → z ≡ w → mag z < 2 ^ 63 → to_z w64 (of_z w64 z) ≡ w
returned e small = to_z-of_z {w = w64} (sfits_of {w = w64} small) ∙ e

-- INT64_MIN and less than 2^63 more
pub above-least : (k : ℕ) → k < 2 ^ 63 → least +ℤ pos k ≡ negsuc (9223372036854775807 - k)
above-least k h = rw (lt-ltb k 9223372036854775808 h) (ap negsuc (omega arith))

-- that sum neither leaves 64 bits nor is another number
pub record Sum (k : ℕ) : Type 0 where
  pub fits : SFits w64 (least +ℤ to_z w64 k)
  pub is : to_z w64 (of_z w64 (least +ℤ to_z w64 k)) ≡ least +ℤ pos k

pub sum : (k : ℕ) → k < 2 ^ 63 → Sum k
sum k h = record { fits = in_range; is = to_z-of_z in_range ∙ ap (λ (z : ℤ). least +ℤ z) (to_z_pos w64 h) }
  where
    in_range : SFits w64 (least +ℤ to_z w64 k)
    in_range = rw (to_z_pos w64 h, above-least k h) (sfits_of {w = w64} (omega arith))

-- ---- an answer that is promised to be returnable can be encoded

-- a signed one
module _ {E : Type 0} (refusal : E → Refused) {r s : Result ℤ E} (same : r ≡ s) where
  pub signed_fits : Returnable (answered refusal s) → PlaceFits refusal r
  signed_fits h = by r (rw same h)
    where
      by : (r : Result ℤ E) → Returnable (answered refusal r) → PlaceFits refusal r
      by (Ok z) h = tt
      by (Err e) h = h.2

-- a count
module _ {E : Type 0} (refusal : E → Refused) (r : Result ℕ E) {a : Answer ℕ} (same : answered refusal r ≡ a) where
  pub count_fits : Counted a → CountFits refusal r
  count_fits h = by r (rw same h)
    where
      by : (r : Result ℕ E) → Counted (answered refusal r) → CountFits refusal r
      by (Ok n) h = h
      by (Err e) h = h.2

-- a count of a call that was lent places
module _ {E L : Type 0} (refusal : E → Refused) {o : Outcome (Result ℕ E) L} {r : Result ℕ E} {lent : L} (d : Done o r lent) where
  pub lent_fits : Counted (answered refusal o.result) → CountFits refusal r
  lent_fits h = count_fits refusal r (ap (answered refusal) d.result_is) h

  -- .. and is what that call's export returns
  pub lent_returned : {code : ℤ} → code ≡ encode (of_count (answered refusal r)) → mag code < 2 ^ 63 →
      Returned (λ (a : Result ℕ E). of_count (answered refusal a)) o (to_z w64 (of_z w64 code)) lent
  lent_returned e fits = record { code_is = returned (rw (d.result_is) at e) fits; lent_is = d.lent_is }

-- ---- what can be returned is kept apart

pub returnable_apart : (a : Answer ℤ) → Returnable a → Apart a
returnable_apart (accepted z) h = h
returnable_apart (refused number place) h = (h.1, h.2)

pub counted_apart : (a : Answer ℕ) → Counted a → Apart (of_count a)
counted_apart (accepted n) h = refl
counted_apart (refused number place) h = returnable_apart (refused number place) h

-- ---- the library's choice between a value and a refusal

module _ {E : Type 0} (refusal : E → Refused) (code : ℤ) where
  -- the code of an error
  abbrev Refuses : E → Type 0
  Refuses e = code ≡ encode (refused (refusal e).number (refusal e).place)

  pub signed_chosen : (r : Result ℤ E) → MatchResult r (λ z. code ≡ z) Refuses → code ≡ encode (answered refusal r)
  unfolding encode
  signed_chosen (Ok z) h = h
  signed_chosen (Err e) h = h

  pub count_chosen : (r : Result ℕ E) → CountFits refusal r → MatchResult r (λ n. code ≡ to_z w64 n) Refuses → code ≡ encode (of_count (answered refusal r))
  unfolding encode
  count_chosen (Ok n) fits h = h ∙ to_z_pos w64 fits
  count_chosen (Err e) fits h = h
