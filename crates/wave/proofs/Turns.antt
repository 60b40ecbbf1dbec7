-- A turn of the reader's loop: what the code makes of a chunk, and what that is of the walk. Assumes nothing.
use mathlib.Core.Path.{◌≡◌, sym, ap, ◌∙◌}
use mathlib.Core.Bool.{true, false}
use mathlib.Core.List.{List}
use Prim.Native.Nat.{ℕ, ◌+◌, ◌-◌, ◌≤◌}
use lib.ListN.{length, take, drop}
use Rattle.std.specs.Prelude.{Result}
use Rattle.answers.specs.Answer.{Answer, refused}
use Rattle.fields.specs.Bytes.{lowest}
use Rattle.chunks.specs.Walk.{header_length, size_in, named, next, Step, ends, on, walk}
use Rattle.chunks.proofs.Walks.{lent_rest, walk_ends, walk_on}
use Rattle.wave.specs.Names.{fmt, data'}
use Rattle.wave.specs.Walk.{Found, Seen, fmt_chunk, data_chunk, chunk, found_answer}
use Rattle.wave.specs.Private.{met}
use Rattle.wave.specs.declared.found.Sound.{Sound}
use Rattle.wave.specs.declared.refusal.Refusal.{Refusal}

-- ---- what a chunk comes to, by its name

module _ (rest : List ℕ) (at : ℕ) (seen : Seen) where
  pub at_fmt : (r : Result Sound Refusal) (step : Step Seen (Answer Found)) → named rest fmt ≡ true → met r ≡ fmt_chunk rest seen → met r ≡ step → chunk rest at seen ≡ step
  unfolding chunk
  at_fmt r step t e d = rw t (sym e ∙ d)

  pub at_data : (r : Result Found Refusal) (size : ℕ) → named rest fmt ≡ false → named rest data' ≡ true → size ≡ size_in lowest rest → found_answer r ≡ data_chunk size at seen →
      chunk rest at seen ≡ ends (found_answer r)
  unfolding chunk
  at_data r size t d s e = rw (t, d) (ap ends (ap (λ (n : ℕ). data_chunk n at seen) (sym s) ∙ sym e))

  pub at_other : named rest fmt ≡ false → named rest data' ≡ false → chunk rest at seen ≡ on seen
  unfolding chunk
  at_other t d = rw (t, d)

-- ---- the walk from there, where `lent` is what the code's chunk is cut from

module _ (front : List ℕ) (at : ℕ) (seen : Seen) (there : at + header_length ≤ length front) where
  abbrev pub lent : List ℕ
  lent = take (length front - at) (drop at front)

  pub ended : (answer : Answer Found) → chunk lent at seen ≡ ends answer → answer ≡ walk lowest (refused 24 0) chunk (length front) front at seen
  ended answer e =
      sym (walk_ends lowest (refused 24 0) chunk front at seen answer there (ap (λ (r : List ℕ). chunk r at seen) (sym (lent_rest front at)) ∙ e))

  pub went_on : (place : ℕ) (seen_then : Seen) → place ≡ next at (size_in lowest lent) → chunk lent at seen ≡ on seen_then →
      walk lowest (refused 24 0) chunk (length front) front place seen_then ≡ walk lowest (refused 24 0) chunk (length front) front at seen
  went_on place seen_then e d =
      ap (λ (n : ℕ). walk lowest (refused 24 0) chunk (length front) front n seen_then) (e ∙ ap (λ (r : List ℕ). next at (size_in lowest r)) (lent_rest front at))
      ∙ sym (walk_on lowest (refused 24 0) chunk front at seen seen_then there (ap (λ (r : List ℕ). chunk r at seen) (sym (lent_rest front at)) ∙ d))
