-- One block, from samples to bytes: the block call, then the codec, which takes its outputs. Assumes nothing.
use mathlib.Core.Path.{◌≡◌, sym, ap, subst, ◌∙◌}
use mathlib.Core.Bool.{Bool, true, false, cond}
use mathlib.Core.List.{List, [], ◌∷◌, ◌++◌}
use Prim.Native.Nat.{ℕ, ◌-◌, ◌*◌, ◌≤◌}
use native.Mathlib.Omega.{arith}
use borrow.Author.Tests.{eq-eqb, le-leb, eqb-true, leb-true}
use lib.Dec.{leb}
use lib.ListN.{length, take, drop, length-drop}
use lib.Seq.{take_at, drop-append-le}
use lib.IntN.{ℤ}
use Rattle.std.specs.Prelude.{Option, Some, None, Result, Ok}
use Rattle.std.specs.Result.{result_ok}
use Rattle.answers.specs.Checks.{check, all_hold, Outcome, decide, Done}
use Rattle.answers.specs.Unit.{turn_room}
use Rattle.answers.proofs.Laws.{and_left, and_right}
use Rattle.octave.specs.Block.{block_checks, equalised}
use Rattle.octave.specs.declared.block.BlockError.{BlockError}
use Rattle.samples.specs.Samples.{bytes_of, block_to}
use Rattle.samples.specs.declared.single.StoreError.{StoreError}
use Rattle.samples.proofs.Codec.{to_all}
use Rattle.blocks.specs.Equalise.{zeros, block_for, lengths_fit, is_written, equalise_of}
use Rattle.blocks.proofs.Outputs.{all_in_range, in_range_drop, equalised_long, equalised_in_range, held_ran, held_whole, written_held, refused_kept}

-- ---- the lengths

pub record Lengths (n skipped bytes : ℕ) : Type 0 where
  pub short : n ≤ turn_room
  pub within : skipped ≤ n
  pub fit : bytes ≡ 3 * (n - skipped)

pub lengths : (n skipped bytes : ℕ) → lengths_fit n skipped bytes ≡ true → Lengths n skipped bytes
lengths n skipped bytes e =
    let rest = and_right (leb n turn_room) _ e in
    record {
      short = leb-true n turn_room (and_left (leb n turn_room) _ e);
      within = leb-true skipped n (and_left (leb skipped n) _ rest);
      fit = eqb-true bytes (3 * (n - skipped)) (and_right (leb skipped n) _ rest);
    }

lengths_fit_lem : (n skipped bytes : ℕ) → Lengths n skipped bytes → lengths_fit n skipped bytes ≡ true
lengths_fit_lem n skipped bytes l = rw (le-leb n turn_room l.short, le-leb skipped n l.within) (eq-eqb bytes (3 * (n - skipped)) l.fit)

-- ---- the call

-- the first check holds: the second decides
second : {R L : Type 0} (a b t : Bool) (r result : R) (before after : L) → a ≡ true → b ≡ t →
    decide (check a r ∷ check b r ∷ []) before result after ≡ cond t (record { result = result; lent = after }) (record { result = r; lent = before })
unfolding decide
second a b t r result before after e f = rw (e, f)

module _ (memory gains input : List ℤ) (skipped : ℕ) (stored : List ℕ) (l : Lengths (length input) skipped (length stored)) where
  -- the lengths are right: the block call decides
  judged : (w : Bool) → is_written (block_for memory gains input).result ≡ w →
      equalise_of memory gains input skipped stored ≡
      cond w (record { result = Some (length stored); lent = ((block_for memory gains input).lent.0, bytes_of (drop skipped (block_for memory gains input).lent.1)) })
      (record { result = None; lent = (memory, stored) })
  unfolding equalise_of
  judged w e =
      second (lengths_fit (length input) skipped (length stored)) (is_written (block_for memory gains input).result) w None (Some (length stored)) (memory, stored)
      ((block_for memory gains input).lent.0, bytes_of (drop skipped (block_for memory gains input).lent.1)) (lengths_fit_lem (length input) skipped (length stored) l) e

  -- an accepted block: the memory is advanced, and the bytes of its outputs but the first are stored
  pub equalised_is : all_hold (block_checks memory gains input (zeros input)) ≡ true →
      equalise_of memory gains input skipped stored ≡
      record { result = Some (length stored); lent = ((block_for memory gains input).lent.0, bytes_of (drop skipped (block_for memory gains input).lent.1)) }
  equalised_is h = judged true (ap (λ (b : Outcome (Result ℕ BlockError) (List ℤ × List ℤ)). is_written b.result) (held_ran memory gains input (zeros input) h))

  module _ (b : Result ℕ BlockError) (m o : List ℤ) (d : Done (block_for memory gains input) b (m, o)) where
    pub call_refused : is_written b ≡ false → Done (equalise_of memory gains input skipped stored) None (m, stored)
    call_refused e =
        let w : is_written (block_for memory gains input).result ≡ false = ap is_written (sym d.result_is) ∙ e in
        let kept : m ≡ memory = ap (λ (x : List ℤ × List ℤ). x.0) (d.lent_is ∙ refused_kept memory gains input (zeros input) w) in
        record {
          result_is = sym (ap (λ (x : Outcome (Option ℕ) (List ℤ × List ℕ)). x.result) (judged false w));
          lent_is = ap (λ (x : List ℤ). (x, stored)) kept ∙ sym (ap (λ (x : Outcome (Option ℕ) (List ℤ × List ℕ)). x.lent) (judged false w));
        }

    module _ (e : is_written b ≡ true) where
      written : is_written (block_for memory gains input).result ≡ true
      written = ap is_written (sym d.result_is) ∙ e

      held : all_hold (block_checks memory gains input (zeros input)) ≡ true
      held = written_held memory gains input (zeros input) written

      o_is : o ≡ (equalised memory gains input).1
      o_is = ap (λ (x : List ℤ × List ℤ). x.1) (d.lent_is ∙ ap (λ (x : Outcome (Result ℕ BlockError) (List ℤ × List ℤ)). x.lent) (held_ran memory gains input (zeros input) held))

      o_long : length o ≡ length input
      o_long = ap length o_is ∙ equalised_long memory gains input (held_whole memory gains input (zeros input) held)

      -- the codec takes its outputs
      stored_is : (rest : List ℤ) →
          block_to (take (length input - skipped) (drop skipped (o ++ rest))) stored ≡ record { result = Ok (length stored); lent = bytes_of (drop skipped o) }
      stored_is rest =
          let part : take (length input - skipped) (drop skipped (o ++ rest)) ≡ drop skipped o =
          ap (take (length input - skipped)) (drop-append-le skipped o rest (omega (arith, o_long, l.within))) ∙
          take_at (drop skipped o) rest (length input - skipped) (length-drop skipped o ∙ ap (λ (n : ℕ). n - skipped) o_long) in
          let fits : length stored ≡ 3 * length (drop skipped o) = l.fit ∙ ap (λ (n : ℕ). 3 * (n - skipped)) (sym o_long) ∙ ap (λ (n : ℕ). 3 * n) (sym (length-drop skipped o)) in
          let range = in_range_drop skipped o (subst (λ (x : List ℤ). all_in_range x ≡ true) (sym o_is) (equalised_in_range memory gains input)) in
          ap (λ (x : List ℤ). block_to x stored) part ∙ to_all (drop skipped o) stored fits range

      pub call_stored : (rest : List ℤ) (r : Result ℕ StoreError) (k : Option ℕ) (t : List ℕ) → k ≡ result_ok r →
          Done (block_to (take (length input - skipped) (drop skipped (o ++ rest))) stored) r t → Done (equalise_of memory gains input skipped stored) k (m, t)
      call_stored rest r k t e s =
          let bytes : t ≡ bytes_of (drop skipped o) = s.lent_is ∙ ap (λ (x : Outcome (Result ℕ StoreError) (List ℕ)). x.lent) (stored_is rest) in
          record {
            result_is =
                e ∙ ap result_ok (s.result_is ∙ ap (λ (x : Outcome (Result ℕ StoreError) (List ℕ)). x.result) (stored_is rest)) ∙
                sym (ap (λ (x : Outcome (Option ℕ) (List ℤ × List ℕ)). x.result) (judged true written));
            lent_is =
                (λ i. ((d.lent_is i).0, bytes i)) ∙ ap (λ (x : List ℤ × List ℤ). ((block_for memory gains input).lent.0, bytes_of (drop skipped x.1))) d.lent_is ∙
                sym (ap (λ (x : Outcome (Option ℕ) (List ℤ × List ℕ)). x.lent) (judged true written));
          }
