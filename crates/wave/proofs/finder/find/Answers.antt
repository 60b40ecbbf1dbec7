use Rattle.std.proofs.Common.{◌≡◌, sym, ap, ◌∙◌, Bool, true, false, List, ℕ, min, arith, rules, length, take}
use lib.Seq.{take_all}
use Rattle.answers.specs.Answer.{Answer, refused}
use Rattle.answers.specs.Unit.{front_length}
use Rattle.fields.specs.Bytes.{lowest}
use Rattle.fields.proofs.ByTest.{by_order}
use Rattle.chunks.specs.Walk.{form_length, is_form, walk}
use Rattle.wave.specs.Names.{riff, wave}
use Rattle.wave.specs.Walk.{Found, nothing, chunk, find, find_of, found_answer}
use Rattle.wave.proofs.finder.find.Goals as goal

-- as many elements as there are, or k
take-least : (s : List ℕ) (k n : ℕ) → n ≡ min (length s) k → take n s ≡ take k s
take-least s k n e =
    by_order k (length s)
    (λ l. let all : n ≡ k = omega arith in ap (λ (i : ℕ). take i s) all)
    (λ l. take_all n s (omega arith) ∙ sym (take_all k s l))

module _ (s : List ℕ) (n : ℕ) (least : n ≡ min (length s) front_length) (r : Bool) (is : r ≡ is_form (take n s) riff wave) where
  finds : (answer : Answer Found) → r ≡ true → answer ≡ walk lowest (refused 24 0) chunk (length (take n s)) (take n s) form_length nothing → answer ≡ find_of s
  unfolding find_of find
  finds answer h e = rw (← take-least s front_length n least) (rw (sym is ∙ h) e)

  not_wave : r ≡ false → refused 21 0 ≡ find_of s
  unfolding find_of find
  not_wave h = rw (← take-least s front_length n least) (rw (sym is ∙ h))

pub returns-then-not-is_form : goal.returns-then-not-is_form
returns-then-not-is_form c =
    let least : c.min.result ≡ min (length c.args.front.now) front_length = search rules in
    not_wave c.args.front.now c.min.result least c.is_form.result c.is_form.ensures c.if-not-is_form.true

pub returns : goal.returns
returns c =
    let least : c.min.result ≡ min (length c.args.front.now) front_length = search rules in
    finds c.args.front.now c.min.result least c.is_form.result c.is_form.ensures (found_answer c.walk.result) c.if-not-is_form.false c.walk.ensures
