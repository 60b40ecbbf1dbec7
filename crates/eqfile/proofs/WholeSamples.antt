-- The samples that are wholly there, and zeros after them. Assumes nothing.
use mathlib.Core.Path.{◌≡◌, refl, sym, ap, ap₂, ◌∙◌}
use mathlib.Core.Bool.{Bool, true, false, cond, true≢false}
use mathlib.Core.List.{List, [], ◌∷◌, ◌++◌, append-nil}
use Prim.Native.Nat.{ℕ, zero, suc, ◌+◌, ◌-◌, ◌*◌, ◌/◌, ◌%◌, ◌≤◌, ◌<◌, min}
use native.Mathlib.Nat.{mul-le-mul_right, mul-div_cancel, mul-mod_left, div-add-mod', suc-mul, add_comm}
use native.Mathlib.Omega.{arith}
use borrow.Author.Tests.{eq-eqb}
use lib.ListN.{length, take, drop, replicate, length-take, length-drop, length-append, drop_of_length-le, take-append-drop}
use lib.Seq.{take_at, drop_at, take-take, length-take-le}
use lib.IntN.{ℤ, pos}
use Rattle.std.proofs.lemmas.List.{drop-take}
use Rattle.std.specs.Prelude.{Result, Ok, Err, is_ok, MatchResult}
use borrow.Rule.Slice.PartMut.{put_mid}
use Rattle.answers.specs.Checks.{check, Outcome, Done, decide}
use Rattle.answers.specs.First.{first_failing}
use Rattle.samples.specs.Samples.{samples_of, pieces_of, first_bad, all_samples, block_from}
use Rattle.samples.specs.Format.{size_of}
use Rattle.samples.specs.Sample.{is_sample_in, sample_in}
use Rattle.samples.specs.declared.format.Format.{Format}
use Rattle.samples.specs.declared.block.TakeError.{TakeError}
use Rattle.samples.specs.declared.block.TakeError.TheVariants.{NotNumber}
use Rattle.eqfile.specs.declared.refusal.Refusal.{Refusal}
use Rattle.eqfile.specs.declared.refusal.Refusal.TheVariants as refusal
use Rattle.samples.proofs.Taking.{length-samples}
use Rattle.eqfile.specs.Data.{there_of, samples_from, numbers_from, taken_from}
use Rattle.eqfile.proofs.Turns.{few_bytes}

-- n samples are in the first n·size bytes
pub samples_in_front : (n : ℕ) (format : Format) (s : List ℕ) → samples_of n format (take (n * size_of format) s) ≡ samples_of n format s
unfolding samples_of
samples_in_front zero format s = refl
samples_in_front (suc n) format s =
    let size = size_of format in
    let e : suc n * size ≡ size + n * size = suc-mul n size ∙ add_comm (n * size) size in
    ap₂ ◌∷◌
    (ap (sample_in format) (take-take size (suc n * size) s (omega arith)))
    (ap (samples_of n format) (ap (λ (k : ℕ). drop size (take k s)) e ∙ drop-take size (n * size) s) ∙ samples_in_front n format (drop size s))

-- .. and so are n pieces
pieces_in_front : (n size : ℕ) (s : List ℕ) → pieces_of n size (take (n * size) s) ≡ pieces_of n size s
unfolding pieces_of
pieces_in_front zero size s = refl
pieces_in_front (suc n) size s =
    let e : suc n * size ≡ size + n * size = suc-mul n size ∙ add_comm (n * size) size in
    ap₂ ◌∷◌ (take-take size (suc n * size) s (omega arith))
    (ap (pieces_of n size) (ap (λ (k : ℕ). drop size (take k s)) e ∙ drop-take size (n * size) s) ∙ pieces_in_front n size (drop size s))

module _ (format : Format) (s : List ℕ) (samples : List ℤ) (size k : ℕ) (is : size ≡ size_of format) (here : k ≡ min (length s / size) (length samples)) where
  some : 0 < size
  some = omega (arith, few_bytes format)

  pub end_within : k * size ≤ length s
  end_within =
      let l : k * size ≤ length s / size * size = mul-le-mul_right size (omega arith) in
      omega (arith, div-add-mod' (length s) size)

  pub part_fits : k ≤ length samples
  part_fits = omega arith

  bytes_long : length (take (k * size) s) ≡ k * size
  bytes_long = length-take-le (k * size) s end_within

  samples_long : length (take k samples) ≡ k
  samples_long = length-take-le k samples part_fits

  -- each of the samples that are wholly there is one
  abbrev good : Bool
  good = all_samples k format s

  there_is : k ≡ there_of (length samples) format s
  there_is = here ∙ ap (λ (j : ℕ). min (length s / j) (length samples)) is

  numbers_are : good ≡ numbers_from (length samples) format s
  unfolding numbers_from
  numbers_are = ap (λ (j : ℕ). all_samples j format s) there_is

  -- the codec's answer where they all are, and where not
  abbrev outcome : Bool → Outcome (Result ℕ TakeError) (List ℤ)
  outcome true = record { result = Ok k; lent = samples_of k format s }
  outcome false = record { result = Err (NotNumber (first_bad k format s)); lent = take k samples }

  -- the codec judges them alone, and takes them if all are samples
  decided : block_from (take (k * size) s) format (take k samples) ≡ outcome good
  unfolding block_from decide
  decided =
      let rest : length (take (k * size) s) % size_of format ≡ 0 = ap₂ ◌%◌ bytes_long (sym is) ∙ mul-mod_left k size in
      let count : length (take k samples) ≡ length (take (k * size) s) / size_of format =
      samples_long ∙ sym (ap₂ ◌/◌ bytes_long (sym is) ∙ mul-div_cancel k some) in
      let in_bytes : take (k * size) s ≡ take (k * size_of format) s = ap (λ (z : ℕ). take (k * z) s) is in
      let bad : first_bad k format (take (k * size) s) ≡ first_bad k format s =
      ap (first_failing (is_sample_in format)) (ap (pieces_of k (size_of format)) in_bytes ∙ pieces_in_front k (size_of format) s) in
      let own : samples_of k format (take (k * size) s) ≡ samples_of k format s = ap (samples_of k format) in_bytes ∙ samples_in_front k format s in
      rw (
        eq-eqb (length (take (k * size) s) % size_of format) 0 rest,
        eq-eqb (length (take k samples)) (length (take (k * size) s) / size_of format) count,
        samples_long,
        bad,
        own,
      ) (pick good)
    where
      pick : (b : Bool) → cond b (outcome true) (outcome false) ≡ outcome b
      pick true = refl
      pick false = refl

  module _ {r : Result ℕ TakeError} {last : List ℤ} (d : Done (block_from (take (k * size) s) format (take k samples)) r last) where
    judged : is_ok r ≡ good
    judged = ap is_ok d.result_is ∙ ap (λ (o : Outcome (Result ℕ TakeError) (List ℤ)). is_ok o.result) decided ∙ by good
      where
        by : (b : Bool) → is_ok (outcome b).result ≡ b
        by true = refl
        by false = refl

    left : last ≡ (outcome (is_ok r)).lent
    left = d.lent_is ∙ ap (λ (o : Outcome (Result ℕ TakeError) (List ℤ)). o.lent) decided ∙ ap (λ (b : Bool). (outcome b).lent) (sym judged)

    -- it accepted: all are samples
    pub taken_yes : is_ok r ≡ true → (good ≡ true) × (last ≡ samples_of k format s)
    taken_yes e = (sym judged ∙ e, left ∙ ap (λ (b : Bool). (outcome b).lent) e)

    -- it refused: one is none, and nothing was changed
    pub taken_no : is_ok r ≡ false → (good ≡ false) × (last ≡ take k samples)
    taken_no e = (sym judged ∙ e, left ∙ ap (λ (b : Bool). (outcome b).lent) e)

  -- a part put back as it was
  pub not_taken : (last : List ℤ) → good ≡ false → last ≡ take k samples → Done (taken_from s format samples) (Err refusal.NotNumber) (last ++ drop k samples)
  unfolding taken_from decide
  not_taken last g e =
      rw (sym numbers_are ∙ g) (record { result_is = refl; lent_is = ap (λ (l : List ℤ). l ++ drop k samples) e ∙ take-append-drop k samples })

  pub all_taken : (after : List ℤ) → good ≡ true → after ≡ samples_from (length samples) format s → Done (taken_from s format samples) (Ok tt) after
  unfolding taken_from decide
  all_taken after g e = rw (sym numbers_are ∙ g) (record { result_is = refl; lent_is = e })

  -- the code's list: the samples taken, and cleared places behind them
  pub joined : (last cleared : List ℤ) → last ≡ samples_of k format s →
      cleared ≡ replicate (length (take (length (last ++ drop k samples) - k) (drop k (last ++ drop k samples)))) (pos 0) →
      put_mid k (length (last ++ drop k samples) - k) (last ++ drop k samples) cleared ≡ samples_from (length samples) format s
  unfolding samples_from
  joined last cleared e z =
      let xs = last ++ drop k samples in
      let l : length last ≡ k = ap length e ∙ length-samples k format s in
      let d : drop k xs ≡ drop k samples = drop_at last (drop k samples) k l in
      let long : length xs ≡ length samples = length-append last (drop k samples) ∙ (omega (arith, l, length-drop k samples, part_fits)) in
      let count : length (take (length xs - k) (drop k xs)) ≡ length samples - k =
      simp (length-take, length-drop) (omega (arith, long)) in
      let none : drop (length xs - k) (drop k xs) ≡ [] = drop_of_length-le (drop k xs) {i = length xs - k} (omega (arith, length-drop k xs)) in
      let m : k ≡ min (length s / size_of format) (length samples) = there_is in
      ap₂ ◌++◌ (take_at last (drop k samples) k l ∙ e) (ap₂ ◌++◌ (z ∙ ap (λ (n : ℕ). replicate n (pos 0)) count) none ∙ append-nil (replicate (length samples - k) (pos 0))) ∙
      ap (λ (j : ℕ). samples_of j format s ++ replicate (length samples - j) (pos 0)) m

-- what is told of a refusal holds of an answer that is one
pub on_refusal : {A E T : Type 0} (r : Result A E) (P : A → Type 0) (Q : E → Type 0) → is_ok r ≡ false → MatchResult r P Q → ((e : E) → Q e → T) → T
on_refusal (Ok n) P Q b c h = absurd (true≢false b)
on_refusal (Err e) P Q b c h = h e c

-- ---- what a caller learns

module _ (s : List ℕ) (format : Format) (samples : List ℤ) (r : Result (Unit {0}) Refusal) (after : List ℤ) (d : Done (taken_from s format samples) r after) where
  -- the answer is whether they are all numbers
  pub taken_answer_lem : is_ok r ≡ numbers_from (length samples) format s
  unfolding taken_from decide
  taken_answer_lem = ap is_ok d.result_is ∙ by (numbers_from (length samples) format s)
    where
      by : (b : Bool) → is_ok (decide {R = Result (Unit {0}) Refusal} (check b (Err refusal.NotNumber) ∷ []) samples (Ok (tt {0})) (samples_from (length samples) format s)).result ≡ b
      by true = refl
      by false = refl

  -- .. and if they are, they were taken
  pub taken-samples : is_ok r ≡ true → after ≡ samples_from (length samples) format s
  unfolding taken_from decide
  taken-samples e = d.lent_is ∙ rw (sym taken_answer_lem ∙ e)
