-- A block is its single calls: where it is accepted each of its samples is what the single call answers. Assumes nothing.
use mathlib.Core.Path.{◌≡◌, refl, sym, ap, ◌∙◌}
use mathlib.Core.Bool.{true, ◌&&◌, false≢true}
use mathlib.Core.List.{List}
use Prim.Native.Nat.{ℕ, ◌<◌}
use lib.Dec.{eqb}
use lib.IntN.{ℤ, pos}
use lib.Ieee.{Float, nan}
use lib.ListN.{length, get_or}
use borrow.Author.Tests.{eqb-true}
use Rattle.answers.specs.Answer.{accepted}
use Rattle.answers.specs.Checks.{Outcome, all_hold}
use Rattle.answers.specs.First.{all_pass}
use Rattle.answers.specs.Judging.{all_refuse}
use Rattle.answers.proofs.Firsts.{all_at}
use Rattle.answers.proofs.Laws.{and_left, and_right, accepted_holds, all_accept}
use Rattle.floats.specs.Value.{float_sample}
use Rattle.floats.specs.Block.{is_sample, is_number, sample_or0, samples_of, float_checks, from_floats, float_block_answer}
use Rattle.std.specs.Prelude.{Result, Ok, Err}
use Rattle.floats.proofs.Taking.{sample_at}
use Rattle.floats.specs.declared.code.NotNumber.{NotNumber}
use Rattle.floats.specs.declared.block.FloatsError.{FloatsError}

-- a sample is its number
is_sample_lem : (r : Result ℤ NotNumber) → is_sample r ≡ true → r ≡ Ok (sample_or0 r)
is_sample_lem (Ok z) e = refl
is_sample_lem (Err f) e = absurd (false≢true e)

-- what an accepted block is
pub record Accepted (values : List Float) (samples : List ℤ) (n : ℕ) : Type 0 where
  pub count : n ≡ length values
  pub long : length samples ≡ length values
  pub numbers : all_pass is_number values ≡ true
  pub lent : (from_floats values samples).lent ≡ samples_of values

-- accepted: as many places as floats, each a number, and the samples of all
pub accepted_is : (values : List Float) (samples : List ℤ) (n : ℕ) → float_block_answer (from_floats values samples).result ≡ accepted n → Accepted values samples n
unfolding from_floats all_refuse all_hold
accepted_is values samples n e =
    let cs = float_checks values samples in
    let same = eqb (length samples) (length values) in
    let each = all_pass is_number values in
    let held : all_hold cs ≡ true = accepted_holds float_block_answer cs samples (samples_of values) (Ok (length values)) n refl e in
    let rest = and_right same (each && true) held in
    let is = all_accept samples (samples_of values) (Ok (length values)) cs held in
    record {
      count = taken (sym e ∙ ap (λ (o : Outcome (Result ℕ FloatsError) (List ℤ)). float_block_answer o.result) is);
      long = eqb-true (length samples) (length values) (and_left same (each && true) held);
      numbers = and_left each true rest;
      lent = ap (λ (o : Outcome (Result ℕ FloatsError) (List ℤ)). o.lent) is;
    }
  where
    taken : accepted n ≡ accepted (length values) → n ≡ length values
    taken d = cc

-- each sample of an accepted block is the single call's
pub each_single : (values : List Float) (samples : List ℤ) (n : ℕ) → float_block_answer (from_floats values samples).result ≡ accepted n →
    (i : ℕ) → i < n → float_sample (get_or values i nan) ≡ Ok (get_or (from_floats values samples).lent i (pos 0))
each_single values samples n e i h =
    let a = accepted_is values samples n e in
    is_sample_lem (float_sample (get_or values i nan)) (all_at is_number nan values a.numbers i (rw a.count at h))
    ∙ ap Ok (sym (sample_at values i) ∙ ap (λ (s : List ℤ). get_or s i (pos 0)) (sym a.lent))
