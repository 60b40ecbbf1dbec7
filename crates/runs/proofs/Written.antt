-- The samples written, over any block calls of one channel: sample n is output n + 1,143, and zeros follow the input. Assumes nothing.
use mathlib.Core.Path.{◌≡◌, refl, sym, ap, ◌∙◌, fun_ext}
use mathlib.Core.List.{List, [], ◌∷◌, ◌++◌}
use Prim.Native.Nat.{ℕ, zero, suc, ◌+◌, ◌-◌, ◌≤◌, ◌<◌}
use native.Mathlib.Decide.{dec_lt}
use native.Mathlib.Nat.{add_comm}
use native.Mathlib.Omega.{arith}
use lib.ListN.{length, get_or, drop, replicate, length-append, length-drop, length-replicate, get_or-replicate}
use lib.Seq.{get_or-drop, ext_get_or}
use lib.IntN.{ℤ, pos, ◌*ℤ◌}
use lib.Signed.{◌≤ℤ◌}
use borrow.Author.Tests.{le-leb}
use Rattle.whole.specs.Limit.{limit}
use Rattle.whole.specs.Nearest.{nearest}
use Rattle.whole.proofs.Nearest.{nearest-exact}
use Rattle.whole.proofs.Limit.{limit_id}
use Rattle.tree.specs.Prototype.{published}
use Rattle.tree.specs.Signal.{Signal, back, signal_of, gain_of}
use Rattle.tree.specs.Tree.{output}
use Rattle.tree.proofs.EqualGains.{equal_gains}
use Rattle.octave.specs.Memory.{prepared}
use Rattle.history.specs.History.{Call, played, AllAccepted, joined, carried, from}
use Rattle.history.proofs.From.{from_at}
use Rattle.history.proofs.Weighed.{output_ext}
use Rattle.history.proofs.WholeHistory.{whole_history, output_at, carried_here, carried_later}
use Rattle.answers.specs.Unit.{least_sample, most_sample, unity}
use Rattle.gain.specs.Table.{entry, gains}
use Rattle.answers.specs.Answer.{accepted}
use Rattle.arguments.specs.Argument.{place_of, argument_of}
use Rattle.arguments.specs.Arguments.{bands, each_gain, arguments_of}
use Rattle.eqfile.specs.Turn.{late}

-- every call has the same gains
unfoldable pub SameGains : List ℤ → List Call → Type 0
SameGains of_all [] = Unit {0}
SameGains of_all (c ∷ cs) = (c.gains ≡ of_all) × SameGains of_all cs

-- the samples of the file and the zeros that follow
abbrev pub followed : List ℤ → List ℤ
followed xs = xs ++ replicate late (pos 0)

-- ---- gains and zeros

carried_same : (gains : List ℤ) (cs : List Call) → SameGains gains cs → (n m : ℕ) → n < length (joined cs) → carried cs n m ≡ gain_of gains m
unfolding SameGains joined
carried_same gains [] s n m h = absurd (omega arith)
carried_same gains (c ∷ cs) s n m h = by (dec_lt n (length c.input)) (carried_same gains cs s.1 (n - length c.input) m)
  where
    by : Dec (n < length c.input) → (n - length c.input < length (joined cs) → carried cs (n - length c.input) m ≡ gain_of gains m) → carried (c ∷ cs) n m ≡ gain_of gains m
    by (yes l) rest = carried_here c cs n m l ∙ ap (λ (g : List ℤ). gain_of g m) s.0
    by (no l) rest = carried_later c cs n m (omega arith) ∙ rest (omega (arith, length-append c.input (joined cs)))

-- zeros that follow are what the signal has anyhow
pub zeros_after : (xs : List ℤ) (k n : ℕ) → signal_of (xs ++ replicate k (pos 0)) n ≡ signal_of xs n
zeros_after [] zero n = refl
zeros_after [] (suc k) zero = refl
zeros_after [] (suc k) (suc n) = zeros_after [] k n
zeros_after (x ∷ xs) k zero = refl
zeros_after (x ∷ xs) k (suc n) = zeros_after xs k n

pub from_long : (n k : ℕ) (f : ℕ → ℤ) → length (from n k f) ≡ k
unfolding from
from_long n zero f = refl
from_long n (suc k) f = ap suc (from_long (n + 1) k f)

-- gains of 4,096: output n + 1,143 is sample n
pub unity_output : (gains : List ℤ) (x : Signal) → ((m : ℕ) → 1 ≤ m → m ≤ bands → gain_of gains m ≡ pos unity) → (n : ℕ) →
    least_sample ≤ℤ x n → x n ≤ℤ most_sample → output published bands (λ _. gain_of gains) x (n + late) ≡ x n
unity_output gains x each n lo hi =
    equal_gains published bands (pos unity) (λ _. gain_of gains) x (n + late) (omega arith) each ∙
    ap (λ (z : ℤ). limit least_sample most_sample (nearest unity (pos unity *ℤ z))) delayed ∙
    ap (limit least_sample most_sample) (nearest-exact unity (omega arith) (x n)) ∙ limit_id least_sample most_sample (x n) lo hi
  where
    delayed : back x (n + late) late ≡ x n
    delayed = rw (le-leb late (n + late) (omega arith)) (ap x (omega arith))

-- ---- the theorem

-- of any samples, so many beyond the delay: sample n written is output n + 1,143
module _ (gains ys : List ℤ) (k : ℕ) (cs : List Call) (all : AllAccepted (prepared bands 1) cs) (same : SameGains gains cs) (fed : joined cs ≡ ys) (long : length ys ≡ late + k) where
  so_far_is : (n : ℕ) → n < k → get_or (drop late (played (prepared bands 1) cs).output) n (pos 0) ≡ output published bands (λ _. gain_of gains) (signal_of ys) (n + late)
  so_far_is n h =
      let inside : late + n < length (joined cs) = omega (arith, ap length fed, long) in
      get_or-drop late (played (prepared bands 1) cs).output n (pos 0) ∙ output_at bands (omega arith) (omega arith) cs all (late + n) inside ∙
      output_ext published bands (carried cs) (λ _. gain_of gains) (signal_of (joined cs)) (late + n) (λ m. carried_same gains cs same (late + n) m inside) ∙
      ap (λ (l : List ℤ). output published bands (λ _. gain_of gains) (signal_of l) (late + n)) fed ∙
      ap (output published bands (λ _. gain_of gains) (signal_of ys)) (add_comm late n)

  -- .. and as many are written
  pub so_far_are : drop late (played (prepared bands 1) cs).output ≡ from late k (output published bands (λ _. gain_of gains) (signal_of ys))
  so_far_are =
      let o = (played (prepared bands 1) cs).output in
      let f = output published bands (λ _. gain_of gains) (signal_of ys) in
      let all-long : length o ≡ length (joined cs) =
      ap length (whole_history bands (omega arith) (omega arith) cs all) ∙ from_long 0 (length (joined cs)) (output published bands (carried cs) (signal_of (joined cs))) in
      let left : length (drop late o) ≡ k = length-drop late o ∙ omega (arith, all-long, ap length fed, long) in
      ext_get_or (pos 0) (drop late o) (from late k f) (left ∙ sym (from_long late k f))
      (λ n h. let i : n < k = omega arith in so_far_is n i ∙ ap f (add_comm n late) ∙ sym (from_at late k f n i))

module _ (gains xs : List ℤ) (cs : List Call) (all : AllAccepted (prepared bands 1) cs) (same : SameGains gains cs) (fed : joined cs ≡ followed xs) where
  -- of a whole file: for the samples read
  written_is : (n : ℕ) → n < length xs → get_or (drop late (played (prepared bands 1) cs).output) n (pos 0) ≡ output published bands (λ _. gain_of gains) (signal_of xs) (n + late)
  written_is n h =
      let long : length (followed xs) ≡ late + length xs = length-append xs (replicate late (pos 0)) ∙ omega (arith, length-replicate {A = ℤ} late (pos 0)) in
      so_far_is gains (followed xs) (length xs) cs all same fed long n h ∙
      ap (λ (x : Signal). output published bands (λ _. gain_of gains) x (n + late)) (fun_ext (zeros_after xs late))

  -- gains of 4,096 give every sample back
  pub unity_gives_back : ((m : ℕ) → 1 ≤ m → m ≤ bands → gain_of gains m ≡ pos unity) → (n : ℕ) → n < length xs →
      least_sample ≤ℤ signal_of xs n → signal_of xs n ≤ℤ most_sample → get_or (drop late (played (prepared bands 1) cs).output) n (pos 0) ≡ get_or xs n (pos 0)
  unity_gives_back each n h lo hi = written_is n h ∙ unity_output gains (signal_of xs) each n lo hi

-- ---- arguments all 0

-- eight noughts are accepted as eight gains of 4,096
pub noughts_are_unity : arguments_of (replicate bands (48 ∷ [])) ≡ accepted (replicate bands (pos unity))
unfolding arguments_of each_gain argument_of place_of entry gains
noughts_are_unity = refl

pub all_unity : (m : ℕ) → 1 ≤ m → m ≤ bands → gain_of (replicate bands (pos unity)) m ≡ pos unity
all_unity m l h = get_or-replicate bands (m - 1) (pos unity) (pos 0) (omega arith)

-- .. and give every sample in range back
pub noughts_give_back : (xs : List ℤ) (cs : List Call) → AllAccepted (prepared bands 1) cs → SameGains (replicate bands (pos unity)) cs → joined cs ≡ followed xs → (n : ℕ) → n < length xs →
    least_sample ≤ℤ signal_of xs n → signal_of xs n ≤ℤ most_sample → get_or (drop late (played (prepared bands 1) cs).output) n (pos 0) ≡ get_or xs n (pos 0)
noughts_give_back xs cs all same fed = unity_gives_back (replicate bands (pos unity)) xs cs all same fed all_unity
