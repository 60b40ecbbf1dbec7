-- The gains that each feed is weighed with: those of the horn's bands, kept in their places, and the first of all for the bass. Assumes nothing.
use mathlib.Core.Path.{◌≡◌, refl, sym, ap, ◌∙◌}
use mathlib.Core.Bool.{cond}
use mathlib.Core.List.{List, ◌++◌}
use Prim.Native.Nat.{ℕ, zero, suc, ◌+◌, ◌-◌, ◌≤◌, ◌<◌}
use native.Mathlib.Decide.{dec_lt}
use native.Mathlib.Omega.{arith}
use borrow.Author.Tests.{le-leb, lt-leb, lt-ltb, le-ltb}
use lib.Dec.{ltb}
use borrow.Rule.Slice.PartMut.{put_mid}
use lib.ListN.{length, get_or, take, drop, replicate, length-drop, get_or-append, get_or-eq_default}
use lib.Seq.{ext_get_or, get_or-take, length-take-le, take_all}
use Rattle.std.proofs.lemmas.List.{get_or-append_right, get_or-drop}
use lib.IntN.{ℤ, pos}
use Rattle.tree.specs.Signal.{gain_of}
use Rattle.crossover.specs.Feeds.{bass, horn, goes, feed_gains}
use Rattle.crossover.specs.Helpers.{FromOn}
use Rattle.crossover.proofs.Feeds.{gains-length, gain_at, feed_gain_lem}

-- ---- the horn's

abbrev noughts : List ℤ
noughts = replicate 10 (pos 0)

nought : (n j : ℕ) → get_or (replicate n (pos 0)) j (pos 0) ≡ pos 0
nought zero j = refl
nought (suc n) zero = refl
nought (suc n) (suc j) = nought n j

-- written behind place `from` of ten noughts, they stand each in its place
pub put_behind : (from : ℕ) (gains ys : List ℤ) → from ≤ length gains → length gains ≤ 10 → ys ≡ take (length gains - from) (drop from gains) →
    length (put_mid from (length gains - from) noughts ys) ≡ 10 → FromOn from gains (put_mid from (length gains - from) noughts ys)
put_behind from gains ys h few e ten = record { ten = ten; kept = λ i l. kept i l (dec_lt i (length gains)); below = below }
  where
    n : ℕ
    n = length gains - from

    rest : List ℤ
    rest = drop n (drop from noughts)

    front : length (take from noughts) ≡ from
    front = length-take-le from noughts (omega arith)

    ys-is : ys ≡ drop from gains
    ys-is = e ∙ take_all n (drop from gains) (simp length-drop (omega arith))

    behind : (i : ℕ) → from ≤ i → get_or (put_mid from n noughts ys) i (pos 0) ≡ get_or (ys ++ rest) (i - from) (pos 0)
    behind i l = get_or-append_right (take from noughts) (ys ++ rest) from i (pos 0) front l

    long : length ys ≡ n
    long = ap length ys-is ∙ length-drop from gains

    kept : (i : ℕ) → from ≤ i → Dec (i < length gains) → get_or (put_mid from n noughts ys) i (pos 0) ≡ get_or gains i (pos 0)
    kept i l (yes q) =
        behind i l ∙ get_or-append ys rest (pos 0) (i - from) (omega (arith, long)) ∙ ap (λ (t : List ℤ). get_or t (i - from) (pos 0)) ys-is ∙
        get_or-drop from gains (i - from) (pos 0) ∙ ap (λ (k : ℕ). get_or gains k (pos 0)) (omega arith)
    kept i l (no q) =
        behind i l ∙ get_or-append_right ys rest n (i - from) (pos 0) long (omega arith) ∙
        get_or-drop n (drop from noughts) (i - from - n) (pos 0) ∙ get_or-drop from noughts (n + (i - from - n)) (pos 0) ∙ nought 10 (from + (n + (i - from - n))) ∙ sym (get_or-eq_default gains (pos 0) {n = i} (omega arith))

    below : (i : ℕ) → i < from → get_or (put_mid from n noughts ys) i (pos 0) ≡ pos 0
    below i l = get_or-append (take from noughts) (ys ++ rest) (pos 0) i (omega (arith, front)) ∙ get_or-take from noughts i (pos 0) l ∙ nought 10 i

-- as many as there are bands of them are the horn feed's
pub high_are : (gains r : List ℤ) → length gains ≤ 10 → (s : ℕ) → FromOn s gains r → take (length gains) r ≡ feed_gains horn s gains
high_are gains r few s k =
    let bands = length gains in
    let long : length (take bands r) ≡ bands = length-take-le bands r (omega (arith, k.ten)) in
    ext_get_or (pos 0) (take bands r) (feed_gains horn s gains) (long ∙ sym (gains-length 1 (goes horn s) gains))
    (λ i l. get_or-take bands r i (pos 0) (omega (arith, long)) ∙ by i (dec_lt i s) ∙ sym (gain_at 1 (goes horn s) gains i))
  where
    by : (i : ℕ) → Dec (i < s) → get_or r i (pos 0) ≡ cond (ltb s (1 + i)) (get_or gains i (pos 0)) (pos 0)
    by i (yes l) = rw (le-ltb s (1 + i) (omega arith)) (k.below i l)
    by i (no n) = rw (lt-ltb s (1 + i) (omega arith)) (k.kept i (omega arith))

-- ---- the bass's

-- the first s gains weigh as the bass feed's: there is no gain behind them
pub low_are : (gains : List ℤ) (s : ℕ) → s ≤ length gains → (m : ℕ) → 1 ≤ m → gain_of (take s gains) m ≡ gain_of (feed_gains bass s gains) m
low_are gains s h m some = by (dec_lt (m - 1) s) ∙ sym (feed_gain_lem bass s gains m some)
  where
    by : Dec (m - 1 < s) → gain_of (take s gains) m ≡ cond (goes bass s m) (gain_of gains m) (pos 0)
    by (yes l) = rw (le-leb m s (omega arith)) (get_or-take s gains (m - 1) (pos 0) l)
    by (no n) = rw (lt-leb m s (omega arith)) (get_or-eq_default (take s gains) (pos 0) {n = m - 1} (omega (arith, length-take-le s gains h)))
