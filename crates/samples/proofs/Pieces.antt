-- The pieces of a row of bytes, as std's `chunks_exact` hands them out, and what each is. Assumes nothing.
use mathlib.Core.Path.{◌≡◌, refl, sym, ap, ap₂, subst, ◌∙◌}
use mathlib.Core.Bool.{Bool, true}
use mathlib.Core.List.{List, ◌∷◌, ◌++◌}
use Prim.Native.Nat.{ℕ, zero, suc, ◌+◌, ◌*◌, ◌/◌, ◌<◌}
use native.Mathlib.Nat.{le_of_suc-le-suc, not-suc-le-zero, mul-zero, add-div_left, div-eq_of_lt, mul-div_cancel_left, zero-add}
use native.Mathlib.Numerals.{add-one}
use native.Mathlib.Omega.{arith}
use lib.ListN.{length, get_or, take, drop, length-append}
use lib.Seq.{drop-drop, take-append_seam, drop-append_seam}
use Rattle.std.specs.Slice.Iter.{chunks_exact_rest, chunks_exact_size, chunks_exact_steps}
use Rattle.std.proofs.lemmas.Iterator.{YieldsList}
use Rattle.std.specs.Iterator.Adapters.{enumerate_source, enumerate_count, enumerate_steps}
use Rattle.std.specs.List.{enumerate_from}
use Rattle.std.proofs.lemmas.List.FromFn.{get_or-enumerate_from, length-enumerate_from}
use Rattle.std.proofs.lemmas.Iterator.Consumers.{YieldsList-from_enumerate}
use Rattle.std.proofs.lemmas.Iterator.Splits.{YieldsList-from_shown_while}
use Rattle.answers.specs.First.{first_failing}
use Rattle.samples.specs.Samples.{pieces_of}

pub length_pieces : (n size : ℕ) (s : List ℕ) → length (pieces_of n size s) ≡ n
unfolding pieces_of
length_pieces zero size s = refl
length_pieces (suc n) size s = ap suc (length_pieces n size (drop size s))

-- piece i is the bytes at its place
pub piece_at : (n size : ℕ) (s : List ℕ) (i : ℕ) (d : List ℕ) → i < n → get_or (pieces_of n size s) i d ≡ take size (drop (size * i) s)
unfolding pieces_of
piece_at zero size s i d h = absurd (not-suc-le-zero h)
piece_at (suc n) size s zero d h = ap (λ (k : ℕ). take size (drop k s)) (sym (mul-zero size))
piece_at (suc n) size s (suc i) d h =
    piece_at n size (drop size s) i d (le_of_suc-le-suc h) ∙ ap (take size) (drop-drop (size * i) size s ∙ ap (λ (k : ℕ). drop k s) (next_place size i))
  where
    next_place : (k j : ℕ) → k + k * j ≡ k * suc j
    next_place k j = omega arith

-- where every piece passes, there is no first that fails
pub all_passed : (test : List ℕ → Bool) → ((s : List ℕ) → test s ≡ true) → (n size : ℕ) (s : List ℕ) → n ≡ first_failing test (pieces_of n size s)
unfolding pieces_of first_failing
all_passed test passes zero size s = refl
all_passed test passes (suc n) size s = rw (passes (take size s)) (ap suc (all_passed test passes n size (drop size s)))

-- ---- `chunks_exact`

-- too few bytes are no piece
few_left : (k : ℕ) (s : List ℕ) → length s < k → length (pieces_of (length s / k) k s) ≡ 0
few_left k s h = length_pieces (length s / k) k s ∙ div-eq_of_lt h

-- a piece in front of more
one_more : (k : ℕ) (x s : List ℕ) → 0 < k → length x ≡ k → pieces_of (length (x ++ s) / k) k (x ++ s) ≡ x ∷ pieces_of (length s / k) k s
unfolding pieces_of
one_more k x s p e =
    let n : length (x ++ s) / k ≡ suc (length s / k) =
    ap (λ (j : ℕ). j / k) (length-append x s ∙ ap (λ (j : ℕ). j + length s) e) ∙ add-div_left (length s) p ∙ add-one (length s / k) in
    rw n (ap₂ ◌∷◌ (take_at x s k e) (ap (pieces_of (length s / k) k) (drop_at x s k e)))
  where
    take_at : (x s : List ℕ) (k : ℕ) → length x ≡ k → take k (x ++ s) ≡ x
    take_at x s k e = ap (λ (j : ℕ). take j (x ++ s)) (sym e) ∙ take-append_seam x s

    drop_at : (x s : List ℕ) (k : ℕ) → length x ≡ k → drop k (x ++ s) ≡ s
    drop_at x s k e = ap (λ (j : ℕ). drop j (x ++ s)) (sym e) ∙ drop-append_seam x s

-- .. by what a step of `chunks_exact` leaves
one_step : (k j : ℕ) (w x r : List ℕ) → 0 < k → w ≡ x ++ r → length x ≡ k → j ≡ k → pieces_of (length w / k) k w ≡ x ∷ pieces_of (length r / j) j r
one_step k j w x r p e l d =
    ap (λ (v : List ℕ). pieces_of (length v / k) k v) e ∙ one_more k x r p l ∙ ap (λ (i : ℕ). x ∷ pieces_of (length r / i) i r) (sym d)

-- the pieces of k bytes, in turn
pub pieces : {s : _} (k : ℕ) (xs : List ℕ) → 0 < k → chunks_exact_size s ≡ k → chunks_exact_rest s ≡ xs →
    YieldsList (chunks_exact_steps {A = ℕ}) (λ x. x.now) s (pieces_of (length xs / k) k xs)
pieces {s} k xs p e d =
    subst (λ (ys : List (List ℕ)). YieldsList (chunks_exact_steps {A = ℕ}) (λ x. x.now) s ys)
    (ap (λ (j : ℕ). pieces_of (length (chunks_exact_rest s) / j) j (chunks_exact_rest s)) e ∙ ap (λ (ys : List ℕ). pieces_of (length ys / k) k ys) d)
    (YieldsList-from_shown_while (chunks_exact_steps {A = ℕ}) (λ x. x.now)
    (λ t. pieces_of (length (chunks_exact_rest t) / chunks_exact_size t) (chunks_exact_size t) (chunks_exact_rest t))
    (λ t. 0 < chunks_exact_size t)
    (λ t u q e. few_left (chunks_exact_size t) (chunks_exact_rest t) e.1.0)
    (λ t x u q e. (
      subst (λ (j : ℕ). 0 < j) (sym e.0) q,
      one_step (chunks_exact_size t) (chunks_exact_size u) (chunks_exact_rest t) x.now (chunks_exact_rest u) q e.1.0 e.1.1 e.0,
    ))
    s (subst (λ (j : ℕ). 0 < j) (sym e) p))

-- .. and each with its place
pub numbered : {s : _} (k n : ℕ) (xs : List ℕ) → 0 < k → chunks_exact_size (enumerate_source s) ≡ k → chunks_exact_rest (enumerate_source s) ≡ xs → length xs ≡ k * n →
    enumerate_count s ≡ 0 → YieldsList {B = ℕ × List ℕ} (enumerate_steps (chunks_exact_steps {A = ℕ})) (λ p. (p.0, p.1.now)) s (enumerate_from 0 (pieces_of n k xs))
numbered {s} k n xs p e d l z =
    subst (λ (j : ℕ). YieldsList {B = ℕ × List ℕ} (enumerate_steps (chunks_exact_steps {A = ℕ})) (λ p. (p.0, p.1.now)) s (enumerate_from 0 (pieces_of j k xs)))
    (ap (λ (j : ℕ). j / k) l ∙ mul-div_cancel_left n p)
    (YieldsList-from_enumerate (pieces k xs p e d) z)

-- the piece that a turn hands out
pub turned : (n size : ℕ) (s : List ℕ) (j i : ℕ) (p : List ℕ) → (j < length (enumerate_from 0 (pieces_of n size s))) × ((i, p) ≡ get_or (enumerate_from 0 (pieces_of n size s)) j (i, p)) →
    (j < n) × ((i ≡ j) × (p ≡ take size (drop (size * j) s)))
turned n size s j i p h =
    let long = length-enumerate_from 0 (pieces_of n size s) ∙ length_pieces n size s in
    let l : j < n = subst (λ (k : ℕ). j < k) long h.0 in
    let m : j < length (pieces_of n size s) = subst (λ (k : ℕ). j < k) (sym (length_pieces n size s)) l in
    let e : (i, p) ≡ (0 + j, get_or (pieces_of n size s) j p) = h.1 ∙ get_or-enumerate_from 0 (pieces_of n size s) j (i, p) m in
    let i_is : i ≡ 0 + j = ap (λ (q : ℕ × List ℕ). q.0) e in
    (l, (i_is ∙ zero-add j, ap (λ (q : ℕ × List ℕ). q.1) e ∙ piece_at n size s j p l))
