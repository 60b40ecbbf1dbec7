-- Samples to bytes by the block: the laws of `bytes_of`, and what a turn of the loop keeps. Assumes nothing.
use mathlib.Core.Path.{◌≡◌, refl, sym, ap, ◌∙◌}
use mathlib.Core.List.{List, [], ◌∷◌, ◌++◌, append-nil, append_assoc}
use Prim.Native.Nat.{ℕ, ◌+◌, ◌-◌, ◌*◌, ◌<◌, ◌≤◌}
use native.Mathlib.Numerals.{add-one}
use native.Mathlib.Omega.{arith}
use lib.ListN.{length, get_or, take, drop, length-append, length-drop, drop_of_length-le}
use lib.Seq.{take_all, take-suc, drop-drop, sets, sets-eq, take_at, drop-append-add, length-take-le}
use lib.IntN.{ℤ, pos}
use Rattle.fields.specs.Bytes.{lowest, row}
use Rattle.fields.proofs.Rows.{length-row}
use Rattle.samples.specs.Sample.{code_of}
use Rattle.samples.specs.Samples.{bytes_of}

pub length_bytes : (s : List ℤ) → length (bytes_of s) ≡ 3 * length s
unfolding bytes_of
length_bytes [] = refl
length_bytes (z ∷ s) =
    let a = length-row lowest 3 (code_of z) in
    let b = length_bytes s in
    length-append (row lowest 3 (code_of z)) (bytes_of s) ∙ omega arith

pub bytes_append : (s t : List ℤ) → bytes_of (s ++ t) ≡ bytes_of s ++ bytes_of t
unfolding bytes_of
bytes_append [] t = refl
bytes_append (z ∷ s) t = ap (λ (r : List ℕ). row lowest 3 (code_of z) ++ r) (bytes_append s t) ∙ sym (append_assoc (row lowest 3 (code_of z)) (bytes_of s) (bytes_of t))

bytes_more : (s : List ℤ) (i : ℕ) → i < length s → bytes_of (take (i + 1) s) ≡ bytes_of (take i s) ++ row lowest 3 (code_of (get_or s i (pos 0)))
unfolding bytes_of
bytes_more s i h =
    ap (λ (k : ℕ). bytes_of (take k s)) (add-one i) ∙ ap bytes_of (take-suc s i (pos 0) h)
    ∙ bytes_append (take i s) (get_or s i (pos 0) ∷ [])
    ∙ ap (λ (r : List ℕ). bytes_of (take i s) ++ r) (append-nil (row lowest 3 (code_of (get_or s i (pos 0)))))

-- a row of three stored at the seam of two lists
at_seam : (p q vs : List ℕ) (at : ℕ) → length p ≡ at → length vs ≡ 3 → 3 ≤ length q → sets (p ++ q) at vs ≡ (p ++ vs) ++ drop 3 q
at_seam p q vs at e three l =
    let whole : length (p ++ q) ≡ length p + length q = length-append p q in
    sets-eq vs (p ++ q) at (omega arith)
    ∙ ap (λ (r : List ℕ). (r ++ vs) ++ drop (at + length vs) (p ++ q)) (take_at p q at e)
    ∙ ap (λ (k : ℕ). (p ++ vs) ++ drop k (p ++ q)) (ap (λ (n : ℕ). at + n) three ∙ ap (λ (n : ℕ). n + 3) (sym e))
    ∙ ap (λ (r : List ℕ). (p ++ vs) ++ r) (drop-append-add p q 3)

-- the bytes of i samples are stored, and the rest of the buffer is as it was
abbrev pub stored : List ℤ → List ℕ → ℕ → List ℕ
stored s old i = bytes_of (take i s) ++ drop (3 * i) old

module _ (s : List ℤ) (old : List ℕ) where
  pub stored_none : old ≡ stored s old 0
  unfolding bytes_of
  stored_none = refl

  pub stored_more : (new next : List ℕ) (i : ℕ) → length old ≡ 3 * length s → new ≡ stored s old i → i < length s →
      next ≡ sets new (3 * i) (row lowest 3 (code_of (get_or s i (pos 0)))) → next ≡ stored s old (i + 1)
  stored_more new next i fits t h e =
      let vs = row lowest 3 (code_of (get_or s i (pos 0))) in
      let three : length vs ≡ 3 = length-row lowest 3 (code_of (get_or s i (pos 0))) in
      let lp : length (bytes_of (take i s)) ≡ 3 * i = length_bytes (take i s) ∙ ap (λ (k : ℕ). 3 * k) (length-take-le i s (omega arith)) in
      let lq : length (drop (3 * i) old) ≡ length old - 3 * i = length-drop (3 * i) old in
      let more : 3 * i + 3 ≡ 3 * (i + 1) = omega arith in
      e ∙ ap (λ (r : List ℕ). sets r (3 * i) vs) t ∙ at_seam (bytes_of (take i s)) (drop (3 * i) old) vs (3 * i) lp three (omega arith)
      ∙ ap (λ (r : List ℕ). r ++ drop 3 (drop (3 * i) old)) (sym (bytes_more s i h))
      ∙ ap (λ (r : List ℕ). bytes_of (take (i + 1) s) ++ r) (drop-drop 3 (3 * i) old ∙ ap (λ (k : ℕ). drop k old) more)

  pub stored_all : (new : List ℕ) (i : ℕ) → length old ≡ 3 * length s → new ≡ stored s old i → length s ≤ i → new ≡ bytes_of s
  stored_all new i fits t h =
      t ∙ ap (λ (r : List ℤ). bytes_of r ++ drop (3 * i) old) (take_all i s h)
      ∙ ap (λ (r : List ℕ). bytes_of s ++ r) (drop_of_length-le old {i = 3 * i} (omega arith)) ∙ append-nil (bytes_of s)
