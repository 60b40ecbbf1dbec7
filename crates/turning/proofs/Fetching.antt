-- Where the bytes of a turn come from: the front, and then standard input. Assumes nothing.
use mathlib.Core.Path.{◌≡◌, sym, ap, ap₂, ◌∙◌}
use mathlib.Core.List.{List, ◌++◌}
use Prim.Native.Nat.{ℕ, ◌+◌, ◌-◌, ◌≤◌, min}
use native.Mathlib.Omega.{arith}
use borrow.Rule.Slice.PartMut.{put_mid}
use lib.ListN.{length, take, drop, length-append, length-take, length-drop}
use lib.Seq.{take_at, take-append-add, take-append-le, length-take-le}
use Rattle.std.proofs.lemmas.List.{take_min}
use Rattle.eqfile.specs.Front.{carry_of}
use Rattle.runs.specs.Program.{Fetched}

take-least : (n m : ℕ) (l : List ℕ) → n ≡ min (length l) m → take n l ≡ take m l
take-least n m l e = let k : n ≡ min m (length l) = omega arith in ap (λ (j : ℕ). take j l) k ∙ take_min m l

-- what was carried from the front, and what then came in behind it
module _ (front bytes : List ℕ) (from had : ℕ) (held : List ℕ) (e : (had, held) ≡ carry_of front from bytes) where
  had_is : had ≡ min (length (drop from front)) (length bytes)
  unfolding carry_of
  had_is = ap (λ (x : ℕ × List ℕ). x.0) e ∙ ap (λ (k : ℕ). min k (length bytes)) (sym (length-drop from front))

  held_is : held ≡ take had (drop from front) ++ drop had bytes
  unfolding carry_of
  held_is = ap (λ (x : ℕ × List ℕ). x.1) e ∙ ap (λ (k : ℕ). take k (drop from front) ++ drop k bytes) (sym (ap (λ (x : ℕ × List ℕ). x.0) e))

  carried_long : length (take had (drop from front)) ≡ had
  carried_long = length-take-le had (drop from front) (omega (arith, had_is))

  held_long : length held ≡ length bytes
  held_long = ap length held_is ∙ length-append (take had (drop from front)) (drop had bytes) ∙ omega (arith, carried_long, length-drop had bytes, had_is)

  pub carried-within : had ≤ length held
  carried-within = omega (arith, held_long, had_is)

  pub came_in : (got : ℕ) (new : List ℕ) → got ≤ length new → length new ≡ length (take (length held - had) (drop had held)) →
      Fetched front from (length bytes) (take (had + got) (put_mid had (length held - had) held new))
  came_in got new g l =
      let rest = drop (length held - had) (drop had held) in
      let whole = put_mid had (length held - had) held new in
      let first : take had held ≡ take had (drop from front) = ap (take had) held_is ∙ take_at (take had (drop from front)) (drop had bytes) had carried_long in
      let long : length (take had held) ≡ had = ap length first ∙ carried_long in
      let most : had + got ≤ length bytes = omega (arith, held_long, carried-within, length-take (length held - had) (drop had held), length-drop had held) in
      let is : take (had + got) whole ≡ take (length bytes) (drop from front) ++ take got new =
      ap (λ (k : ℕ). take (k + got) whole) (sym long) ∙ take-append-add (take had held) (new ++ rest) got ∙
      ap₂ ◌++◌ (first ∙ take-least had (length bytes) (drop from front) had_is) (take-append-le got new rest g) in
      record { more = take got new; is = is; most = omega (arith, length-take (had + got) whole) }
