-- The places of a list, added one by one. Assumes nothing.
use mathlib.Core.Path.{◌≡◌, sym, ap, ◌∙◌}
use mathlib.Core.List.{List}
use Prim.Native.Nat.{ℕ, ◌+◌, ◌≤◌, ◌<◌}
use native.Mathlib.Numerals.{add-one}
use lib.IntN.{ℤ, pos}
use lib.ListN.{length, drop, get_or, drop_of_length-le}
use lib.Seq.{drop-cons}
use Rattle.printing.specs.Total.{add, total_from}

module _ (s : List ℤ) (i sum : ℕ) (so_far : total_from sum i (drop i s) ≡ total_from 0 0 s) where
  next : i < length s → total_from (add sum i (get_or s i (pos 0))) (i + 1) (drop (i + 1) s) ≡ total_from sum i (drop i s)
  unfolding total_from
  next h =
      ap (λ (n : ℕ). total_from (add sum i (get_or s i (pos 0))) (i + 1) (drop n s)) (add-one i) ∙
      ap (total_from sum i) (sym (drop-cons s i (pos 0) h))

  pub goes_on : (r : ℕ) → i < length s → r ≡ add sum i (get_or s i (pos 0)) → total_from r (i + 1) (drop (i + 1) s) ≡ total_from 0 0 s
  goes_on r h e = ap (λ (k : ℕ). total_from k (i + 1) (drop (i + 1) s)) e ∙ next h ∙ so_far

  pub ends : length s ≤ i → sum ≡ total_from 0 0 s
  unfolding total_from
  ends h = rw (drop_of_length-le s h) at so_far
