-- Rows that agree up to a place: what is read before it is the same of both. Assumes nothing.
use mathlib.Core.Path.{◌≡◌, sym, ap, ◌∙◌}
use mathlib.Core.List.{List}
use Prim.Native.Nat.{ℕ, ◌+◌, ◌≤◌}
use native.Mathlib.Omega.{arith}
use lib.ListN.{length, take, drop, length-take, length-drop}
use lib.Seq.{take-take}
use Rattle.std.proofs.lemmas.List.{drop-take}
use Rattle.fields.specs.Bytes.{Order, number_in, field, same}
use Rattle.chunks.specs.Walk.{named}

-- the first m bytes are the same, and both have so many
pub record Alike (m : ℕ) (r q : List ℕ) : Type 0 where
  pub bytes : take m r ≡ take m q
  pub long : m ≤ length r
  pub long' : m ≤ length q

-- that the other is as long follows
pub alike : (m : ℕ) (r q : List ℕ) → m ≤ length r → take m r ≡ take m q → Alike m r q
alike m r q l e = record { bytes = e; long = l; long' = omega (arith, length-take m r, length-take m q, ap length e) }

module _ (m : ℕ) (r q : List ℕ) (a : Alike m r q) where
  part : (place k : ℕ) → place + k ≤ m → take k (drop place r) ≡ take k (drop place q)
  part place k l =
      sym (drop-take place k r) ∙ ap (drop place) (sym (take-take (place + k) m r l) ∙ ap (take (place + k)) a.bytes ∙ take-take (place + k) m q l)
      ∙ drop-take place k q

  pub alike_drop : (place k : ℕ) → place + k ≤ m → Alike k (drop place r) (drop place q)
  alike_drop place k l =
      record {
        bytes = part place k l;
        long = omega (arith, a.long, length-drop place r);
        long' = omega (arith, a.long', length-drop place q);
      }

  pub field_alike : (order : Order) (place k : ℕ) → place + k ≤ m → field order r place k ≡ field order q place k
  unfolding field
  field_alike order place k l = ap (number_in order) (part place k l)

  pub name_alike : (name : List ℕ) → 4 ≤ m → named r name ≡ named q name
  name_alike name l = ap (λ (s : List ℕ). same s name) (part 0 4 l)
