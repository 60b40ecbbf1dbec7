-- The length decides.
use Rattle.std.proofs.Common.{◌≡◌, ap, ◌∙◌, sym, Ok, Err, arith, length, List, ℕ}
use borrow.Author.Tests.{ne_eqb}
use mir.Syntax.{w32}
use mir.Facts.{to_z-of_z}
use Rattle.samples.specs.Sample.{from_bytes}
use Rattle.samples.specs.declared.format.Format.TheVariants.{Bits16, Bits24}
use Rattle.samples.proofs.Codec.{from_whole}
use Rattle.samples.proofs.single.sample_from_bytes.Goals as goal

pub returns-in-2 : goal.returns-in-2
returns-in-2 c =
    let s = c.sample_in in
    ap Ok (to_z-of_z {w = w32} (record { sfits = s.type_inv }) ∙ s.ensures) ∙ sym (from_whole Bits16 c.args.bytes.now (omega arith) c.in-2.is)

pub returns-in-3 : goal.returns-in-3
returns-in-3 c =
    let s = c.sample_in-in-3 in
    ap Ok (to_z-of_z {w = w32} (record { sfits = s.type_inv }) ∙ s.ensures) ∙ sym (from_whole Bits24 c.args.bytes.now (omega arith) c.in-3.is)

-- neither two nor three
other : (s : List ℕ) → (length s ≡ 2 → ⊥) → (length s ≡ 3 → ⊥) → Err (record {}) ≡ from_bytes s
unfolding from_bytes
other s two three = rw (ne_eqb (length s) 2 two, ne_eqb (length s) 3 three)

pub returns-in_default : goal.returns-in_default
returns-in_default c = other c.args.bytes.now (λ e. omega arith) (λ e. omega arith)
