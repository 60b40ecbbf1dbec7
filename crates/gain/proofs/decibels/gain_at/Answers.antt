-- The constant table is the promise's, entry by entry.
use Rattle.std.proofs.Common.{arith, ℕ, pos, ◌-ℤ◌, ℤ, sym, ap, ◌∙◌, to_z, of_z, to_z-of_z, w32, get_or}
use Rattle.gain.specs.Table.{gains}
use Rattle.gain.proofs.Every.{place_range}
use Rattle.gain.proofs.Table.{entry_at, entry_small, get_d_positives, positives}
use Rattle.gain.proofs.decibels.gain_at.Goals as goal

pub returns : goal.returns
unfolding gains
returns c =
    ap (λ (i : ℕ). to_z w32 (of_z w32 (get_or (positives gains) i (pos 0)))) c.from.ensures ∙
    ap (λ (z : ℤ). to_z w32 (of_z w32 z)) (get_d_positives gains c.args.i ∙ ap pos (sym (entry_at c.args.i c.requires))) ∙
    to_z-of_z {w = w32} (record { sfits = omega (arith, entry_small (pos c.args.i -ℤ pos 24) (place_range c.args.i c.requires)) })
