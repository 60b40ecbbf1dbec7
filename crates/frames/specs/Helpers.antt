-- Bookkeeping: what the functions that put a side back answer (rule 13.10). No promise of a public call speaks of it.
use Rattle.std.specs.Prelude.{◌≡◌, List, ℕ, ◌<◌, length, ℤ}
use Rattle.frames.specs.Frames.{side}

-- side s of the frames is the row now, and each other side what it was before
pub record Scattered (channels s : ℕ) (row before after : List ℤ) : Type 0 where
  pub here : side channels s (length row) after ≡ row
  pub others : (t : ℕ) → t < channels → (t ≡ s → ⊥) → side channels t (length row) after ≡ side channels t (length row) before
