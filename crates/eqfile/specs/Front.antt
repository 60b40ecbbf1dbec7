-- The data that came with the front.
use Rattle.std.specs.Prelude.{List, ◌++◌, ℕ, ◌-◌, min, length, take, drop}

-- rule 10.11: how many data bytes the front holds from a place on that go into a block's bytes, and those bytes afterwards
unfoldable pub carry_of : List ℕ → ℕ → List ℕ → ℕ × List ℕ
carry_of front from bytes = let n = min (length front - from) (length bytes) in (n, take n (drop from front) ++ drop n bytes)
