-- The one table of 49 gains, and its rule.
use Rattle.std.specs.Prelude.{ℕ, suc, ◌+◌, ◌-◌, ◌*◌, ◌^◌, ◌<◌, ◌≤◌, List, [], ◌∷◌, ℤ, pos, negsuc, ◌+ℤ◌, slice_index, unsigned_abs}

-- rule 7.3: one gain for each half decibel from -24 to 24: the entry for n stands at n + 24
unfoldable pub gains : List ℕ
gains =
    1029 ∷ 1090 ∷ 1154 ∷ 1223 ∷ 1295 ∷ 1372 ∷ 1453 ∷ 1539 ∷ 1631 ∷ 1727 ∷ 1830 ∷ 1938
    ∷ 2053 ∷ 2175 ∷ 2303 ∷ 2440 ∷ 2584 ∷ 2738 ∷ 2900 ∷ 3072 ∷ 3254 ∷ 3446 ∷ 3651 ∷ 3867
    ∷ 4096
    ∷ 4339 ∷ 4596 ∷ 4868 ∷ 5157 ∷ 5462 ∷ 5786 ∷ 6129 ∷ 6492 ∷ 6876 ∷ 7284 ∷ 7715 ∷ 8173
    ∷ 8657 ∷ 9170 ∷ 9713 ∷ 10289 ∷ 10898 ∷ 11544 ∷ 12228 ∷ 12953 ∷ 13720 ∷ 14533 ∷ 15394 ∷ 16306
    ∷ []

-- rule 7.3: the gain of n half decibels, n from -24 to 24
unfoldable pub entry : ℤ → ℕ
unfolding gains
entry n = slice_index gains (unsigned_abs (n +ℤ pos 24))

-- rule 7.4: g is the whole number nearest to 4,096·10^(n/40), in fortieth powers: for n >= 0, (2g-1)^40 <= 8,192^40·10^n < (2g+1)^40;
-- for n < 0, (2g-1)^40·10^(-n) <= 8,192^40 < (2g+1)^40·10^(-n)
unfoldable pub FortiethRule : ℤ → ℕ → Type 0
FortiethRule (pos n) g = ((2 * g - 1) ^ 40 ≤ 8192 ^ 40 * 10 ^ n) × (8192 ^ 40 * 10 ^ n < (2 * g + 1) ^ 40)
FortiethRule (negsuc k) g = ((2 * g - 1) ^ 40 * 10 ^ suc k ≤ 8192 ^ 40) × (8192 ^ 40 < (2 * g + 1) ^ 40 * 10 ^ suc k)
