-- The cases marked P, in the order of rule 14.2.
use Rattle.std.specs.Prelude.{List, [], ◌∷◌, ℤ, pos, negsuc}
use Rattle.bench_readings.specs.Reading.{Row, row, output_of, line_of, band_of, decibels_of}

-- rule 14.2: 100,000 then zeros
abbrev hundred_thousand : List ℤ
hundred_thousand = pos 100000 ∷ []

-- rule 14.2: the cases marked P
abbrev pub table : List Row
table =
    -- two bands, sample 100,000, the low band alone
    row (output_of 2 (pos 4096 ∷ pos 0 ∷ []) hundred_thousand) 0 (pos 313) ∷
    row (output_of 2 (pos 4096 ∷ pos 0 ∷ []) hundred_thousand) 2 (negsuc 1337) ∷
    row (output_of 2 (pos 4096 ∷ pos 0 ∷ []) hundred_thousand) 9 (pos 50000) ∷
    -- the high band alone
    row (output_of 2 (pos 0 ∷ pos 4096 ∷ []) hundred_thousand) 0 (negsuc 312) ∷
    row (output_of 2 (pos 0 ∷ pos 4096 ∷ []) hundred_thousand) 2 (pos 1338) ∷
    row (output_of 2 (pos 0 ∷ pos 4096 ∷ []) hundred_thousand) 9 (pos 50000) ∷
    -- both at unity (at every other n: `Unity`)
    row (output_of 2 (pos 4096 ∷ pos 4096 ∷ []) hundred_thousand) 8 (pos 0) ∷
    row (output_of 2 (pos 4096 ∷ pos 4096 ∷ []) hundred_thousand) 9 (pos 100000) ∷
    row (output_of 2 (pos 4096 ∷ pos 4096 ∷ []) hundred_thousand) 10 (pos 0) ∷
    -- two bands, sample 16: the low line
    row (line_of 2 1 (pos 16 ∷ [])) 8 (pos 5) ∷
    row (line_of 2 1 (pos 16 ∷ [])) 6 (negsuc 0) ∷
    row (line_of 2 1 (pos 16 ∷ [])) 4 (pos 1) ∷
    row (line_of 2 1 (pos 16 ∷ [])) 2 (pos 0) ∷
    -- sample 1: the low line and band 2 at 9
    row (line_of 2 1 (pos 1 ∷ [])) 9 (pos 1) ∷
    row (band_of 2 2 (pos 1 ∷ [])) 9 (pos 0) ∷
    -- three bands, sample 100,000: line 1
    row (line_of 3 1 hundred_thousand) 0 (pos 1) ∷
    row (line_of 3 1 hundred_thousand) 2 (negsuc 3) ∷
    row (line_of 3 1 hundred_thousand) 4 (pos 7) ∷
    -- two bands, both gains 2,048: ties, nine samples late
    row (output_of 2 (pos 2048 ∷ pos 2048 ∷ []) (pos 1 ∷ negsuc 0 ∷ pos 3 ∷ [])) 9 (pos 1) ∷
    row (output_of 2 (pos 2048 ∷ pos 2048 ∷ []) (pos 1 ∷ negsuc 0 ∷ pos 3 ∷ [])) 10 (negsuc 0) ∷
    row (output_of 2 (pos 2048 ∷ pos 2048 ∷ []) (pos 1 ∷ negsuc 0 ∷ pos 3 ∷ [])) 11 (pos 2) ∷
    -- both 8,192: the limit at both ends
    row (output_of 2 (pos 8192 ∷ pos 8192 ∷ []) (pos 8000000 ∷ negsuc 7999999 ∷ [])) 9 (pos 8388607) ∷
    row (output_of 2 (pos 8192 ∷ pos 8192 ∷ []) (pos 8000000 ∷ negsuc 7999999 ∷ [])) 10 (negsuc 8388607) ∷
    -- decibels, each f32 by its bits
    row (decibels_of 0x0000_0000) 0 (pos 4096) ∷
    row (decibels_of 0x3f00_0000) 0 (pos 4339) ∷
    row (decibels_of 0xbf00_0000) 0 (pos 3867) ∷
    row (decibels_of 0x40c0_0000) 0 (pos 8173) ∷
    row (decibels_of 0xc0c0_0000) 0 (pos 2053) ∷
    row (decibels_of 0x4140_0000) 0 (pos 16306) ∷
    row (decibels_of 0xc140_0000) 0 (pos 1029) ∷
    []
