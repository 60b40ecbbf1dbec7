-- Every row of the table, by one computation. Assumes nothing.
use mathlib.Core.Path.{◌≡◌, refl}
use mathlib.Core.List.{map}
use lib.Ieee.{of_bits}
use Rattle.whole.specs.Sum.{sum}
use Rattle.tree.specs.Tree.{weighted, low_pass, level, band, hold_back, gain_sum, output}
use Rattle.gain.specs.Table.{gains, entry}
use Rattle.gain.specs.Decibels.{halves_gain, decibels_gain}
use Rattle.bench_readings.specs.Reading.{Row, read}
use Rattle.bench_readings.specs.Table.{table}

pub readings : map (λ (r : Row). read r.reading r.at) table ≡ map (λ (r : Row). r.value) table
unfolding read sum weighted low_pass level band hold_back gain_sum output gains entry halves_gain decibels_gain of_bits
readings = refl
