-- The checks in turn, then the header.
use Rattle.std.proofs.Common.{◌≡◌, ◌∙◌, sym, rules, pos, false, to_z-of_z}
use Rattle.answers.specs.Range.{within}
use Rattle.answers.specs.Unit.{fewest_channels, most_channels}
use Rattle.samples.specs.Channels.{count_of}
use Rattle.answers.proofs.Branches.{judging}
use Rattle.fields.proofs.ByTest.{dividing}
use Rattle.wave_values.proofs.RightValues.{rate_small}
use Rattle.wave_writer.specs.Header.{write_of}
use Rattle.wave_writer.proofs.Counts.{count_allowed_lem}
use Rattle.wave_writer.proofs.writer.write.Goals as goal
use Rattle.wave_writer.proofs.writer.write.Goals.{then-size-frame_size-ne0-via-then-size-frame_size-ne0, then-size-frame_size-ne0-via-else-size-frame_size-ne0+then-size-gt-LARGEST_DATA}

pub returns-in_default : goal.returns-in_default
unfolding write_of
returns-in_default c = let no : within fewest_channels most_channels c.args.channels ≡ false = rw (to_z-of_z c.ranges.channels) at c.in_default.ensures in search judging depth 12

pub returns-then-size-frame_size-ne0 : goal.returns-then-size-frame_size-ne0
unfolding write_of
returns-then-size-frame_size-ne0 c =
    let is : c.args.channels ≡ pos (count_of c.in-Some.sides) = sym (to_z-of_z c.ranges.channels) ∙ c.in-Some.ensures in
    elim c.then-size-frame_size-ne0.branch [
      | then-size-frame_size-ne0-via-then-size-frame_size-ne0 w ↦ let part = w.if-size-frame_size-ne0.true in rw is (search (judging, dividing, count_allowed_lem) depth 12)
      | then-size-frame_size-ne0-via-else-size-frame_size-ne0+then-size-gt-LARGEST_DATA w ↦
          let whole = w.if-size-frame_size-ne0.false in
          let long = w.if-size-gt-LARGEST_DATA.true in
          rw is (search (judging, dividing, count_allowed_lem) depth 12)
    ]

pub put_header-requires : goal.put_header-requires
put_header-requires c = search (rules, judging, rate_small) depth 12

pub returns : goal.returns
unfolding write_of
returns c = let is : c.args.channels ≡ pos (count_of c.in-Some.sides) = sym (to_z-of_z c.ranges.channels) ∙ c.in-Some.ensures in rw is (search (judging, dividing, count_allowed_lem) depth 12)
