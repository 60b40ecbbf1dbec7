-- What is written is read back: a header, whatever bytes follow. Assumes nothing.
use mathlib.Core.Path.{◌≡◌, refl, sym, ap, ◌∙◌}
use mathlib.Core.Bool.{true}
use mathlib.Core.List.{List, ◌++◌}
use Prim.Native.Nat.{ℕ, ◌+◌, ◌-◌, ◌*◌, ◌%◌, ◌<◌, ◌≤◌}
use native.Mathlib.Omega.{arith}
use lib.ListN.{length, take, drop, length-append, length-drop}
use lib.Seq.{take-append-add}
use lib.Dec.{eqb, leb}
use lib.IntN.{ℤ, pos, nat_abs}
use borrow.Author.Tests.{eq-eqb, eqb-true, le-leb, leb-true}
use Rattle.answers.specs.Answer.{accepted, refused}
use Rattle.answers.specs.Checks.{all_hold, Outcome, Done}
use Rattle.answers.specs.Judging.{all_refuse}
use Rattle.answers.specs.Range.{within}
use Rattle.answers.specs.Unit.{fewest_channels, most_channels, front_length, largest_data}
use Rattle.answers.proofs.Laws.{and_left, and_right, accepted_holds, all_accept}
use Rattle.fields.specs.Bytes.{lowest, number, little, ordered, number_in, field, row, same}
use Rattle.fields.proofs.Rows.{number-row}
use Rattle.chunks.specs.Walk.{header_length, chunk_header, next, ends, on}
use Rattle.chunks.proofs.Walks.{walk_ends, walk_on}
use Rattle.samples.specs.Channels.{count_of}
use Rattle.samples.specs.declared.channels.Channels.{Channels}
use Rattle.wave_values.specs.Values.{fmt_length, known_length, frame_size, whole_coding, coding_of, known_rate, right}
use Rattle.wave_writer.specs.Header.{written, header_bytes, fmt_contents, header, write_checks, write_of, write_answer}
use Rattle.wave.specs.declared.found.Found.{Found}
use Rattle.wave.specs.Walk.{nothing, sound, first, judged, extra_in, values, fmt_chunk, data_chunk, chunk, find, find_of, whole_frames, read_of}
use Rattle.std.specs.Prelude.{Some, Result, Ok}
use Rattle.wave_writer.specs.declared.writer.WriteError.{WriteError}
use Rattle.wave.proofs.Chunks.{values_of}
use Rattle.wave_values.proofs.RightValues.{rate_small, product_fits}
use Rattle.wave_writer.proofs.Counts.{Count, count_of_lem, count_small, count_back}
use Rattle.wave_writer.proofs.Writing.{length-header}

-- ---- the writer

-- an accepted call of the writer has a known rate, one or two channels, whole frames and the header
pub record Meant (after : List ℕ) (rate size : ℕ) (channels : ℤ) : Type 0 where
  pub known : known_rate rate ≡ true
  pub counted : Count channels
  pub whole : size % frame_size (nat_abs channels) written ≡ 0
  pub small : size ≤ largest_data
  pub is_header : after ≡ header rate size (nat_abs channels)

pub written_means : (buffer after : List ℕ) (n rate size : ℕ) (channels : ℤ) → Done (write_of buffer rate size channels) (Ok n) after → Meant after rate size channels
unfolding write_of all_refuse all_hold
written_means buffer after n rate size channels d =
    let cs = write_checks buffer rate size channels in
    let bytes = header rate size (nat_abs channels) in
    let rest_of = size % frame_size (nat_abs channels) written in
    let held : all_hold cs ≡ true = accepted_holds write_answer cs buffer bytes (Ok header_bytes) n refl (sym (ap write_answer d.result_is)) in
    let rated = and_right (eqb (length buffer) header_bytes) _ held in
    let sided = and_right (known_rate rate) _ rated in
    let sized = and_right (within fewest_channels most_channels channels) _ sided in
    record {
      known = and_left (known_rate rate) _ rated;
      counted = count_of_lem channels (and_left (within fewest_channels most_channels channels) _ sided);
      whole = eqb-true rest_of 0 (and_left (eqb rest_of 0) _ sized);
      small = leb-true size largest_data (and_left (leb size largest_data) true (and_right (eqb rest_of 0) _ sized));
      is_header = d.lent_is ∙ ap (λ (o : Outcome (Result ℕ WriteError) (List ℕ)). o.lent) (all_accept buffer bytes (Ok header_bytes) cs held);
    }

-- ---- what the reader finds in a header that was written

abbrev pub found_in : (rate size : ℕ) → Channels → Found
found_in rate size channels = record { rate = rate; format = written; channels = channels; size = size; start = header_bytes }

judged-written : (rate : ℕ) (channels : Channels) → known_rate rate ≡ true → let frame = frame_size (count_of channels) written in
    on (sound rate written channels) ≡ judged (Some written) (Some channels) rate (rate * frame) frame
unfolding judged right
judged-written rate channels k =
    let frame = frame_size (count_of channels) written in
    rw (k, eq-eqb frame frame refl, eq-eqb (rate * frame) (rate * frame) refl)

module _ (rate size : ℕ) (channels : Channels) (t : List ℕ) where
  abbrev bytes : List ℕ
  bytes = header rate size (count_of channels)

  length_front : length (bytes ++ t) ≡ header_bytes + length t
  length_front = length-append bytes t ∙ ap (λ (n : ℕ). n + length t) (length-header rate size (count_of channels))

  values-written : known_rate rate ≡ true → on (sound rate written channels) ≡ values (drop 12 (bytes ++ t))
  unfolding header chunk_header fmt_contents row ordered little field number_in number coding_of whole_coding extra_in
  values-written known =
      let count = count_of channels in
      let frame = frame_size count written in
      let few = count_small channels in
      let fits = product_fits rate frame (rate_small rate known) (omega arith) in
      values_of (drop 12 (bytes ++ t)) fmt_length 0 1 24 count rate (rate * frame) frame (Some written) (Some channels) (on (sound rate written channels))
      refl refl refl refl refl (sym (number-row lowest 2 count (omega arith))) (count_back channels) (sym (number-row lowest 4 rate (omega (arith, rate_small rate known))))
      (sym (number-row lowest 4 (rate * frame) fits)) (sym (number-row lowest 2 frame (omega arith))) (judged-written rate channels known)

  fmt_is : known_rate rate ≡ true → chunk (drop 12 (bytes ++ t)) 12 nothing ≡ on (sound rate written channels)
  unfolding header chunk_header fmt_contents row ordered little field number_in number same chunk fmt_chunk first known_length
  fmt_is known =
      let r = drop 12 (bytes ++ t) in
      let long : header_length + fmt_length ≤ length r = omega (arith, length_front, length-drop 12 (bytes ++ t)) in
      rw (le-leb (header_length + fmt_length) (length r) long) (sym (values-written known))

  data_is : size < 4294967296 → chunk (drop 36 (bytes ++ t)) 36 (sound rate written channels) ≡ ends (accepted (found_in rate size channels))
  unfolding header chunk_header fmt_contents row ordered little field number_in number same chunk data_chunk
  data_is small = ap (λ (n : ℕ). ends (accepted (found_in rate n channels))) (number-row lowest 4 size small)

  front_is : known_rate rate ≡ true → size < 4294967296 → find (bytes ++ t) ≡ accepted (found_in rate size channels)
  unfolding find header chunk_header fmt_contents row ordered little field number_in number same next
  front_is known small =
      let front = bytes ++ t in
      let l = length_front in
      rw (le-leb 12 (length front) (omega arith))
      (walk_on lowest (refused 24 0) chunk front 12 nothing (sound rate written channels) (omega arith) (fmt_is known)
      ∙ walk_ends lowest (refused 24 0) chunk front 36 (sound rate written channels) (accepted (found_in rate size channels)) (omega arith) (data_is small))

-- ---- there and back

-- a header written is read back, whatever bytes follow
pub header-read-back : (buffer after rest : List ℕ) (n rate size : ℕ) (channels : Channels) →
    Done (write_of buffer rate size (pos (count_of channels))) (Ok n) after → read_of (after ++ rest) ≡ accepted (found_in rate size channels)
unfolding read_of find_of whole_frames
header-read-back buffer after rest n rate size channels d =
    let count = count_of channels in
    let f = written_means buffer after n rate size (pos count) d in
    ap (λ (s : List ℕ). whole_frames (find (take front_length (s ++ rest)))) f.is_header
    ∙ ap (λ (s : List ℕ). whole_frames (find s))
    (ap (λ (k : ℕ). take (k + (front_length - header_bytes)) (header rate size count ++ rest)) (sym (length-header rate size count)) ∙ take-append-add (header rate size count) rest (front_length - header_bytes))
    ∙ ap whole_frames (front_is rate size channels (take (front_length - header_bytes) rest) f.known (omega (arith, f.small))) ∙ rw f.whole

-- .. and no other count of channels is ever written
pub written_channels : (buffer after : List ℕ) (n rate size : ℕ) (channels : ℤ) → Done (write_of buffer rate size channels) (Ok n) after →
    (sides : Channels) × (channels ≡ pos (count_of sides))
written_channels buffer after n rate size channels d =
    let c = (written_means buffer after n rate size channels d).counted in
    (c.sides, c.is)
