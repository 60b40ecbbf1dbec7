-- The header writer: rows stored one behind the other are the header. Assumes nothing.
use mathlib.Core.Path.{◌≡◌, refl, sym, ap, ◌∙◌}
use mathlib.Core.Bool.{true}
use mathlib.Core.List.{List, ◌++◌}
use Prim.Native.Nat.{ℕ, ◌*◌, ◌%◌, ◌≤◌}
use lib.ListN.{length}
use lib.Seq.{sets}
use lib.IntN.{pos}
use borrow.Author.Tests.{eq-eqb, le-leb}
use Rattle.answers.specs.Checks.{all_hold}
use Rattle.answers.specs.Unit.{largest_data}
use Rattle.answers.proofs.Laws.{all_accept}
use Rattle.fields.specs.Bytes.{lowest, little, ordered, row}
use Rattle.fields.proofs.Rows.{length-row, behind, sets_whole}
use Rattle.chunks.specs.Walk.{chunk_header}
use Rattle.chunks.proofs.Headers as chunks
use Rattle.samples.specs.Channels.{count_of}
use Rattle.samples.specs.Format.{bits_of}
use Rattle.samples.specs.declared.channels.Channels.{Channels}
use Rattle.wave.specs.Names.{riff, wave, fmt, data'}
use Rattle.wave_values.specs.Values.{fmt_length, frame_size, known_rate}
use Rattle.wave_writer.specs.Header.{written, header_bytes, riff_size, fmt_contents, header, write_checks, write_of}
use Rattle.std.specs.Prelude.{Ok}
use Rattle.wave_writer.proofs.Counts.{count_allowed_lem}

-- ---- lengths

pub length-fmt : (rate count : ℕ) → length (fmt_contents rate count) ≡ fmt_length
unfolding fmt_contents row ordered little
length-fmt rate count = refl

pub length-header : (rate size count : ℕ) → length (header rate size count) ≡ header_bytes
unfolding header chunk_header fmt_contents row ordered little
length-header rate size count = refl

-- ---- rows

pub fmt-row : (rate count told frame bits : ℕ) (l m₁ m₂ m₃ m₄ m₅ m₆ : List ℕ) → told ≡ count → frame ≡ frame_size count written → bits ≡ bits_of written →
    m₁ ≡ sets l 20 (row lowest 2 1) → m₂ ≡ sets m₁ 22 (row lowest 2 told) → m₃ ≡ sets m₂ 24 (row lowest 4 rate) →
    m₄ ≡ sets m₃ 28 (row lowest 4 (rate * frame)) → m₅ ≡ sets m₄ 32 (row lowest 2 frame) → m₆ ≡ sets m₅ 34 (row lowest 2 bits) →
    m₆ ≡ sets l 20 (fmt_contents rate count)
unfolding fmt_contents
fmt-row rate count told frame bits l m₁ m₂ m₃ m₄ m₅ m₆ n f b e₁ e₂ e₃ e₄ e₅ e₆ =
    let t₅ = row lowest 2 frame ++ row lowest 2 bits in
    let t₄ = row lowest 4 (rate * frame) ++ t₅ in
    let t₃ = row lowest 4 rate ++ t₄ in
    let f₅ = behind m₄ m₅ m₆ (row lowest 2 frame) (row lowest 2 bits) 32 2 (length-row lowest 2 frame) e₅ e₆ in
    let f₄ = behind m₃ m₄ m₆ (row lowest 4 (rate * frame)) t₅ 28 4 (length-row lowest 4 (rate * frame)) e₄ f₅ in
    let f₃ = behind m₂ m₃ m₆ (row lowest 4 rate) t₄ 24 4 (length-row lowest 4 rate) e₃ f₄ in
    let f₂ = behind m₁ m₂ m₆ (row lowest 2 told) t₃ 22 2 (length-row lowest 2 told) e₂ f₃ in
    behind l m₁ m₆ (row lowest 2 1) (row lowest 2 told ++ t₃) 20 2 (length-row lowest 2 1) e₁ f₂ ∙ rw (n, f, b)

pub header_row : (rate size count all : ℕ) (l m₁ m₂ m₃ m₄ m₅ : List ℕ) → length l ≡ header_bytes → all ≡ riff_size size →
    m₁ ≡ sets l 0 (chunk_header lowest riff all) → m₂ ≡ sets m₁ 8 wave → m₃ ≡ sets m₂ 12 (chunk_header lowest fmt fmt_length) →
    m₄ ≡ sets m₃ 20 (fmt_contents rate count) → m₅ ≡ sets m₄ 36 (chunk_header lowest data' size) →
    m₅ ≡ header rate size count
unfolding header
header_row rate size count all l m₁ m₂ m₃ m₄ m₅ whole is e₁ e₂ e₃ e₄ e₅ =
    let t₄ = fmt_contents rate count ++ chunk_header lowest data' size in
    let t₃ = chunk_header lowest fmt fmt_length ++ t₄ in
    let t₂ = wave ++ t₃ in
    let f₄ = behind m₃ m₄ m₅ (fmt_contents rate count) (chunk_header lowest data' size) 20 16 (length-fmt rate count) e₄ e₅ in
    let f₃ = behind m₂ m₃ m₅ (chunk_header lowest fmt fmt_length) t₄ 12 8 (chunks.length-header lowest fmt fmt_length refl) e₃ f₄ in
    let f₂ = behind m₁ m₂ m₅ wave t₃ 8 4 refl e₂ f₃ in
    let f₁ : m₅ ≡ sets l 0 (header rate size count) =
    behind l m₁ m₅ (chunk_header lowest riff all) t₂ 0 8 (chunks.length-header lowest riff all refl) e₁ f₂ ∙ ap (λ (n : ℕ). sets l 0 (chunk_header lowest riff n ++ t₂)) is in
    f₁ ∙ sets_whole l (header rate size count) (length-header rate size count ∙ sym whole)

-- ---- the call

-- a right call of the writer is accepted
pub write_accepts : (buffer : List ℕ) (rate size : ℕ) (channels : Channels) → length buffer ≡ header_bytes → known_rate rate ≡ true →
    size % frame_size (count_of channels) written ≡ 0 → size ≤ largest_data →
    write_of buffer rate size (pos (count_of channels)) ≡ record { result = Ok header_bytes; lent = header rate size (count_of channels) }
unfolding write_of all_hold
write_accepts buffer rate size channels room known whole small =
    let count = count_of channels in
    all_accept buffer (header rate size count) (Ok header_bytes) (write_checks buffer rate size (pos count))
    (rw (
      eq-eqb (length buffer) header_bytes room,
      known,
      count_allowed_lem channels,
      eq-eqb (size % frame_size count written) 0 whole,
      le-leb size largest_data small,
    ))
