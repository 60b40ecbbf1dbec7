-- What the reader does not look at: bytes 4 to 7, and whatever stands past the first 4,096 bytes. Assumes nothing.
use mathlib.Core.Path.{◌≡◌, sym, ap, ◌∙◌}
use mathlib.Core.List.{List}
use Prim.Native.Nat.{ℕ}
use lib.ListN.{length, take, drop}
use lib.Seq.{take-take}
use lib.Dec.{lit≤}
use Rattle.answers.specs.Answer.{refused}
use Rattle.answers.specs.Unit.{front_length}
use Rattle.fields.specs.Bytes.{lowest}
use Rattle.chunks.specs.Walk.{walk}
use Rattle.chunks.proofs.Walks.{from_there}
use Rattle.wave.specs.Walk.{nothing, chunk, find, find_of, whole_frames, read_of}

find-same : (a b : List ℕ) → length a ≡ length b → take 4 a ≡ take 4 b → drop 8 a ≡ drop 8 b → find a ≡ find b
unfolding find
find-same a b long names rest =
    let walks : walk lowest (refused 24 0) chunk (length a) a 12 nothing ≡ walk lowest (refused 24 0) chunk (length b) b 12 nothing =
    ap (λ (n : ℕ). walk lowest (refused 24 0) chunk n a 12 nothing) long ∙ from_there lowest (refused 24 0) chunk (length b) 8 a b rest 12 nothing (lit≤ tt) in
    rw (walks, names, rest, long)

-- two fronts as long as each other that agree but for bytes 4 to 7 get the same answer, whatever follows them
pub unread : (s t : List ℕ) → length (take front_length s) ≡ length (take front_length t) → take 4 s ≡ take 4 t →
    drop 8 (take front_length s) ≡ drop 8 (take front_length t) → read_of s ≡ read_of t
unfolding read_of find_of
unread s t long names rest =
    ap whole_frames (find-same (take front_length s) (take front_length t) long
    (take-take 4 front_length s (lit≤ tt) ∙ names ∙ sym (take-take 4 front_length t (lit≤ tt))) rest)

-- two files with the same first 4,096 bytes get the same answer
pub past_4096 : (s t : List ℕ) → take front_length s ≡ take front_length t → read_of s ≡ read_of t
unfolding read_of find_of
past_4096 s t e = ap (λ (front : List ℕ). whole_frames (find front)) e
