-- What stands after the `data` header does not matter: once the walk comes to it, the bytes up to its end decide the answer. Assumes nothing.
use mathlib.Core.Path.{◌≡◌, refl, sym, ap, ap₂, ◌∙◌, subst}
use mathlib.Core.Bool.{true, false, cond}
use mathlib.Core.List.{List}
use Prim.Native.Nat.{ℕ, ◌+◌, ◌≤◌}
use native.Mathlib.Omega.{arith}
use lib.ListN.{length, take, drop, length-take, length-drop}
use lib.Seq.{take-take}
use lib.Dec.{eqb}
use borrow.Author.Tests.{eqb-true, le-leb}
use Rattle.answers.specs.Answer.{Answer, accepted, refused}
use Rattle.answers.specs.Unit.{front_length}
use Rattle.fields.specs.Bytes.{lowest, same}
use Rattle.fields.proofs.ByTest.{by-test, cond-case}
use Rattle.fields.proofs.Naming.{same_is}
use Rattle.chunks.specs.Walk.{header_length, size_in, named, ends, visit}
use Rattle.chunks.proofs.Alike.{Alike, alike, alike_drop, field_alike, name_alike}
use Rattle.chunks.proofs.Walks.{visit_whole}
use Rattle.chunks.proofs.Deciding.{OwnChunk, Comes, comes_further, decides}
use Rattle.wave.specs.Names.{riff, wave, fmt, data'}
use Rattle.wave_values.specs.Values.{long_fmt_length, known_length}
use Rattle.wave.specs.Walk.{Found, Seen, nothing, extra_in, values, fmt_chunk, data_chunk, chunk, find, find_of, whole_frames, read_of}
use Rattle.wave.proofs.Chunks.{known_long}
use Rattle.wave.proofs.Answers.{accepted_means}

-- ---- a chunk is judged by itself

-- the contents of a `fmt ` matter, and of another chunk the header alone
abbrev reach : List ℕ → ℕ
reach rest = cond (named rest fmt) (header_length + size_in lowest rest) header_length

module _ (r q : List ℕ) where
  extra_alike : Alike (header_length + size_in lowest r) r q → extra_in r ≡ extra_in q
  unfolding extra_in
  extra_alike a =
      let m = header_length + size_in lowest r in
      let size = field_alike m r q a lowest 4 4 (omega arith) in
      by-test (eqb (size_in lowest r) long_fmt_length)
      (λ t. ap₂ (λ (n x : ℕ). cond (eqb n long_fmt_length) x 0) size (field_alike m r q a lowest 24 2 (omega (arith, eqb-true (size_in lowest r) long_fmt_length t))))
      (λ t. rw (sym size, t))

  fmt_alike : (seen : Seen) → Alike (header_length + size_in lowest r) r q → fmt_chunk r seen ≡ fmt_chunk q seen
  unfolding fmt_chunk values
  fmt_alike seen a =
      let m = header_length + size_in lowest r in
      let size = field_alike m r q a lowest 4 4 (omega arith) in
      by-test (known_length (size_in lowest r))
      (λ t. let long = known_long (size_in lowest r) t in
      let at = field_alike m r q a lowest in
      rw (
        size,
        extra_alike a,
        at 8 2 (omega arith),
        at 10 2 (omega arith),
        at 12 4 (omega arith),
        at 16 4 (omega arith),
        at 20 2 (omega arith),
        at 22 2 (omega arith),
        le-leb (header_length + size_in lowest q) (length r) (omega (arith, a.long, size)),
        le-leb (header_length + size_in lowest q) (length q) (omega (arith, a.long', size)),
      ))
      (λ t. rw (sym size, t))

  chunk_alike : (m at : ℕ) (seen : Seen) → header_length ≤ m → (named r fmt ≡ true → m ≡ header_length + size_in lowest r) → Alike m r q →
      chunk r at seen ≡ chunk q at seen
  unfolding chunk
  chunk_alike m at seen l all a =
      let is-fmt = name_alike m r q a fmt (omega arith) in
      by-test (named r fmt)
      (λ t. rw (sym is-fmt ∙ t, t) (fmt_alike seen (subst (λ (k : ℕ). Alike k r q) (all t) a)))
      (λ t. rw (sym is-fmt ∙ t, t, name_alike m r q a data' (omega arith), field_alike m r q a lowest 4 4 (omega arith)))

own : OwnChunk lowest (refused 24 0) chunk reach
own =
    record {
      header = λ rest. cond-case (λ (n : ℕ). header_length ≤ n) (header_length + size_in lowest rest) header_length (named rest fmt) (λ _. omega arith) (λ _. omega arith);
      contents = λ rest.
          cond-case (λ (n : ℕ). n ≤ header_length + size_in lowest rest) (header_length + size_in lowest rest) header_length (named rest fmt) (λ _. omega arith) (λ _. omega arith);
      looks = λ r q at seen a.
          chunk_alike r q (reach r) at seen
          (cond-case (λ (n : ℕ). header_length ≤ n) (header_length + size_in lowest r) header_length (named r fmt) (λ _. omega arith) (λ _. omega arith))
          (λ t. rw t) a;
    }

-- ---- the deciding chunk

-- two fronts that agree up to what the deciding chunk looks at have the same answer
find_decides : (a b : List ℕ) (d : ℕ) (last : Seen) (answer : Answer Found) → Comes lowest (refused 24 0) chunk a 12 nothing d last →
    visit lowest (refused 24 0) chunk (drop d a) d last ≡ ends answer → Alike (d + reach (drop d a)) a b → find a ≡ find b
unfolding find
find_decides a b d last answer c e al =
    let m = d + reach (drop d a) in
    let far = comes_further lowest (refused 24 0) chunk a 12 d nothing last c in
    let self : Alike m a a = record { bytes = refl; long = al.long; long' = al.long } in
    let rests = alike_drop m a b al 8 4 (omega arith) in
    rw (
      decides lowest (refused 24 0) chunk reach own a a 12 d nothing last answer c e self,
      decides lowest (refused 24 0) chunk reach own a b 12 d nothing last answer c e al,
      name_alike m a b al riff (omega arith),
      name_alike 4 (drop 8 a) (drop 8 b) rests wave (omega arith),
      le-leb 12 (length a) (omega (arith, al.long)),
      le-leb 12 (length b) (omega (arith, al.long')),
    )

-- ---- a `data` header

-- a `data` header stands wholly at a place
pub record AtData (front : List ℕ) (d : ℕ) : Type 0 where
  pub whole : d + header_length ≤ length front
  pub is_data : named (drop d front) data' ≡ true

not_fmt : (s : List ℕ) → same s data' ≡ true → same s fmt ≡ false
unfolding same
not_fmt s h = ap (λ (l : List ℕ). same l fmt) (same_is s data' h)

data_ends : (rest : List ℕ) (at : ℕ) (seen : Seen) → header_length ≤ length rest → named rest data' ≡ true →
    visit lowest (refused 24 0) chunk rest at seen ≡ ends (data_chunk (size_in lowest rest) at seen)
unfolding chunk
data_ends rest at seen l h = visit_whole lowest (refused 24 0) chunk rest at seen l ∙ rw (not_fmt (take 4 rest) h, h)

-- once the walk comes to a `data` header, two files that agree up to the header's end get the same answer
pub data_decides : (s t : List ℕ) (d : ℕ) (last : Seen) → Comes lowest (refused 24 0) chunk (take front_length s) 12 nothing d last →
    AtData (take front_length s) d → take (d + header_length) s ≡ take (d + header_length) t → read_of s ≡ read_of t
unfolding read_of find_of
data_decides s t d last c here e =
    let a = take front_length s in
    let rest = drop d a in
    let short = length-take front_length s in
    let in-front : d + header_length ≤ front_length = omega (arith, here.whole, short) in
    let reach-is : reach rest ≡ header_length = rw (not_fmt (take 4 rest) here.is_data) in
    let al : Alike (d + header_length) a (take front_length t) =
    alike (d + header_length) a (take front_length t) here.whole
    (take-take (d + header_length) front_length s in-front ∙ e ∙ sym (take-take (d + header_length) front_length t in-front)) in
    ap whole_frames (find_decides a (take front_length t) d last (data_chunk (size_in lowest rest) d last) c
    (data_ends rest d last (omega (arith, here.whole, length-drop d a)) here.is_data)
    (subst (λ (k : ℕ). Alike (d + k) a (take front_length t)) (sym reach-is) al))

-- the bytes before the start decide an accepted file
pub accepted_decides : (s t : List ℕ) (f : Found) → read_of s ≡ accepted f → take f.start s ≡ take f.start t → read_of t ≡ accepted f
accepted_decides s t f e same_bytes =
    let l = (accepted_means s f e).landed in
    sym (data_decides s t l.place l.last l.comes (record { whole = l.whole; is_data = l.is_data })
    (ap (λ (k : ℕ). take k s) (sym l.start_is) ∙ same_bytes ∙ ap (λ (k : ℕ). take k t) l.start_is))
    ∙ e
