-- What an answer of the finder and of the reader tells, for the crates above: they go by its cases, and never walk again. Assumes nothing.
use mathlib.Core.Path.{◌≡◌, refl, ap, ◌∙◌, subst}
use mathlib.Core.Bool.{true, ◌&&◌}
use mathlib.Core.List.{List}
use Prim.Native.Nat.{ℕ, ◌+◌, ◌-◌, ◌%◌, ◌≤◌}
use native.Mathlib.Omega.{arith}
use lib.ListN.{length, take, drop, length-take, length-drop}
use lib.Dec.{eqb, leb, lit≤}
use borrow.Author.Tests.{eqb-true}
use Rattle.answers.specs.Answer.{Answer, accepted, refused}
use Rattle.answers.specs.Unit.{front_length}
use Rattle.fields.specs.Bytes.{lowest, field, same}
use Rattle.fields.proofs.ByTest.{cond-case}
use Rattle.chunks.specs.Walk.{header_length, size_in, named, Step, ends, walk}
use Rattle.chunks.proofs.Headers.{size_there}
use Rattle.chunks.proofs.Walks.{Visited, cuts, steps, visited}
use Rattle.chunks.proofs.Deciding.{Comes, comes_even, landing, kept}
use Rattle.samples.specs.Channels.{count_of}
use Rattle.wave.specs.Names.{riff, wave, data'}
use Rattle.wave_values.specs.Values.{frame_size, known_rate}
use Rattle.wave.specs.Walk.{Found, Seen, nothing, chunk, find, find_of, whole_frames, read_of}
use Rattle.wave.proofs.Steps.{Good, Says, goes, lands, chunk_says}
use Rattle.wave.proofs.Steps as says

-- ---- the cases

-- accepted with what holds of it, or one of the refusals 21 to `most`
pub data Told (P : Found → Type 0) (most : ℕ) : Answer Found → Type 0 where
  accepts : {f : Found} → P f → Told P most (accepted f)
  refuses : {n : ℕ} → 21 ≤ n → n ≤ most → Told P most (refused n 0)

-- where an accepted walk ends: at a `data` header, right before the samples
pub record Landed (front : List ℕ) (f : Found) : Type 0 where
  pub place : ℕ
  pub last : Seen
  pub comes : Comes lowest (refused 24 0) chunk front 12 nothing place last
  pub whole : place + header_length ≤ length front
  pub is_data : named (drop place front) data' ≡ true
  pub start_is : f.start ≡ place + header_length
  pub size_is : f.size ≡ size_in lowest (drop place front)
  pub rate_known : known_rate f.rate ≡ true

-- ---- the finder

keeps : (rest : List ℕ) (at : ℕ) (seen met : Seen) → Good seen → chunk rest at seen ≡ Step.on met → Good met
keeps rest at seen met good e = by (subst (Says rest at seen) e (chunk_says rest at seen))
  where
    by : Says rest at seen (Step.on met) → Good met
    by (goes keep) = keep good

abbrev answer_in : Step Seen (Answer Found) → Answer Found
answer_in (ends answer) = answer
answer_in (Step.on met) = refused 24 0

module _ (front : List ℕ) where
  at_end : (place : ℕ) (last : Seen) (answer : Answer Found) → Comes lowest (refused 24 0) chunk front 12 nothing place last →
      Visited lowest (refused 24 0) chunk (drop place front) place last (ends answer) → Told (Landed front) 24 answer
  at_end place last answer c (cuts is) = subst (Told (Landed front) 24) (ap answer_in is) (refuses (lit≤ tt) (lit≤ tt))
  at_end place last answer c (steps whole is) =
      by answer (subst (Says (drop place front) place last) is (chunk_says (drop place front) place last))
    where
      good : Good last
      good = kept lowest (refused 24 0) chunk Good keeps front 12 place nothing last c tt

      by : (a : Answer Found) → Says (drop place front) place last (ends a) → Told (Landed front) 24 a
      by a (lands is_data known) =
          accepts (record {
            place = place;
            last = last;
            comes = c;
            whole = omega (arith, whole, length-drop place front);
            is_data = is_data;
            start_is = refl;
            size_is = refl;
            rate_known = known good;
          })
      by a (says.refuses l m) = refuses l m

  walk_told : Told (Landed front) 24 (walk lowest (refused 24 0) chunk (length front) front 12 nothing)
  walk_told =
      let l = landing lowest (refused 24 0) chunk front (length front) 12 nothing (omega arith) in
      at_end l.place l.last _ l.comes (visited lowest (refused 24 0) chunk (drop l.place front) l.place l.last (ends _) l.decided)

  front_told : Told (Landed front) 24 (find front)
  unfolding find
  front_told =
      cond-case (Told (Landed front) 24) _ _ (leb 12 (length front) && (same (take 4 front) riff && same (take 4 (drop 8 front)) wave))
      (λ _. walk_told) (λ _. refuses (lit≤ tt) (lit≤ tt))

pub find_told : (lent : List ℕ) → Told (Landed (take front_length lent)) 24 (find_of lent)
unfolding find_of
find_told lent = front_told (take front_length lent)

-- the length stands in the four bytes before the start
pub length-field : (front : List ℕ) (f : Found) → Landed front f → f.size ≡ field lowest front (f.start - 4) 4
length-field front f l =
    let before : l.place + 4 ≡ f.start - 4 = omega (arith, l.start_is) in
    l.size_is ∙ size_there lowest front l.place ∙ ap (λ (n : ℕ). field lowest front n 4) before

-- ---- the reader

-- .. and its length is whole frames
pub record Acceptable (lent : List ℕ) (f : Found) : Type 0 where
  pub landed : Landed (take front_length lent) f
  pub whole_frames_lem : f.size % frame_size (count_of f.channels) f.format ≡ 0

pub read_told : (lent : List ℕ) → Told (Acceptable lent) 25 (read_of lent)
unfolding read_of whole_frames
read_told lent = by (find_of lent) (find_told lent)
  where
    by : (a : Answer Found) → Told (Landed (take front_length lent)) 24 a → Told (Acceptable lent) 25 (whole_frames a)
    by (accepted f) (accepts l) =
        cond-case (Told (Acceptable lent) 25) _ _ (eqb (f.size % frame_size (count_of f.channels) f.format) 0)
        (λ h. accepts (record { landed = l; whole_frames_lem = eqb-true (f.size % frame_size (count_of f.channels) f.format) 0 h })) (λ _. refuses (lit≤ tt) (lit≤ tt))
    by (refused n place) (refuses l m) = refuses l (omega arith)

-- ---- an accepted answer

module _ (lent : List ℕ) (f : Found) where
  pub accepted_means : read_of lent ≡ accepted f → Acceptable lent f
  accepted_means e = by (subst (Told (Acceptable lent) 25) e (read_told lent))
    where
      by : Told (Acceptable lent) 25 (accepted f) → Acceptable lent f
      by (accepts a) = a

  -- the samples start in the front, or right behind it
  pub accepted_start : read_of lent ≡ accepted f → f.start ≤ front_length
  accepted_start e =
      let l = (accepted_means e).landed in
      omega (arith, l.whole, l.start_is, length-take front_length lent)

  -- .. at an even place
  pub accepted_even : read_of lent ≡ accepted f → f.start % 2 ≡ 0
  accepted_even e =
      let l = (accepted_means e).landed in
      omega (arith, l.start_is, comes_even lowest (refused 24 0) chunk (take front_length lent) 12 l.place nothing l.last l.comes refl)

  pub accepted_rate : read_of lent ≡ accepted f → known_rate f.rate ≡ true
  accepted_rate e = (accepted_means e).landed.rate_known

  pub accepted_whole : read_of lent ≡ accepted f → f.size % frame_size (count_of f.channels) f.format ≡ 0
  accepted_whole e = (accepted_means e).whole_frames_lem
