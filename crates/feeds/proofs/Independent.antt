-- A feed does not depend on the gains of the other feed's bands (rule 16.6): what protects the horns. For one call on any memory, accepted or not, and over
-- runs of accepted calls from any memory. Assumes nothing.
use mathlib.Core.Path.{◌≡◌, refl, sym, ap, ap₂, subst, fun_ext, ◌∙◌}
use mathlib.Core.Bool.{Bool, true, false, cond}
use mathlib.Core.List.{List, [], ◌∷◌, map}
use Prim.Native.Nat.{ℕ, ◌+◌, ◌-◌, ◌≤◌, ◌<◌}
use native.Mathlib.Omega.{arith}
use borrow.Author.Tests.{ltb-true, leb-true}
use lib.Dec.{eqb}
use lib.ListN.{length, get_or, drop}
use lib.Seq.{ext_get_or}
use lib.IntN.{ℤ, pos}
use Rattle.std.specs.Prelude.{Result}
use Rattle.answers.specs.Answer.{Answer, accepted, number_in}
use Rattle.answers.specs.Checks.{Outcome}
use Rattle.frames.specs.Frames.{woven}
use Rattle.tree.specs.Signal.{gain_of}
use Rattle.octave.specs.declared.block.BlockError.{BlockError}
use Rattle.octave.specs.Memory.{channels_in}
use Rattle.octave.specs.Block.{frames_of, ran_side, equalised}
use Rattle.history.specs.History.{Call, called, after_call, is_accepted, played, AllAccepted}
use Rattle.history.proofs.Accepted.{unnumbered_ran}
use Rattle.crossover.specs.Feeds.{Feed, bass, horn, goes, feed_gains}
use Rattle.crossover.specs.Cross.{feed_of}
use Rattle.crossover.proofs.Feeds.{feed_outputs_are, outputs-ext, gains-length, gain_at}
use Rattle.feeds.specs.Mixed.{AnyCall, feed_calls, mixed, AllTaken, SameBands, read_by}
use Rattle.feeds.proofs.Runs.{joining, feeds_accepted, feeds_played}

-- ---- one call

either : {y z : ℤ} (t : Bool) → (t ≡ true → y ≡ z) → cond t y (pos 0) ≡ cond t z (pos 0)
either true e = e refl
either false e = refl

-- a feed's outputs are the same where the gains of its own bands are
pub feed_independent : (f : Feed) (memory gains others : List ℤ) (s : ℕ) (input : List ℤ) → SameBands f s gains others →
    feed_of f memory gains s input ≡ feed_of f memory others s input
feed_independent f memory gains others s input same =
    ap (woven (channels_in memory) (frames_of memory input))
    (fun_ext (λ side.
    let a = (ran_side memory input side).aligned in
    feed_outputs_are (goes f s) (gain_of gains) a ∙ outputs-ext (read gains) (read others) (λ m h. either (goes f s m) (same m h)) a ∙
    sym (feed_outputs_are (goes f s) (gain_of others) a)))
  where
    read : List ℤ → ℕ → ℤ
    read g m = cond (goes f s m) (gain_of g m) (pos 0)

-- the horn feed whatever the gains of bands 1 to s are
pub horns_protected : (memory gains others : List ℤ) (s : ℕ) (input : List ℤ) → ((m : ℕ) → s < m → gain_of gains m ≡ gain_of others m) →
    feed_of horn memory gains s input ≡ feed_of horn memory others s input
horns_protected memory gains others s input same = feed_independent horn memory gains others s input (λ m _ e. same m (ltb-true s m e))

-- the bass feed whatever those of the others are
pub bass_protected : (memory gains others : List ℤ) (s : ℕ) (input : List ℤ) → ((m : ℕ) → 1 ≤ m → m ≤ s → gain_of gains m ≡ gain_of others m) →
    feed_of bass memory gains s input ≡ feed_of bass memory others s input
bass_protected memory gains others s input same = feed_independent bass memory gains others s input (λ m l e. same m l (leb-true m s e))

-- where the lists are as long, the feed reads the same gains
pub read_alike : (f : Feed) (s : ℕ) (gains others : List ℤ) → length gains ≡ length others → SameBands f s gains others → feed_gains f s gains ≡ feed_gains f s others
read_alike f s gains others long same =
    ext_get_or (pos 0) (feed_gains f s gains) (feed_gains f s others)
    (gains-length 1 (goes f s) gains ∙ long ∙ sym (gains-length 1 (goes f s) others))
    (λ i _.
    let down : 1 + i - 1 ≡ i = omega arith in
    gain_at 1 (goes f s) gains i ∙ either (goes f s (1 + i)) (rw down at (same (1 + i) (omega arith))) ∙ sym (gain_at 1 (goes f s) others i))

-- ---- runs

-- of plain calls that are accepted: what their places held before does not matter
abbrev said : Call → List ℤ × List ℤ
said c = (c.gains, c.input)

plays_alike : (m : List ℤ) (cs ds : List Call) → AllAccepted m cs → AllAccepted m ds → map said cs ≡ map said ds → played m cs ≡ played m ds
unfolding AllAccepted played
plays_alike m [] [] p q e = refl
plays_alike m [] (d ∷ ds) p q e = absurd (omega (arith, ap length e))
plays_alike m (c ∷ cs) [] p q e = absurd (omega (arith, ap length e))
plays_alike m (c ∷ cs) (d ∷ ds) p q e =
    let one : said c ≡ said d = ap (λ (l : List (List ℤ × List ℤ)). get_or l 0 ([], [])) e in
    let lent : (called m c).lent ≡ (called m d).lent =
    ap (λ (o : Outcome (Result ℕ BlockError) (List ℤ × List ℤ)). o.lent) (unnumbered_ran m c.gains c.input c.before (ap number_in p.0)).is ∙
    ap (λ (r : List ℤ × List ℤ). equalised m r.0 r.1) one ∙
    sym (ap (λ (o : Outcome (Result ℕ BlockError) (List ℤ × List ℤ)). o.lent) (unnumbered_ran m d.gains d.input d.before (ap number_in q.0)).is) in
    let memory : after_call m c ≡ after_call m d = ap (λ (l : List ℤ × List ℤ). l.0) lent in
    let rest : played (after_call m c) cs ≡ played (after_call m d) ds =
    plays_alike (after_call m c) cs ds p.1 (subst (λ (k : List ℤ). AllAccepted k ds) (sym memory) q.1) (ap (drop 1) e) ∙ ap (λ (k : List ℤ). played k ds) memory in
    let both : is_accepted m c ≡ is_accepted m d = took p.0 ∙ sym (took q.0) in
    ap₂ (joining (is_accepted m c)) (ap (λ (l : List ℤ × List ℤ). l.1) lent) rest ∙ ap (λ (t : Bool). joining t (called m d).lent.1 (played (after_call m d) ds)) both
  where
    took : {a : Answer ℕ} {k : ℕ} → a ≡ accepted k → eqb (number_in a) 0 ≡ true
    took h = ap (λ (r : Answer ℕ). eqb (number_in r) 0) h

-- two runs of which a feed reads the same: the same outputs of that feed, and the same memory, whatever the other gains are
pub runs_independent : (f : Feed) (m : List ℤ) (xs ys : List AnyCall) → AllTaken m xs → AllTaken m ys → read_by f xs ≡ read_by f ys → mixed f m xs ≡ mixed f m ys
runs_independent f m xs ys p q e =
    feeds_played f m xs p ∙ plays_alike m (feed_calls f xs) (feed_calls f ys) (feeds_accepted f m xs p) (feeds_accepted f m ys q) e ∙ sym (feeds_played f m ys q)
