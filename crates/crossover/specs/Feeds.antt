-- The two feeds: which bands go to each, and its outputs from the aligned samples of the lines.
use Rattle.std.specs.Prelude.{Bool, cond, List, [], ◌∷◌, ℕ, suc, leb, ltb, length, ℤ, pos, ◌+ℤ◌, ◌-ℤ◌, ◌*ℤ◌}
use Rattle.weighing.specs.Weighing.{out_of}

-- rule 16.1: the feed of the low bands and that of the high ones
pub data Feed : Type 0 where
  bass : Feed
  horn : Feed

-- rule 16.1: of split s, bands 1..s go to the bass feed and the others to the horn feed
abbrev pub goes : Feed → (s band : ℕ) → Bool
goes bass s m = leb m s
goes horn s m = ltb s m

-- rule 16.2: the gain sum of the bands that go to a feed, from the list a(M), .., a(1); of band m, a(m) - a(m-1), the gain g m
unfoldable pub feed_sum : (ℕ → Bool) → (ℕ → ℤ) → List ℤ → ℤ
feed_sum to g [] = pos 0
feed_sum to g (a ∷ []) = cond (to 1) (g 1 *ℤ a) (pos 0)
feed_sum to g (a ∷ b ∷ below) =
    let m = length (a ∷ b ∷ below) in
    feed_sum to g (b ∷ below) +ℤ cond (to m) (g m *ℤ (a -ℤ b)) (pos 0)

-- rule 16.2: each sample's output in a feed, rounded once and limited once
unfoldable pub feed_outputs : (ℕ → Bool) → (ℕ → ℤ) → List (List ℤ) → List ℤ
feed_outputs to g [] = []
feed_outputs to g (a ∷ rest) = out_of (feed_sum to g a) ∷ feed_outputs to g rest

-- rule 16.4: gains from band m on, of which those of the other feed's bands read 0
unfoldable pub gains_from : ℕ → (ℕ → Bool) → List ℤ → List ℤ
gains_from m to [] = []
gains_from m to (g ∷ gains) = cond (to m) g (pos 0) ∷ gains_from (suc m) to gains

-- rule 16.4: the gains of a feed: those of the other feed's bands read 0
abbrev pub feed_gains : Feed → (s : ℕ) → List ℤ → List ℤ
feed_gains f s gains = gains_from 1 (goes f s) gains
