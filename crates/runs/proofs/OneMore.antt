-- One more turn after some turns, and the bounds of where a run stands. Assumes nothing.
use mathlib.Core.Path.{◌≡◌, refl, sym, ap, ◌∙◌}
use mathlib.Core.List.{List, [], ◌∷◌, ◌++◌, append-nil, append_assoc}
use Prim.Native.Nat.{ℕ, ◌+◌, ◌≤◌}
use native.Mathlib.Omega.{arith}
use lib.IntN.{ℤ}
use Rattle.samples.specs.declared.channels.Channels.{Channels}
use Rattle.samples.specs.declared.format.Format.{Format}
use Rattle.eqfile.specs.Turn.{fed_in_all, turn_of}
use Rattle.runs.specs.Program.{State, Follows, turn_at, block_done, next, after, Followed, program_writes, Fetched, AllFetched}

module _ (gains : List ℤ) (format : Format) (channels : Channels) (frames : ℕ) where
  pub after_more : (s : State) (us : List (List ℕ)) (u : List ℕ) → after gains format channels frames s (us ++ u ∷ []) ≡ next gains format channels frames (after gains format channels frames s us) u
  unfolding after
  after_more s [] u = refl
  after_more s (v ∷ us) u = after_more (next gains format channels frames s v) us u

  pub followed_more : (s : State) (us : List (List ℕ)) (u : List ℕ) → Followed gains format channels frames s us → Follows format channels frames (after gains format channels frames s us) u →
      Followed gains format channels frames s (us ++ u ∷ [])
  unfolding after Followed
  followed_more s [] u h f = (f, tt)
  followed_more s (v ∷ us) u h f = (h.0, followed_more (next gains format channels frames s v) us u h.1 f)

  pub fetched_more : (front : List ℕ) (start : ℕ) (s : State) (us : List (List ℕ)) (u : List ℕ) → AllFetched gains format channels frames front start s us →
      (let e = after gains format channels frames s us in Fetched front (start + e.read) (turn_at format channels frames e).wanted u) → AllFetched gains format channels frames front start s (us ++ u ∷ [])
  unfolding after AllFetched
  fetched_more front start s [] u h f = (f, tt)
  fetched_more front start s (v ∷ us) u h f = (h.0, fetched_more front start (next gains format channels frames s v) us u h.1 f)

  -- a run goes forward
  pub at_grows : (s : State) (us : List (List ℕ)) → s.at ≤ (after gains format channels frames s us).at
  unfolding after
  at_grows s [] = omega arith
  at_grows s (u ∷ us) = omega (arith, at_grows (next gains format channels frames s u) us)

  -- never more is fed than there is
  pub at_within : (s : State) (us : List (List ℕ)) → s.at ≤ fed_in_all frames → (after gains format channels frames s us).at ≤ fed_in_all frames
  unfolding after turn_of
  at_within s [] h = h
  at_within s (u ∷ us) h = at_within (next gains format channels frames s u) us (omega arith)

  -- what is handed over after some turns follows what they handed over
  pub writes_more : (s : State) (us : List (List ℕ)) (u : List ℕ) →
      program_writes gains format channels frames s (us ++ u ∷ []) ≡ program_writes gains format channels frames s us ++ (block_done gains format channels frames (after gains format channels frames s us) u).lent.1
  unfolding after program_writes
  writes_more s [] u = append-nil (block_done gains format channels frames s u).lent.1
  writes_more s (v ∷ us) u =
      ap (λ (l : List ℕ). (block_done gains format channels frames s v).lent.1 ++ l) (writes_more (next gains format channels frames s v) us u) ∙
      sym (append_assoc (block_done gains format channels frames s v).lent.1 (program_writes gains format channels frames (next gains format channels frames s v) us) _)
