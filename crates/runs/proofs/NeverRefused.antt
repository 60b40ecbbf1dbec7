-- A block of the program is never refused, it leaves a memory that the next block takes, and its outputs are all stored. Assumes nothing.
use mathlib.Core.Path.{◌≡◌, refl, sym, ap, subst, ◌∙◌}
use mathlib.Core.Bool.{true}
use mathlib.Core.List.{List}
use Prim.Native.Nat.{ℕ, ◌-◌, ◌*◌, ◌/◌, ◌%◌, ◌≤◌, ◌<◌}
use native.Mathlib.Nat.{div-le_self}
use native.Mathlib.Omega.{arith}
use borrow.Author.Tests.{eq-eqb, le-leb, le-ltb}
use lib.ListN.{length, drop, replicate, length-replicate}
use lib.IntN.{ℤ, pos}
use Rattle.std.specs.Prelude.{Some, Result, Ok}
use Rattle.answers.specs.Checks.{all_hold, Outcome}
use Rattle.answers.specs.Range.{all_within}
use Rattle.answers.specs.Unit.{block_limit, turn_room, largest_gain}
use Rattle.tree.specs.Prototype.{published}
use Rattle.lines.specs.Cascade.{Ran, run}
use Rattle.lines.proofs.Lengths.{run_places}
use Rattle.frames.specs.Frames.{side_of, behind, places_of}
use Rattle.frames.proofs.Laws.{behind-length, places_length}
use Rattle.octave.specs.declared.block.BlockError.{BlockError}
use Rattle.octave.specs.Memory.{line_length, side_places, memory_of, prepared, accepts}
use Rattle.octave.specs.Block.{frames_of, block_checks, equalised}
use Rattle.octave.proofs.Memories.{accepts_is}
use Rattle.history.proofs.Regions.{run_inside}
use Rattle.samples.specs.Channels.{count_of}
use Rattle.samples.specs.declared.channels.Channels.{Channels}
use Rattle.samples.specs.Samples.{bytes_of}
use Rattle.wave_writer.proofs.Counts.{count_allowed_lem}
use Rattle.arguments.specs.Arguments.{bands}
use Rattle.blocks.specs.Equalise.{zeros, block_for, equalise_of}
use Rattle.blocks.proofs.Outputs.{all_in_range, equalised_long, held_ran, held_whole}
use Rattle.blocks.proofs.OneBlock.{equalised_is}

-- ---- the block

-- a memory for eight bands and these channels that a block takes
pub record Ready (channels : Channels) (m : List ℤ) : Type 0 where
  pub at : ℕ
  pub lines : List ℤ
  pub memory_is : m ≡ memory_of (record { count = pos bands; channels = pos (count_of channels); position = pos at; lines = lines })
  pub inside : at < line_length bands
  pub whole : length lines ≡ count_of channels * side_places bands

pub prepared_ready : (channels : Channels) → Ready channels (prepared bands (count_of channels))
prepared_ready channels =
    let places = count_of channels * side_places bands in
    record { at = 0; lines = replicate places (pos 0); memory_is = refl; inside = omega arith; whole = length-replicate places (pos 0) }

pub record Allowed (gains : List ℤ) : Type 0 where
  pub eight : length gains ≡ bands
  pub each : all_within (pos 0) (pos largest_gain) gains ≡ true

module _ (channels : Channels) where
  -- no check of such a memory's block fails
  pub checks_hold : (m gains input before : List ℤ) → Ready channels m → Allowed gains → length before ≡ length input → length input % count_of channels ≡ 0 → length input ≤ block_limit →
      all_in_range input ≡ true → all_hold (block_checks m gains input before) ≡ true
  unfolding all_hold
  checks_hold m gains input before s g alike framed short range =
      subst (λ (q : List ℤ). all_hold (block_checks q gains input before) ≡ true) (sym s.memory_is)
      (rw (
        kept,
        eq-eqb (length gains) bands g.eight,
        g.each,
        eq-eqb (length before) (length input) alike,
        eq-eqb (length input % count_of channels) 0 framed,
        le-leb (length input / count_of channels) block_limit (omega (arith, div-le_self (length input) (count_of channels))),
        range,
      ))
    where
      m' : List ℤ
      m' = memory_of (record { count = pos bands; channels = pos (count_of channels); position = pos s.at; lines = s.lines })

      kept : accepts m' ≡ true
      kept = accepts_is m' refl (count_allowed_lem channels) (omega (arith, s.whole)) (le-ltb s.at 0 (omega arith)) s.inside

  -- .. and what it leaves is such a memory again
  still_ready : (m gains input : List ℤ) → Ready channels m → Ready channels (equalised m gains input).0
  still_ready m gains input s =
      let c = count_of channels in
      let size = line_length bands in
      let k = side_places bands in
      let r : ℕ → Ran = λ i. run published size (bands - 1) s.at (places_of k i s.lines) (side_of c i input) in
      subst (λ (q : List ℤ). Ready channels (equalised q gains input).0) (sym s.memory_is)
      (record {
        at = (r 0).position;
        lines = behind c (λ i. (r i).places);
        memory_is = refl;
        inside = run_inside published size (bands - 1) s.at (places_of k 0 s.lines) (side_of c 0 input) s.inside;
        whole =
            behind-length c k (λ i. (r i).places)
            (λ i h. run_places published size (bands - 1) s.at (places_of k i s.lines) (side_of c i input) (places_length c k i s.lines s.whole h));
      })

  -- what a block of the program comes to
  pub record BlockTaken (m gains input : List ℤ) (skipped : ℕ) (stored : List ℕ) : Type 0 where
    pub accepts : (block_for m gains input).result ≡ Ok (frames_of m input)
    pub long : length (block_for m gains input).lent.1 ≡ length input
    pub ready : Ready channels (block_for m gains input).lent.0
    pub is : equalise_of m gains input skipped stored ≡
        record { result = Some (length stored); lent = ((block_for m gains input).lent.0, bytes_of (drop skipped (block_for m gains input).lent.1)) }

  pub block_taken : (m gains input : List ℤ) (skipped : ℕ) (stored : List ℕ) → Ready channels m → Allowed gains → length input % count_of channels ≡ 0 → length input ≤ turn_room →
      all_in_range input ≡ true → skipped ≤ length input → length stored ≡ 3 * (length input - skipped) → BlockTaken m gains input skipped stored
  block_taken m gains input skipped stored s g framed short range within fits =
      let held = checks_hold m gains input (zeros input) s g (length-replicate (length input) (pos 0)) framed (omega arith) range in
      let ran = held_ran m gains input (zeros input) held in
      record {
        accepts = ap (λ (b : Outcome (Result ℕ BlockError) (List ℤ × List ℤ)). b.result) ran;
        long = ap (λ (b : Outcome (Result ℕ BlockError) (List ℤ × List ℤ)). length b.lent.1) ran ∙ equalised_long m gains input (held_whole m gains input (zeros input) held);
        ready = subst (λ (b : Outcome (Result ℕ BlockError) (List ℤ × List ℤ)). Ready channels b.lent.0) (sym ran) (still_ready m gains input s);
        is = equalised_is m gains input skipped stored (record { short = short; within = within; fit = fits }) held;
      }
