-- The bytes of the next turn came, its block was handed over, and the run stands further on.
use Rattle.std.proofs.Common.{sym, arith}
use Rattle.turning.proofs.Standing.{limits, at_fits, read_fits, start_fits, wanted_there, wanted_long, got_few, piece_long, piece_came, further}
use Rattle.turning.proofs.Storing.{stops}
use Rattle.turning.proofs.turn.one_turn.Goals as goal

pub overflow_add-start : goal.overflow_add-start
overflow_add-start g c = let most = (start_fits c.requires).fits in omega arith

pub slice_bounds-bytes-end : goal.slice_bounds-bytes-end
slice_bounds-bytes-end g c = wanted_there c.requires c.next_turn-turn.ensures

pub slice_bounds-fetch-end : goal.slice_bounds-fetch-end
slice_bounds-fetch-end g c = sym (wanted_long c.requires c.next_turn-turn.ensures)

pub put-requires : goal.put-requires
put-requires g c =
    let f = c.fetch-got in
    piece_came c.requires c.next_turn-turn.ensures f.result f.new.bytes f.auto.bytes f.ensures.upper_bound f.ensures.fetched f.ensures.bytes

pub overflow_add-result : goal.overflow_add-result
overflow_add-result g c =
    let l = limits c.requires c.next_turn-turn.ensures in
    at_fits c.requires _ (omega (arith, l.fed_few, l.skipped_most))

pub overflow_add-result-2 : goal.overflow_add-result-2
overflow_add-result-2 g c =
    let f = c.fetch-got in
    read_fits c.requires c.next_turn-turn.ensures f.result (got_few c.requires c.next_turn-turn.ensures f.result f.new.bytes f.auto.bytes f.ensures.upper_bound)

pub returns-in_err-put : goal.returns-in_err-put
returns-in_err-put g c =
    let f = c.fetch-got in
    let arrived = piece_came c.requires c.next_turn-turn.ensures f.result f.new.bytes f.auto.bytes f.ensures.upper_bound f.ensures.fetched f.ensures.bytes in
    stops c.put.new.memory c.in_err-put.field-0.0 c.from_residual.result c.in_err-put.was c.from_residual.ensures.1 arrived c.put.ensures

pub returns : goal.returns
returns g c =
    let f = c.fetch-got in
    let arrived = piece_came c.requires c.next_turn-turn.ensures f.result f.new.bytes f.auto.bytes f.ensures.upper_bound f.ensures.fetched f.ensures.bytes in
    let long = piece_long c.requires c.next_turn-turn.ensures f.result f.new.bytes f.auto.bytes f.ensures.upper_bound in
    further f.result (record { arrived = arrived; numbers = c.in_ok-put.ensures.0 }) long c.in_ok-put.ensures.1
