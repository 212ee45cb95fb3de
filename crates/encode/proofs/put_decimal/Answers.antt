-- `encode::put_decimal` meets its contract: the digits are found from the last to the first.
use Rattle.encode.proofs.Decimals.{digits_left, digits_put, digits_turn}
use Rattle.encode.proofs.Pieces.{puts_at_then}
use Rattle.encode.proofs.put_decimal.Goals as goal

pub overflow_sub-i : goal.overflow_sub-i
overflow_sub-i c = digits_left c.loop-rest.i c.loop-rest-test.true c.loop-rest.invariant

pub loop-rest-preserved : goal.loop-rest-preserved
loop-rest-preserved c =
    let l = c.loop-rest in
    digits_turn l.i c.hex_digit.result c.loop-rest-test.true c.hex_digit.ensures l.invariant

pub returns : goal.returns
returns c =
    let l = c.loop-rest in
    puts_at_then c.put-first.ensures (digits_put l.i c.hex_digit-2.result c.loop-rest-test.false c.hex_digit-2.ensures l.invariant c.put.ensures)
