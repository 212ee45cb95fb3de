-- `encode::put_hex` meets its contract: a space, and a turn for each digit.
use native.Mathlib.Omega.{arith}
use Rattle.encode.proofs.Hex.{hex_end, hex_turn}
use Rattle.encode.proofs.Pieces.{puts_at_then}
use Rattle.encode.proofs.put_hex.Goals as goal

pub loop-i-preserved : goal.loop-i-preserved
loop-i-preserved c =
    let l = c.loop-i in
    hex_turn c.args.n l.i c.loop-i-test.true c.hex_digit.ensures l.invariant c.put-end-in-loop-i.ensures

pub returns : goal.returns
returns c = puts_at_then c.put-end.ensures (hex_end c.args.n c.loop-i.i (omega arith) c.loop-i.invariant)
