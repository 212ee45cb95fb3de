-- `compare_text::put_outer` meets its contract: three lines, the second piece by piece.
use Rattle.encode.proofs.Pieces.{puts_then}
use Rattle.compare_text.proofs.put_outer.Goals as goal

pub returns : goal.returns
returns c =
    puts_then
    (puts_then c.put_order.ensures (puts_then c.put.ensures (puts_then c.put_hex.ensures (puts_then c.put_hex-2.ensures c.put-2.ensures))))
    c.put_line.ensures
