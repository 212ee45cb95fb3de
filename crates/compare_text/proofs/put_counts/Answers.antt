-- `compare_text::put_counts` meets its contract: four lines, one after the other.
use Rattle.encode.proofs.Pieces.{puts_then}
use Rattle.compare_text.proofs.put_counts.Goals as goal

pub returns : goal.returns
returns c =
    puts_then (puts_then (puts_then c.put_line.ensures c.put_line-2.ensures) c.put_line-3.ensures)
    c.put_line-4.ensures
