-- `lines::row_line` meets its contract: the bytes that the line spells are read as a row.
use mathlib.Core.Path.{sym}
use lib.Seq.{length-take-le}
use Rattle.lines.proofs.Paths.{malformed, missing, no_hex, row_in, row_told, there}
use Rattle.lines.proofs.row_line.Goals as goal

pub slice_bounds-row-end : goal.slice_bounds-row-end
slice_bounds-row-end c = row_in c.args.line.now _ c.from_hex.ensures (there c.ok_or.ensures.value c.in_ok-n.was)

pub slice_bounds-read-end : goal.slice_bounds-read-end
slice_bounds-read-end c = sym (length-take-le _ _ (row_in c.args.line.now _ c.from_hex.ensures (there c.ok_or.ensures.value c.in_ok-n.was)))

pub returns : goal.returns
returns c =
    row_told c.args.line.now _ c.from_hex.ensures _ _ _
    (there c.ok_or.ensures.value c.in_ok-n.was) c.requires.blocks_value c.read.ensures

pub returns-in_err-n : goal.returns-in_err-n
returns-in_err-n c =
    no_hex c.args.line.now _ c.from_hex.ensures _ _ _ (missing c.ok_or.ensures.value c.in_err-n.was)
    (malformed c.from_hex.result c.ok_or.ensures.value c.in_err-n.was _ c.from_residual.ensures.1)
