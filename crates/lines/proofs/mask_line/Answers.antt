-- `lines::mask_line` meets its contract: each path by its law.
use borrow.Author.Tests.{not-false, not-true}
use Rattle.lines.proofs.Paths.{mask_line_told, no_word}
use Rattle.lines.proofs.mask_line.Goals as goal

pub returns-then-not-starts_with : goal.returns-then-not-starts_with
returns-then-not-starts_with c = no_word c.args.line.now c.starts_with.ensures (not-true c.starts_with.result c.if-not-starts_with.true-raw)

pub returns : goal.returns
returns c =
    mask_line_told c.args.line.now c.starts_with.ensures
    (not-false c.starts_with.result c.if-not-starts_with.false-raw) c.two_decimals.ensures
