-- `RowBlocks::block` meets its contract: a block below the first or past the last is 0.
use mathlib.Core.Path.{sym, ◌∙◌}
use native.Mathlib.Omega.{arith}
use Rattle.bitchunks.proofs.Walk.{bits_under}
use Rattle.bitchunks.proofs.Rows.{block_past, block_at}
use Rattle.bitchunks.proofs.RowBlocks.block.Goals as goal

pub returns-then-i-layout : goal.returns-then-i-layout
returns-then-i-layout c = sym (bits_under _ _ _ c.if-i-layout.true)

pub returns-then-layout-i : goal.returns-then-layout-i
returns-then-layout-i c =
    let l = c.args.self.now.layout in
    sym (block_past l.first l.n l.at _ c.args.self.now.row.now c.if-layout-i.true)

pub returns : goal.returns
returns c =
    let l = c.args.self.now.layout in
    c.read.ensures
    ∙ block_at l.first l.n l.at _ c.args.self.now.row.now c.if-i-layout.false
    (omega (arith, c.if-layout-i.false))
