-- `bitvec::or` meets its contract: the cells before the one in hand are joined.
use native.Mathlib.Numerals.{add-one}
use lib.Seq.{take-suc}
use Rattle.std.proofs.lemmas.Fn.{FoldsTo-push}
use Rattle.bitvec.proofs.or.Goals as goal

pub loop-cell-preserved : goal.loop-cell-preserved
loop-cell-preserved g c =
    let t = c.loop-cell.invariant in
    let x = c.cell-item.result in (
      t.0,
      t.1,
      rw (add-one, take-suc c.args.cells.now c.loop-cell.cell-index x c.loop-cell-test.true, ← c.cell-item.is)
          (FoldsTo-push _ _ _ _ x _ t.2 c.bitor-all.ensures),
    )
