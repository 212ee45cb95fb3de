-- The reach of a row meets its contract: the blocks and the next entry bound what is left.
use Rattle.sets.proofs.Bytes.{length_numbers}
use Rattle.bitchunks.proofs.Walk.{reach_end, reach_entry}
use Rattle.bitchunks.proofs.Rows.{entry_at}
use Rattle.bitchunks.proofs.RowBlocksBitChunks.reach.Goals as goal

pub returns-then-passed-layout : goal.returns-then-passed-layout
returns-then-passed-layout c =
    let l = c.if-passed-layout.true in
    reach_entry c.requires.1 c.bits_end-bits.ensures _ (length_numbers 8 _ _) _ _ _
    (length_numbers _ _ _) l
    (entry_at _ l _ _ c.row_entry.ensures) c.into_index.ensures c.max.ensures

pub returns : goal.returns
returns c = reach_end c.requires.1 c.bits_end-bits.ensures _ (length_numbers 8 _ _) (length_numbers _ _ _) c.if-passed-layout.false
