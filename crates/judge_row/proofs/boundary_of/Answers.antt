-- `judge_row::boundary_of` meets its contract: the last of m entries, where there are so many.
use Rattle.bitchunks.proofs.Rows.{entry_at, entry_room}
use Rattle.judge_row.proofs.Entries.{entry_none, last_in}
use Rattle.judge_row.proofs.boundary_of.Goals as goal

pub returns-then-layout-m : goal.returns-then-layout-m
returns-then-layout-m c = entry_none _ _ _ _ c.if-layout-m.true

pub row_entry-requires : goal.row_entry-requires
row_entry-requires c = entry_room _ (last_in c.requires.1 c.if-layout-m.false) c.requires.0

pub returns : goal.returns
returns c = entry_at _ (last_in c.requires.1 c.if-layout-m.false) _ _ c.row_entry.ensures
