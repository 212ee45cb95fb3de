-- `judge_row::entries_fit` meets its contract: one turn of the loop for each entry.
use mathlib.Core.Path.{refl}
use Rattle.bitchunks.proofs.Rows.{entry_room}
use Rattle.judge_row.proofs.Entries.{fit_not, fit_turn, fit_end}
use Rattle.judge_row.proofs.entries_fit.Goals as goal

pub loop-i-init : goal.loop-i-init
loop-i-init c = refl

pub row_entry-requires : goal.row_entry-requires
row_entry-requires c = entry_room _ c.loop-i-test.true c.requires

pub returns-then-row_entry-limit : goal.returns-then-row_entry-limit
returns-then-row_entry-limit c = fit_not _ _ _ _ _ c.loop-i.invariant c.loop-i-test.true _ c.row_entry.ensures c.if-row_entry-limit.true

pub loop-i-preserved : goal.loop-i-preserved
loop-i-preserved c = fit_turn _ _ _ _ _ c.loop-i.invariant c.loop-i-test.true _ c.row_entry.ensures c.if-row_entry-limit.false

pub returns : goal.returns
returns c = fit_end _ _ _ _ _ c.loop-i.invariant c.loop-i-test.false
