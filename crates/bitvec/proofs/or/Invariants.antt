-- `bitvec::or` meets its contract: the cells before the one in hand are joined.
use lib.ListN.{take}
use Rattle.std.specs.List.{FoldsTo}
use Rattle.bitvec.proofs.or.Given as goal

abbrev pub invariant-loop-cell : goal.invariant-loop-cell
invariant-loop-cell g l = (none : _) × g.T.Default.is_default none × FoldsTo g.T.BitOr.bitor_gives none (take l.cell-index l.cells) l.all
