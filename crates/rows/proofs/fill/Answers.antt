-- `rows::fill` meets its contract: entries and blocks as in the row, and zeros behind them.
use native.Mathlib.Omega.{arith}
use Rattle.bitvec.proofs.Filling.{zeroed_fill}
use Rattle.rows.proofs.Filling.{blocks_low, fill_asks, fill_becomes}
use Rattle.rows.proofs.fill.Goals as goal

pub from_bytes-requires : goal.from_bytes-requires
from_bytes-requires c = fill_asks c.requires.room c.requires.readable

pub slice_bounds-fill-count-2 : goal.slice_bounds-fill-count-2
slice_bounds-fill-count-2 c = blocks_low c.requires.readable

pub slice_bounds-fill-start-2 : goal.slice_bounds-fill-start-2
slice_bounds-fill-start-2 c = blocks_low c.requires.readable

pub returns : goal.returns
returns c =
    fill_becomes c.requires.room c.requires.readable c.read_entries.ensures (zeroed_fill _ _ _ (omega arith) (omega (arith, c.read_entries.auto.top, c.requires.room.cells)) c.fill.ensures.after)
    c.into_usize-boundary.ensures c.from_bytes.ensures (zeroed_fill _ _ _ (blocks_low c.requires.readable) (omega (arith, c.from_bytes.auto.blocks, c.requires.room.blocks_in)) c.fill-2.ensures.after)
    (λ i. (c.type_inv.blocks i).fits)
