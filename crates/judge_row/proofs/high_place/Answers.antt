-- `judge_row::high_place` meets its contract: by the last block's bits above the highest allowed.
use Rattle.judge_row.proofs.High.{no_blocks, high_none, high_at}
use Rattle.judge_row.proofs.high_place.Goals as goal

pub returns-then-boundary-eq0 : goal.returns-then-boundary-eq0
returns-then-boundary-eq0 c = no_blocks _ _ _ _ c.if-boundary-eq0.true c.requires.0

pub returns-then-last-bit-lt2 : goal.returns-then-last-bit-lt2
returns-then-last-bit-lt2 c = high_none _ _ _ _ _ c.requires.0 c.if-boundary-eq0.false c.read-last.ensures c.if-last-bit-lt2.true

pub returns : goal.returns
returns c = high_at _ _ _ _ _ c.requires.0 c.if-boundary-eq0.false c.read-last.ensures c.lowest_above.ensures
