-- `judge_row::spare_fits` meets its contract.
use native.Mathlib.Omega.{arith}
use Rattle.judge_row.proofs.High.{spare_none, spare_tells}
use Rattle.judge_row.proofs.spare_fits.Goals as goal

pub returns-then-boundary-eq0 : goal.returns-then-boundary-eq0
returns-then-boundary-eq0 c = spare_none _ _ c.if-boundary-eq0.true

pub bounds-row-place : goal.bounds-row-place
bounds-row-place c = c.requires (omega (arith, c.if-boundary-eq0.false))

pub returns : goal.returns
returns c = spare_tells _ _ _ c.if-boundary-eq0.false c.unoccupied_bits.ensures
