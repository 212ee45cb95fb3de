-- `Line::layout_of` meets its contract: part by part.
use native.Mathlib.Omega.{arith}
use Rattle.judge_row.proofs.Lengths.{row_sizes, layout_is}
use Rattle.judge_row.proofs.Line.layout_of.Goals as goal

pub of-requires : goal.of-requires
of-requires c = (row_sizes _ c.args.self.listed).0

pub nonzero_div-row : goal.nonzero_div-row
nonzero_div-row c = (row_sizes _ c.args.self.listed).1

pub overflow_mul-at : goal.overflow_mul-at
overflow_mul-at c = omega (arith, (row_sizes _ c.args.self.listed).2)

pub overflow_add-at : goal.overflow_add-at
overflow_add-at c = omega (arith, (row_sizes _ c.args.self.listed).2)

pub returns : goal.returns
returns c = layout_is c.args.row.now _ c.args.self.listed c.of.ensures c.min.ensures c.saturating_sub.ensures
