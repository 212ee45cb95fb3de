-- `Line::length_fits` meets its contract: by the three ranges of lengths.
use native.Mathlib.Omega.{arith}
use Rattle.judge_row.proofs.Lengths.{row_sizes, too_long, only_entries, with_blocks, too_short}
use Rattle.judge_row.proofs.Line.length_fits.Goals as goal

pub overflow_mul-end : goal.overflow_mul-end
overflow_mul-end c = omega (arith, (row_sizes _ c.args.self.listed).2)

pub returns-then-s-len : goal.returns-then-s-len
returns-then-s-len c = too_long _ _ _ c.args.self.listed c.if-s-len.true

pub nonzero_rem-result : goal.nonzero_rem-result
nonzero_rem-result c = (row_sizes _ c.args.self.listed).1

pub returns-then-len-end : goal.returns-then-len-end
returns-then-len-end c = only_entries _ _ _ c.args.self.listed c.if-s-len.false c.if-len-end.true

pub returns-then-end-len : goal.returns-then-end-len
returns-then-end-len c = with_blocks _ _ _ c.args.self.listed c.if-s-len.false c.if-len-end.false c.if-end-len.true

pub returns-else-end-len : goal.returns-else-end-len
returns-else-end-len c = too_short _ _ _ c.args.self.listed c.if-s-len.false c.if-len-end.false c.if-end-len.false
