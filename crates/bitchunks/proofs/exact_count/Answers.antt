-- `bitchunks::exact_count` meets its contract: the blocks hold the members that the top list has not.
use native.Mathlib.Omega.{arith}
use Rattle.bitchunks.proofs.Counts.{members_few, exact_is_lem}
use Rattle.bitchunks.proofs.exact_count.Goals as goal

pub overflow_add-result : goal.overflow_add-result
overflow_add-result c = omega (arith, members_few _ _ _ c.count_ones.ensures)

pub returns : goal.returns
returns c m k edge top all S z P H = exact_is_lem z P H _ c.count_ones.ensures
