-- `judge_row::lowest_above` meets its contract: the lowest 1 of what is above the place.
use native.Mathlib.Omega.{arith}
use Rattle.judge_row.proofs.High.{lowest_is_next}
use Rattle.judge_row.proofs.lowest_above.Goals as goal

pub returns : goal.returns
returns c = lowest_is_next _ _ (omega arith) c.requires.1
