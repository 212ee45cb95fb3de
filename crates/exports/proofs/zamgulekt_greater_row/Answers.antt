-- `exports::zamgulekt_greater_row` meets its contract: it tells which row `greater_row` returns.
use Rattle.std.proofs.Common.{rules}
use Rattle.exports.proofs.Telling.{named}
use Rattle.exports.proofs.zamgulekt_greater_row.Goals as goal

pub returns : goal.returns
returns c = (search rules, named _ _ _ _ _)
