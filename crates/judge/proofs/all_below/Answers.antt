-- `judge::all_below` meets its contract: a cell has 32 bits.
use mathlib.Core.Path.{sym}
use native.Mathlib.Omega.{arith}
use Rattle.sets.proofs.Tests.{below_all}
use Rattle.judge.proofs.all_below.Goals as goal

pub returns-in-Err : goal.returns-in-Err
returns-in-Err c = sym (below_all _ c.args.list.now (λ i _. let h = c.in-Err.ensures in omega (arith, c.type_inv.list i)))
