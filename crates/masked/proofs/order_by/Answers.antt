-- `masked::order_by` meets its contract: the larger part decides.
use Rattle.masked.proofs.Differing.{order_greater, order_less}
use Rattle.masked.proofs.order_by.Goals as goal

pub returns-then-other-held : goal.returns-then-other-held
returns-then-other-held c = order_greater c.in-Some.is c.if-other-held.true

pub returns-else-other-held : goal.returns-else-other-held
returns-else-other-held c = order_less c.in-Some.is c.if-other-held.false
