-- `masked::order` meets its contract: what the search found tells the order.
use mathlib.Core.Path.{◌∙◌}
use Rattle.masked.proofs.Differing.{decides_order}
use Rattle.masked.proofs.order.Goals as goal

pub returns : goal.returns
returns g c = c.order_by.ensures ∙ decides_order _ _ _ _ _ c.deciding_block.result c.deciding_block.ensures
