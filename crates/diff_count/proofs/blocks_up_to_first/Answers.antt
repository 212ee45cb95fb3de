-- `diff_count::blocks_up_to_first` meets its contract: what reaches over the first reaches over all.
use mathlib.Core.Path.{sym, ◌∙◌}
use Rattle.diff_count.proofs.Reaching.{up_to_none, up_to_first}
use Rattle.diff_count.proofs.blocks_up_to_first.Goals as goal

pub returns-then-is_empty : goal.returns-then-is_empty
returns-then-is_empty c = up_to_none _ _ (sym c.is_empty.ensures ∙ c.if-is_empty.true)

pub returns : goal.returns
returns c = up_to_first _ _ (sym c.is_empty.ensures ∙ c.if-is_empty.false) c.requires c.blocks_up_to.ensures
