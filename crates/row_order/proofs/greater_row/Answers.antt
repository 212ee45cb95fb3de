-- `row_order::greater_row` meets its contract: the order names the row that is handed back.
use mathlib.Core.Path.{sym, ap, ◌∙◌}
use Rattle.std.specs.Prelude.{Ok}
use Rattle.row_order.proofs.Theorems.{greater_equal, greater_greater, greater_less, greater_refused}
use Rattle.row_order.proofs.greater_row.Goals as goal

pub returns-in-Ok-Less : goal.returns-in-Ok-Less
returns-in-Ok-Less c = sym (greater_less _ _ _ _ _ (sym c.cmp_rows.ensures ∙ c.in-Ok-Less.is ∙ ap Ok c.in-Ok-Less.field-0-is))

pub returns-in-Ok-Equal : goal.returns-in-Ok-Equal
returns-in-Ok-Equal c = sym (greater_equal _ _ _ _ _ (sym c.cmp_rows.ensures ∙ c.in-Ok-Equal.is ∙ ap Ok c.in-Ok-Equal.field-0-is))

pub returns-in-Ok-Greater : goal.returns-in-Ok-Greater
returns-in-Ok-Greater c = sym (greater_greater _ _ _ _ _ (sym c.cmp_rows.ensures ∙ c.in-Ok-Greater.is ∙ ap Ok c.in-Ok-Greater.field-0-is))

pub returns-in-Err : goal.returns-in-Err
returns-in-Err c = sym (greater_refused _ _ _ _ _ (sym c.cmp_rows.ensures ∙ c.in-Err.is))
