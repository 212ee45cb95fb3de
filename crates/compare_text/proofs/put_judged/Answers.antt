-- `compare_text::put_judged` meets its contract: figures, or a refusal.
use mathlib.Core.Path.{◌∙◌}
use Rattle.compare_text.proofs.Putting.{figures_put, refusal_put}
use Rattle.compare_text.proofs.put_judged.Goals as goal

pub returns-in-Ok : goal.returns-in-Ok
returns-in-Ok c = figures_put c.new-text.ensures c.in-Ok.is c.put_counts.ensures c.put_outer.ensures

pub returns-in-Err : goal.returns-in-Err
returns-in-Err c = refusal_put c.new-text.ensures c.in-Err.is (c.from.ensures ∙ c.number.ensures) c.put_line.ensures
