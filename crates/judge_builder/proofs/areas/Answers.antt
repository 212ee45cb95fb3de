-- `judge_builder::areas` meets its contract: 2M cells fit where M fit in half of them.
use mathlib.Core.Path.{◌∙◌}
use Rattle.judge_builder.proofs.Verdicts.{areas_half}
use Rattle.judge_builder.proofs.areas.Goals as goal

pub returns : goal.returns
returns c = c.areas.ensures ∙ areas_half _ _ _
