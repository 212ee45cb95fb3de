-- `judge_builder::builder_and_target` meets its contract: tests of one number may stand in any order.
use mathlib.Core.Path.{sym, ◌∙◌}
use Rattle.sizes.proofs.Laws.{handed_on}
use Rattle.judge_builder.proofs.Verdicts.{target_no_areas, target_rest}
use Rattle.judge_builder.proofs.builder_and_target.Goals as goal

pub returns : goal.returns
returns c =
    c.builder.ensures
    ∙ target_rest _ _ _ _ _ _ _ (sym c.areas.ensures ∙ c.in_ok-areas.was)

pub returns-in_err-areas : goal.returns-in_err-areas
returns-in_err-areas c = handed_on _ c.from_residual.ensures.1 ∙ target_no_areas _ _ _ _ _ _ _ (sym c.areas.ensures ∙ c.in_err-areas.was)
