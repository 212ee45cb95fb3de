-- `judge_builder::builder` meets its contract: the areas are judged before the builder in them.
use mathlib.Core.Path.{sym, ◌∙◌}
use mathlib.Core.Bool.{true, false}
use borrow.Author.Tests.{not-true, not-false}
use Rattle.sizes.proofs.Laws.{handed_on}
use Rattle.judge_builder.proofs.Verdicts.{areas_room, builder_no_areas, builder_rest}
use Rattle.judge_builder.proofs.builder.Goals as goal

pub is_builder-requires : goal.is_builder-requires
is_builder-requires c = areas_room _ _ _ _ (sym c.areas.ensures ∙ c.in_ok-s.was)

pub returns-then-not-is_builder : goal.returns-then-not-is_builder
returns-then-not-is_builder c =
    builder_rest _ _ _ _ _ (sym c.areas.ensures ∙ c.in_ok-s.was)
    false (sym (not-true _ c.if-not-is_builder.true-raw) ∙ c.is_builder.ensures)

pub returns : goal.returns
returns c =
    builder_rest _ _ _ _ _ (sym c.areas.ensures ∙ c.in_ok-s.was)
    true (sym (not-false _ c.if-not-is_builder.false-raw) ∙ c.is_builder.ensures)

pub returns-in_err-s : goal.returns-in_err-s
returns-in_err-s c = handed_on _ c.from_residual.ensures.1 ∙ builder_no_areas _ _ _ _ _ (sym c.areas.ensures ∙ c.in_err-s.was)
