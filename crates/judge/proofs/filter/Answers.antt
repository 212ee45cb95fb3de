-- `judge::filter` meets its contract.
use mathlib.Core.Path.{sym, ◌∙◌}
use borrow.Author.Tests.{not-true, not-false}
use Rattle.judge.proofs.Verdicts.{areas_room, filter_no_areas, filter_unsound, filter_fits}
use Rattle.sizes.proofs.Laws.{handed_on}
use Rattle.judge.proofs.filter.Goals as goal

pub is_filter-requires : goal.is_filter-requires
is_filter-requires c = areas_room _ _ _ _ (sym c.areas.ensures ∙ c.in_ok-s.was)

pub returns-then-not-is_filter : goal.returns-then-not-is_filter
returns-then-not-is_filter c =
    filter_unsound _ _ _ _ _ (sym c.areas.ensures ∙ c.in_ok-s.was)
    (sym (not-true _ c.if-not-is_filter.true-raw) ∙ c.is_filter.ensures)

pub returns : goal.returns
returns c =
    filter_fits _ _ _ _ _ (sym c.areas.ensures ∙ c.in_ok-s.was)
    (sym (not-false _ c.if-not-is_filter.false-raw) ∙ c.is_filter.ensures)

pub returns-in_err-s : goal.returns-in_err-s
returns-in_err-s c = handed_on _ c.from_residual.ensures.1 ∙ filter_no_areas _ _ _ _ _ (sym c.areas.ensures ∙ c.in_err-s.was)
