-- `judge::areas` meets its contract.
use mathlib.Core.Path.{sym, ◌∙◌}
use borrow.Author.Tests.{not-true, not-false}
use Rattle.judge.proofs.Verdicts.{areas_unknown, areas_short, areas_fit}
use Rattle.sizes.proofs.Laws.{handed_on}
use Rattle.judge.proofs.areas.Goals as goal

pub returns-then-not-has_room : goal.returns-then-not-has_room
returns-then-not-has_room c =
    areas_short _ _ _ _ (sym c.sizes_of.ensures ∙ c.in_ok-s.was)
    (sym (not-true _ c.if-not-has_room.true-raw) ∙ c.has_room.ensures)

pub returns : goal.returns
returns c =
    areas_fit _ _ _ _ (sym c.sizes_of.ensures ∙ c.in_ok-s.was)
    (sym (not-false _ c.if-not-has_room.false-raw) ∙ c.has_room.ensures)

pub returns-in_err-s : goal.returns-in_err-s
returns-in_err-s c = handed_on _ c.from_residual.ensures.1 ∙ areas_unknown _ _ _ _ (sym c.sizes_of.ensures ∙ c.in_err-s.was)
