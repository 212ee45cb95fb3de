-- `diff_count::Filter::toggle` meets its contract: judged, then flipped.
use mathlib.Core.Path.{sym, ◌∙◌}
use borrow.Author.Tests.{not-true, not-false}
use Rattle.diff_count.proofs.Outcomes.{toggle_refused, toggle_past, toggle_asks, toggle_ready}
use Rattle.diff_count.proofs.Filter.toggle.Goals as goal

pub returns-then-not-all_below : goal.returns-then-not-all_below
returns-then-not-all_below c =
    toggle_past _ _ _ _ _ (rw c.from-tally.ensures at (sym c.filter.ensures ∙ c.in_ok-s.was))
    (sym (not-true _ c.if-not-all_below.true-raw) ∙ c.all_below.ensures)

pub flip_all-next-requires : goal.flip_all-next-requires
flip_all-next-requires c =
    let asked = toggle_asks _ _ _ c.args.list.now _ (sym c.filter.ensures ∙ c.in_ok-s.was)
    (sym (not-false _ c.if-not-all_below.false-raw) ∙ c.all_below.ensures) in record { room = asked.0; boundary_value = asked.1.0; below = asked.1.1 }

pub returns : goal.returns
returns c =
    rw c.of.ensures
    (toggle_ready _ _ _ _ _ (rw c.from-tally.ensures at (sym c.filter.ensures ∙ c.in_ok-s.was))
    (sym (not-false _ c.if-not-all_below.false-raw) ∙ c.all_below.ensures) (rw c.from-tally.ensures at c.flip_all-next.ensures))

pub returns-in_err-s : goal.returns-in_err-s
returns-in_err-s c =
    toggle_refused _ _ _ _ _ c.from_residual.ensures.1
    (rw c.from-tally.ensures at (sym c.filter.ensures ∙ c.in_err-s.was))
