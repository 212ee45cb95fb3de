-- `builder::Builder::push` meets its contract: judged, then pushed one after the other.
use mathlib.Core.Path.{sym, ◌∙◌}
use mathlib.Core.List.{[]}
use borrow.Author.Tests.{not-true, not-false}
use Rattle.builder.proofs.Outcomes.{push_refused, push_past, level_fits, push_asks, push_next}
use Rattle.builder.proofs.Builder.push.Goals as goal

pub returns-then-not-all_below : goal.returns-then-not-all_below
returns-then-not-all_below c =
    push_past _ _ _ _ _ (rw c.from-stage.ensures at (sym c.builder.ensures ∙ c.in_ok-s.was))
    (sym (not-true _ c.if-not-all_below.true-raw) ∙ c.all_below.ensures)

pub overflow_shl-s : goal.overflow_shl-s
overflow_shl-s c = level_fits _ _ _ [] _ (sym c.builder.ensures ∙ c.in_ok-s.was)

pub push_all-next-requires : goal.push_all-next-requires
push_all-next-requires c =
    let a = c.args in
    let asked = push_asks _ _ _ a.list.now _ (sym c.builder.ensures ∙ c.in_ok-s.was)
    (sym (not-false _ c.if-not-all_below.false-raw) ∙ c.all_below.ensures) in record { room = asked.0; staged = asked.1.0; level_nonzero = asked.1.1 }

pub returns : goal.returns
returns c =
    push_next _ _ _ _ _ (rw c.from-stage.ensures at (sym c.builder.ensures ∙ c.in_ok-s.was))
    (sym (not-false _ c.if-not-all_below.false-raw) ∙ c.all_below.ensures) (rw c.from-stage.ensures at c.push_all-next.ensures)

pub returns-in_err-s : goal.returns-in_err-s
returns-in_err-s c = push_refused _ _ _ _ _ _ c.from_residual.ensures.1 (rw c.from-stage.ensures at (sym c.builder.ensures ∙ c.in_err-s.was))
