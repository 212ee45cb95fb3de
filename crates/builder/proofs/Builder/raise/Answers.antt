-- `builder::Builder::raise` meets its contract: judged, then the higher of two splits.
use mathlib.Core.Path.{sym, ◌∙◌}
use native.Mathlib.Omega.{arith}
use Rattle.sizes.proofs.Laws.{handed_on}
use Rattle.builder.proofs.Outcomes.{raise_refused, raise_past, raise_next}
use Rattle.builder.proofs.Builder.raise.Goals as goal

pub returns-then-s-to : goal.returns-then-s-to
returns-then-s-to c = raise_past _ _ _ _ _ (rw c.from.ensures at (sym c.builder.ensures ∙ c.in_ok-s.was)) c.if-s-to.true

pub returns : goal.returns
returns c = raise_next _ _ _ _ _ (rw c.from.ensures at (sym c.builder.ensures ∙ c.in_ok-s.was)) _ c.if-s-to.false (omega arith)

pub returns-in_err-s : goal.returns-in_err-s
returns-in_err-s c = handed_on _ c.from_residual.ensures.1 ∙ raise_refused _ _ _ _ _ (rw c.from.ensures at (sym c.builder.ensures ∙ c.in_err-s.was))
