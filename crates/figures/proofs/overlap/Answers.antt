-- `figures::overlap` meets its contract: the two ways of its definition.
use borrow.Author.Tests.{eq-eqb, ne_eqb}
use Rattle.sets.specs.Text.{overlap}
use Rattle.figures.proofs.overlap.Goals as goal

pub returns-then-all-eq0 : goal.returns-then-all-eq0
unfolding overlap
returns-then-all-eq0 c = rw (eq-eqb _ _ c.if-all-eq0.true)

pub returns : goal.returns
unfolding overlap
returns c = rw (ne_eqb _ _ c.if-all-eq0.false)
