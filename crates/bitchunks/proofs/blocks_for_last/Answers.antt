-- `bitchunks::blocks_for_last` meets its contract: by cases of its two tests.
use borrow.Author.Tests.{eq-eqb, ne_eqb}
use Rattle.bitchunks.proofs.blocks_for_last.Goals as goal
use Rattle.bitchunks.proofs.blocks_for_last.Goals.{else-total-m-via-then-total-m+else-block-eq1, else-total-m-via-else-total-m}

pub returns-then-block-eq1 : goal.returns-then-block-eq1
returns-then-block-eq1 c = rw (eq-eqb _ _ c.if-total-m.true, c.if-block-eq1.true-raw)

pub returns : goal.returns
returns c =
    elim c.else-total-m.branch [
      | else-total-m-via-then-total-m+else-block-eq1 w ↦ rw (eq-eqb _ _ w.if-total-m.true, ne_eqb _ _ w.if-block-eq1.false)
      | else-total-m-via-else-total-m w ↦ rw (ne_eqb _ _ w.if-total-m.false)
    ]
