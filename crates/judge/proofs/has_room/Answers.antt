-- `judge::has_room` meets its contract.
use borrow.Author.Tests.{le-leb, lt-leb}
use Rattle.judge.proofs.has_room.Goals as goal

pub returns-then-s-top : goal.returns-then-s-top
returns-then-s-top c = rw (le-leb _ _ c.if-s-top.true)

pub returns-else-s-top : goal.returns-else-s-top
returns-else-s-top c = rw (lt-leb _ _ c.if-s-top.false)
