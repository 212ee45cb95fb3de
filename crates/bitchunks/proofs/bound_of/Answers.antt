-- `bitchunks::bound_of` meets its contract: by cases of its test.
use borrow.Author.Tests.{le-leb, lt-leb}
use Rattle.bitchunks.proofs.bound_of.Goals as goal

pub returns-then-count-m : goal.returns-then-count-m
returns-then-count-m c = rw (le-leb _ _ c.if-count-m.true)

pub returns : goal.returns
returns c = rw (lt-leb _ _ c.if-count-m.false)
