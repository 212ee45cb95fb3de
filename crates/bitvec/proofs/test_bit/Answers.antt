-- `bitvec::test_bit` meets its contract.
use Rattle.sets.specs.Words.{digit, held}
use Rattle.bitvec.proofs.test_bit.Goals as goal

pub returns : goal.returns
unfolding held digit
returns c = rw (c.into_bit.ensures, c.into_index-i.ensures)
