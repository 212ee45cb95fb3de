-- `bitvec::toggle` meets its contract.
use Rattle.sets.specs.Words.{flip_bit}
use Rattle.bitvec.proofs.toggle.Goals as goal

pub returns : goal.returns
unfolding flip_bit
returns c = rw (c.into_block.ensures, c.into_bit-bit.ensures, c.into_index-i.ensures)
