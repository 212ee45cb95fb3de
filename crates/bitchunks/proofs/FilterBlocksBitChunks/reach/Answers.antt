-- The reach of a filter meets its contract: the blocks and the next entry bound what is left.
use mathlib.Core.Path.{refl}
use Rattle.bitchunks.proofs.Walk.{reach_end, reach_entry}
use Rattle.bitchunks.proofs.FilterBlocksBitChunks.reach.Goals as goal

pub returns-then-passed-self : goal.returns-then-passed-self
returns-then-passed-self c =
    reach_entry c.requires.1 c.bits_end-bits.ensures _ refl _ _ _ refl c.if-passed-self.true
    c.into_usize.ensures c.into_index.ensures c.max.ensures

pub returns : goal.returns
returns c = reach_end c.requires.1 c.bits_end-bits.ensures _ refl refl c.if-passed-self.false
