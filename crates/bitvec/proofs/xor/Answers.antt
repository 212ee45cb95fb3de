-- `bitvec::xor` meets its contract: the first i cells are those of the two sources, one with the other.
use mathlib.Core.Path.{refl, ◌∙◌}
use native.Mathlib.Omega.{arith}
use Rattle.sets.proofs.Lists.{tabulate_suc}
use Rattle.bitvec.proofs.Filling.{fill_start, fill_turn, fill_end, filled_all}
use Rattle.sets.specs.Sets.{from}
use Rattle.bitvec.specs.Cells.{xored}
use Rattle.bitvec.proofs.xor.Goals as goal

pub loop-i-init : goal.loop-i-init
unfolding xored from
loop-i-init c = fill_start _ _ _ 0 (omega arith) refl refl

pub loop-i-preserved : goal.loop-i-preserved
unfolding xored
loop-i-preserved c = fill_turn _ (omega arith) (omega arith) (tabulate_suc c.loop-i.i _) c.loop-i.invariant

pub returns : goal.returns
returns c = fill_end (omega arith) c.loop-i.invariant ∙ filled_all _ c.args.to.now
