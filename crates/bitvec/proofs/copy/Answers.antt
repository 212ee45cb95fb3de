-- `bitvec::copy` meets its contract: the first i cells are the source's.
use mathlib.Core.Path.{refl, ◌∙◌}
use native.Mathlib.Omega.{arith}
use lib.Seq.{take-suc, take_all}
use Rattle.bitvec.proofs.Filling.{fill_start, fill_turn, fill_end, filled_all}
use Rattle.bitvec.proofs.copy.Goals as goal

pub loop-i-init : goal.loop-i-init
loop-i-init c = fill_start _ _ _ 0 (omega arith) refl refl

pub loop-i-preserved : goal.loop-i-preserved
loop-i-preserved c = fill_turn _ (omega arith) (omega arith) (take-suc _ c.loop-i.i 0 (omega arith)) c.loop-i.invariant

pub returns : goal.returns
returns c = fill_end (omega arith) c.loop-i.invariant ∙ filled_all _ c.args.to.now ∙ take_all _ c.args.source.now (omega arith)
