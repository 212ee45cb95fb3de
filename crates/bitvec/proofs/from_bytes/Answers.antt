-- `bitvec::from_bytes` meets its contract: the first i cells are the numbers read.
use mathlib.Core.Path.{refl}
use Prim.Native.Nat.{◌+◌, ◌*◌}
use native.Mathlib.Omega.{arith}
use Rattle.unaligned.proofs.Runs.{numbers_next}
use Rattle.bitvec.proofs.Filling.{fill_start, fill_turn, fill_end}
use Rattle.bitvec.proofs.from_bytes.Goals as goal

pub loop-i-init : goal.loop-i-init
loop-i-init c = fill_start _ _ _ 0 (omega arith) refl refl

pub loop-i-preserved : goal.loop-i-preserved
loop-i-preserved c =
    fill_turn c.read.result c.requires.0 (omega arith)
    (numbers_next 8 c.loop-i.i c.args.at c.args.from.now (c.args.at + 8 * c.loop-i.i)
    c.read.result (omega arith) c.read.ensures)
    c.loop-i.invariant

pub returns : goal.returns
returns c = fill_end (omega arith) c.loop-i.invariant
