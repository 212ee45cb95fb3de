-- `bitvec::write_blocks` meets its contract: the first i blocks are written.
use mathlib.Core.Path.{ap, ◌∙◌}
use mathlib.Core.List.{List}
use Prim.Native.Nat.{ℕ, ◌+◌, ◌*◌}
use native.Mathlib.Omega.{arith}
use lib.Seq.{sets, take-length}
use Rattle.sets.specs.Row.{bytes_of}
use Rattle.unaligned.proofs.Runs.{written_start, written_turn, written_end}
use Rattle.bitvec.proofs.write_blocks.Goals as goal

pub loop-i-init : goal.loop-i-init
loop-i-init c = written_start _ _ _ _ _

pub loop-i-preserved : goal.loop-i-preserved
loop-i-preserved c =
    written_turn _ (c.args.at + 8 * c.loop-i.i) (omega arith) (omega arith) (omega arith) c.write.ensures c.loop-i.invariant

pub returns : goal.returns
returns c = written_end c.loop-i-test.false c.loop-i.invariant ∙ ap (λ (x : List ℕ). sets c.args.to.now c.args.at (bytes_of 8 x)) (take-length c.args.blocks.now)
