-- `rows::write_entries` meets its contract: i entries are written.
use mathlib.Core.Path.{ap, ◌∙◌}
use mathlib.Core.List.{List}
use Prim.Native.Nat.{ℕ, ◌*◌}
use native.Mathlib.Omega.{arith}
use lib.Seq.{sets, take-length}
use Rattle.sets.specs.Row.{bytes_of}
use Rattle.unaligned.proofs.Runs.{written_start, written_turn, written_end}
use Rattle.bitchunks.specs.Rows.{width_bytes}
use Rattle.bitchunks.proofs.Rows.{entry_room}
use Rattle.rows.proofs.write_entries.Goals as goal

pub loop-i-init : goal.loop-i-init
loop-i-init c = written_start _ _ _ _ _

pub write_entry-requires : goal.write_entry-requires
write_entry-requires c = (entry_room _ c.loop-i-test.true (omega arith), c.requires.1 _ (omega arith))

pub loop-i-preserved : goal.loop-i-preserved
loop-i-preserved c =
    written_turn _ (c.loop-i.i * width_bytes c.args.width) (omega arith) (omega arith) (omega arith)
    c.write_entry.ensures c.loop-i.invariant

pub returns : goal.returns
returns c =
    written_end c.loop-i-test.false c.loop-i.invariant
    ∙ ap (λ (x : List ℕ). sets c.args.to.now 0 (bytes_of (width_bytes c.args.width) x)) (take-length c.args.top.now)
