-- `pending::compact` meets its contract: what is taken out of the blocks again is what stands at or above the split.
use native.Mathlib.Omega.{arith}
use Rattle.bitvec.proofs.Filling.{zeroed_fill}
use Rattle.pending.proofs.Compacting.{Taken, take_none, take_some, fold_fits, compacted}
use Rattle.bitvec.proofs.Filling.{zeroed_fill}
use Rattle.pending.proofs.compact.Goals as goal
use Rattle.bitvec.proofs.Filling.{zeroed_fill}
use Rattle.pending.proofs.compact.Goals.{Joined-count-gt0, else-count-gt0, then-count-gt0}

-- what stands at or above the split is taken out
is_taken : (c : Joined-count-gt0) →
    let r = c.settle-next.result in
    let a = c.args in
    Taken a.k r.split r.count a.pending.now c.toggle_all.new.blocks c.if-count-gt0.pending c.if-count-gt0.bits
is_taken c =
    elim c.if-count-gt0.branch [
      | then-count-gt0 w ↦ rw (w.pending-is, w.bits-is) (take_some c.settle-next.ensures w.if-count-gt0.true w.lift.ensures)
      | else-count-gt0 w ↦ rw (w.pending-is, w.bits-is) (take_none c.settle-next.ensures _ w.if-count-gt0.false)
    ]

pub toggle_all-requires : goal.toggle_all-requires
toggle_all-requires c = fold_fits c.requires.room c.requires.staged

pub returns : goal.returns
returns c =
    let t = is_taken (goal.at.returns c).Joined-count-gt0 in
    compacted c.requires.room c.requires.staged c.toggle_all.ensures c.settle-next.ensures t
    (zeroed_fill _ _ _ (omega (arith, c.settle-next.ensures.few)) (omega (arith, t.pending_length, c.requires.room.cells)) c.fill.ensures.after)
