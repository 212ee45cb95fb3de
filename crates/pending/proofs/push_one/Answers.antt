-- `pending::push_one` meets its contract: the bit flips, or the bucket is stored, in a compacted area if need be.
use Rattle.pending.proofs.Pushing.{push_low, push_high, push_full}
use Rattle.pending.proofs.push_one.Goals as goal

pub returns-then-bucket-stage : goal.returns-then-bucket-stage
returns-then-bucket-stage c = push_low c.requires.room c.requires.staged _ c.requires.level_nonzero.2 _ _ c.if-bucket-stage.true c.toggle.ensures

pub returns-then-stage-m : goal.returns-then-stage-m
returns-then-stage-m c =
    push_high c.requires.room c.requires.staged _ c.requires.level_nonzero.2 _ _ _ c.if-bucket-stage.false c.if-stage-m.true
    c.store.ensures

pub returns : goal.returns
returns c =
    push_full c.requires.room _ c.requires.level_nonzero.2 _ _ c.if-bucket-stage.false c.if-stage-m.false c.compact-room.ensures
    c.store-2.ensures
