-- `bitvec::lift` meets its contract: `count` buckets are taken out, and above the block in hand none is left.
use Prim.Native.Nat.{◌<◌}
use native.Mathlib.Omega.{arith}
use Rattle.bitvec.proofs.Lifting.{start, down, turn, full, emptied}
use Rattle.bitvec.proofs.lift.Goals as goal
use Rattle.bitvec.proofs.lift.Goals.{Else-block-eq0}

-- a block that is not 0 is in hand
index : (c : Else-block-eq0) → c.loop-count.i < c.args.n
index c = c.loop-count.invariant.is_read (omega arith)

pub loop-count-init : goal.loop-count-init
loop-count-init c = start _ _ _ _

pub returns-then-i-eq0 : goal.returns-then-i-eq0
returns-then-i-eq0 c =
    emptied c.requires c.loop-count.invariant c.if-block-eq0.true _ c.occupied-i.ensures (omega arith) (omega arith)

pub loop-count-preserved-then-block-eq0 : goal.loop-count-preserved-then-block-eq0
loop-count-preserved-then-block-eq0 c =
    down c.requires c.loop-count.invariant c.if-block-eq0.true _ c.occupied-i.ensures (omega arith)

pub into_block-block-requires : goal.into_block-block-requires
into_block-block-requires c = c.from_block_msb-bit.ensures.small

pub offset_bounds-blocks-i-in-loop-count : goal.offset_bounds-blocks-i-in-loop-count
offset_bounds-blocks-i-in-loop-count c = omega (arith, index (goal.at.offset_bounds-blocks-i-in-loop-count c).Else-block-eq0)

pub bounds-blocks-i-in-loop-count : goal.bounds-blocks-i-in-loop-count
bounds-blocks-i-in-loop-count c = omega (arith, index (goal.at.bounds-blocks-i-in-loop-count c).Else-block-eq0)

pub into_bucket-requires : goal.into_bucket-requires
into_bucket-requires c = omega (arith, index (goal.at.into_bucket-requires c).Else-block-eq0, c.from_block_msb-bit.ensures.small)

pub overflow_cast-top : goal.overflow_cast-top
overflow_cast-top c = omega (arith, index (goal.at.overflow_cast-top c).Else-block-eq0, c.from_block_msb-bit.ensures.small)

pub loop-count-preserved : goal.loop-count-preserved
loop-count-preserved c =
    turn c.requires c.loop-count.invariant _ (omega arith) (index (goal.at.loop-count-preserved c).Else-block-eq0)
    c.from_block_msb-bit.ensures _ _ c.into_bucket.ensures c.into_block-block.ensures

pub returns : goal.returns
returns c = full c.requires c.loop-count.invariant c.loop-count-test.false
