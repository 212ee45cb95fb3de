-- `bitchunks::first_xor_ones` meets its contract: the members in the blocks passed are counted, and are fewer than m.
use native.Mathlib.Omega.{arith}
use Rattle.bitchunks.proofs.Totals.{total_few, total_turn, first_few, first_full}
use Rattle.bitchunks.proofs.first_xor_ones.Goals as goal

pub overflow_add-total : goal.overflow_add-total
overflow_add-total g c =
    omega (arith, total_few (total_turn c.loop-block.invariant.0 _ c.in-Some.ensures (omega arith) c.ones_of-total.ensures), c.requires.walks.1.small)

pub returns-then-m-total : goal.returns-then-m-total
returns-then-m-total g c =
    let l = c.loop-block.invariant in
    first_full _ _ l.0 l.1 c.in-Some.ensures c.ones_of-total.ensures c.if-m-total.true c.blocks_for_last.ensures

pub loop-block-preserved : goal.loop-block-preserved
loop-block-preserved g c = (total_turn c.loop-block.invariant.0 _ c.in-Some.ensures (omega arith) c.ones_of-total.ensures, c.if-m-total.false)

pub returns : goal.returns
returns g c = first_few c.loop-block.invariant.0 c.loop-block.invariant.1 c.in_default.ensures
