-- `pending::count_from` meets its contract: the split's block shifted down, then the blocks above it.
use mathlib.Core.Path.{◌∙◌}
use native.Mathlib.Omega.{arith}
use Rattle.sets.specs.Words.{held}
use Rattle.bitvec.proofs.Counting.{part_count}
use Rattle.pending.proofs.Settling.{none_from, onward_few, parts_from}
use Rattle.pending.proofs.count_from.Goals as goal

pub returns-then-k-i : goal.returns-then-k-i
returns-then-k-i c = none_from _ _ _ (omega (arith, c.if-k-i.true, c.into_index-i.ensures))

pub returns : goal.returns
returns c =
    parts_from _ _ _ _ _ _ _ c.into_index-i.ensures c.into_bit.ensures (omega (arith, c.if-k-i.false))
    (c.type_inv.bits _).fits c.ones_of-first.ensures
    (c.count_ones.ensures ∙ part_count c.args.bits.now _ _ (omega (arith, c.if-k-i.false)) c.requires.1)

pub overflow_add-result : goal.overflow_add-result
overflow_add-result c = omega (arith, returns c, onward_few (held c.args.bits.now) c.args.split _ c.requires.0)
