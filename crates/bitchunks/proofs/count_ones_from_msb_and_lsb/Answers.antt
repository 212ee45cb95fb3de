-- `bitchunks::count_ones_from_msb_and_lsb` meets its contract: the blocks from the window's first one hold what the limited count
-- adds.
use mathlib.Core.Path.{ap, ◌∙◌}
use Prim.Native.Nat.{ℕ, ◌-◌}
use native.Mathlib.Omega.{arith}
use Rattle.bitvec.proofs.Counting.{part_count}
use Rattle.bitchunks.proofs.Counts.{members_few, filter_limited}
use Rattle.bitchunks.proofs.count_ones_from_msb_and_lsb.Goals as goal

pub overflow_add-total : goal.overflow_add-total
overflow_add-total c = omega (arith, members_few _ _ _ c.count_ones.ensures)

pub returns : goal.returns
returns c k edge top all S z P H el =
    filter_limited z P H _ _ _ _ _ _ el
    (c.lsb_index_lower_bound-low.ensures
    ∙ ap (λ (x : ℕ). x - c.args.window) c.num_blocks.ensures)
    c.min-first.ensures (c.count_ones.ensures ∙ part_count c.args.blocks.now _ _ (omega (arith, c.min-first.ensures)) (omega arith))
    c.bound_of.ensures
