-- `bitvec::write` meets its contract: no byte where the boundary is 0, else the spare byte and then the blocks.
use native.Mathlib.Omega.{arith}
use lib.ListN.{length-set}
use lib.Seq.{length-take-le}
use Rattle.bitvec.proofs.BitPart.{part_none, part_length, part_some}
use Rattle.bitvec.proofs.write.Goals as goal

pub returns-then-boundary-eq0 : goal.returns-then-boundary-eq0
returns-then-boundary-eq0 c = part_none _ _ _ _ c.if-boundary-eq0.true

pub bounds-to-at : goal.bounds-to-at
bounds-to-at c = omega (arith, part_length c.args.boundary c.args.blocks.now c.if-boundary-eq0.false, c.requires.blocks_in_bounds)

pub write_blocks-requires : goal.write_blocks-requires
write_blocks-requires c =
    simp length-set
    (omega (arith, length-take-le c.num_blocks-n.result c.args.blocks.now (omega arith), part_length c.args.boundary c.args.blocks.now c.if-boundary-eq0.false, c.requires.blocks_in_bounds))

pub returns : goal.returns
returns c =
    part_some _ _ c.if-boundary-eq0.false
    c.requires.boundary_bound.1 (λ i. (c.type_inv.blocks i).fits) c.requires.empty
    _ _ _ _ _
    c.num_blocks-n.ensures c.unoccupied_bits.ensures c.write_blocks.ensures
