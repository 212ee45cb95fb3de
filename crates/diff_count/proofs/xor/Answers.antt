-- `diff_count::xor` meets its contract: bits against bits, then each filter's top entries flipped in.
use mathlib.Core.Path.{sym}
use native.Mathlib.Omega.{arith}
use lib.Seq.{length-take-le}
use Rattle.sets.proofs.Shown.{filter_holds}
use Rattle.diff_count.proofs.Flips.{tops_fit, tops_led}
use Rattle.diff_count.proofs.Crossing.{xor_fits, cross_ends, cross_becomes}
use borrow.Author.Rules.{rules}
use Rattle.diff_count.proofs.xor.Goals as goal

pub blocks_up_to_first-requires : goal.blocks_up_to_first-requires
blocks_up_to_first-requires c = (tops_led (filter_holds _ _ _ _ _ _ c.requires.boundary_value) c.requires.room.some).1

pub blocks_up_to_first-n-requires : goal.blocks_up_to_first-n-requires
blocks_up_to_first-n-requires c = (tops_led (filter_holds _ _ _ _ _ _ c.requires.boundary_value_2) c.requires.room.some).1

pub slice_bounds-blocks_up_to_first-end : goal.slice_bounds-blocks_up_to_first-end
slice_bounds-blocks_up_to_first-end c =
    sym (length-take-le _ _ (tops_led (filter_holds _ _ _ _ _ _ c.requires.boundary_value_2) c.requires.room.some).0)

pub slice_bounds-blocks_up_to_first-end-2 : goal.slice_bounds-blocks_up_to_first-end-2
slice_bounds-blocks_up_to_first-end-2 c =
    sym (length-take-le _ _ (tops_led (filter_holds _ _ _ _ _ _ c.requires.boundary_value) c.requires.room.some).0)

pub xor_bits-requires : goal.xor_bits-requires
xor_bits-requires c =
    let H = filter_holds _ _ _ _ _ _ c.requires.boundary_value in
    let G = filter_holds _ _ _ _ _ _ c.requires.boundary_value_2 in
    let asked = xor_fits c.requires.room H G in record { k_in_bounds = asked.0; bits_below = asked.1.0; bits_below_2 = asked.1.1 }

pub slice_bounds-toggle_all-end : goal.slice_bounds-toggle_all-end
slice_bounds-toggle_all-end c =
    sym (length-take-le _ _ (tops_led (filter_holds _ _ _ _ _ _ c.requires.boundary_value) c.requires.room.some).0)

pub toggle_all-requires : goal.toggle_all-requires
toggle_all-requires c =
    let H = filter_holds _ _ _ _ _ _ c.requires.boundary_value in
    tops_fit H c.xor_bits.new.to_blocks (omega (arith, c.xor_bits.auto.to_blocks))

pub slice_bounds-toggle_all-end-2 : goal.slice_bounds-toggle_all-end-2
slice_bounds-toggle_all-end-2 c =
    sym (length-take-le _ _ (tops_led (filter_holds _ _ _ _ _ _ c.requires.boundary_value_2) c.requires.room.some).0)

pub toggle_all-requires-2 : goal.toggle_all-requires-2
toggle_all-requires-2 c =
    let G = filter_holds _ _ _ _ _ _ c.requires.boundary_value_2 in
    tops_fit G c.toggle_all.new.blocks (omega (arith, c.toggle_all.auto.blocks, c.xor_bits.auto.to_blocks))

pub split-requires : goal.split-requires
split-requires c =
    let H = filter_holds _ _ _ _ _ _ c.requires.boundary_value in
    let G = filter_holds _ _ _ _ _ _ c.requires.boundary_value_2 in record {
      room = search rules;
      n_le_k = cross_ends c.requires.room H G c.xor_bits.auto.to_blocks c.xor_bits.ensures c.toggle_all.ensures
          c.toggle_all-2.ensures c.blocks_up_to_first.ensures c.blocks_up_to_first-n.ensures;
    }

pub returns : goal.returns
returns c =
    let H = filter_holds _ _ _ _ _ _ c.requires.boundary_value in
    let G = filter_holds _ _ _ _ _ _ c.requires.boundary_value_2 in
    cross_becomes c.requires.room H G c.xor_bits.auto.to_blocks c.xor_bits.ensures c.toggle_all.ensures
    c.toggle_all-2.ensures c.split.ensures
