-- `diff_count::flip_and_split` meets its contract: the blocks come to hold the filter's set, then the flipped one.
use mathlib.Core.Path.{sym}
use lib.Seq.{length-take-le}
use Rattle.sets.proofs.Shown.{filter_holds}
use Rattle.diff_count.proofs.Flips.{tops_led, fold_fits, list_fits, flip_ends, flip_becomes}
use borrow.Author.Rules.{rules}
use Rattle.diff_count.proofs.flip_and_split.Goals as goal

pub blocks_up_to_first-requires : goal.blocks_up_to_first-requires
blocks_up_to_first-requires c = (tops_led (filter_holds _ _ _ _ _ _ c.requires.boundary_value) c.requires.room.some).1

pub slice_bounds-blocks_up_to_first-end : goal.slice_bounds-blocks_up_to_first-end
slice_bounds-blocks_up_to_first-end c = (tops_led (filter_holds _ _ _ _ _ _ c.requires.boundary_value) c.requires.room.some).0

pub slice_bounds-blocks_up_to_first-end-2 : goal.slice_bounds-blocks_up_to_first-end-2
slice_bounds-blocks_up_to_first-end-2 c =
    sym (length-take-le _ _ (tops_led (filter_holds _ _ _ _ _ _ c.requires.boundary_value) c.requires.room.some).0)

pub fold-requires : goal.fold-requires
fold-requires c =
    let H = filter_holds _ _ _ _ _ _ c.requires.boundary_value in
    fold_fits c.args.list.now c.requires.room H c.requires.below

pub toggle_all-requires : goal.toggle_all-requires
toggle_all-requires c =
    let H = filter_holds _ _ _ _ _ _ c.requires.boundary_value in
    list_fits c.args.list.now c.requires.room H c.requires.below c.fold.new.blocks c.fold.auto.blocks

pub split-requires : goal.split-requires
split-requires c =
    let H = filter_holds _ _ _ _ _ _ c.requires.boundary_value in record {
      room = search rules;
      n_le_k = flip_ends c.args.list.now c.requires.room H c.requires.below c.fold.auto.blocks
          c.fold.ensures c.toggle_all.ensures c.blocks_up_to_first.ensures c.blocks_up_to-n.ensures;
    }

pub returns : goal.returns
returns c =
    let H = filter_holds _ _ _ _ _ _ c.requires.boundary_value in
    flip_becomes c.args.list.now c.requires.room H c.requires.below c.fold.auto.blocks c.fold.ensures
    c.toggle_all.ensures c.split.ensures
