-- `diff_count::empty` meets its contract: zeros are the empty set's areas.
use mathlib.Core.Path.{sym, ◌∙◌}
use lib.Seq.{length-take-le}
use Rattle.bitvec.specs.Parts.{Room}
use Rattle.bitvec.proofs.Filling.{zeroed_front}
use Rattle.judge.proofs.Verdicts.{areas_room}
use Rattle.diff_count.proofs.Outcomes.{empty_ready, empty_refused}
use Rattle.diff_count.proofs.empty.Goals as goal
use Rattle.diff_count.proofs.empty.Goals.{In_ok-s}

is_room : (c : In_ok-s) → Room c.in_ok-s.s.top c.in_ok-s.s.blocks c.args.top.now c.args.blocks.now
is_room c = areas_room _ c.args.top.now c.args.blocks.now _ (sym c.areas.ensures ∙ c.in_ok-s.was)

pub slice_bounds-fill-end : goal.slice_bounds-fill-end
slice_bounds-fill-end c = (is_room c).cells

pub slice_bounds-fill-end-2 : goal.slice_bounds-fill-end-2
slice_bounds-fill-end-2 c = sym (length-take-le _ _ (is_room (goal.at.slice_bounds-fill-end-2 c).In_ok-s).cells)

pub slice_bounds-fill-end-3 : goal.slice_bounds-fill-end-3
slice_bounds-fill-end-3 c = (is_room (goal.at.slice_bounds-fill-end-3 c).In_ok-s).blocks_in

pub slice_bounds-fill-end-4 : goal.slice_bounds-fill-end-4
slice_bounds-fill-end-4 c = sym (length-take-le _ _ (is_room (goal.at.slice_bounds-fill-end-4 c).In_ok-s).blocks_in)

pub returns : goal.returns
returns c =
    let room = is_room (goal.at.returns c).In_ok-s in
    empty_ready _ _ _ _ (sym c.areas.ensures ∙ c.in_ok-s.was) (zeroed_front _ _ room.cells c.fill.ensures.after)
    (zeroed_front _ _ room.blocks_in c.fill-2.ensures.after)

pub returns-in_err-s : goal.returns-in_err-s
returns-in_err-s c =
    empty_refused _ _ _ _ c.from_residual.ensures.1 (sym c.areas.ensures ∙ c.in_err-s.was)
