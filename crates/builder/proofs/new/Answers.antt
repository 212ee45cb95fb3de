-- `builder::new` meets its contract: judged, then zeroed.
use mathlib.Core.Path.{sym, ◌∙◌}
use Prim.Native.Nat.{◌*◌, ◌≤◌}
use native.Mathlib.Omega.{arith}
use lib.ListN.{length}
use lib.Seq.{length-take-le}
use Rattle.bitvec.proofs.Filling.{zeroed_front}
use Rattle.builder.proofs.Outcomes.{new_refused, new_past, new_asks, new_next}
use Rattle.builder.proofs.new.Goals as goal
use Rattle.builder.proofs.new.Goals.{In_ok-s}

pub returns-then-s-split : goal.returns-then-s-split
returns-then-s-split c = new_past _ _ _ _ _ (sym c.areas.ensures ∙ c.in_ok-s.was) c.if-s-split.true

-- the slices have room for the areas
is_room : (c : In_ok-s) →
    let s = c.in_ok-s.s in
    let a = c.args in
    (2 * s.top ≤ length a.pending.now) × (s.blocks ≤ length a.bits.now)
is_room c = new_asks _ c.args.split c.args.pending.now c.args.bits.now _ (sym c.areas.ensures ∙ c.in_ok-s.was)

pub overflow_mul-s : goal.overflow_mul-s
overflow_mul-s c = omega (arith, (is_room (goal.at.overflow_mul-s c).In_ok-s).0)

pub slice_bounds-fill-end : goal.slice_bounds-fill-end
slice_bounds-fill-end c = (is_room (goal.at.slice_bounds-fill-end c).In_ok-s).0

pub slice_bounds-fill-end-2 : goal.slice_bounds-fill-end-2
slice_bounds-fill-end-2 c = sym (length-take-le _ _ (is_room (goal.at.slice_bounds-fill-end-2 c).In_ok-s).0)

pub slice_bounds-fill-end-3 : goal.slice_bounds-fill-end-3
slice_bounds-fill-end-3 c = (is_room (goal.at.slice_bounds-fill-end-3 c).In_ok-s).1

pub slice_bounds-fill-end-4 : goal.slice_bounds-fill-end-4
slice_bounds-fill-end-4 c = sym (length-take-le _ _ (is_room (goal.at.slice_bounds-fill-end-4 c).In_ok-s).1)

pub returns : goal.returns
returns c =
    let room = is_room (goal.at.returns c).In_ok-s in
    new_next _ _ _ _ _ (sym c.areas.ensures ∙ c.in_ok-s.was) c.if-s-split.false
    (zeroed_front _ _ room.0 c.fill.ensures.after) (zeroed_front _ _ room.1 c.fill-2.ensures.after)

pub returns-in_err-s : goal.returns-in_err-s
returns-in_err-s c = new_refused _ _ _ _ _ c.from_residual.ensures.1 (sym c.areas.ensures ∙ c.in_err-s.was)
