-- `diff_count::flip_all` meets its contract: below the boundary the bits flip alone.
use mathlib.Core.Path.{refl, sym, ◌∙◌}
use Rattle.sets.proofs.Shown.{filter_holds}
use Rattle.sets.proofs.Tests.{all_below_lem}
use Rattle.diff_count.proofs.Flips.{list_fits, bits_become}
use Rattle.diff_count.proofs.flip_all.Goals as goal

pub toggle_all-requires : goal.toggle_all-requires
toggle_all-requires c =
    let H = filter_holds _ _ _ _ _ _ c.requires.boundary_value in
    list_fits c.args.list.now c.requires.room H c.requires.below c.args.blocks.now refl

pub returns-then-all_below : goal.returns-then-all_below
returns-then-all_below c =
    let H = filter_holds _ _ _ _ _ _ c.requires.boundary_value in
    bits_become c.args.list.now c.requires.room H c.requires.below
    (all_below_lem _ c.args.list.now (sym c.all_below.ensures ∙ c.if-all_below.true))
    (λ j. (c.type_inv.blocks j).fits) c.toggle_all.ensures
