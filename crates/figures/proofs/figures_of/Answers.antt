-- `figures::figures_of` meets its contract: filters that were judged are refused by no call, so the figures are those of the sets
-- shown.
use Rattle.figures.proofs.Asked.{counts_fit, figures_are_lem, first_passed, mask_passed, second_passed}
use Rattle.figures.proofs.figures_of.Goals as goal

pub single_for-first-requires : goal.single_for-first-requires
single_for-first-requires c = record { filter = first_passed _ _ _ _ _ _ _ _ c.requires; mask = mask_passed _ _ _ _ _ _ _ _ c.requires }

pub single_for-second-requires : goal.single_for-second-requires
single_for-second-requires c = record { filter = second_passed _ _ _ _ _ _ _ _ c.requires; mask = mask_passed _ _ _ _ _ _ _ _ c.requires }

pub overlap-requires : goal.overlap-requires
overlap-requires c =
    let a = c.args in
    counts_fit a.f a.top.now a.blocks.now a.g a.top2.now a.blocks2.now a.mask a.size c.requires
    c.single_for-first.result c.single_for-second.result c.pair_for-between.result
    c.single_for-first.ensures c.single_for-second.ensures c.pair_for-between.ensures

pub returns : goal.returns
returns c =
    let a = c.args in
    (figures_are_lem a.f a.top.now a.blocks.now a.g a.top2.now a.blocks2.now a.mask a.size c.requires
    c.single_for-first.result c.single_for-second.result c.pair_for-between.result
    c.single_for-first.ensures c.single_for-second.ensures c.pair_for-between.ensures
    c.overlap.result c.overlap.ensures).1
