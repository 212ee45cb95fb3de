-- `masked::cmp_masked` meets its contract: a judge's refusal is the call's, and where both judges pass the walks go over the sets
-- shown.
use mathlib.Core.Path.{◌∙◌}
use Rattle.sizes.proofs.Laws.{handed_on}
use Rattle.diff_count.proofs.Told.{Two, fits_parts, fits_walk, two, two_not}
use Rattle.masked.proofs.Asked.{cmp_done, cmp_refused, cmp_unmasked, mask_in_lem}
use Rattle.masked.proofs.cmp_masked.Goals as goal
use Rattle.masked.proofs.cmp_masked.Goals.{In_ok-s}

-- where the judge knows both filters
told : (k : In_ok-s) →
    let s = k.args in
    Two s.a s.top.now s.blocks.now s.b s.top2.now s.blocks2.now k.in_ok-s.s
told k = two _ _ _ _ _ _ _ k.filters_lent.ensures k.in_ok-s.was

pub returns-in_err-s : goal.returns-in_err-s
returns-in_err-s c =
    handed_on _ c.from_residual.ensures.1
    ∙ cmp_refused _ _ _ _ _ _ _ _ (two_not _ _ _ _ _ _ _ c.filters_lent.ensures c.in_err-s.was)

pub returns-in_err-mask : goal.returns-in_err-mask
returns-in_err-mask c =
    handed_on _ c.from_residual-in_err-mask.ensures.1
    ∙ cmp_unmasked _ _ _ _ _ _ _ _ (told (goal.at.returns-in_err-mask c).In_ok-s) c.mask.ensures c.in_err-mask.was

pub new-first-requires : goal.new-first-requires
new-first-requires c = fits_parts (told (goal.at.new-first-requires c).In_ok-s).fits

pub new-second-requires : goal.new-second-requires
new-second-requires c = fits_parts (told (goal.at.new-second-requires c).In_ok-s).fits2

pub repeat_mask-block_mask-requires : goal.repeat_mask-block_mask-requires
repeat_mask-block_mask-requires c = mask_in_lem _ _ c.mask.ensures c.in_ok-mask.was

pub order-requires : goal.order-requires
order-requires c =
    let w = told (goal.at.order-requires c).In_ok-s in record {
      walks = (tt, (fits_walk c.new-first.ensures w.fits).0);
      walks_2 = (tt, (fits_walk c.new-second.ensures w.fits2).0);
    }

pub returns : goal.returns
returns c =
    cmp_done _ _ _ _ _ _ _ _ (told (goal.at.returns c).In_ok-s) c.mask.ensures c.in_ok-mask.was
    c.new-first.ensures c.new-second.ensures c.repeat_mask-block_mask.ensures c.order.ensures
