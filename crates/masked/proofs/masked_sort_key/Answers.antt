-- `masked::masked_sort_key` meets its contract: a judge's refusal is the call's, and where both judges pass the walk goes over
-- the set shown.
use mathlib.Core.Path.{◌∙◌}
use Rattle.sizes.proofs.Laws.{handed_on}
use Rattle.diff_count.proofs.Told.{One, fits_parts, fits_walk, one, one_not}
use Rattle.masked.proofs.Asked.{key_done, key_refused, key_unmasked, mask_in_lem, slot_bits}
use Rattle.masked.proofs.masked_sort_key.Goals as goal
use Rattle.masked.proofs.masked_sort_key.Goals.{In_ok-s}

-- where the judge knows the filter
told : (k : In_ok-s) → One k.args.f k.args.top.now k.args.blocks.now k.in_ok-s.s
told k = one _ _ _ _ k.filter_lent.ensures k.in_ok-s.was

pub returns-in_err-s : goal.returns-in_err-s
returns-in_err-s c =
    handed_on _ c.from_residual.ensures.1 ∙ key_refused _ _ _ _ _ (one_not _ _ _ _ c.filter_lent.ensures c.in_err-s.was)

pub returns-in_err-mask : goal.returns-in_err-mask
returns-in_err-mask c =
    handed_on _ c.from_residual-in_err-mask.ensures.1
    ∙ key_unmasked _ _ _ _ _ (told (goal.at.returns-in_err-mask c).In_ok-s) c.mask.ensures c.in_err-mask.was

pub new-requires : goal.new-requires
new-requires c = fits_parts (told (goal.at.new-requires c).In_ok-s).fits

pub repeat_mask-requires : goal.repeat_mask-requires
repeat_mask-requires c = mask_in_lem _ _ c.mask.ensures c.in_ok-mask.was

pub pack-requires : goal.pack-requires
pack-requires c =
    let w = told (goal.at.pack-requires c).In_ok-s in record {
      walks = (tt, (fits_walk c.new.ensures w.fits).0);
      le_bits = slot_bits _ w.sizes;
    }

pub returns : goal.returns
returns c =
    key_done _ _ _ _ _ (told (goal.at.returns c).In_ok-s) c.mask.ensures c.in_ok-mask.was c.new.ensures c.repeat_mask.ensures
    c.pack.ensures
