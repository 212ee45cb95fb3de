-- `row_order::cmp_rows` meets its contract: a judge's refusal is the call's, and the mask laid over a block keeps what the mask
-- keeps.
use mathlib.Core.Path.{◌∙◌}
use Rattle.sizes.proofs.Laws.{handed_on}
use Rattle.masked.proofs.Asked.{mask_in_lem}
use Rattle.row_order.proofs.Asked.{rows_done, rows_unknown, rows_unmasked}
use Rattle.row_order.proofs.cmp_rows.Goals as goal

pub returns-in_err-sizes_of : goal.returns-in_err-sizes_of
returns-in_err-sizes_of c =
    handed_on _ c.from_residual.ensures.1 ∙ rows_unknown _ _ _ _ _ c.sizes_of.ensures c.in_err-sizes_of.was

pub returns-in_err-mask : goal.returns-in_err-mask
returns-in_err-mask c =
    handed_on _ c.from_residual-in_err-mask.ensures.1
    ∙ rows_unmasked _ _ _ _ _ c.sizes_of.ensures c.in_ok-sizes_of.was c.mask.ensures c.in_err-mask.was

pub repeat_mask-requires : goal.repeat_mask-requires
repeat_mask-requires c = mask_in_lem _ _ c.mask.ensures c.in_ok-mask.was

pub returns : goal.returns
returns c =
    rows_done _ _ _ _ _ c.sizes_of.ensures c.in_ok-sizes_of.was c.mask.ensures c.in_ok-mask.was
    c.repeat_mask.ensures c.order_judged.ensures
