-- `judge::mask` meets its contract.
use Rattle.judge.proofs.Verdicts.{mask_none, mask_long, mask_past, mask_fits_lem}
use Rattle.judge.proofs.mask.Goals as goal

pub returns-then-size-lt1 : goal.returns-then-size-lt1
returns-then-size-lt1 c = mask_none _ _ c.if-size-lt1.true

pub returns-then-size-gt63 : goal.returns-then-size-gt63
returns-then-size-gt63 c = mask_long _ _ c.if-size-lt1.false c.if-size-gt63.true

pub returns-then-mask-size-ne0 : goal.returns-then-mask-size-ne0
returns-then-mask-size-ne0 c = mask_past _ _ c.if-size-lt1.false c.if-size-gt63.false c.if-mask-size-ne0.true

pub returns : goal.returns
returns c = mask_fits_lem _ _ c.if-size-lt1.false c.if-size-gt63.false c.if-mask-size-ne0.false
