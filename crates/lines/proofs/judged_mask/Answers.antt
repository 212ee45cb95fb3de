-- `lines::judged_mask` meets its contract: the judge's answer tells the verdict.
use mathlib.Core.Path.{ap, ◌∙◌}
use Rattle.lines.specs.Lines.{mask_told}
use Rattle.lines.proofs.Paths.{mask_not, mask_taken}
use Rattle.sizes.proofs.Laws.{handed_on}
use Rattle.lines.proofs.judged_mask.Goals as goal

pub returns : goal.returns
returns c = mask_taken _ _ c.mask.ensures c.in_ok-mask.was

pub returns-in_err-mask : goal.returns-in_err-mask
returns-in_err-mask c = ap mask_told (handed_on _ c.from_residual.ensures.1) ∙ mask_not _ _ c.mask.ensures c.in_err-mask.was
