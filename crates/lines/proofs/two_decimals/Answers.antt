-- `lines::two_decimals` meets its contract: both decimals are there, or the line is malformed.
use mathlib.Core.Path.{ap, ◌∙◌}
use Rattle.lines.specs.Lines.{mask_told}
use Rattle.lines.proofs.Paths.{malformed, missing, no_size, there, two_told}
use Rattle.lines.proofs.two_decimals.Goals as goal

pub returns : goal.returns
returns c =
    two_told _ c.find.ensures (there c.ok_or.ensures.value c.in_ok-end.was) c.decimal.ensures
    (there c.ok_or-2.ensures.value c.in_ok-mask.was) c.decimal-2.ensures
    (there c.ok_or-3.ensures.value c.in_ok-size.was) c.judged_mask.ensures

pub returns-in_err-size : goal.returns-in_err-size
returns-in_err-size c =
    ap mask_told (malformed c.decimal-2.result c.ok_or-3.ensures.value c.in_err-size.was _ c.from_residual-in_err-size.ensures.1)
    ∙ no_size _ c.find.ensures (there c.ok_or.ensures.value c.in_ok-end.was) c.decimal.ensures
    (there c.ok_or-2.ensures.value c.in_ok-mask.was) c.decimal-2.ensures (missing c.ok_or-3.ensures.value c.in_err-size.was)
