-- `compare_text::masked_rows` meets its contract: each return by what the line tells.
use mathlib.Core.Path.{sym, ap, ◌∙◌}
use native.Mathlib.Omega.{arith}
use Rattle.sets.specs.Configurations.{config_at}
use Rattle.sets.specs.Text.{judged_masked, judged_rows, mask_line}
use Rattle.lines.specs.Lines.{mask_in, mask_told}
use Rattle.lines.proofs.Judged.{mask_fits_lem}
use Rattle.compare_text.proofs.Judging.{goes_on, line_taken, missing, stopped}
use Rattle.compare_text.proofs.masked_rows.Goals as goal

pub returns-in_err-line : goal.returns-in_err-line
unfolding judged_masked
returns-in_err-line c =
    missing 2 c.args.input.now mask_line (judged_rows (config_at c.args.config)) c.from_residual.result c.from_residual.ensures.1
    c.in_err-line.ensures.cases

pub returns-in_err-m : goal.returns-in_err-m
unfolding judged_masked
returns-in_err-m c =
    stopped 2 c.args.input.now mask_line (judged_rows (config_at c.args.config)) c.from_residual-in_err-m.result c.in_ok-line.ensures.cases
    c.mask_line.result c.in_err-m.ensures c.from_residual-in_err-m.ensures.1 (λ y e. sym c.mask_line.ensures ∙ ap mask_told e)

pub first_row-requires : goal.first_row-requires
first_row-requires c = (
  omega (arith, c.in_ok-line.ensures.lengths, c.requires.0),
  c.requires.1,
  mask_fits_lem c.in_ok-line.line.now (mask_in c.in_ok-m.m)
      (sym c.mask_line.ensures ∙ ap mask_told (line_taken 2 c.mask_line.result c.in_ok-m.ensures)),
)

pub returns : goal.returns
unfolding judged_masked
returns c =
    goes_on 2 c.args.input.now mask_line (judged_rows (config_at c.args.config)) c.first_row.result c.in_ok-line.ensures.cases
    (sym c.mask_line.ensures ∙ ap mask_told (line_taken 2 c.mask_line.result c.in_ok-m.ensures)) c.first_row.ensures
