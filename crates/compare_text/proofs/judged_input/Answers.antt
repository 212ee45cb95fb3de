-- `compare_text::judged_input` meets its contract: each return by what the line tells.
use mathlib.Core.Path.{sym, ap, ◌∙◌}
use mathlib.Core.List.{List}
use Prim.Native.Nat.{ℕ}
use native.Mathlib.Omega.{arith}
use Rattle.sets.specs.Configurations.{config_at}
use Rattle.sets.specs.Text.{Judged, config_line, judged_input, judged_masked}
use Rattle.lines.specs.Lines.{config_told}
use Rattle.lines.proofs.Judged.{config_areas}
use Rattle.compare_text.proofs.Judging.{goes_on, line_taken, long_input, missing, short_input, stopped}
use Rattle.compare_text.proofs.judged_input.Goals as goal

abbrev next : ℕ → List ℕ → Judged (List ℕ)
next n rest = judged_masked (config_at n) rest

pub returns-then-input-gt-LARGEST_INPUT : goal.returns-then-input-gt-LARGEST_INPUT
returns-then-input-gt-LARGEST_INPUT c = long_input c.args.input.now c.if-input-gt-LARGEST_INPUT.true

pub returns-in_err-line : goal.returns-in_err-line
unfolding judged_input
returns-in_err-line c =
    missing 1 c.args.input.now config_line next c.from_residual.result c.from_residual.ensures.1 c.in_err-line.ensures.cases
    ∙ short_input c.args.input.now c.if-input-gt-LARGEST_INPUT.false

pub returns-in_err-config : goal.returns-in_err-config
unfolding judged_input
returns-in_err-config c =
    stopped 1 c.args.input.now config_line next c.from_residual-in_err-config.result c.in_ok-line.ensures.cases
    c.config_line.result c.in_err-config.ensures c.from_residual-in_err-config.ensures.1 (λ y e. sym c.config_line.ensures ∙ ap config_told e)
    ∙ short_input c.args.input.now c.if-input-gt-LARGEST_INPUT.false

pub masked_rows-requires : goal.masked_rows-requires
masked_rows-requires c = (
  omega (arith, c.in_ok-line.ensures.lengths, c.if-input-gt-LARGEST_INPUT.false),
  config_areas c.in_ok-line.line.now c.in_ok-config.config
      (sym c.config_line.ensures ∙ ap config_told (line_taken 1 c.config_line.result c.in_ok-config.ensures)),
)

pub returns : goal.returns
unfolding judged_input
returns c =
    goes_on 1 c.args.input.now config_line next c.masked_rows.result c.in_ok-line.ensures.cases
    (sym c.config_line.ensures ∙ ap config_told (line_taken 1 c.config_line.result c.in_ok-config.ensures)) c.masked_rows.ensures
    ∙ short_input c.args.input.now c.if-input-gt-LARGEST_INPUT.false
