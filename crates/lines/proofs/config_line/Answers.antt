-- `lines::config_line` meets its contract: each path by its law.
use mathlib.Core.Path.{sym, ◌∙◌}
use borrow.Author.Tests.{not-false, not-true}
use Rattle.lines.proofs.Paths.{bare, config_told_lem, no_config}
use Rattle.lines.proofs.config_line.Goals as goal

pub returns-then-equals : goal.returns-then-equals
returns-then-equals c = bare _ (sym c.if-equals.true ∙ c.equals.ensures)

pub returns-then-not-starts_with : goal.returns-then-not-starts_with
returns-then-not-starts_with c =
    let a = c.args in
    no_config a.line.now (sym c.if-equals.false ∙ c.equals.ensures) c.starts_with.ensures
    (not-true c.starts_with.result c.if-not-starts_with.true-raw)

pub returns : goal.returns
returns c =
    let a = c.args in
    config_told_lem a.line.now (sym c.if-equals.false ∙ c.equals.ensures) c.starts_with.ensures
    (not-false c.starts_with.result c.if-not-starts_with.false-raw) c.numbered.ensures
