-- `compare_text::second_row` meets its contract: each return by what the line tells.
use mathlib.Core.Path.{sym, ap, ◌∙◌}
use mathlib.Core.List.{List}
use Prim.Native.Nat.{ℕ}
use Rattle.sets.specs.Sets.{Set}
use Rattle.sets.specs.Configurations.{Config, config_at}
use Rattle.sets.specs.Row.{shown_row}
use Rattle.sets.specs.Text.{Judged, Mask, compared, judged_second, nothing_follows, printed, row_line}
use Rattle.diff_count.specs.Calls.{shown_by}
use Rattle.std.specs.Prelude.{Err}
use Rattle.lines.specs.Lines.{mask_in}
use Rattle.compare_text.specs.Answers.{malformed_at, spelled}
use Rattle.compare_text.proofs.Judging.{Read, compared_told, figures_asks, goes_on, line_taken, missing, nothing_left, row_read, row_refused, something_left, stopped}
use Rattle.compare_text.proofs.second_row.Goals as goal
use Rattle.compare_text.proofs.second_row.Goals.{In_ok-g}

-- what is judged after the row, where the first row's set is S
abbrev next : Config → Mask → Set → List ℕ → List ℕ → Judged (List ℕ)
next c m S row rest = nothing_follows rest (compared c m S (shown_row c row))

-- the line is read as a row
read : (k : In_ok-g) → Read k.args.f.config k.in_ok-line.line.now k.in_ok-g.g k.row_line.new.top k.row_line.new.blocks
read k =
    let w = k.row_line in
    row_read k.args.f.config k.in_ok-line.line.now _ _ w.result w.new.top w.new.blocks w.ensures k.in_ok-g.g
    (line_taken 4 w.result k.in_ok-g.ensures) k.requires.input_len_bound.1

pub returns-in_err-line : goal.returns-in_err-line
unfolding judged_second
returns-in_err-line c =
    missing 4 c.args.input.now (row_line (config_at c.args.f.config) 4) (next (config_at c.args.f.config) (mask_in c.args.m) (shown_by c.args.f c.args.top.now c.args.blocks.now)) c.from_residual.result c.from_residual.ensures.1
    c.in_err-line.ensures.cases

pub returns-in_err-g : goal.returns-in_err-g
unfolding judged_second
returns-in_err-g c =
    let w = c.row_line in
    stopped 4 c.args.input.now (row_line (config_at c.args.f.config) 4) (next (config_at c.args.f.config) (mask_in c.args.m) (shown_by c.args.f c.args.top.now c.args.blocks.now)) c.from_residual-in_err-g.result c.in_ok-line.ensures.cases
    w.result c.in_err-g.ensures c.from_residual-in_err-g.ensures.1
    (λ y e. row_refused c.args.f.config c.in_ok-line.line.now _ _ w.result _ _ w.ensures y 4 e)

pub returns-then-not-is_empty : goal.returns-then-not-is_empty
unfolding judged_second spelled
returns-then-not-is_empty c =
    let R = read (goal.at.returns-then-not-is_empty c).In_ok-g in
    goes_on 4 c.args.input.now (row_line (config_at c.args.f.config) 4) (next (config_at c.args.f.config) (mask_in c.args.m) (shown_by c.args.f c.args.top.now c.args.blocks.now)) (Err (malformed_at 5)) c.in_ok-line.ensures.cases
    (R.told 4)
    (ap printed (sym (something_left _ c.in_ok-line.rest.now (sym c.is_empty.ensures ∙ c.if-not-is_empty.true))))

pub figures_of-requires : goal.figures_of-requires
figures_of-requires c =
    figures_asks _ _ _ c.in_ok-line.line.now c.in_ok-g.g c.row_line.new.top c.row_line.new.blocks (mask_in c.args.m)
    c.requires.blocks_value.0 (read (goal.at.figures_of-requires c).In_ok-g) c.requires.blocks_value.1

pub returns : goal.returns
unfolding judged_second
returns c =
    let R = read (goal.at.returns c).In_ok-g in
    goes_on 4 c.args.input.now (row_line (config_at c.args.f.config) 4) (next (config_at c.args.f.config) (mask_in c.args.m) (shown_by c.args.f c.args.top.now c.args.blocks.now)) _ c.in_ok-line.ensures.cases
    (R.told 4)
    (compared_told c.args.f.config (mask_in c.args.m) (shown_by c.args.f c.args.top.now c.args.blocks.now) c.in_ok-g.g c.row_line.new.top c.row_line.new.blocks R c.figures_of.ensures
    ∙ ap printed (sym (nothing_left _ c.in_ok-line.rest.now (sym c.is_empty.ensures ∙ c.if-not-is_empty.false))))
