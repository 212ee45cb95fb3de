-- `compare_text::first_row` meets its contract: each return by what the line tells.
use mathlib.Core.Path.{sym, subst, ◌∙◌}
use mathlib.Core.List.{List}
use Prim.Native.Nat.{ℕ}
use native.Mathlib.Omega.{arith}
use Rattle.sets.specs.Configurations.{Config, config_at}
use Rattle.sets.specs.Row.{shown_row}
use Rattle.sets.specs.Text.{Judged, Mask, judged_rows, judged_second, row_line}
use Rattle.lines.specs.Lines.{mask_in}
use Rattle.compare_text.specs.Answers.{Areas}
use Rattle.compare_text.proofs.Judging.{Read, first_told, goes_on, line_taken, missing, read_lent, row_read, row_refused, stopped}
use Rattle.compare_text.proofs.first_row.Goals as goal
use Rattle.compare_text.proofs.first_row.Goals.{In_ok-f}

-- what is judged after the row
abbrev next : Config → Mask → List ℕ → List ℕ → Judged (List ℕ)
next c m row rest = judged_second c m (shown_row c row) rest

-- the line is read as a row
read : (k : In_ok-f) → Read k.args.config k.in_ok-line.line.now k.in_ok-f.f k.row_line.new.top k.row_line.new.blocks
read k =
    let w = k.row_line in
    row_read k.args.config k.in_ok-line.line.now _ _ w.result w.new.top w.new.blocks w.ensures k.in_ok-f.f
    (line_taken 3 w.result k.in_ok-f.ensures) k.requires.1

pub returns-in_err-line : goal.returns-in_err-line
unfolding judged_rows
returns-in_err-line c =
    missing 3 c.args.input.now (row_line (config_at c.args.config) 3) (next (config_at c.args.config) (mask_in c.args.m)) c.from_residual.result c.from_residual.ensures.1
    c.in_err-line.ensures.cases

pub returns-in_err-f : goal.returns-in_err-f
unfolding judged_rows
returns-in_err-f c =
    let w = c.row_line in
    stopped 3 c.args.input.now (row_line (config_at c.args.config) 3) (next (config_at c.args.config) (mask_in c.args.m)) c.from_residual-in_err-f.result c.in_ok-line.ensures.cases
    w.result c.in_err-f.ensures c.from_residual-in_err-f.ensures.1
    (λ y e. row_refused c.args.config c.in_ok-line.line.now _ _ w.result _ _ w.ensures y 3 e)

pub second_row-requires : goal.second_row-requires
second_row-requires c =
    let R = read (goal.at.second_row-requires c).In_ok-f in
    record {
      input_len_bound = (omega (arith, c.in_ok-line.ensures.lengths, c.requires.0), subst (λ (i : ℕ). Areas i) (sym R.config) c.requires.1);
      blocks_value = (read_lent c.args.config c.in_ok-line.line.now c.in_ok-f.f c.row_line.new.top c.row_line.new.blocks R, c.requires.2);
    }

pub returns : goal.returns
unfolding judged_rows
returns c =
    let R = read (goal.at.returns c).In_ok-f in
    goes_on 3 c.args.input.now (row_line (config_at c.args.config) 3) (next (config_at c.args.config) (mask_in c.args.m)) c.second_row.result c.in_ok-line.ensures.cases
    (R.told 3)
    (c.second_row.ensures ∙ first_told c.args.config (mask_in c.args.m) c.in_ok-f.f c.row_line.new.top c.row_line.new.blocks R c.in_ok-line.rest.now)
