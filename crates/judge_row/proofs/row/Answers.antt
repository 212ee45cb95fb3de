-- `judge_row::row` meets its contract: each test decides, in the order of judging.
use mathlib.Core.Path.{refl, sym, ◌∙◌}
use Rattle.sizes.proofs.Laws.{handed_on}
use Rattle.judge_row.proofs.Verdicts.{row_judged, row_listed, row_misfit, row_unknown}
use Rattle.judge_row.proofs.row.Goals as goal

pub returns-in_err-sizes : goal.returns-in_err-sizes
returns-in_err-sizes c = handed_on _ c.from_residual.ensures.1 ∙ row_unknown _ _ c.sizes_of.ensures c.in_err-sizes.was

pub invariant_of-line : goal.invariant_of-line
invariant_of-line c = record { listed = row_listed _ c.sizes_of.ensures c.in_ok-sizes.was }

pub returns-then-not-length_fits : goal.returns-then-not-length_fits
returns-then-not-length_fits c =
    row_misfit _ _ c.sizes_of.ensures c.in_ok-sizes.was c.length_fits.ensures c.if-not-length_fits.true

pub returns-in_err-fault_of : goal.returns-in_err-fault_of
returns-in_err-fault_of c =
    row_judged _ _ c.sizes_of.ensures c.in_ok-sizes.was c.length_fits.ensures c.if-not-length_fits.false c.layout_of-layout.ensures
    (sym c.in_err-fault_of.was ∙ c.fault_of.ensures)
    (handed_on _ c.from_residual-in_err-fault_of.ensures.1)

pub returns : goal.returns
returns c =
    row_judged _ _ c.sizes_of.ensures c.in_ok-sizes.was c.length_fits.ensures c.if-not-length_fits.false c.layout_of-layout.ensures
    (sym c.in_ok-fault_of.was ∙ c.fault_of.ensures)
    refl
