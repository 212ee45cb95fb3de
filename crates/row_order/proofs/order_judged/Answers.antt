-- `row_order::order_judged` meets its contract: a judge's refusal is the order's, rows of the same bytes show one set, and where
-- two others fit the walks go over the sets shown.
use mathlib.Core.Path.{◌∙◌}
use Rattle.sizes.proofs.Laws.{handed_on}
use Rattle.std.proofs.lemmas.Bool.Decides.{Decides-eqb}
use Rattle.std.proofs.lemmas.Slice.Eq.{slice_eq-Decides}
use Rattle.row_order.proofs.Asked.{both_walk, judged_done, judged_first, judged_same, judged_second_lem}
use Rattle.row_order.proofs.order_judged.Goals as goal

pub returns-in_err-s : goal.returns-in_err-s
returns-in_err-s c = handed_on _ c.from_residual.ensures.1 ∙ judged_first _ _ _ _ _ c.row.ensures c.in_err-s.was

pub returns-then-eq : goal.returns-then-eq
returns-then-eq c =
    judged_same _ _ _ _ _ c.row.ensures c.in_ok-s.was ((slice_eq-Decides Decides-eqb _ _ _ c.eq.ensures).0 c.if-eq.true)

pub returns-in_err-layout2 : goal.returns-in_err-layout2
returns-in_err-layout2 c =
    handed_on _ c.from_residual-in_err-layout2.ensures.1
    ∙ judged_second_lem _ _ _ _ _ c.row.ensures c.in_ok-s.was c.row-2.ensures c.in_err-layout2.was

pub order-requires : goal.order-requires
order-requires c =
    let w = both_walk _ _ _ c.row.ensures c.in_ok-s.was c.row-2.ensures c.in_ok-layout2.was in
    record { walks = w.0; walks_2 = w.1 }

pub returns : goal.returns
returns c =
    judged_done _ _ _ _ _ c.row.ensures c.in_ok-s.was c.row-2.ensures c.in_ok-layout2.was c.order.ensures
