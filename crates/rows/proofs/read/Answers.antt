-- `rows::read` meets its contract: judged, then filled.
use Rattle.sizes.proofs.Laws.{handed_on}
use Rattle.rows.proofs.Opening.{read_asks, read_no_areas, read_no_row, read_ready}
use Rattle.rows.proofs.read.Goals as goal

pub returns-in_err-s : goal.returns-in_err-s
returns-in_err-s c = read_no_areas _ _ _ _ c.areas.ensures (handed_on _ c.from_residual.ensures.1) c.in_err-s.was

pub returns-in_err-layout : goal.returns-in_err-layout
returns-in_err-layout c =
    read_no_row _ _ _ _ c.areas.ensures c.in_ok-s.was
    c.row.ensures (handed_on _ c.from_residual-in_err-layout.ensures.1) c.in_err-layout.was

pub fill-tally-requires : goal.fill-tally-requires
fill-tally-requires c =
    let asked = read_asks _ _ _ _ c.areas.ensures c.in_ok-s.was
    c.row.ensures c.in_ok-layout.was in record { room = asked.0; readable = asked.1 }

pub returns : goal.returns
returns c =
    rw c.of.ensures
    (read_ready _ _ _ _ c.areas.ensures c.in_ok-s.was
    c.row.ensures c.in_ok-layout.was c.fill-tally.ensures)
