-- `rows::open` meets its contract: the entries of the row and the bits set in it are counted.
use mathlib.Core.Path.{◌∙◌}
use native.Mathlib.Omega.{arith}
use Rattle.sizes.proofs.Laws.{handed_on}
use Rattle.judge_row.proofs.Verdicts.{fits_few, fits_room}
use Rattle.rows.proofs.Opening.{open_refused, open_size}
use Rattle.rows.proofs.open.Goals as goal

pub returns-in_err-layout : goal.returns-in_err-layout
returns-in_err-layout c = handed_on _ c.from_residual.ensures.1 ∙ open_refused _ _ c.row.ensures c.in_err-layout.was

pub count_ones_in_bytes-low-requires : goal.count_ones_in_bytes-low-requires
count_ones_in_bytes-low-requires c = fits_room _ _ c.row.ensures c.in_ok-layout.was

pub overflow_add-result : goal.overflow_add-result
overflow_add-result c =
    omega (
      arith,
      fits_few _ _ c.row.ensures c.in_ok-layout.was c.count_ones_in_bytes-low.ensures,
    )

pub returns : goal.returns
returns c = open_size _ _ c.row.ensures c.in_ok-layout.was c.count_ones_in_bytes-low.ensures
