-- `bitchunks::count_ones_from_bitchunks` meets its contract: the members met first and those in the window's other blocks are the
-- limited count's.
use native.Mathlib.Omega.{arith}
use Rattle.bitchunks.proofs.Totals.{all_few, full_limited, few_limited}
use Rattle.bitchunks.proofs.count_ones_from_bitchunks.Goals as goal

pub overflow_add-all : goal.overflow_add-all
overflow_add-all g c =
    omega (
      arith,
      all_few c.in-Ok.ensures _ c.requires.le_m.0 c.requires.le_m.1 _ _ c.lsb_index_lower_bound-low.ensures c.count_xor_ones.ensures,
      c.requires.walks.1.small,
    )

pub returns-in-Ok : goal.returns-in-Ok
returns-in-Ok g c =
    full_limited c.in-Ok.ensures _ c.requires.le_m.0 c.requires.le_m.1 _ _ c.lsb_index_lower_bound-low.ensures
    c.count_xor_ones.ensures _ c.bound_of.ensures

pub returns-in-Err : goal.returns-in-Err
returns-in-Err g c = few_limited c.requires.le_m.0 c.requires.le_m.1 c.in-Err.ensures
