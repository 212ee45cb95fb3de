-- `bitvec::split` meets its contract.
use native.Mathlib.Omega.{arith}
use Rattle.bitvec.proofs.Areas.{areas}
use Rattle.bitvec.proofs.Filling.{zeroed_fill}
use Rattle.bitvec.proofs.split.Goals as goal

pub returns : goal.returns
returns c =
    areas c.requires.room c.requires.n_le_k.0 c.requires.n_le_k.1 c.lift-count.ensures (zeroed_fill _ _ _ (omega (arith, c.lift-count.ensures.count)) (omega (arith, c.lift-count.ensures.top_length, c.requires.room.cells)) c.fill.ensures.after)
    (λ i. (c.type_inv.blocks i).fits) _ c.into_usize-boundary.ensures
