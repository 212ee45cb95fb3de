-- `judge::bits_fit` meets its contract: the boundary's own block, shifted, and the blocks above it are 0.
use mathlib.Core.Path.{refl}
use native.Mathlib.Omega.{arith}
use Rattle.bitvec.proofs.Gathering.{gathered}
use Rattle.judge.proofs.Soundness.{bits_tell}
use Rattle.judge.proofs.bits_fit.Goals as goal

pub returns : goal.returns
returns c =
    bits_tell c.args.blocks.now _ _ _
    c.into_index-i.ensures c.into_bit.ensures (λ i. (c.type_inv.blocks i).fits)
    (omega arith) (gathered _ _ _ _ c.or-rest.ensures) _ refl
