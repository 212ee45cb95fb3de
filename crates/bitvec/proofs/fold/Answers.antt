-- `bitvec::fold` meets its contract.
use native.Mathlib.Omega.{arith}
use Rattle.bitvec.proofs.Flipping.{folded}
use Rattle.bitvec.proofs.fold.Goals as goal

pub toggle_all-requires : goal.toggle_all-requires
toggle_all-requires c = λ i h. omega (arith, c.requires.1, c.requires.2 i h)

pub returns : goal.returns
returns c = folded _ _ _ _ _ c.requires.1 c.requires.2 c.toggle_all.ensures
