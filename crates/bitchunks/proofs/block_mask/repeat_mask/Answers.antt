-- `bitchunks::repeat_mask` meets its contract: each turn doubles what is laid.
use mathlib.Core.Path.{refl}
use native.Mathlib.Omega.{arith}
use Rattle.bitchunks.proofs.Mask.{laying_start, laying_turn, laying_end, repeated_laid}
use Rattle.bitchunks.proofs.block_mask.repeat_mask.Goals as goal

pub loop-i-init : goal.loop-i-init
loop-i-init c = laying_start _ _ c.requires.0 c.requires.1 c.requires.2

pub loop-i-preserved : goal.loop-i-preserved
loop-i-preserved c = laying_turn _ _ _ _ c.loop-i-test.true c.loop-i.invariant

pub invariant_of-result : goal.invariant_of-result
invariant_of-result c =
    let e = laying_end _ _ _ _ c.loop-i-test.false c.loop-i.invariant in
    record { laid = (c.requires.0, c.requires.1, repeated_laid _ _ c.requires.0 (omega (arith, c.requires.1)) e) }

pub returns : goal.returns
returns c = (laying_end _ _ _ _ c.loop-i-test.false c.loop-i.invariant, refl)
