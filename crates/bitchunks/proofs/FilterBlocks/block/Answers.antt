-- `FilterBlocks::block` meets its contract: a block past the last is 0.
use mathlib.Core.Path.{◌≡◌, sym, ap, ◌∙◌}
use Prim.Native.Nat.{ℕ, ◌-◌}
use native.Mathlib.Omega.{arith}
use lib.ListN.{get_or}
use Rattle.bitchunks.proofs.Walk.{bits_in, bits_past}
use Rattle.bitchunks.proofs.FilterBlocks.block.Goals as goal

pub returns-then-i-self : goal.returns-then-i-self
returns-then-i-self c =
    let s = c.args in
    let e : s.i - 0 ≡ s.i = omega arith in
    sym (bits_in 0 _ _ (omega arith) ∙ ap (λ (x : ℕ). get_or s.self.now.blocks.now x 0) e)

pub returns : goal.returns
returns c = sym (bits_past 0 c.args.self.now.blocks.now c.args.i (omega arith))
