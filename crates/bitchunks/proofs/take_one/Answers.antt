-- `bitchunks::take_one` meets its contract: the block's highest place is the largest member still to be given.
use mathlib.Core.Path.{sym, ap₂, ◌∙◌}
use mathlib.Core.List.{◌∷◌}
use Prim.Native.Nat.{ℕ}
use lib.Bits.{bit_xor}
use Rattle.bitchunks.specs.Ones.{rest}
use Rattle.bitchunks.proofs.Giving.{rest_one}
use Rattle.bitchunks.proofs.take_one.Goals as goal

pub returns : goal.returns
returns c S tops a = (
  rest_one S _ _ _ c.from_block_msb-bit.ensures
      ∙ ap₂ (λ (p x : ℕ). p ∷ rest S c.args.cursor.end (bit_xor c.args.block x))
      (sym c.into_bucket.ensures) (sym c.into_block.ensures),
  a,
)
