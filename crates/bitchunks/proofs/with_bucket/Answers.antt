-- `bitchunks::with_bucket` meets its contract: the block of the bucket's place.
use mathlib.Core.Path.{ap, ◌∙◌}
use Prim.Native.Nat.{ℕ, ◌^◌}
use lib.Bits.{bit_or}
use Rattle.bitchunks.proofs.with_bucket.Goals as goal

pub returns : goal.returns
returns c =
    let e = c.into_block.ensures ∙ ap (λ (x : ℕ). 2 ^ x) c.into_bit.ensures in
    ap (bit_or c.args.block) e
