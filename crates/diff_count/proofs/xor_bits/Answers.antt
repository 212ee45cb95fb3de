-- `diff_count::xor_bits` meets its contract: xored up to the larger boundary, and zeros from there on.
use mathlib.Core.Path.{◌≡◌, ◌∙◌, ap}
use Prim.Native.Nat.{max}
use native.Mathlib.Omega.{arith}
use Rattle.sets.specs.Configurations.{blocks_for}
use Rattle.bitvec.proofs.Filling.{zeroed_fill}
use Rattle.diff_count.proofs.Crossing.{bits_fit, slices_fit, zeros_fit, bits_apart}
use Rattle.diff_count.proofs.xor_bits.Goals as goal

pub num_blocks-n-requires : goal.num_blocks-n-requires
num_blocks-n-requires c = omega (arith, c.max.ensures, c.requires.k_in_bounds.1, c.requires.bits_below.low, c.requires.bits_below_2.low)

pub xor-requires : goal.xor-requires
xor-requires c =
    slices_fit _ c.requires.bits_below c.requires.bits_below_2 c.requires.k_in_bounds.0
    (c.num_blocks-n.ensures ∙ ap blocks_for c.max.ensures)

pub returns : goal.returns
returns c =
    let q = c.requires in
    let e : c.num_blocks-n.result ≡ blocks_for (max c.args.boundary c.args.boundary2) =
    c.num_blocks-n.ensures ∙ ap blocks_for c.max.ensures in
    bits_apart c.args.to_blocks.now q.bits_below q.bits_below_2 q.k_in_bounds.0 e c.xor.ensures
    (zeroed_fill _ _ _ (bits_fit c.args.to_blocks.now q.bits_below q.bits_below_2 q.k_in_bounds.0 e)
    (zeros_fit c.args.to_blocks.now q.bits_below q.bits_below_2 q.k_in_bounds.0 e c.xor.ensures) c.fill.ensures.after)
