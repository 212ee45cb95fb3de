-- `FilterBlocks::count_ones_from_msb_and_lsb` meets its contract: that of the top entries' number and the blocks.
use mathlib.Core.Path.{sym, subst}
use Prim.Native.Nat.{ℕ}
use Rattle.sets.specs.Filter.{Holds}
use Rattle.bitchunks.proofs.FilterBlocks.count_ones_from_msb_and_lsb.Goals as goal

pub returns : goal.returns
returns c k count edge top blocks S z P H el =
    c.count_ones_from_msb_and_lsb.ensures k edge top blocks S z (P.bits_are, P.bits_count)
    (subst (λ (n : ℕ). Holds c.args.m k top blocks n edge S) (sym P.tops_count) H) el
