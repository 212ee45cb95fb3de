-- `FilterBlocks::exact_count` meets its contract: that of the top entries' number and the blocks.
use mathlib.Core.Path.{sym, subst}
use Prim.Native.Nat.{ℕ}
use Rattle.sets.specs.Filter.{Holds}
use Rattle.bitchunks.proofs.FilterBlocks.exact_count.Goals as goal

pub returns : goal.returns
returns c m k count edge top blocks S z P H =
    c.exact_count.ensures m k edge top blocks S z (P.bits_are, P.bits_count) (subst (λ (n : ℕ). Holds m k top blocks n edge S) (sym P.tops_count) H)
