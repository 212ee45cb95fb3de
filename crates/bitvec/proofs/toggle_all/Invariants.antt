-- `bitvec::toggle_all` meets its contract: the buckets before the one in hand are flipped.
use mathlib.Core.Path.{◌≡◌}
use lib.ListN.{take}
use Rattle.sets.specs.Words.{flip_bits}
use Rattle.bitvec.proofs.toggle_all.Given as goal

abbrev pub invariant-loop-bucket : goal.invariant-loop-bucket
invariant-loop-bucket l = l.blocks ≡ flip_bits l.initial.blocks (take l.bucket-index l.list)
