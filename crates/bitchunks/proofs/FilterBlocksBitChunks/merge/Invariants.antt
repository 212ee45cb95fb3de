-- The merge of a filter meets its contract: the entries left have what the block still lacks.
use mathlib.Core.Path.{◌≡◌}
use Rattle.bitchunks.specs.Walk.{merged, Merging}
use Rattle.bitchunks.proofs.FilterBlocksBitChunks.merge.Given as goal

abbrev pub invariant-loop-at : goal.invariant-loop-at
invariant-loop-at l = (l.past ≡ l.at) × Merging (merged l.self.top.now 0 l.self.blocks.now) l.self.top.now l.i l.at l.block
