-- `builder::write_filter` meets its contract: the bits are copied, then the pending buckets flipped in them.
use Rattle.builder.proofs.Finishing.{built_becomes}
use Rattle.builder.proofs.write_filter.Goals as goal

pub returns : goal.returns
returns c =
    built_becomes _ _ c.requires.room c.requires.k_in_bounds
    (rw c.copy.ensures at c.toggle_all.ensures) c.split.ensures
