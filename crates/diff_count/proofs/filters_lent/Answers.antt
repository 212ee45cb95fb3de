-- `diff_count::filters_lent` meets its contract: asking for the first's areas again changes nothing.
use Rattle.diff_count.proofs.Told.{two_lent}
use Rattle.diff_count.proofs.filters_lent.Goals as goal

pub returns : goal.returns
returns c = two_lent _ _ _ _ _ _ (rw (c.from.ensures, c.from-2.ensures) at c.two_filters.ensures)
