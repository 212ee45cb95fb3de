-- `diff_count::symmetric_difference` meets its contract: judged, then xored into the third areas.
use mathlib.Core.Path.{sym, ◌∙◌}
use Rattle.diff_count.proofs.Outcomes.{difference_refused, difference_asks, difference_ready}
use Rattle.diff_count.proofs.symmetric_difference.Goals as goal

pub xor-third-requires : goal.xor-third-requires
xor-third-requires c = let asked = difference_asks _ _ _ _ _ _ _ _ _ (sym c.two_filters.ensures ∙ c.in_ok-s.was) in record { room = asked.0; boundary_value = asked.1.0; boundary_value_2 = asked.1.1 }

pub returns : goal.returns
returns c =
    rw c.of.ensures
    (difference_ready _ _ _ _ _ _ _ _ _
    (rw (c.from-tally.ensures, c.from-tally2.ensures) at (sym c.two_filters.ensures ∙ c.in_ok-s.was))
    (rw (c.from-tally.ensures, c.from-tally2.ensures) at c.xor-third.ensures))

pub returns-in_err-s : goal.returns-in_err-s
returns-in_err-s c =
    difference_refused _ _ _ _ _ _ _ _ _ c.from_residual.ensures.1
    (rw (c.from-tally.ensures, c.from-tally2.ensures) at (sym c.two_filters.ensures ∙ c.in_err-s.was))
