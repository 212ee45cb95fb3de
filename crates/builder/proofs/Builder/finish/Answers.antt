-- `builder::Builder::finish` meets its contract: judged, then its set's filter written.
use mathlib.Core.Path.{sym, ◌∙◌}
use lib.Seq.{length-take-le}
use Rattle.builder.proofs.Outcomes.{finish_refused, finish_asks, finish_ready}
use Rattle.builder.proofs.Builder.finish.Goals as goal

pub write_filter-made-requires : goal.write_filter-made-requires
write_filter-made-requires c =
    let asked = finish_asks _ _ _ _ _ _ (rw c.from.ensures at (sym c.builder_and_target.ensures ∙ c.in_ok-s.was)) in
    record { room = asked.0; k_in_bounds = (asked.1.0, asked.1.2) }

pub slice_bounds-write_filter-end : goal.slice_bounds-write_filter-end
slice_bounds-write_filter-end c =
    let asked = finish_asks _ _ _ _ _ _ (rw c.from.ensures at (sym c.builder_and_target.ensures ∙ c.in_ok-s.was)) in
    sym (length-take-le _ _ asked.1.1)

pub returns : goal.returns
returns c =
    rw c.of.ensures
    (finish_ready _ _ _ _ _ _ (rw c.from.ensures at (sym c.builder_and_target.ensures ∙ c.in_ok-s.was))
    c.write_filter-made.ensures)

pub returns-in_err-s : goal.returns-in_err-s
returns-in_err-s c =
    finish_refused _ _ _ _ _ _ c.from_residual.ensures.1
    (rw c.from.ensures at (sym c.builder_and_target.ensures ∙ c.in_err-s.was))
