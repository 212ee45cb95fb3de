-- `judge::is_filter` meets its contract.
use borrow.Author.Tests.{not-true, not-false}
use Rattle.judge.proofs.Soundness.{tells_not, tells_so, no_top, no_edge, by_bits}
use Rattle.judge.proofs.is_filter.Goals as goal

pub returns-then-not-top_fits : goal.returns-then-not-top_fits
returns-then-not-top_fits c =
    no_top _ _ c.requires
    (tells_not c.top_fits.result (not-true _ c.if-not-top_fits.true-raw) c.top_fits.ensures)

pub returns-then-into_usize-boundary : goal.returns-then-into_usize-boundary
returns-then-into_usize-boundary c = no_edge _ _ c.requires _ c.into_usize.ensures c.if-into_usize-boundary.true

pub returns : goal.returns
returns c =
    by_bits _ _ c.requires _ c.into_usize.ensures
    (tells_so c.top_fits.result (not-false _ c.if-not-top_fits.false-raw) c.top_fits.ensures)
    c.if-into_usize-boundary.false (λ i. (c.type_inv.blocks i).fits) _ c.bits_fit.ensures
