-- `counts::exact_count` meets its contract: a filter that the judge takes is that of the set shown.
use native.Mathlib.Omega.{arith}
use Rattle.counts.specs.Counting.{exact_of}
use mathlib.Core.Path.{◌∙◌}
use Rattle.sizes.proofs.Laws.{handed_on}
use Rattle.judge.proofs.Verdicts.{refuses}
use Rattle.diff_count.proofs.Told.{One, fits_parts, one, one_not}
use Rattle.counts.proofs.Counted.{one_exact}
use Rattle.counts.proofs.exact_count.Goals as goal
use Rattle.counts.proofs.exact_count.Goals.{In_ok-filter_lent}
use Rattle.std.specs.Prelude.{Err}

-- what the judge told
told : (c : In_ok-filter_lent) →
    let a = c.args in
    One a.f a.top.now a.blocks.now c.in_ok-filter_lent.field-0
told c = one _ _ _ _ c.filter_lent.ensures c.in_ok-filter_lent.was

pub new-requires : goal.new-requires
new-requires c = fits_parts (told c).fits

pub exact_count-requires : goal.exact_count-requires
exact_count-requires c =
    let F = (told (goal.at.exact_count-requires c).In_ok-filter_lent).fits in
    let P = c.new.ensures in
    (omega (arith, F, P), omega (arith, F, P))

pub returns : goal.returns
returns c = one_exact _ _ _ _ (told (goal.at.returns c).In_ok-filter_lent) c.new.ensures _ c.exact_count.ensures

pub returns-in_err-filter_lent : goal.returns-in_err-filter_lent
unfolding exact_of
returns-in_err-filter_lent c =
    handed_on _ c.from_residual.ensures.1
    ∙ refuses (λ x. Err x) _
    (one_not _ _ _ _ c.filter_lent.ensures c.in_err-filter_lent.was)
