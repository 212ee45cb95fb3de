-- `counts::limited_count` meets its contract: a filter that the judge takes is that of the set shown.
use native.Mathlib.Omega.{arith}
use Rattle.counts.specs.Counting.{limited_of}
use mathlib.Core.Path.{◌∙◌}
use Rattle.sizes.proofs.Laws.{handed_on}
use Rattle.judge.proofs.Verdicts.{refuses}
use Rattle.diff_count.proofs.Told.{One, fits_parts, one, one_not}
use Rattle.counts.proofs.Counted.{last_small, one_limited}
use Rattle.counts.proofs.limited_count.Goals as goal
use Rattle.counts.proofs.limited_count.Goals.{In_ok-s}
use Rattle.std.specs.Prelude.{Err}

-- what the judge told
told : (c : In_ok-s) →
    let a = c.args in
    One a.f a.top.now a.blocks.now c.in_ok-s.s
told c = one _ _ _ _ c.filter_lent.ensures c.in_ok-s.was

pub new-shown-requires : goal.new-shown-requires
new-shown-requires c = fits_parts (told (goal.at.new-shown-requires c).In_ok-s).fits

pub count_ones_from_msb_and_lsb-requires : goal.count_ones_from_msb_and_lsb-requires
count_ones_from_msb_and_lsb-requires c =
    let F = (told (goal.at.count_ones_from_msb_and_lsb-requires c).In_ok-s).fits in
    let P = c.new-shown.ensures in
    (omega (arith, F, P), omega (arith, F, P), omega (arith, F, last_small P F, c.last_entry-last.ensures))

pub returns : goal.returns
returns c =
    one_limited _ _ _ _ (told (goal.at.returns c).In_ok-s) c.new-shown.ensures _ _ c.last_entry-last.ensures
    c.count_ones_from_msb_and_lsb.ensures

pub returns-in_err-s : goal.returns-in_err-s
unfolding limited_of
returns-in_err-s c =
    handed_on _ c.from_residual.ensures.1
    ∙ refuses (λ x. Err x) _
    (one_not _ _ _ _ c.filter_lent.ensures c.in_err-s.was)
