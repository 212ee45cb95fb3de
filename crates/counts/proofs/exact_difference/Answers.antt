-- `counts::exact_difference` meets its contract: the walk goes over the sets that the two filters show.
use Rattle.counts.specs.Counting.{exact_difference_of}
use mathlib.Core.Path.{◌∙◌}
use Rattle.sizes.proofs.Laws.{handed_on}
use Rattle.judge.proofs.Verdicts.{refuses}
use Rattle.diff_count.proofs.Told.{Two, fits_parts, fits_walk, two, two_not}
use Rattle.counts.proofs.Counted.{two_exact}
use Rattle.counts.proofs.exact_difference.Goals as goal
use Rattle.counts.proofs.exact_difference.Goals.{In_ok-s}
use Rattle.std.specs.Prelude.{Err}

-- what the judge told
told : (c : In_ok-s) →
    let a = c.args in
    Two a.a a.top.now a.blocks.now a.b a.top2.now a.blocks2.now c.in_ok-s.s
told c = two _ _ _ _ _ _ _ c.filters_lent.ensures c.in_ok-s.was

pub new-first-requires : goal.new-first-requires
new-first-requires c = fits_parts (told (goal.at.new-first-requires c).In_ok-s).fits

pub new-second-requires : goal.new-second-requires
new-second-requires c = fits_parts (told (goal.at.new-second-requires c).In_ok-s).fits2

pub exact_xor_count-requires : goal.exact_xor_count-requires
exact_xor_count-requires c =
    let T = told (goal.at.exact_xor_count-requires c).In_ok-s in
    record { walks = (tt, (fits_walk c.new-first.ensures T.fits).0); walks_2 = (tt, (fits_walk c.new-second.ensures T.fits2).0) }

pub returns : goal.returns
returns c =
    two_exact _ _ _ _ _ _ _ (told (goal.at.returns c).In_ok-s) c.new-first.ensures c.new-second.ensures _
    c.exact_xor_count.ensures

pub returns-in_err-s : goal.returns-in_err-s
unfolding exact_difference_of
returns-in_err-s c =
    handed_on _ c.from_residual.ensures.1
    ∙ refuses (λ x. Err x) _
    (two_not _ _ _ _ _ _ _ c.filters_lent.ensures c.in_err-s.was)
