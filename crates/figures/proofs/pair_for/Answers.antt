-- `figures::pair_for` meets its contract: filters that were judged are refused by no call.
use mathlib.Core.Path.{◌∙◌}
use Rattle.figures.proofs.Asked.{difference_answered, is_answer, limited_difference_answered, order_answered, the_answer}
use Rattle.figures.proofs.pair_for.Goals as goal

pub unwrap-requires : goal.unwrap-requires
unwrap-requires c = is_answer (c.exact_difference.ensures ∙ difference_answered _ _ _ _ _ _ _ _ c.requires)

pub unwrap-requires-2 : goal.unwrap-requires-2
unwrap-requires-2 c = is_answer (c.limited_difference.ensures ∙ limited_difference_answered _ _ _ _ _ _ _ _ c.requires)

pub unwrap-requires-3 : goal.unwrap-requires-3
unwrap-requires-3 c = is_answer (c.cmp_masked.ensures ∙ order_answered _ _ _ _ _ _ _ _ c.requires)

pub returns : goal.returns
returns c =
    let difference = the_answer (c.exact_difference.ensures ∙ difference_answered _ _ _ _ _ _ _ _ c.requires) c.unwrap.ensures in
    let limited = the_answer (c.limited_difference.ensures ∙ limited_difference_answered _ _ _ _ _ _ _ _ c.requires) c.unwrap-2.ensures in
    let order = the_answer (c.cmp_masked.ensures ∙ order_answered _ _ _ _ _ _ _ _ c.requires) c.unwrap-3.ensures in
    λ i. record { difference = difference i; limited = limited i; order = order i }
