-- `figures::single_for` meets its contract: a filter that was judged is refused by no call.
use mathlib.Core.Path.{◌∙◌}
use Rattle.figures.proofs.Asked.{exact_answered, is_answer, key_answered, limited_answered, the_answer}
use Rattle.figures.proofs.single_for.Goals as goal

pub unwrap-requires : goal.unwrap-requires
unwrap-requires c = is_answer (c.exact_count.ensures ∙ exact_answered _ _ _ c.requires.filter)

pub unwrap-requires-2 : goal.unwrap-requires-2
unwrap-requires-2 c = is_answer (c.limited_count.ensures ∙ limited_answered _ _ _ c.requires.filter)

pub unwrap-requires-3 : goal.unwrap-requires-3
unwrap-requires-3 c = is_answer (c.masked_sort_key.ensures ∙ key_answered _ _ _ c.requires.filter _ _ c.requires.mask)

pub returns : goal.returns
returns c =
    let ones = the_answer (c.exact_count.ensures ∙ exact_answered _ _ _ c.requires.filter) c.unwrap.ensures in
    let limited = the_answer (c.limited_count.ensures ∙ limited_answered _ _ _ c.requires.filter) c.unwrap-2.ensures in
    let key = the_answer (c.masked_sort_key.ensures ∙ key_answered _ _ _ c.requires.filter _ _ c.requires.mask) c.unwrap-3.ensures in
    λ i. record { ones = ones i; limited = limited i; key = key i }
