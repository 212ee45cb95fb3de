-- `decode::all_digits` meets its contract: every byte is tried.
use mathlib.Core.Path.{◌∙◌}
use borrow.Author.Tests.{tests}
use Rattle.std.proofs.Common.{rules}
use Rattle.std.proofs.lemmas.Iterator.{YieldsList-from_slice}
use Rattle.std.proofs.lemmas.Iterator.Search.{all_from_yields_List}
use Rattle.sets.specs.Text.{is_digit}
use Rattle.decode.proofs.Decimals.{all_listed}
use Rattle.decode.proofs.all_digits.Goals as goal

pub returns : goal.returns
returns c =
    all_from_yields_List is_digit _ _ c.all.result c.all.ensures.ran (YieldsList-from_slice c.args.s.now cc) (λ x b q k. search (rules, tests))
    ∙ all_listed c.args.s.now
