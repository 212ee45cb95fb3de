-- `decode::find` meets its contract: the first place of the mark.
use mathlib.Core.Path.{◌≡◌}
use borrow.Author.Tests.{tests}
use lib.Dec.{eqb}
use Rattle.std.proofs.Common.{rules}
use Rattle.std.proofs.lemmas.Iterator.{YieldsList-from_slice}
use Rattle.std.proofs.lemmas.Iterator.Search.{position_from_yields_List}
use Rattle.std.specs.Prelude.{position}
use Rattle.decode.proofs.Words.{finds_first}
use Rattle.decode.proofs.find.Goals as goal

pub returns : goal.returns
returns c =
    let first : c.position.result ≡ position (λ x. eqb x c.args.mark) c.args.s.now =
    position_from_yields_List (λ x. eqb x c.args.mark) _ _ c.position.result c.position.ensures.ran
    (YieldsList-from_slice c.args.s.now cc) (λ x b q k. search (rules, tests)) in
    rw first (finds_first c.args.mark c.args.s.now)
