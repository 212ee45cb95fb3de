-- `judge::top_fits` meets its contract.
use mathlib.Core.Path.{refl}
use native.Mathlib.Omega.{arith}
use borrow.Author.Tests.{not-true, not-false}
use Rattle.bitvec.proofs.Gathering.{gathered}
use Rattle.judge.proofs.Soundness.{tells_not, tells_so, top_tells}
use Rattle.judge.proofs.top_fits.Goals as goal

pub returns-then-not-falls : goal.returns-then-not-falls
returns-then-not-falls c = λ F. tells_not c.falls.result (not-true _ c.if-not-falls.true-raw) c.falls.ensures F.falling

pub returns : goal.returns
returns c =
    top_tells _ _ _ (omega arith)
    (tells_so c.falls.result (not-false _ c.if-not-falls.false-raw) c.falls.ensures)
    (gathered _ _ _ _ c.or.ensures) _ refl
