-- `decode::digits` meets its contract: the number so far, and the bytes from there on.
use mathlib.Core.Path.{sym}
use Rattle.std.proofs.Common.{arith}
use Rattle.decode.proofs.Decimals.{spelling_past}
use Rattle.decode.proofs.digits.Goals as goal

pub returns-in_err-checked_mul : goal.returns-in_err-checked_mul
returns-in_err-checked_mul c =
    rw c.from_residual.ensures
    (spelling_past c.loop-b.invariant c.loop-b-test.true (sym c.if-not-is_ascii_digit.ensures.value) (omega arith))

pub returns-in_err-number : goal.returns-in_err-number
returns-in_err-number c =
    rw c.from_residual-in_err-number.ensures
    (spelling_past c.loop-b.invariant c.loop-b-test.true (sym c.if-not-is_ascii_digit.ensures.value) (omega arith))
