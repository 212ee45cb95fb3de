-- `decode::digits` meets its contract: the number so far, and the bytes from there on.
use Rattle.decode.proofs.Decimals.{Spelling}
use Rattle.decode.proofs.digits.Given as goal

abbrev pub invariant-loop-b : goal.invariant-loop-b
invariant-loop-b l = Spelling l.s l.number l.b-index
