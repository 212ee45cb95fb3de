-- `encode::put_decimal` meets its contract: the digits are found from the last to the first.
use Rattle.encode.proofs.Decimals.{Digits}
use Rattle.encode.proofs.put_decimal.Given as goal

abbrev pub invariant-loop-rest : goal.invariant-loop-rest
invariant-loop-rest l = Digits l.n l.digits l.i l.rest

abbrev pub decreases-loop-rest : goal.decreases-loop-rest
decreases-loop-rest l = l.rest
