-- `decode::from_hex` meets its contract: i bytes are decoded, and the pairs from there on decide.
use Rattle.decode.proofs.Pairs.{Decoding}
use Rattle.decode.proofs.from_hex.Given as goal

abbrev pub invariant-loop-i : goal.invariant-loop-i
invariant-loop-i l = Decoding l.s l.to l.i
