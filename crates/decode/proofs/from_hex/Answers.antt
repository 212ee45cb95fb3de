-- `decode::from_hex` meets its contract: i bytes are decoded, and the pairs from there on decide.
use Rattle.std.proofs.Common.{arith}
use Rattle.decode.proofs.Pairs.{decoding_turn}
use Rattle.decode.proofs.from_hex.Goals as goal

pub loop-i-preserved : goal.loop-i-preserved
loop-i-preserved c =
    decoding_turn c.loop-i.invariant (omega arith) _ _ (omega arith) c.in_ok-value.ensures.is c.in_ok-to.ensures.is
