-- `decode::starts_with` meets its contract: std compares the same bytes.
use Rattle.decode.proofs.Words.{starts}
use Rattle.decode.proofs.starts_with.Goals as goal

pub returns : goal.returns
returns c = rw c.starts_with.ensures.value (starts c.args.word.now c.args.s.now)
