-- `compare::answer` meets its contract: the answer has room, is that to what was read, and so to the whole input.
use Rattle.std.proofs.Common.{rules}
use Rattle.std.proofs.lemmas.Result.{on_ok_weaker}
use Rattle.compare_text.proofs.Theorems.{bytes_written, never_short}
use Rattle.compare.proofs.Whole.{of_all}
use Rattle.compare.proofs.answer.Goals as goal

pub unwrap-m-requires : goal.unwrap-m-requires
unwrap-m-requires g c = rw (never_short _ _ (search rules) c.compare_text.ensures)

pub returns : goal.returns
returns g c =
    let answer = bytes_written c.compare_text.ensures c.unwrap-m.ensures in
    on_ok_weaker c.write_all.result
    (λ written. of_all _ _ _ _ c.in_ok-n.n c.read_full.new.buf (search rules) c.in_ok-n.ensures.fits c.in_ok-n.ensures.bytes c.in_ok-n.ensures.end (rw (← answer) written))
    c.write_all.ensures.bytes
