-- `compare_text::compare_text` meets its contract: the answer is copied where there is room.
use mathlib.Core.Path.{ap, ◌∙◌}
use mathlib.Core.List.{List}
use Prim.Native.Nat.{ℕ}
use lib.ListN.{length}
use Rattle.sets.specs.Filter.{filled}
use Rattle.compare_text.proofs.Answering.{copied, too_short}
use Rattle.compare_text.proofs.compare_text.Goals as goal

pub returns-then-out-n : goal.returns-then-out-n
returns-then-out-n c =
    too_short c.args.input.now c.args.out.now (c.as_bytes-answer.ensures ∙ c.put_judged-text.ensures ∙ c.judged_input.ensures) c.if-out-n.true

pub returns : goal.returns
returns c =
    copied c.args.input.now c.args.out.now (c.as_bytes-answer.ensures ∙ c.put_judged-text.ensures ∙ c.judged_input.ensures) c.if-out-n.false
    (ap (λ (l : List ℕ). filled l (length c.as_bytes-answer.result.now) c.args.out.now) c.copy_from_slice.ensures.after)
