-- `bitvec::count_ones_in_bytes` meets its contract: the blocks below i are counted.
use mathlib.Core.Path.{◌≡◌, ap, subst, ◌∙◌}
use Prim.Native.Nat.{ℕ, ◌+◌, ◌*◌, ◌^◌, ◌<◌}
use native.Mathlib.Omega.{arith}
use lib.Count.{ones}
use lib.ListN.{drop, get_or}
use Rattle.sets.specs.Row.{numbers}
use Rattle.unaligned.proofs.Runs.{number_read}
use Rattle.bitvec.proofs.Counting.{count_start, count_turn, count_end, count_few}
use Rattle.bitvec.proofs.count_ones_in_bytes.Goals as goal

pub loop-i-init : goal.loop-i-init
loop-i-init c = count_start _ _

pub loop-i-preserved : goal.loop-i-preserved
loop-i-preserved c =
    let s = c.args in
    let e : c.read.result ≡ get_or (numbers 8 s.n (drop s.at s.from.now)) c.loop-i.i 0 =
    number_read 8 s.n s.at s.from.now (s.at + 8 * c.loop-i.i) (omega arith) (omega arith)
    c.read.ensures in
    count_turn c.ones_of-total.result (omega arith) (subst (λ (x : ℕ). x < 2 ^ 64) e (omega arith))
    (c.ones_of-total.ensures ∙ ap ones e) c.loop-i.invariant

pub overflow_add-total : goal.overflow_add-total
overflow_add-total c = omega (arith, count_few (loop-i-preserved c))

pub returns : goal.returns
returns c = count_end (omega arith) c.loop-i.invariant
