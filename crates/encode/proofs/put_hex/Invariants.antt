-- `encode::put_hex` meets its contract: a space, and a turn for each digit.
use Rattle.std.proofs.Common.{take}
use Rattle.sets.specs.Text.{to_hex}
use Rattle.encode.specs.Pieces.{PutsAt}
use Rattle.encode.proofs.put_hex.Given as goal

abbrev pub invariant-loop-i : goal.invariant-loop-i
invariant-loop-i l = PutsAt l.i (take l.i (to_hex 16 l.n)) l.initial.out l.initial.end l.out l.end
