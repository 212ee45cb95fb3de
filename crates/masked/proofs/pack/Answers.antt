-- `masked::pack` meets its contract: the answer is told by the slots filled and the members still to be given.
use native.Mathlib.Omega.{arith}
use Rattle.masked.proofs.Packing.{pack_start, pack_none, pack_bad, pack_fits, pack_turn, last_fits, pack_last}
use Rattle.masked.proofs.pack.Goals as goal

pub loop-p-init : goal.loop-p-init
loop-p-init g c = let e = c.start-at.ensures in rw (e.0, e.1, e.2) (pack_start _ _ c.requires.walks.1)

pub returns-in_default : goal.returns-in_default
returns-in_default g c = pack_none c.loop-p.invariant c.in_default.ensures

pub returns-then-limit-p : goal.returns-then-limit-p
returns-then-limit-p g c = pack_bad c.loop-p.invariant _ c.in-Some.next c.in-Some.ensures c.requires.le_bits c.if-limit-p.true

pub overflow_add-result : goal.overflow_add-result
overflow_add-result g c =
    record {
      fits = last_fits c.loop-p.invariant _ c.in-Some.next c.in-Some.ensures c.requires.le_bits c.if-limit-p.false c.if-room-bits.true;
    }

pub returns-then-room-bits : goal.returns-then-room-bits
returns-then-room-bits g c =
    pack_last c.loop-p.invariant _ c.in-Some.next c.in-Some.ensures c.requires.le_bits c.if-limit-p.false
    c.if-room-bits.true

pub overflow_shl-key : goal.overflow_shl-key
overflow_shl-key g c = omega (arith, c.loop-p.invariant.small)

pub overflow_add-key : goal.overflow_add-key
overflow_add-key g c =
    record {
      fits = pack_fits c.loop-p.invariant _ c.in-Some.next c.in-Some.ensures c.requires.le_bits c.if-limit-p.false c.if-room-bits.false;
    }

pub loop-p-preserved : goal.loop-p-preserved
loop-p-preserved g c =
    pack_turn c.loop-p.invariant _ c.in-Some.next c.in-Some.ensures c.requires.le_bits c.if-limit-p.false
    c.if-room-bits.false
