-- `pending::push_all` meets its contract: the first i buckets listed are pushed.
use native.Mathlib.Omega.{arith}
use Rattle.pending.proofs.Moving.{moves_room}
use Rattle.pending.proofs.Pushing.{push_start, push_turn, push_end}
use Rattle.pending.proofs.push_all.Goals as goal

pub loop-bucket-init : goal.loop-bucket-init
loop-bucket-init c = push_start _ _ _ _ _ _ _ c.requires.staged

pub push_one-now-requires : goal.push_one-now-requires
push_one-now-requires c =
    let t = c.loop-bucket.invariant in record {
      room = moves_room t.moves c.requires.room;
      staged = t.moves.staged;
      level_nonzero = (
        c.requires.level_nonzero.0,
        c.requires.level_nonzero.1,
        omega (arith, c.into_usize.ensures, c.requires.level_nonzero.2 c.loop-bucket.bucket-index (omega arith)),
      );
    }

pub loop-bucket-preserved : goal.loop-bucket-preserved
loop-bucket-preserved c = push_turn c.loop-bucket.invariant _ (omega arith) c.into_usize.ensures _ _ _ c.push_one-now.ensures

pub returns : goal.returns
returns c = push_end c.loop-bucket.invariant c.loop-bucket-test.false
