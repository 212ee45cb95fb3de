-- `bitchunks::next_xor_chunk` meets its contract: the laws of two walks' step.
use Rattle.bitchunks.proofs.Walk.{cross_ahead, cross_other, cross_chunk}
use Rattle.bitchunks.proofs.next_xor_chunk.Goals as goal

pub merge-first-requires : goal.merge-first-requires
merge-first-requires g c = (
  c.requires.walks.0,
  cross_ahead c.requires.walks.1 c.requires.walks_2.1 c.reach-reached.ensures c.reach.ensures _ c.max-e.ensures c.if-e-eq0.false,
)

pub merge-second-requires : goal.merge-second-requires
merge-second-requires g c = (
  c.requires.walks_2.0,
  cross_other c.requires.walks.1 c.requires.walks_2.1 c.reach-reached.ensures c.reach.ensures _ c.max-e.ensures c.if-e-eq0.false,
)

pub returns : goal.returns
returns g c =
    cross_chunk c.requires.walks.1 c.requires.walks_2.1 c.reach-reached.ensures c.reach.ensures _ c.max-e.ensures
    c.if-e-eq0.false c.merge-first.ensures c.merge-second.ensures
