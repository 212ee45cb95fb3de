-- `bitchunks::next_one` meets its contract: a block that is used up is left for the next that holds a member.
use mathlib.Core.Path.{sym, subst}
use Rattle.std.specs.Prelude.{Some}
use Rattle.bitchunks.specs.Ones.{Gives}
use Rattle.bitchunks.proofs.Giving.{seek_start, seek_turn, seek_end, seek_none}
use Rattle.bitchunks.proofs.next_one.Goals as goal

pub returns-then-from-ne0 : goal.returns-then-from-ne0
returns-then-from-ne0 g c = c.take_one.ensures _ _ c.requires.1

pub returns-in_err-block : goal.returns-in_err-block
returns-in_err-block g c =
    subst (Gives _ _ _) (sym c.from_residual.ensures) (seek_none (seek_start _ _ c.requires.1) c.if-from-ne0.false c.in_err-block.ensures)

pub returns : goal.returns
returns g c =
    seek_end (seek_turn (seek_start _ _ c.requires.1) c.if-from-ne0.false c.in_ok-block.ensures.1) (Some c.take_one-2.result)
    c.take_one-2.ensures
