-- `Text::put` meets its contract: the piece is put where the text ends.
use Rattle.encode.proofs.Pieces.{puts_to_text}
use Rattle.encode.proofs.Text.put.Goals as goal

pub returns : goal.returns
returns g c = puts_to_text c.self.told c.self.invariant c.requires c.self.view_is c.put-self-inside.ensures
