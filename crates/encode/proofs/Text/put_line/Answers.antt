-- `Text::put_line` meets its contract: the piece is put where the text ends.
use native.Mathlib.Omega.{arith}
use Rattle.encode.proofs.Pieces.{puts_to_text}
use Rattle.encode.proofs.Text.put_line.Goals as goal

pub returns : goal.returns
returns g c = puts_to_text c.self.told c.self.invariant (omega arith) c.self.view_is c.put_line-self-inside.ensures
