-- A piece put to a text, or into a buffer.
use Rattle.std.specs.Prelude.{◌≡◌, List, ℕ, ◌+◌, ◌++◌, ◌≤◌, length}
use Rattle.std.proofs.lemmas.List.Edits.{sets}

-- the piece stands behind the text, which is longer by no more than `most`
pub record Puts (most : ℕ) (piece before after : List ℕ) : Type 0 where
  pub text : after ≡ before ++ piece
  pub near : length after ≤ length before + most

-- the bytes stand at a place, the rest is as it was, and r is the place after them, no more than `most` further
pub record PutsAt (most : ℕ) (bytes out : List ℕ) (at : ℕ) (out' : List ℕ) (r : ℕ) : Type 0 where
  pub text : out' ≡ sets out at bytes
  pub end : r ≡ at + length bytes
  pub near : r ≤ at + most
