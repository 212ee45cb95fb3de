-- Buckets flipped one after the other, and the set that the blocks hold once a filter's top entries are flipped in. Assumes nothing.
use mathlib.Core.Path.{◌≡◌, sym, ap, ap₂, ◌∙◌}
use mathlib.Core.List.{List, [], ◌∷◌}
use Prim.Native.Nat.{ℕ, ◌+◌, ◌*◌, ◌≤◌, ◌<◌}
use native.Mathlib.Numerals.{add-one}
use lib.ListN.{length, get_or, take, drop}
use lib.Seq.{take-suc}
use Rattle.sets.specs.Sets.{Set, Below}
use Rattle.sets.specs.Words.{held, flip_bit, flip_bits}
use Rattle.sets.proofs.Words.{flip_bits_append, held_flips, drop_flip_bits}
use Rattle.sets.proofs.Filters.{holds_set}
use Rattle.bitvec.specs.Parts.{Folded}

-- the bucket in hand is flipped too
pub flip_turn : (list blocks₀ : List ℕ) {blocks : List ℕ} (i : ℕ) (b : ℕ) (blocks' : List ℕ) → i < length list → b ≡ get_or list i 0
    → blocks ≡ flip_bits blocks₀ (take i list) → blocks' ≡ flip_bit blocks b → blocks' ≡ flip_bits blocks₀ (take (i + 1) list)
flip_turn list blocks₀ i b blocks' h e t f =
    f ∙ ap₂ flip_bit t e ∙ sym (flip_bits_append blocks₀ (take i list) (get_or list i 0 ∷ []))
    ∙ ap (flip_bits blocks₀) (sym (take-suc list i 0 h) ∙ ap (λ (x : ℕ). take x list) (sym (add-one i)))

-- ---- fold

pub folded : (k : ℕ) (top : List ℕ) (count : ℕ) (blocks₀ blocks : List ℕ) → k ≤ length blocks₀ → Below (64 * k) (take count top)
    → blocks ≡ flip_bits blocks₀ (take count top) → Folded k top count blocks₀ blocks
folded k top count blocks₀ blocks n b e =
    record {
      sets = λ m edge S z H p h.
          ap (λ (l : List ℕ). held l p) e ∙ ap (λ (R : Set). R p) (held_flips k blocks₀ (take count top) n b) ∙ holds_set H z p h;
      bit_rest = ap (drop k) e ∙ drop_flip_bits k blocks₀ (take count top) b;
    }
