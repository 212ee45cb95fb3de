-- Fold and split are each other's reverse. Assumes nothing.
use mathlib.Core.Path.{◌≡◌, sym, ◌∙◌}
use mathlib.Core.List.{List}
use Prim.Native.Nat.{ℕ, ◌*◌, ◌<◌}
use lib.ListN.{take}
use Rattle.sets.specs.Sets.{Set, Agree}
use Rattle.sets.specs.Words.{held}
use Rattle.sets.specs.Filter.{Holds}
use Rattle.sets.proofs.Filters.{holds_same}
use Rattle.bitvec.specs.Parts.{Folded, SplitOf}

-- split, then folded: the blocks hold what they held
pub split_fold : {m k : ℕ} {top₀ blocks₀ top blocks folded : List ℕ} {count edge : ℕ} → 0 < m
    → SplitOf m k top₀ blocks₀ top blocks count edge
    → Folded k top count blocks folded → Agree (64 * k) (held folded) (held blocks₀)
split_fold {m} {blocks₀ = blocks₀} {edge = edge} z s f = f.sets m edge (held blocks₀) z s.holds

-- folded, then split: record and areas are what they were
pub fold_split : {m k : ℕ} {top blocks folded top₁ blocks₁ : List ℕ} {count edge count₁ edge₁ : ℕ} (S : Set) → 0 < m
    → Holds m k top blocks count edge S
    → Folded k top count blocks folded → SplitOf m k top folded top₁ blocks₁ count₁ edge₁
    → (count₁ ≡ count) × (edge₁ ≡ edge) × (take m top₁ ≡ take m top) × (take k blocks₁ ≡ take k blocks)
fold_split {m} {k} {folded = folded} {top₁} {blocks₁} {edge = edge} {count₁} {edge₁} S z H f s =
    let G : Holds m k top₁ blocks₁ count₁ edge₁ S = holds_same m k (held folded) S (f.sets m edge S z H) s.holds in
    (G.count_is ∙ sym H.count_is, G.edge_is ∙ sym H.edge_is, G.tops ∙ sym H.tops, G.bits ∙ sym H.bits)
