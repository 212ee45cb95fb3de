-- A text cut at its first mark, and a text that begins with a word. Assumes nothing.
use mathlib.Core.Path.{◌≡◌, refl, sym, ◌∙◌, subst}
use mathlib.Core.Bool.{Bool, true, false, true≢false, cond, ◌&&◌}
use mathlib.Core.List.{List, [], ◌∷◌}
use mathlib.Core.Option as maybe
use Prim.Native.Nat.{ℕ, zero, suc, ◌≤◌, ◌<◌}
use native.Mathlib.Omega.{arith}
use lib.Dec.{eqb, ltb}
use lib.ListN.{length, get_or, take, drop}
use lib.Pointwise.{pointwise}
use borrow.Author.Tests.{eq-eqb, ne_eqb, eqb-true, ltb-true, ltb-false}
use Rattle.std.specs.Prelude.{None, Some, position}
use Rattle.std.specs.List.{position_or_len}
use Rattle.std.proofs.lemmas.List.Sums.{fails_before_first, passes_at_first}
use Rattle.sets.specs.Text.{whole, cut, cut_at, after}
use Rattle.sets.proofs.Tests.{both_true}
use Rattle.decode.specs.Parts.{Finds, Starts}

-- ---- find

-- no mark among the first i bytes
abbrev Unmarked : ℕ → List ℕ → ℕ → Type 0
Unmarked mark s i = (j : ℕ) → j < i → get_or s j 0 ≡ mark → ⊥

cut_found : (mark : ℕ) (s : List ℕ) (i : ℕ) → i < length s → Unmarked mark s i → get_or s i 0 ≡ mark
    → cut_at mark s ≡ cut (take i s) (drop (suc i) s)
cut_found mark [] i h n e = absurd (omega arith)
cut_found mark (b ∷ bs) zero h n e = rw (eq-eqb b mark e)
cut_found mark (b ∷ bs) (suc i) h n e =
    rw (ne_eqb b mark (n 0 (omega arith)), cut_found mark bs i (omega arith) (λ j l. n (suc j) (omega arith)) e)

cut_none : (mark : ℕ) (s : List ℕ) (i : ℕ) → length s ≤ i → Unmarked mark s i → cut_at mark s ≡ whole
cut_none mark [] i h n = refl
cut_none mark (b ∷ bs) zero h n = absurd (omega arith)
cut_none mark (b ∷ bs) (suc i) h n =
    rw (ne_eqb b mark (n 0 (omega arith)), cut_none mark bs i (omega arith) (λ j l. n (suc j) (omega arith)))

pub finds_first : (mark : ℕ) (s : List ℕ) → Finds mark s (position (λ x. eqb x mark) s)
finds_first mark s = go (ltb i (length s)) refl
  where
    i : ℕ
    i = position_or_len (λ x. eqb x mark) s

    unmarked : Unmarked mark s i
    unmarked j l e = true≢false (sym (eq-eqb (get_or s j 0) mark e) ∙ fails_before_first (λ x. eqb x mark) s j 0 l)

    go : (t : Bool) → ltb i (length s) ≡ t → Finds mark s (cond t (Some i) None)
    go true h =
        let l = ltb-true i (length s) h in
        (l, cut_found mark s i l unmarked (eqb-true (get_or s i 0) mark (passes_at_first (λ x. eqb x mark) s 0 l)))
    go false h = cut_none mark s i (ltb-false i (length s) h) unmarked

-- ---- starts_with

pub starts : (word s : List ℕ) → Starts word s (pointwise eqb word (take (length word) s))
starts [] s = (omega arith, refl)
starts (w ∷ ws) [] = refl
starts (w ∷ ws) (b ∷ bs) =
    let swapped : eqb b w ≡ eqb w b =
    both_true (eqb b w) (eqb w b) (λ h. eq-eqb w b (sym (eqb-true b w h))) (λ h. eq-eqb b w (sym (eqb-true w b h))) in
    subst (λ (t : Bool). Told (eqb b w) (t && rest)) swapped (go (eqb b w) rest (starts ws bs))
  where
    rest : Bool
    rest = pointwise eqb ws (take (length ws) bs)

    Told : Bool → Bool → Type 0
    Told t true = (suc (length ws) ≤ suc (length bs)) × (cond t (after ws bs) maybe.none ≡ maybe.some (drop (length ws) bs))
    Told t false = cond t (after ws bs) maybe.none ≡ maybe.none

    go : (t r : Bool) → Starts ws bs r → Told t (t && r)
    go true true e = (omega arith, e.1)
    go true false e = e
    go false r e = refl
