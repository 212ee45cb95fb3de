-- The figures spelled are the text of 01, and tell of the sets what is below W only. Assumes nothing.
use mathlib.Core.Path.{◌≡◌, sym, ap, ◌∙◌}
use mathlib.Core.List.{List, [], ◌∷◌, ◌++◌, append_assoc}
use Prim.Native.Nat.{ℕ}
use Rattle.sets.specs.Sets.{Agree, Set}
use Rattle.sets.specs.Configurations.{Config, W, config_at}
use Rattle.sets.specs.Text.{Mask, compared, line, to_decimal, to_hex}
use Rattle.figures.specs.Figures.{figures_of}
use Rattle.figures.specs.declared.Figures.{Figures}
use Rattle.compare_text.specs.Answers.{counts_text, order_text, spelled}
use Rattle.std.specs.Prelude.{Ok}
use Rattle.figures.proofs.Agreeing.{figures_agree}

pub compared_spelled : (c : Config) (m : Mask) (S T : Set) → spelled (Ok (figures_of c m.mask m.size S T)) ≡ compared c m S T
unfolding compared spelled figures_of
compared_spelled c m S T =
    let x : Figures = figures_of c m.mask m.size S T in
    joined (counts_text x) (order_text x.between.order)
    (line "key" (to_hex 16 x.first.key ∷ to_hex 16 x.second.key ∷ []))
    (line "overlap" (to_decimal x.overlap ∷ []))
  where
    joined : (counts order keys shared : List ℕ) → counts ++ (order ++ keys ++ shared) ≡ counts ++ order ++ keys ++ shared
    joined counts order keys shared =
        sym (append_assoc counts (order ++ keys) shared) ∙ ap (λ (l : List ℕ). l ++ shared) (sym (append_assoc counts order keys))

pub compared_agree : (n : ℕ) (m : Mask) (S S' T T' : Set) → Agree (W (config_at n)) S S' → Agree (W (config_at n)) T T'
    → compared (config_at n) m S T ≡ compared (config_at n) m S' T'
compared_agree n m S S' T T' x y =
    sym (compared_spelled (config_at n) m S T)
    ∙ ap (λ (z : Figures). spelled (Ok z)) (figures_agree n m.mask m.size S S' T T' x y)
    ∙ compared_spelled (config_at n) m S' T'
