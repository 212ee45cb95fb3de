-- `encode::put_line` meets its contract: whatever puts what is left of the line puts the whole of it.
use mathlib.Core.Path.{◌≡◌, sym, subst}
use mathlib.Core.List.{List, [], ◌∷◌, ◌++◌, map}
use Prim.Native.Nat.{ℕ, ◌+◌}
use native.Mathlib.Numerals.{add-one}
use native.Mathlib.Omega.{arith}
use lib.ListN.{get_or, drop, drop_of_length-le}
use lib.Seq.{drop-cons}
use Rattle.sets.specs.Text.{fields, newline, space, to_decimal}
use Rattle.encode.specs.Pieces.{PutsAt}
use Rattle.encode.proofs.Pieces.{puts_at_more, puts_at_then}
use Rattle.encode.proofs.put_line.Goals as goal

pub loop-n-init : goal.loop-n-init
loop-n-init c = (omega arith, λ m out r p. puts_at_more (omega arith) p)

pub loop-n-preserved : goal.loop-n-preserved
loop-n-preserved c =
    let l = c.loop-n in
    let i = l.n-index in
    let ns = c.args.numbers.now in
    let e : fields (map to_decimal (drop i ns)) ≡ (space ∷ to_decimal (get_or ns i 0)) ++ fields (map to_decimal (drop (i + 1) ns)) =
    rw (add-one, drop-cons ns i 0 c.loop-n-test.true) in (
      omega (arith, c.put_decimal-end.ensures.near),
      λ m out r p.
          puts_at_more (omega arith)
          (l.invariant.1 (21 + m) out r
          (subst (λ (bs : List ℕ). PutsAt (21 + m) bs l.out l.end out r) (sym e) (puts_at_then c.put_decimal-end.ensures p))),
    )

pub returns : goal.returns
returns c =
    let l = c.loop-n in
    let e : fields (map to_decimal (drop l.n-index c.args.numbers.now)) ≡ newline ∷ [] = rw (drop_of_length-le c.args.numbers.now c.loop-n-test.false) in
    puts_at_more (omega arith)
    (puts_at_then c.put-end.ensures
    (l.invariant.1 1 _ _ (subst (λ (bs : List ℕ). PutsAt 1 bs l.out l.end c.put.new.out c.put.result) (sym e) c.put.ensures)))
