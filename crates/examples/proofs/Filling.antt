-- A buffer is filled from its beginning: what was read stands before what is read next.
use Rattle.std.proofs.Common.{◌≡◌, ℕ, ◌+◌, ◌≤◌, Option, List, ◌++◌, length, take, sym, ap, subst, ◌∙◌, length-take-le}
use borrow.Rule.Slice.PartMut.{post_of, put_mid, take_put}
use Rattle.std.proofs.Math.Seq.{take-append-add}
use Rattle.std.proofs.lemmas.List.{take-append-le}
use Rattle.std.specs.Io.KnownBytes.{Consumes, Keeps}
use Rattle.std.proofs.KnownBytes.{Consumes-kept, Consumes-trans}

-- what a part brings stands behind what stood before it
take_put_more : (at k n : ℕ) (xs part : List ℕ) → at ≤ length xs → n ≤ length part → take (at + n) (put_mid at k xs part) ≡ take at xs ++ take n part
take_put_more at k n xs part within fits =
    ap (λ i. take (i + n) (put_mid at k xs part)) (sym (length-take-le at xs within))
    ∙ take-append-add (take at xs) (part ++ post_of at k xs) n
    ∙ ap (λ l. take at xs ++ l) (take-append-le n part (post_of at k xs) fits)

-- n bytes more were read
pub consumes_more : (a b c : Option (List ℕ)) (at k n : ℕ) (xs part : List ℕ) → at ≤ length xs → n ≤ length part → Consumes a b (take at xs)
    → Consumes b c (take n part) → Consumes a c (take (at + n) (put_mid at k xs part))
consumes_more a b c at k n xs part within fits before read =
    subst (Consumes a c) (sym (take_put_more at k n xs part within fits)) (Consumes-trans a b c _ _ before read)

-- a read that failed consumed nothing
pub consumes_none : (a b c : Option (List ℕ)) (at k : ℕ) (xs part : List ℕ) → at ≤ length xs → Consumes a b (take at xs) → Keeps b c
    → Consumes a c (take at (put_mid at k xs part))
consumes_none a b c at k xs part within before kept =
    subst (Consumes a c) (sym (take_put at k xs part within)) (Consumes-kept a b c _ before kept)
