-- Which row is named, and where a reader's place goes. Assumes nothing.
use mathlib.Core.Path.{◌≡◌, refl, sym, ap, ◌∙◌}
use mathlib.Core.Bool.{Bool, true, false, cond}
use mathlib.Core.List.{List, [], ◌∷◌}
use Prim.Native.Nat.{ℕ, suc}
use native.Mathlib.Omega.{arith}
use denote.Ref.{Bor}
use lib.ListN.{length, get_or}
use borrow.Author.Tests.{ltb-true, ltb-false}
use Rattle.sets.specs.Masks.{first_wins, given_at}
use Rattle.sets.specs.Refusals.{Verdict, taken, refused, answer}
use Rattle.sets.proofs.Reader.{given_bucket, given_end}
use Rattle.sizes.specs.Sizes.{refusal}
use Rattle.sizes.specs.declared.Refusal.{Refusal}
use Rattle.masked.specs.Inner.{order_answer}
use Rattle.row_order.specs.Calls.{seen, cmp_rows_of, greater_of, rows_order, rows_verdict}
use Rattle.row_reader.specs.Reading.{buckets_of, given_told, step_answer, step_place}
use Rattle.exports.specs.Told.{told, greater_cell}
use Rattle.exports.specs.Calls.{reader_after, row_named}
use Rattle.std.specs.Prelude.{Option, Result, Err, ltb}
use Rattle.std.specs.declared.cmp.Ordering.{Ordering}
use Rattle.std.specs.declared.cmp.Ordering.TheVariants.{Less, Equal, Greater}

-- the row that is named is the one that the greater of the two rows is
pub named : (n mask size : ℕ) (first second : Bor (List ℕ))
    → greater_of n mask size first second ≡ row_named (told greater_cell (cmp_rows_of n mask size first.now second.now)) first second
unfolding greater_of cmp_rows_of
named n mask size first second = go (rows_verdict n mask size first.now second.now) (rows_order n mask size first.now second.now)
  where
    go : (v : Verdict) (o : Ordering)
        → answer v (λ r. (first.ref_ptr, [])) (cond (first_wins o) (seen first) (seen second))
        ≡ row_named (told greater_cell (order_answer v o)) first second
    go taken Less = refl
    go taken Equal = refl
    go taken Greater = refl
    go (refused r) o = refl

-- the place after a step is that of the reader that is left, since it stays where no bucket is given
pub place_kept : (reader row : List ℕ) → length reader ≡ 2
    → let n = get_or reader 0 0 in let place = get_or reader 1 0 in
    (n ∷ step_place n row place ∷ []) ≡ reader_after reader (step_answer n row place) (step_place n row place)
unfolding reader_after step_answer step_place
place_kept [] row e = absurd (omega (arith, e))
place_kept (n ∷ []) row e = absurd (omega (arith, e))
place_kept (n ∷ place ∷ x ∷ xs) row e = absurd (omega (arith, e))
place_kept (n ∷ place ∷ []) row e = go _
  where
    Kept : Result (Option ℕ) Refusal → ℕ → Type 0
    Kept given next = (n ∷ next ∷ []) ≡ reader_after (n ∷ place ∷ []) given next

    at : (ps : List ℕ) (b : Bool) → ltb place (length ps) ≡ b → Kept (given_told (given_at ps place)) (cond b (suc place) place)
    at ps true q = rw (given_bucket ps place (ltb-true place (length ps) q))
    at ps false q = rw (given_end ps place (ltb-false place (length ps) q))

    go : (v : Verdict)
        → Kept (answer v (λ r. Err (refusal r)) (given_told (given_at (buckets_of n row) place)))
        (answer v (λ r. place) (cond (ltb place (length (buckets_of n row))) (suc place) place))
    go taken = at (buckets_of n row) _ refl
    go (refused k) = refl

-- so a reader whose place stays is left as it is
pub place_held : (reader row : List ℕ) → length reader ≡ 2
    → let n = get_or reader 0 0 in let place = get_or reader 1 0 in
    step_place n row place ≡ place → reader ≡ reader_after reader (step_answer n row place) (step_place n row place)
place_held [] row e h = absurd (omega (arith, e))
place_held (n ∷ []) row e h = absurd (omega (arith, e))
place_held (n ∷ place ∷ x ∷ xs) row e h = absurd (omega (arith, e))
place_held (n ∷ place ∷ []) row e h = ap (λ (p : ℕ). n ∷ p ∷ []) (sym h) ∙ place_kept (n ∷ place ∷ []) row e
