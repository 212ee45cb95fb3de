-- The search for the highest block in which a mask keeps a difference of two walks, and the order that this block tells. Assumes nothing.
use mathlib.Core.Path.{◌≡◌, refl, sym, ap, ap₂, ◌∙◌, subst}
use mathlib.Core.Bool.{Bool, true, false, cond, and-false, ◌&&◌}
use mathlib.Core.List.{List}
use Prim.Native.Nat.{ℕ, suc, ◌+◌, ◌-◌, ◌*◌, ◌^◌, ◌≤◌, ◌<◌}
use native.Mathlib.Nat.{le_of_lt}
use native.Mathlib.Decide.{dec_lt}
use native.Mathlib.Omega.{arith}
use lib.Bits.{bit_and, bit_xor}
use lib.Dec.{ltb}
use borrow.Author.Tests.{le-ltb, lt-ltb}
use Rattle.sets.specs.Sets.{Empty, Set, apart, differ, none}
use Rattle.sets.specs.Words.{TopDigit, block_at}
use Rattle.sets.specs.Masks.{holder, kept, laid, order_of}
use Rattle.sets.proofs.Laws.{members_head, members_none}
use Rattle.sets.proofs.Masks.{kept_block, kept_same}
use Rattle.sets.proofs.Words.{word_none_back, top_digit, top_member, word_apart, word_both, word_less, word_lt}
use Rattle.bitchunks.specs.Walk.{Ahead}
use Rattle.bitchunks.specs.Xor.{Crossed}
use Rattle.masked.specs.Inner.{Decides, DecidesAt, decided, order_by}
use Rattle.std.specs.declared.cmp.Ordering.TheVariants.{Less, Equal, Greater}
use Rattle.std.specs.Prelude.{Option, Some, None}

-- ---- the search

-- in the blocks from `end` up to k the mask keeps no difference
pub record Differing (S R : Set) (mask size : ℕ) (tops others : List ℕ) (k passed other end : ℕ) : Type 0 where
  pub within : end ≤ k
  pub empty : Empty (kept mask size (apart S R)) (64 * end) (64 * k)
  pub ahead : Ahead tops passed end
  pub other_ahead : Ahead others other end

module _ {S R : Set} {mask size : ℕ} {tops others : List ℕ} {k passed other end : ℕ}
    (t : Differing S R mask size tops others k passed other end) where
  -- a step's gap joins what was passed before
  differ_gap : (j : ℕ) → Empty (apart S R) (64 * j) (64 * end) → Empty (kept mask size (apart S R)) (64 * j) (64 * k)
  differ_gap j g p a b = go (dec_lt p (64 * end))
    where
      go : Dec (p < 64 * end) → kept mask size (apart S R) p ≡ false
      go (yes h) = kept_same mask size (apart S R) none p (g p a h) ∙ and-false (laid mask size p)
      go (no h) = t.empty p (omega arith) b

  module _ {i block first p q keeps : ℕ} (x : Crossed S R tops others end i block first p q)
      (m : keeps ≡ bit_and block (block_at (laid mask size) i)) where
    kept_is : keeps ≡ block_at (kept mask size (apart S R)) i
    kept_is = m ∙ ap (λ (y : ℕ). bit_and y (block_at (laid mask size) i)) x.is ∙ sym (kept_block mask size (apart S R) i)

    -- the mask keeps nothing of the block
    pub differ_turn : keeps ≡ 0 → Differing S R mask size tops others k p q i
    differ_turn z =
        record {
          within = omega (arith, x.under, t.within);
          empty = λ b l h. go b l h (dec_lt b (64 * suc i));
          ahead = x.ahead;
          other_ahead = x.other_ahead;
        }
      where
        go : (b : ℕ) → 64 * i ≤ b → b < 64 * k → Dec (b < 64 * suc i) → kept mask size (apart S R) b ≡ false
        go b l h (yes u) =
            let e : b ≡ 64 * i + (b - 64 * i) = omega arith in
            ap (kept mask size (apart S R)) e
            ∙ word_none_back (kept mask size (apart S R)) (64 * i) 64 (sym kept_is ∙ z) (b - 64 * i) (omega arith)
        go b l h (no u) = differ_gap (suc i) x.gap b (omega arith) h

    pub differ_end : (keeps ≡ 0 → ⊥) → DecidesAt mask size S R k keeps first
    differ_end z =
        record {
          index = i;
          under = omega (arith, x.under, t.within);
          gap = differ_gap (suc i) x.gap;
          some = omega (arith, z);
          is = kept_is;
          first_is = x.first_is;
        }

-- ---- the order

order_none : (mask size : ℕ) (S R : Set) (k : ℕ) → Empty (kept mask size (apart S R)) 0 (64 * k)
    → Equal ≡ order_of (64 * k) mask size S R
unfolding order_of
order_none mask size S R k e =
    sym (ap (holder S) (members_none (kept mask size (apart S R)) (64 * k) (λ p l. e p (omega arith) l)))

module _ {mask size : ℕ} {S R : Set} {k keeps first : ℕ} (d : DecidesAt mask size S R k keeps first) where
  abbrev D : Set
  D = kept mask size (apart S R)

  abbrev i : ℕ
  i = d.index

  -- of what is kept, the part that the first holds and the other part
  abbrev mine : Set
  mine p = D p && S p

  abbrev yours : Set
  yours = apart D mine

  mine_is : bit_and keeps first ≡ block_at mine i
  mine_is = ap₂ bit_and d.is d.first_is ∙ sym (word_both D S (64 * i) 64)

  yours_is : bit_xor keeps (bit_and keeps first) ≡ block_at yours i
  yours_is = ap₂ bit_xor d.is mine_is ∙ sym (word_apart D mine (64 * i) 64)

  module _ {bit : ℕ} (t : TopDigit keeps bit) where
    highest : (D (64 * i + bit) ≡ true) × ((q : ℕ) → bit < q → q < 64 → D (64 * i + q) ≡ false)
    highest = top_member D i bit (subst (λ (w : ℕ). TopDigit w bit) d.is t)

    -- the highest place of the block is the largest kept bucket that exactly one of the two holds
    order_is_lem : order_of (64 * k) mask size S R ≡ cond (S (64 * i + bit)) Greater Less
    unfolding order_of
    order_is_lem =
        ap (holder S) (members_head D (64 * i + bit) (64 * k) (omega (arith, t.small, d.under)) highest.0
        (λ p a b. go p a b (dec_lt p (64 * suc i))))
      where
        go : (p : ℕ) → 64 * i + bit < p → p < 64 * k → Dec (p < 64 * suc i) → D p ≡ false
        go p a b (yes h) =
            let x : p ≡ 64 * i + (p - 64 * i) = omega arith in
            ap D x ∙ highest.1 (p - 64 * i) (omega arith) (omega arith)
        go p a b (no h) = d.gap p (omega arith) b

    mine_above : (q : ℕ) → bit < q → q < 64 → mine (64 * i + q) ≡ false
    mine_above q a b = ap (λ (x : Bool). x && S (64 * i + q)) (highest.1 q a b)

    yours_above : (q : ℕ) → bit < q → q < 64 → yours (64 * i + q) ≡ false
    yours_above q a b = ap₂ differ (highest.1 q a b) (mine_above q a b)

    -- so the part that has it is the larger number
    larger : (b : Bool) → S (64 * i + bit) ≡ b → ltb (block_at yours i) (block_at mine i) ≡ b
    larger true e =
        let m : mine (64 * i + bit) ≡ true = ap₂ ◌&&◌ highest.0 e in
        lt-ltb _ _ (word_less mine yours (64 * i) 64 bit t.small m (ap₂ differ highest.0 m) mine_above yours_above)
    larger false e =
        let m : mine (64 * i + bit) ≡ false = ap₂ ◌&&◌ highest.0 e in
        le-ltb _ _ (le_of_lt (word_less yours mine (64 * i) 64 bit t.small (ap₂ differ highest.0 m) m yours_above mine_above))

  order_decided : decided (Some (keeps, first)) ≡ order_of (64 * k) mask size S R
  unfolding order_by
  order_decided =
      let t = top_digit keeps d.some (subst (λ (w : ℕ). w < 2 ^ 64) (sym d.is) (word_lt D (64 * i) 64)) in
      ap₂ (λ (x y : ℕ). cond (ltb x y) Greater Less) yours_is mine_is
      ∙ ap (λ (b : Bool). cond b Greater Less) (larger t _ refl)
      ∙ sym (order_is_lem t)

-- what a search found tells the order
pub decides_order : (mask size : ℕ) (S R : Set) (k : ℕ) (d : Option (ℕ × ℕ)) → Decides mask size S R k d
    → decided d ≡ order_of (64 * k) mask size S R
decides_order mask size S R k (Some x) e = order_decided e
decides_order mask size S R k None e = order_none mask size S R k e

-- and so do the two parts
module _ {d : Option (ℕ × ℕ)} {keeps first : ℕ} (q : d ≡ Some (keeps, first)) where
  tells : {b : Bool} → ltb (bit_xor keeps (bit_and keeps first)) (bit_and keeps first) ≡ b → cond b Greater Less ≡ decided d
  unfolding order_by
  tells e = sym (ap decided q ∙ ap (λ (b : Bool). cond b Greater Less) e)

  pub order_greater : bit_xor keeps (bit_and keeps first) < bit_and keeps first → Greater ≡ decided d
  order_greater h = tells (lt-ltb _ _ h)

  pub order_less : bit_and keeps first ≤ bit_xor keeps (bit_and keeps first) → Less ≡ decided d
  order_less h = tells (le-ltb _ _ h)
