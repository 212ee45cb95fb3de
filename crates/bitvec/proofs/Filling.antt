-- Loops that write one cell after the other: what stands in memory while they go, and what it holds in the end. Assumes nothing.
use mathlib.Core.Path.{◌≡◌, refl, sym, ap, ◌∙◌}
use mathlib.Core.List.{List, [], ◌∷◌, ◌++◌, append_assoc, append-nil}
use Prim.Native.Nat.{ℕ, suc, ◌+◌, ◌-◌, ◌*◌, ◌/◌, ◌%◌, ◌≤◌, ◌<◌}
use native.Mathlib.Decide.{dec_lt}
use native.Mathlib.Numerals.{add-one}
use native.Mathlib.Omega.{arith}
use borrow.Rule.Slice.PartMut.{put_mid}
use lib.Bits.{bit_xor}
use lib.ListN.{length, get_or, take, drop, set, replicate, length-append, length-drop, length-replicate, length-set}
use lib.ListN.{get_or-replicate, get_or-append}
use lib.Seq.{drop-cons, drop-length, drop_at, drop-drop, set_at, take_at, get_or-take, get_or-append-add, length-take-le}
use Rattle.sets.specs.Sets.{apart, tabulate}
use Rattle.sets.specs.Words.{digit, held}
use Rattle.sets.specs.Filter.{filled}
use Rattle.sets.proofs.Words.{digit_xor}
use Rattle.sets.proofs.Lists.{length_tabulate, get_d_tabulate, take_tabulate}
use Rattle.bitvec.specs.Cells.{zeroed, xored}

-- Of the k cells to write i are written: `values i` are those. The rest is as it was.
pub record Filling (values : ℕ → List ℕ) (k : ℕ) (old now : List ℕ) (i : ℕ) : Type 0 where
  pub high : i ≤ k
  pub given : length (values i) ≡ i
  pub are : now ≡ filled (values i) i old
  pub length_is : length now ≡ length old

pub fill_start : (values : ℕ → List ℕ) (k : ℕ) (old : List ℕ) (i : ℕ) → i ≤ k → length (values i) ≡ i
    → old ≡ filled (values i) i old → Filling values k old old i
fill_start values k old i h g e = record { high = h; given = g; are = e; length_is = refl }

-- the next cell
filled_set : (xs old : List ℕ) (i v : ℕ) → length xs ≡ i → i < length old → set (filled xs i old) i v ≡ filled (xs ++ (v ∷ [])) (suc i) old
filled_set xs old i v e h =
    ap (λ (l : List ℕ). set (xs ++ l) i v) (drop-cons old i 0 h)
    ∙ set_at xs (get_or old i 0) (drop (suc i) old) v i e
    ∙ sym (append_assoc xs (v ∷ []) (drop (suc i) old))

pub fill_turn : {values : ℕ → List ℕ} {k : ℕ} {old now : List ℕ} {i : ℕ} (v : ℕ) → k ≤ length old → i < k
    → values (suc i) ≡ values i ++ (v ∷ [])
    → Filling values k old now i → Filling values k old (set now i v) (i + 1)
fill_turn {values} {k} {old} {now} {i} v n h e t =
    let s : i + 1 ≡ suc i = add-one i in
    record {
      high = omega arith;
      given = ap (λ (x : ℕ). length (values x)) s ∙ ap length e ∙ length-append (values i) (v ∷ []) ∙ omega (arith, t.given);
      are = ap (λ (l : List ℕ). set l i v) t.are
          ∙ filled_set (values i) old i v t.given (omega arith)
          ∙ ap (λ (l : List ℕ). filled l (suc i) old) (sym e)
          ∙ ap (λ (x : ℕ). filled (values x) x old) (sym s);
      length_is = length-set now i v ∙ t.length_is;
    }

pub fill_end : {values : ℕ → List ℕ} {k : ℕ} {old now : List ℕ} {i : ℕ} → k ≤ i → Filling values k old now i → now ≡ filled (values k) k old
fill_end {values} {k} {old} {now} {i} h t =
    let e : i ≡ k = omega (arith, t.high) in
    t.are ∙ ap (λ (x : ℕ). filled (values x) x old) e

-- all the cells are written
pub filled_all : (xs old : List ℕ) → filled xs (length old) old ≡ xs
filled_all xs old = rw (drop-length, append-nil)

-- ---- zeros from the cell a on

abbrev pub zeros : ℕ → List ℕ → ℕ → List ℕ
zeros a old i = take a old ++ replicate (i - a) 0

length_zeros : (a : ℕ) (old : List ℕ) (i : ℕ) → a ≤ length old → length (zeros a old i) ≡ a + (i - a)
length_zeros a old i n = simp (length-append, length-take-le a old n, length-replicate)

zeroed_filled : (a b : ℕ) (l : List ℕ) → zeroed a b l ≡ filled (zeros a l b) b l
unfolding zeroed
zeroed_filled a b l = sym (append_assoc (take a l) (replicate (b - a) 0) (drop b l))

-- what std's `fill` leaves
pub zeroed_fill : (a b : ℕ) (l : List ℕ) {part : List ℕ} → a ≤ b → b ≤ length l
    → (((y : ℕ) → y ≡ 0 → y ≡ 0) → part ≡ replicate (length (take (b - a) (drop a l))) 0)
    → put_mid a (b - a) l part ≡ zeroed a b l
unfolding zeroed
zeroed_fill a b l h n f =
    let k : length (take (b - a) (drop a l)) ≡ b - a = length-take-le (b - a) (drop a l) (omega (arith, length-drop a l)) in
    let e : a + (b - a) ≡ b = omega arith in
    rw (f (λ y z. z), k, drop-drop (b - a) a l, e)

pub zeroed_front : (b : ℕ) (l : List ℕ) {part : List ℕ} → b ≤ length l → (((y : ℕ) → y ≡ 0 → y ≡ 0) → part ≡ replicate (length (take b l)) 0)
    → part ++ drop b l ≡ zeroed 0 b l
unfolding zeroed
zeroed_front b l n f =
    let e : b - 0 ≡ b = omega arith in
    rw (f (λ y z. z), length-take-le b l n, e)

-- ---- what stands in cells so written

module _ (cells : List ℕ) (n : ℕ) (old : List ℕ) (e : length cells ≡ n) where
  pub filled_at : (i : ℕ) → i < n → get_or (filled cells n old) i 0 ≡ get_or cells i 0
  filled_at i h = get_or-append cells (drop n old) 0 i (omega arith)

  pub filled_rest : drop n (filled cells n old) ≡ drop n old
  filled_rest = drop_at cells (drop n old) n e

  filled_held : (p : ℕ) → p < 64 * n → held (filled cells n old) p ≡ held cells p
  unfolding held
  filled_held p h = ap (λ (x : ℕ). digit x (p % 64)) (filled_at (p / 64) (omega arith))

-- the first k blocks of another
pub copied_held : (k : ℕ) (source old : List ℕ) → k ≤ length source → (p : ℕ) → p < 64 * k
    → held (filled (take k source) k old) p ≡ held source p
unfolding held
copied_held k source old n p h =
    filled_held (take k source) k old (length-take-le k source n) p h
    ∙ ap (λ (x : ℕ). digit x (p % 64)) (get_or-take k source (p / 64) 0 (omega arith))

-- those that a function gives
tabulated_held : (k : ℕ) (f : ℕ → ℕ) (old : List ℕ) (p : ℕ) → p < 64 * k
    → held (filled (tabulate k f) k old) p ≡ digit (f (p / 64)) (p % 64)
unfolding held
tabulated_held k f old p h =
    filled_held (tabulate k f) k old (length_tabulate k f) p h
    ∙ ap (λ (x : ℕ). digit x (p % 64)) (get_d_tabulate k f (p / 64) 0 (omega arith))

-- those of two, one with the other
pub xored_held : (k : ℕ) (xs ys old : List ℕ) (p : ℕ) → p < 64 * k → held (filled (xored k xs ys) k old) p ≡ apart (held xs) (held ys) p
unfolding held xored
xored_held k xs ys old p h =
    tabulated_held k (λ i. bit_xor (get_or xs i 0) (get_or ys i 0)) old p h ∙ digit_xor (get_or xs (p / 64) 0) (get_or ys (p / 64) 0) (p % 64)

-- what stands from the cell n on stands from any later one on
pub later_rest : (n k : ℕ) (xs ys : List ℕ) → n ≤ k → drop n xs ≡ drop n ys → drop k xs ≡ drop k ys
later_rest n k xs ys h e =
    let i : n + (k - n) ≡ k = omega arith in
    ap (λ (x : ℕ). drop x xs) (sym i)
    ∙ sym (drop-drop (k - n) n xs)
    ∙ ap (drop (k - n)) e
    ∙ drop-drop (k - n) n ys
    ∙ ap (λ (x : ℕ). drop x ys) i

-- zeros from the cell a up to the cell b
module _ (a b : ℕ) (l : List ℕ) (h : a ≤ b) (n : b ≤ length l) where
  long : length (zeros a l b) ≡ b
  long = length_zeros a l b (omega arith) ∙ omega arith

  zeroed_at : (i : ℕ) → i < b → get_or (zeroed a b l) i 0 ≡ get_or (zeros a l b) i 0
  zeroed_at i k = ap (λ (x : List ℕ). get_or x i 0) (zeroed_filled a b l) ∙ filled_at (zeros a l b) b l long i k

  zeroed_kept : (i : ℕ) → i < a → get_or (zeroed a b l) i 0 ≡ get_or l i 0
  zeroed_kept i k =
      zeroed_at i (omega arith)
      ∙ get_or-append (take a l) (replicate (b - a) 0) 0 i (omega (arith, length-take-le a l (omega arith)))
      ∙ get_or-take a l i 0 k

  pub zeroed_zero : (i : ℕ) → a ≤ i → i < b → get_or (zeroed a b l) i 0 ≡ 0
  zeroed_zero i j k =
      let e : i ≡ length (take a l) + (i - a) = omega (arith, length-take-le a l (omega arith)) in
      zeroed_at i k
      ∙ ap (λ (x : ℕ). get_or (zeros a l b) x 0) e
      ∙ get_or-append-add (take a l) (replicate (b - a) 0) (i - a) 0
      ∙ get_or-replicate (b - a) (i - a) 0 0 (omega arith)

  pub zeroed_first : take a (zeroed a b l) ≡ take a l
  unfolding zeroed
  zeroed_first = take_at (take a l) (filled (replicate (b - a) 0) b l) a (length-take-le a l (omega arith))

  pub zeroed_rest : drop b (zeroed a b l) ≡ drop b l
  zeroed_rest = ap (drop b) (zeroed_filled a b l) ∙ filled_rest (zeros a l b) b l long

  pub length_zeroed : length (zeroed a b l) ≡ length l
  length_zeroed =
      ap length (zeroed_filled a b l) ∙ length-append (zeros a l b) (drop b l) ∙ omega (arith, long, length-drop b l)

  -- where the cells below a are those of a function that is 0 from there on, so are all
  module _ (f : ℕ → ℕ) (low : (i : ℕ) → i < a → get_or l i 0 ≡ f i) (high : (i : ℕ) → a ≤ i → i < b → f i ≡ 0) where
    pub zeroed_is : (i : ℕ) → i < b → get_or (zeroed a b l) i 0 ≡ f i
    zeroed_is i k = go (dec_lt i a)
      where
        go : Dec (i < a) → get_or (zeroed a b l) i 0 ≡ f i
        go (yes j) = zeroed_kept i j ∙ low i j
        go (no j) = zeroed_zero i (omega arith) k ∙ sym (high i (omega arith) k)

    pub zeroed_tabulate : take b (zeroed a b l) ≡ tabulate b f
    zeroed_tabulate = take_tabulate b f (zeroed a b l) (omega (arith, length_zeroed)) zeroed_is
