-- The laws of a set's row: its length, its bytes, and that the set is read back from it. Assumes nothing.
use mathlib.Core.Path.{◌≡◌, refl, sym, ap, ap₂, ◌∙◌, fun_ext}
use mathlib.Core.Bool.{Bool, true, false, cond}
use mathlib.Core.List.{List, [], ◌∷◌, ◌++◌, append-nil}
use Prim.Native.Nat.{ℕ, zero, suc, ◌+◌, ◌-◌, ◌*◌, ◌/◌, ◌^◌, ◌≤◌, ◌<◌, min}
use native.Mathlib.Nat.{add-zero, mul-add-div_right, mul-div_cancel, mul-le-mul_right}
use native.Mathlib.Decide.{ℕ_discrete}
use native.Mathlib.Omega.{arith}
use lib.Dec.{eqb}
use lib.ListN.{length, get_or, take, drop, length-append, length-take}
use lib.Seq.{take-length, drop-append-add}
use borrow.Author.Tests.{eq-eqb, ne_eqb}
use Rattle.sets.specs.Sets.{Agree, Below, Set, below, from, members, tabulate}
use Rattle.sets.specs.Words.{block_at, held}
use Rattle.sets.specs.Configurations.{Config, Sound, W, blocks_for, longest_row}
use Rattle.sets.specs.Filter.{boundary, joined, top_count, top_list}
use Rattle.sets.specs.Row.{bit_part, bytes_of, numbers, row, row_block_count, row_blocks, row_boundary, row_entries, shown_row, spare_byte}
use Rattle.sets.specs.Row.{top_bytes}
use Rattle.sets.proofs.Configurations.{w_entry}
use Rattle.sets.proofs.Laws.{members_same, members_fall, falls_room, below_in, below_same}
use Rattle.sets.proofs.Words.{word_lt}
use Rattle.sets.proofs.Lists.{length_tabulate, get_d_tabulate, below_append, below_tabulate}
use Rattle.sets.proofs.Filters.{blocks_held}
use Rattle.sets.proofs.Split.{Split, joined_set, edge_low, set_split, split_full}
use Rattle.sets.proofs.Bytes.{Bytes, bytes_of_below, length_bytes_of, numbers_bytes_of}

-- ---- the bit part

-- the blocks that a row holds
abbrev pub row_bits : ℕ → Set → List ℕ
row_bits edge S = tabulate (blocks_for edge) (block_at (below edge S))

pub bit_part_none : (edge : ℕ) (S : Set) → edge ≡ 0 → bit_part edge S ≡ []
unfolding bit_part
bit_part_none edge S e = rw (eq-eqb edge 0 e)

pub bit_part_some : (edge : ℕ) (S : Set) → (edge ≡ 0 → ⊥) → bit_part edge S ≡ spare_byte edge ∷ bytes_of 8 (row_bits edge S)
unfolding bit_part
bit_part_some edge S e = rw (ne_eqb edge 0 e)

pub bit_part_same : (edge : ℕ) (S R : Set) → Agree edge S R → bit_part edge S ≡ bit_part edge R
unfolding bit_part
bit_part_same edge S R h =
    ap (λ (X : Set). cond (eqb edge 0) [] (spare_byte edge ∷ bytes_of 8 (tabulate (blocks_for edge) (block_at X))))
    (fun_ext (below_same edge S R h))

pub length_bit_part : (edge : ℕ) (S : Set) → length (bit_part edge S) ≡ cond (eqb edge 0) 0 (1 + 8 * blocks_for edge)
unfolding bit_part
length_bit_part edge S = go (eqb edge 0)
  where
    go : (b : Bool) → length (cond b [] (spare_byte edge ∷ bytes_of 8 (row_bits edge S))) ≡ cond b 0 (1 + 8 * blocks_for edge)
    go true = refl
    go false = omega (arith, length_bytes_of 8 (row_bits edge S), length_tabulate (blocks_for edge) (block_at (below edge S)))

bit_part_below : (edge : ℕ) (S : Set) → Bytes (bit_part edge S)
unfolding bit_part
bit_part_below edge S = go (eqb edge 0)
  where
    go : (b : Bool) → Bytes (cond b [] (spare_byte edge ∷ bytes_of 8 (row_bits edge S)))
    go true i h = absurd (omega arith)
    go false zero h = omega arith
    go false (suc i) h = bytes_of_below 8 (row_bits edge S) i (omega arith)

row_bits_below : (edge : ℕ) (S : Set) → Below (2 ^ 64) (row_bits edge S)
row_bits_below edge S = below_tabulate (blocks_for edge) (block_at (below edge S)) (2 ^ 64) (λ i. word_lt (below edge S) (64 * i) 64)

-- the blocks hold the set below the edge
pub row_bits_held : (edge : ℕ) (S : Set) (p : ℕ) → p < 64 * blocks_for edge → held (row_bits edge S) p ≡ below edge S p
row_bits_held edge S =
    blocks_held (row_bits edge S) (blocks_for edge) (below edge S) (λ i a. get_d_tabulate (blocks_for edge) (block_at (below edge S)) i 0 a)

-- ---- the row

-- top list and boundary by configuration
abbrev pub tops_of : Config → Set → List ℕ
tops_of c S = top_list c.M (W c) S

abbrev pub edge_of : Config → Set → ℕ
edge_of c S = boundary c.M (W c) S

module _ (c : Config) (S : Set) where
  pub row_lengths : length (row c S) ≡ length (tops_of c S) * c.entry + cond (eqb (edge_of c S) 0) 0 (1 + 8 * blocks_for (edge_of c S))
  unfolding row
  row_lengths =
      length-append (bytes_of c.entry (tops_of c S)) (bit_part (edge_of c S) S)
      ∙ ap₂ ◌+◌ (length_bytes_of c.entry (tops_of c S)) (length_bit_part (edge_of c S) S)

  pub row_length_lem : length (row c S) ≡ top_count c.M (W c) S * c.entry + cond (eqb (edge_of c S) 0) 0 (1 + 8 * blocks_for (edge_of c S))
  row_length_lem =
      row_lengths
      ∙ ap (λ (x : ℕ). x * c.entry + cond (eqb (edge_of c S) 0) 0 (1 + 8 * blocks_for (edge_of c S))) (length-take c.M (members S (W c)))

  pub row_bytes : Bytes (row c S)
  unfolding row
  row_bytes =
      below_append (bytes_of c.entry (tops_of c S)) (bit_part (edge_of c S) S) 256
      (bytes_of_below c.entry (tops_of c S)) (bit_part_below (edge_of c S) S)

  -- the row where it has a bit part
  pub row_bits_lem : (edge_of c S ≡ 0 → ⊥)
      → row c S ≡ bytes_of c.entry (tops_of c S) ++ (spare_byte (edge_of c S) ∷ bytes_of 8 (row_bits (edge_of c S) S))
  unfolding row
  row_bits_lem e = ap (◌++◌ (bytes_of c.entry (tops_of c S))) (bit_part_some (edge_of c S) S e)

module _ (c : Config) (s : Sound c) (S : Set) where
  pub tops_split : Split c.M (W c) (tops_of c S) (edge_of c S)
  tops_split = set_split c.M (W c) s.some S

  -- there is no bit part, or the top list is full
  pub row_cases : {P : Type 0}
      → (edge_of c S ≡ 0 → length (row c S) ≡ length (tops_of c S) * c.entry → P)
      → ((edge_of c S ≡ 0 → ⊥) → length (tops_of c S) ≡ c.M → length (row c S) ≡ top_bytes c + (1 + 8 * blocks_for (edge_of c S)) → P)
      → P
  row_cases {P} f g = go (ℕ_discrete (edge_of c S) 0)
    where
      t : ℕ
      t = length (tops_of c S) * c.entry

      k : ℕ
      k = 1 + 8 * blocks_for (edge_of c S)

      go : Dec (edge_of c S ≡ 0) → P
      go (yes e) = f e (row_lengths c S ∙ ap (λ (b : Bool). t + cond b 0 k) (eq-eqb (edge_of c S) 0 e) ∙ add-zero t)
      go (no e) =
          let l : length (tops_of c S) ≡ c.M = split_full s.some tops_split (λ l. l) (λ l o. absurd (e o)) in
          g e l (row_lengths c S ∙ ap₂ (λ (x : ℕ) (b : Bool). x * c.entry + cond b 0 k) l (ne_eqb (edge_of c S) 0 e))

  pub row_longest : length (row c S) ≤ longest_row c
  row_longest =
      row_cases
      (λ e l. omega (arith, mul-le-mul_right c.entry tops_split.few))
      (λ e f l.
      let a : c.M - 1 < length (members S (W c)) = omega (arith, length-take c.M (members S (W c)), s.some) in
      omega (arith, falls_room (members S (W c)) (W c) (c.M - 1) (members_fall S (W c)) a))

  -- sets that agree on the buckets have the same row
  pub row_same : (R : Set) → Agree (W c) S R → row c S ≡ row c R
  unfolding row
  row_same R h =
      ap (◌++◌ (bytes_of c.entry (tops_of c S))) (bit_part_same (edge_of c S) S R
      (λ p a. h p (omega (arith, edge_low s.some tops_split))))
      ∙ ap (λ (x : List ℕ). bytes_of c.entry (take c.M x) ++ bit_part (get_or x (c.M - 1) 0) R) (members_same S R (W c) h)

  -- ---- what is read from a set's row

  row_count : min c.M (length (row c S) / c.entry) ≡ length (tops_of c S)
  row_count =
      let w : 0 < c.entry = omega (arith, s.fits) in
      row_cases
      (λ e l.
      let q : length (row c S) / c.entry ≡ length (tops_of c S) = ap (λ (x : ℕ). x / c.entry) l ∙ mul-div_cancel (length (tops_of c S)) w in
      omega (arith, tops_split.few))
      (λ e f l.
      let k : ℕ = 1 + 8 * blocks_for (edge_of c S) in
      let q : length (row c S) / c.entry ≡ c.M + k / c.entry = ap (λ (x : ℕ). x / c.entry) l ∙ mul-add-div_right w c.M k in
      omega arith)

  pub tops_fit : Below (2 ^ (8 * c.entry)) (tops_of c S)
  tops_fit i h = omega (arith, falls_room (tops_of c S) (W c) i tops_split.falling h, w_entry c s)

  pub row_entries_lem : row_entries c (row c S) ≡ tops_of c S
  unfolding row_entries row
  row_entries_lem =
      ap (λ (x : ℕ). numbers c.entry x (row c S)) row_count ∙ numbers_bytes_of c.entry (tops_of c S) (bit_part (edge_of c S) S) tops_fit

  pub row_boundary_lem : row_boundary c (row c S) ≡ edge_of c S
  row_boundary_lem = ap (λ (l : List ℕ). get_or l (c.M - 1) 0) row_entries_lem ∙ sym tops_split.edge_is

  pub row_block_count_lem : row_block_count c (row c S) ≡ blocks_for (edge_of c S)
  row_block_count_lem = row_cases (λ e l. omega (arith, mul-le-mul_right c.entry tops_split.few)) (λ e f l. omega arith)

  drop_tops : (edge_of c S ≡ 0 → ⊥) → length (tops_of c S) ≡ c.M → drop (top_bytes c + 1) (row c S) ≡ bytes_of 8 (row_bits (edge_of c S) S)
  drop_tops e f =
      let xs : List ℕ = bytes_of c.entry (tops_of c S) in
      let a : top_bytes c ≡ length xs = ap (λ (x : ℕ). x * c.entry) (sym f) ∙ sym (length_bytes_of c.entry (tops_of c S)) in
      ap₂ (λ (x : ℕ) (l : List ℕ). drop (x + 1) l) a (row_bits_lem c S e) ∙ drop-append-add xs _ 1

  pub row_blocks_lem : row_blocks c (row c S) ≡ row_bits (edge_of c S) S
  unfolding row_blocks from
  row_blocks_lem =
      let bits : List ℕ = row_bits (edge_of c S) S in
      let k : blocks_for (edge_of c S) ≡ length bits = sym (length_tabulate (blocks_for (edge_of c S)) (block_at (below (edge_of c S) S))) in
      row_cases
      (λ e l.
      let o : blocks_for (edge_of c S) ≡ 0 = omega arith in
      ap (λ (x : ℕ). numbers 8 x (drop (top_bytes c + 1) (row c S))) (row_block_count_lem ∙ o)
      ∙ ap (λ (x : ℕ). tabulate x (block_at (below (edge_of c S) S))) (sym o))
      (λ e f l.
      ap₂ (λ (x : ℕ) (l : List ℕ). numbers 8 x l) (row_block_count_lem ∙ k) (drop_tops e f ∙ sym (append-nil (bytes_of 8 bits)))
      ∙ numbers_bytes_of 8 bits [] (row_bits_below (edge_of c S) S))

-- what bytes show, with the list of the entries as it stands
pub shown_row_lem : (c : Config) (bs : List ℕ) → shown_row c bs ≡ joined (row_entries c bs) (row_boundary c bs) (held (row_blocks c bs))
unfolding shown_row
shown_row_lem c bs = ap (λ (l : List ℕ). joined l (row_boundary c bs) (held (row_blocks c bs))) (take-length (row_entries c bs))

-- the row of a set gives the set back
pub row_back : (c : Config) → Sound c → (S : Set) (p : ℕ) → p < W c → shown_row c (row c S) p ≡ S p
row_back c s S p h =
    ap (λ (R : Set). R p) (shown_row_lem c (row c S))
    ∙ ap₂ (λ (l bl : List ℕ). joined l (row_boundary c (row c S)) (held bl) p) (row_entries_lem c s S) (row_blocks_lem c s S)
    ∙ ap (λ (e : ℕ). joined (tops_of c S) e (held (row_bits (edge_of c S) S)) p) (row_boundary_lem c s S)
    ∙ joined_set c.M (W c) s.some S (held (row_bits (edge_of c S) S)) p
    (λ q l. row_bits_held (edge_of c S) S q (omega arith) ∙ below_in (edge_of c S) S q l) h

-- so no two sets have one row
pub row_one : (c : Config) → Sound c → (S R : Set) → row c S ≡ row c R → (p : ℕ) → p < W c → S p ≡ R p
row_one c s S R e p h = sym (row_back c s S p h) ∙ ap (λ (bs : List ℕ). shown_row c bs p) e ∙ row_back c s R p h
