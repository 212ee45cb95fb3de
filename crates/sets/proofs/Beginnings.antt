-- Which beginnings of a set's row pass for a row: what a row that was cut looks like to its reader. Assumes nothing.
use mathlib.Core.Path.{◌≡◌, sym, ap, ap₂, ◌∙◌, subst}
use mathlib.Core.Bool.{true, cond}
use mathlib.Core.Logic.{◌⊎◌, inl, inr, ⊎_elim, ◌↔◌}
use mathlib.Core.List.{List, [], ◌++◌, append_assoc, append-nil}
use Prim.Native.Nat.{ℕ, ◌+◌, ◌-◌, ◌*◌, ◌≤◌, ◌<◌}
use native.Mathlib.Nat.{le_of_mul-le-mul_right}
use native.Mathlib.Omega.{arith}
use lib.Dec.{eqb}
use lib.ListN.{length, get_or, take, drop, length-append, length-take, take-append-drop, get_or-eq_default}
use lib.Seq.{length-take-le, take_all, take-take}
use Rattle.sets.specs.Sets.{Falls, Set, among, members}
use Rattle.sets.specs.Configurations.{Config, Sound, W, blocks_for}
use Rattle.sets.specs.Filter.{exact_count_at}
use Rattle.sets.specs.Row.{bit_part, bytes_of, is_row, numbers, row, shown_row, top_bytes}
use Rattle.sets.proofs.Laws.{falls_take, members_fall, members_unique}
use Rattle.sets.proofs.Lists.{below_take}
use Rattle.sets.proofs.Tests.{falls_among}
use Rattle.sets.proofs.Bytes.{numbers_bytes_of, take_bytes_of}
use Rattle.sets.proofs.Split.{split_full}
use Rattle.sets.proofs.Rows.{bit_part_none, edge_of, row_bytes, row_cases, row_lengths, tops_fit, tops_split, tops_of}
use Rattle.sets.proofs.Reading.{passed_row, row_passes}

-- ---- whole entries, fewer than M: the row of the largest buckets

-- the j largest members
abbrev pub largest : Config → ℕ → Set → Set
largest c j S = among (take j (members S (W c)))

module _ (c : Config) (s : Sound c) (S : Set) where
  entries_there : (j : ℕ) → j < c.M → j * c.entry ≤ length (row c S) → j ≤ length (tops_of c S)
  entries_there j m h =
      row_cases c s S
      (λ e l. le_of_mul-le-mul_right {k = c.entry} (omega arith) (omega (arith, s.fits)))
      (λ e f l. omega arith)

  largest_members : (j : ℕ) → members (largest c j S) (W c) ≡ take j (members S (W c))
  largest_members j =
      let f : Falls (W c) (take j (members S (W c))) = falls_take (members S (W c)) (W c) j (members_fall S (W c)) in
      sym (members_unique (take j (members S (W c))) (largest c j S) (W c) f
      (λ p h. sym (falls_among (take j (members S (W c))) (W c) p f)))

  pub largest_count : (j : ℕ) → j < c.M → j * c.entry ≤ length (row c S) → exact_count_at c (largest c j S) ≡ j
  largest_count j m h =
      let ms : List ℕ = members S (W c) in
      ap length (largest_members j)
      ∙ length-take-le j ms (omega (arith, entries_there j m h, length-take c.M ms))

  -- cut after so many entries, the row is that of so many of the largest buckets
  pub cut_row : (j : ℕ) → j < c.M → j * c.entry ≤ length (row c S) → take (j * c.entry) (row c S) ≡ row c (largest c j S)
  unfolding row
  cut_row j m h =
      let ms : List ℕ = members S (W c) in
      let T : Set = largest c j S in
      let n : length (take j ms) ≤ j = omega (arith, length-take j ms) in
      take_bytes_of c.entry j (tops_of c S) _ (entries_there j m h)
      ∙ ap (bytes_of c.entry) (take-take j c.M ms (omega arith))
      ∙ sym (
      ap (λ (l : List ℕ). bytes_of c.entry (take c.M l) ++ bit_part (get_or l (c.M - 1) 0) T) (largest_members j)
      ∙ ap₂ (λ (l b : List ℕ). bytes_of c.entry l ++ b)
      (take_all c.M (take j ms) (omega arith))
      (bit_part_none _ T (get_or-eq_default (take j ms) 0 {n = c.M - 1} (omega arith)))
      ∙ append-nil (bytes_of c.entry (take j ms)))

-- ---- M entries and more: the top list is the whole row's, and says how long that is

-- the length of the row with this top list
abbrev size_by : Config → List ℕ → ℕ
size_by c tops =
    let edge : ℕ = get_or tops (c.M - 1) 0 in
    length tops * c.entry + cond (eqb edge 0) 0 (1 + 8 * blocks_for edge)

module _ (c : Config) (s : Sound c) where
  row_size : (S : Set) → length (row c S) ≡ size_by c (tops_of c S)
  row_size S =
      row_lengths c S
      ∙ ap (λ (x : ℕ). length (tops_of c S) * c.entry + cond (eqb x 0) 0 (1 + 8 * blocks_for x)) (tops_split c s S).edge_is

  -- a row's top list is read from whatever begins with it
  tops_read : (S : Set) (tail : List ℕ) → numbers c.entry (length (tops_of c S)) (row c S ++ tail) ≡ tops_of c S
  unfolding row
  tops_read S tail =
      let top : List ℕ = bytes_of c.entry (tops_of c S) in
      ap (numbers c.entry (length (tops_of c S))) (append_assoc top (bit_part (edge_of c S) S) tail)
      ∙ numbers_bytes_of c.entry (tops_of c S) (bit_part (edge_of c S) S ++ tail) (tops_fit c s S)

  -- a row that is long enough for M entries has them
  full_tops : (S : Set) → top_bytes c ≤ length (row c S) → length (tops_of c S) ≡ c.M
  full_tops S h =
      row_cases c s S
      (λ e l.
      let m : c.M ≤ length (tops_of c S) = le_of_mul-le-mul_right {k = c.entry} (omega (arith, h)) (omega (arith, s.fits)) in
      omega (arith, (tops_split c s S).few))
      (λ e f l. f)

  -- a row with M entries is as long as any row that begins with it
  whole_row : (S R : Set) (tail : List ℕ) → length (tops_of c R) ≡ c.M → row c S ≡ row c R ++ tail → length (row c R) ≡ length (row c S)
  whole_row S R tail f e =
      let n : length (row c S) ≡ length (row c R) + length tail = ap length e ∙ length-append (row c R) tail in
      let g : length (tops_of c S) ≡ c.M = full_tops S (omega (arith, row_lengths c R, ap (λ (x : ℕ). x * c.entry) f)) in
      let same : tops_of c R ≡ tops_of c S =
      sym (tops_read R tail)
      ∙ ap₂ (λ (x : ℕ) (l : List ℕ). numbers c.entry x l) (f ∙ sym g) (sym e ∙ sym (append-nil (row c S)))
      ∙ tops_read S [] in
      row_size R ∙ ap (size_by c) same ∙ sym (row_size S)

-- ---- which beginnings pass

-- that only the first k bytes are there: they are the whole row, or a whole number of entries below M
abbrev pub Unnoticed : Config → Set → ℕ → Type 0
Unnoticed c S k = (k ≡ length (row c S)) ⊎ ((j : ℕ) × (j < c.M) × (k ≡ j * c.entry))

module _ (c : Config) (s : Sound c) (S : Set) (k : ℕ) (h : k ≤ length (row c S)) where
  passed_beginning : is_row c (take k (row c S)) ≡ true → Unnoticed c S k
  passed_beginning p =
      let bs : List ℕ = take k (row c S) in
      let R : Set = shown_row c bs in
      let e : row c R ≡ bs = passed_row c s bs (below_take k (row c S) 256 (row_bytes c S)) p in
      let n : length (row c R) ≡ k = ap length e ∙ length-take-le k (row c S) h in
      let t : row c S ≡ row c R ++ drop k (row c S) =
      sym (take-append-drop k (row c S)) ∙ ap (λ (l : List ℕ). l ++ drop k (row c S)) (sym e) in
      let full : length (tops_of c R) ≡ c.M → Unnoticed c S k =
      λ f. inl (sym n ∙ whole_row c s S R (drop k (row c S)) f t) in
      row_cases c s R
      (λ z l. split_full s.some (tops_split c s R) full (λ m o. inr (length (tops_of c R), m, sym n ∙ l)))
      (λ z f l. full f)

  beginning_passes : Unnoticed c S k → is_row c (take k (row c S)) ≡ true
  beginning_passes =
      ⊎_elim
      (λ e. subst (λ (l : List ℕ). is_row c l ≡ true) (sym (take_all k (row c S) (omega arith))) (row_passes c s S))
      (λ t.
      let e : take k (row c S) ≡ row c (largest c t.0 S) =
      ap (λ (x : ℕ). take x (row c S)) t.2 ∙ cut_row c s S t.0 t.1 (omega (arith, t.2)) in
      subst (λ (l : List ℕ). is_row c l ≡ true) (sym e) (row_passes c s (largest c t.0 S)))

  -- A beginning of a set's row is accepted exactly when it is the whole row, or a whole number of entries below M.
  pub beginning_iff : (is_row c (take k (row c S)) ≡ true) ↔ Unnoticed c S k
  beginning_iff = (passed_beginning, beginning_passes)
