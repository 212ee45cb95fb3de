-- Theorems about the promises of the calls on one row. Assumes nothing.
use mathlib.Core.Path.{◌≡◌, refl, sym, ap, ◌∙◌, subst, subst₂}
use mathlib.Core.Bool.{Bool, true, false, cond}
use mathlib.Core.Logic.{◌↔◌}
use mathlib.Core.List.{List, [], ◌∷◌, ◌++◌}
use Prim.Native.Nat.{ℕ, ◌*◌, ◌≤◌, ◌<◌}
use native.Mathlib.Omega.{arith}
use borrow.Author.Tests.{le-leb}
use lib.Dec.{leb}
use lib.ListN.{length, take, drop}
use lib.Seq.{take_at}
use Rattle.sets.specs.Sets.{Agree, Set}
use Rattle.sets.specs.Configurations.{Config, Sound, W, blocks, known, config_at}
use Rattle.sets.specs.Filter.{FilterRecord, exact_count_at, filled, record_of, top_slice, bit_slice}
use Rattle.sets.specs.Row.{is_row, row, shown_row}
use Rattle.sets.specs.Refusals.{Test, Verdict, taken, refused, answer, areas_lent, filter_lent, first_failing, holds_row, is_row_of, because, buffer}
use Rattle.sets.proofs.Areas.{holds_stands, stands_slices}
use Rattle.sets.proofs.Beginnings.{Unnoticed, beginning_iff, cut_row, largest, largest_count}
use Rattle.sets.proofs.Bytes.{Bytes}
use Rattle.sets.proofs.Configurations.{line_at, number_at}
use Rattle.sets.proofs.Laws.{members_same}
use Rattle.sets.proofs.Reading.{passed_row, row_iff, row_passes, verdict_row}
use Rattle.sets.proofs.Rows.{row_back, row_one, row_same}
use Rattle.sets.proofs.Shown.{filter_holds}
use Rattle.sets.proofs.Verdicts.{after_taken, all_pass}
use Rattle.sizes.specs.Sizes.{refusal, sizes_at}
use Rattle.judge.proofs.Passing.{lent_taken}
use Rattle.judge.proofs.Verdicts.{areas_pass, filter_pass, room_of}
use Rattle.judge_row.specs.Judging.{row_verdict}
use Rattle.judge_row.proofs.Verdicts.{row_taken, row_takes}
use Rattle.diff_count.specs.Making.{filter_in, record_in, tally_of}
use Rattle.diff_count.specs.Calls.{shown_by}
use Rattle.diff_count.specs.declared.Filter.{Filter}
use Rattle.diff_count.proofs.OfSets.{Of, of_passes, of_set, of_shown}
use Rattle.diff_count.proofs.Theorems.{InPlace, Lent, makes_once, settled}
use Rattle.rows.specs.Calls.{Reads, Writes, open_of, read_verdict, row_by, write_verdict}
use Rattle.sizes.specs.declared.Refusal.{Refusal}
use Rattle.std.specs.Prelude.{Result, Ok, Err}

-- ---- two outcomes that a promise allows coincide

pub write_once : (f : Filter) (top bits to : List ℕ) {r r' : Result ℕ Refusal} {b b' : List ℕ} → Writes f top bits to r b
    → Writes f top bits to r' b' → (r ≡ r') × (b ≡ b')
write_once f top bits to x y = (x.answers ∙ sym y.answers, x.bytes ∙ sym y.bytes)

pub read_once : (n : ℕ) (bs top bits : List ℕ) {r r' : Result Filter Refusal} {t t' b b' : List ℕ} → Reads n bs top bits r t b
    → Reads n bs top bits r' t' b' → (r ≡ r') × (t ≡ t') × (b ≡ b')
read_once n bs top bits x y = makes_once x y

pub open_once : (n : ℕ) (bs : List ℕ) (r t : Result ℕ Refusal) → r ≡ open_of n bs → t ≡ open_of n bs → r ≡ t
open_once n bs r t x y = x ∙ sym y

-- ---- writing the filter of a set

module _ (f : Filter) (top bits : List ℕ) (S : Set) (o : Of f top bits S) where
  abbrev row_of_s : List ℕ
  row_of_s = row (config_at f.config) S

  row_by_lem : row_by f top bits ≡ row_of_s
  unfolding row_by
  row_by_lem = row_same (config_at f.config) (line_at f.config).sound (shown_by f top bits) S (of_shown f top bits S o)

  -- where the buffer is long enough it leaves the row of S, with what stood behind it
  pub write_set : (to : List ℕ) {r : Result ℕ Refusal} {to' : List ℕ} → length row_of_s ≤ length to → Writes f top bits to r to'
      → (r ≡ Ok (length row_of_s)) × (to' ≡ filled row_of_s (length row_of_s) to)
  unfolding write_verdict
  write_set to l w =
      let h : leb (length (row_by f top bits)) (length to) ≡ true = ap (λ (b : List ℕ). leb (length b) (length to)) row_by_lem ∙ le-leb _ _ l in
      let v : write_verdict f top bits to ≡ taken =
      after_taken (filter_lent (record_in f) top bits) (holds_row (row_by f top bits) to ∷ []) (lent_taken (of_passes f top bits S o))
      ∙ ap (λ (b : Bool). cond b taken (refused (because buffer))) h in (
        w.answers ∙ rw v (ap (λ (b : List ℕ). Ok (length b)) row_by_lem),
        w.bytes ∙ rw v (ap (λ (b : List ℕ). filled b (length b) to) row_by_lem),
      )

-- ---- what was written is a set's row

wrote : (v : Verdict) (x len : ℕ) → Ok len ≡ answer v (λ n. Err (refusal n)) (Ok x)
    → (v ≡ taken) × (len ≡ x)
wrote taken x len e = (refl, (cc))
wrote (refused k) x len e =
    let z : ◌≡◌ {A = ℕ} 0 1 = cc in
    absurd (omega arith)

module _ (f : Filter) (top bits to : List ℕ) {len : ℕ} {to' : List ℕ} (w : Writes f top bits to (Ok len) to') where
  abbrev shown : Set
  shown = shown_by f top bits

  told : (write_verdict f top bits to ≡ taken) × (len ≡ length (row_by f top bits))
  told = wrote (write_verdict f top bits to) (length (row_by f top bits)) len w.answers

  written_of : Of f top bits shown
  unfolding write_verdict sizes_at
  written_of =
      let P = filter_pass f.config (tally_of f) top bits
      (all_pass (filter_lent (record_in f) top bits) (holds_row (row_by f top bits) to ∷ []) told.0).0 in
      let c : Config = config_at f.config in
      record {
        known = P.known;
        stands = holds_stands c (line_at f.config).sound (sym (number_at f.config P.known))
            (filter_holds c.M (blocks c) top bits f.count f.boundary P.sound);
      }

  bytes_written : take len to' ≡ row (config_at f.config) shown
  unfolding row_by
  bytes_written =
      ap (take len) (w.bytes ∙ rw told.0) ∙ take_at (row_by f top bits) (drop (length (row_by f top bits)) to) len (sym told.1)

-- ---- reading the row of a set

module _ (n : ℕ) (k : known n ≡ true) where
  abbrev c : Config
  c = config_at n

  -- where the slices have room, the row decides
  lent_then : (top bits : List ℕ) → Lent n top bits → (ts : List Test)
      → first_failing (areas_lent n (length top) (length bits) ++ ts) ≡ first_failing ts
  lent_then top bits L ts = after_taken (areas_lent n (length top) (length bits)) ts (rw (k, le-leb _ _ L.tops, le-leb _ _ L.blocks))

  -- it leaves the filter of S
  pub read_set : (S : Set) (top bits : List ℕ) {r : Result Filter Refusal} {t b : List ℕ} → Lent n top bits → Reads n (row c S) top bits r t b
      → InPlace n S top bits r t b
  unfolding read_verdict
  read_set S top bits L R =
      settled n k (read_verdict n (row c S) top bits) (shown_row c (row c S)) S top bits top bits
      (lent_then top bits L (is_row_of c (row c S)) ∙ (verdict_row c (row c S)).1 (row_passes c (line_at n).sound S))
      (row_back c (line_at n).sound S) refl refl R

-- Writing and then reading gives the same record and areas, wherever they are read to.
pub write_read : (f : Filter) (top bits to : List ℕ) {len : ℕ} {to' : List ℕ} → Writes f top bits to (Ok len) to'
    → (top2 bits2 : List ℕ) {r : Result Filter Refusal} {t b : List ℕ} → Lent f.config top2 bits2 → Reads f.config (take len to') top2 bits2 r t b
    → (r ≡ Ok f) × (take (config_at f.config).M t ≡ take (config_at f.config).M top)
    × (take (blocks (config_at f.config)) b ≡ take (blocks (config_at f.config)) bits)
write_read f top bits to {len} {to'} w top2 bits2 {r} {t} {b} L R =
    let n : ℕ = f.config in
    let c : Config = config_at n in
    let S : Set = shown_by f top bits in
    let o = written_of f top bits to w in
    let P = read_set n o.known S top2 bits2 L (subst (λ (x : List ℕ). Reads n x top2 bits2 r t b) (bytes_written f top bits to w) R) in
    let Q = stands_slices c (line_at n).sound S top2 bits2 in (
      P.answers ∙ ap (λ (x : FilterRecord). Ok (filter_in x)) (sym o.stands.record_is),
      ap (take c.M) P.tops ∙ Q.top_is ∙ sym o.stands.top_is,
      ap (take (blocks c)) P.blocks ∙ Q.bits_are ∙ sym o.stands.bits_are,
    )

-- ---- what was read is a set's row

ready : (v : Verdict) (x f : Filter) → Ok f ≡ answer v (λ n. Err (refusal n)) (Ok x) → (v ≡ taken) × (f ≡ x)
ready taken x f e = (refl, (cc))
ready (refused k) x f e =
    let z : ◌≡◌ {A = ℕ} 0 1 = cc in
    absurd (omega arith)

-- what passing tells
read_passes : (n : ℕ) (bs top bits : List ℕ) → read_verdict n bs top bits ≡ taken
    → (known n ≡ true) × Lent n top bits × (is_row (config_at n) bs ≡ true)
unfolding read_verdict sizes_at
read_passes n bs top bits v =
    let p = all_pass (areas_lent n (length top) (length bits)) (is_row_of (config_at n) bs) v in
    let a = areas_pass n (length top) (length bits) p.0 in
    let r = room_of n top bits a.1 in
    (a.0, record { tops = r.cells; blocks = r.blocks_in }, (verdict_row (config_at n) bs).0 p.1)

-- Reading and then writing gives the same bytes, wherever they are written to.
pub read_write : (n : ℕ) (bs top bits : List ℕ) → Bytes bs → {f : Filter} {t b : List ℕ} → Reads n bs top bits (Ok f) t b
    → (to : List ℕ) {r : Result ℕ Refusal} {to' : List ℕ} → length bs ≤ length to → Writes f t b to r to'
    → (r ≡ Ok (length bs)) × (to' ≡ filled bs (length bs) to)
unfolding record_of
read_write n bs top bits d {f} {t} {b} R to {r} {to'} l w =
    let c : Config = config_at n in
    let S : Set = shown_row c bs in
    let g : Filter = filter_in (record_of c S) in
    let v = ready (read_verdict n bs top bits) g f R.answers in
    let p = read_passes n bs top bits v.0 in
    let x : Writes g (top_slice c S top) (bit_slice c S bits) to r to' =
    subst (λ (h : Filter). Writes h (top_slice c S top) (bit_slice c S bits) to r to') v.1
    (subst₂ (λ (y z : List ℕ). Writes f y z to r to') (R.tops ∙ rw v.0) (R.blocks ∙ rw v.0) w) in
    let e : row (config_at c.number) S ≡ bs =
    ap (λ (i : ℕ). row (config_at i) S) (number_at n p.0) ∙ passed_row c (line_at n).sound bs d p.2 in
    let q = write_set g (top_slice c S top) (bit_slice c S bits) S (of_set n p.0 S top bits) to
    (subst (λ (y : List ℕ). length y ≤ length to) (sym e) l) x in
    (q.0 ∙ ap (λ (y : List ℕ). Ok (length y)) e, q.1 ∙ ap (λ (y : List ℕ). filled y (length y) to) e)

-- ---- which rows are accepted

-- some set of buckets below W has the row
abbrev pub HasSet : ℕ → List ℕ → Type 0
HasSet n bs = (S : Set) × ((p : ℕ) → W (config_at n) ≤ p → S p ≡ false) × (row (config_at n) S ≡ bs)

sized : (v : Verdict) (x size : ℕ) → answer v (λ r. Err (refusal r)) (Ok x) ≡ Ok size → v ≡ taken
sized taken x size e = refl
sized (refused k) x size e =
    let z : ◌≡◌ {A = ℕ} 0 1 = cc in
    absurd (omega arith)

-- the size of the set that has it
pub open_set : (n : ℕ) → known n ≡ true → (S : Set) → open_of n (row (config_at n) S) ≡ Ok (exact_count_at (config_at n) S)
unfolding open_of
open_set n k S =
    let c : Config = config_at n in
    rw (row_takes n (row c S) k (row_passes c (line_at n).sound S))
    (ap (λ (l : List ℕ). Ok (length l)) (members_same (shown_row c (row c S)) S (W c) (row_back c (line_at n).sound S)))

-- A row is opened exactly where the configuration is known and some set has it.
pub open_iff : (n : ℕ) (bs : List ℕ) → Bytes bs → ((size : ℕ) × (open_of n bs ≡ Ok size)) ↔ ((known n ≡ true) × HasSet n bs)
unfolding open_of
open_iff n bs d = (
  λ t.
      let p = row_taken n bs (sized (row_verdict n bs) _ t.0 t.1) in
      (p.0, (row_iff (config_at n) (line_at n).sound bs d).0 p.1),
  λ t. (exact_count_at (config_at n) t.1.0, ap (open_of n) (sym t.1.2) ∙ open_set n t.0 t.1.0),
)

-- The row of a set, cut after its first k bytes, is opened exactly where no cut can be noticed: nothing is missing, or whole entries are
-- left and fewer than M of them.
pub open_beginning : (n : ℕ) → known n ≡ true → (S : Set) (k : ℕ) → k ≤ length (row (config_at n) S)
    → ((size : ℕ) × (open_of n (take k (row (config_at n) S)) ≡ Ok size)) ↔ Unnoticed (config_at n) S k
unfolding open_of
open_beginning n e S k h =
    let c : Config = config_at n in
    let bs : List ℕ = take k (row c S) in
    let begins = beginning_iff c (line_at n).sound S k h in (
      λ t. begins.0 (row_taken n bs (sized (row_verdict n bs) _ t.0 t.1)).1,
      λ u. (exact_count_at c (shown_row c bs), rw (row_takes n bs e (begins.1 u))),
    )

-- Cut after j entries it opens as the row of the j largest buckets.
pub open_cut : (n : ℕ) → known n ≡ true → (S : Set) (j : ℕ) → j < (config_at n).M → j * (config_at n).entry ≤ length (row (config_at n) S)
    → open_of n (take (j * (config_at n).entry) (row (config_at n) S)) ≡ Ok j
open_cut n e S j m h =
    let c : Config = config_at n in
    let s : Sound c = (line_at n).sound in
    ap (open_of n) (cut_row c s S j m h) ∙ open_set n e (largest c j S) ∙ ap Ok (largest_count c s S j m h)

-- It is read exactly where the slices have room besides.
pub read_iff : (n : ℕ) (bs top bits : List ℕ) → Bytes bs → {r : Result Filter Refusal} {t b : List ℕ} → Reads n bs top bits r t b
    → ((f : Filter) × (r ≡ Ok f)) ↔ ((known n ≡ true) × Lent n top bits × HasSet n bs)
unfolding read_verdict
read_iff n bs top bits d R =
    let c : Config = config_at n in
    let v = read_verdict n bs top bits in
    let f : Filter = filter_in (record_of c (shown_row c bs)) in (
      λ e.
          let p = read_passes n bs top bits (ready v f e.0 (sym e.1 ∙ R.answers)).0 in
          (p.0, p.1, (row_iff c (line_at n).sound bs d).0 p.2),
      λ x.
          let t : v ≡ taken =
          lent_then n x.0 top bits x.1 (is_row_of c bs) ∙ (verdict_row c bs).1 ((row_iff c (line_at n).sound bs d).1 x.2) in
          (f, R.answers ∙ rw t),
    )

-- No two sets share a row.
pub one_row : (n : ℕ) (S T : Set) → row (config_at n) S ≡ row (config_at n) T → Agree (W (config_at n)) S T
one_row n S T e = row_one (config_at n) (line_at n).sound S T e
