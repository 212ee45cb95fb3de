-- What a writer is told by the judge, and that the bytes it leaves are the row of the set shown. Assumes nothing.
use mathlib.Core.Path.{◌≡◌, refl, sym, ap, ap₂, ◌∙◌, subst}
use mathlib.Core.Bool.{Bool, cond}
use mathlib.Core.List.{List, [], ◌∷◌, ◌++◌}
use mathlib.Core.Logic.{◌⊎◌}
use Prim.Native.Nat.{ℕ, ◌+◌, ◌*◌, ◌^◌, ◌≤◌, ◌<◌}
use native.Mathlib.Nat.{mul-le-mul_right}
use native.Mathlib.Omega.{arith}
use lib.Dec.{eqb, leb}
use lib.ListN.{length, take, length-append}
use lib.Seq.{sets, sets-eq, length-take-le}
use borrow.Author.Tests.{le-leb, lt-leb}
use Rattle.sets.specs.Sets.{Agree, Below, Empty}
use Rattle.sets.specs.Words.{held}
use Rattle.sets.specs.Configurations.{W, blocks_for, config_at}
use Rattle.sets.specs.Filter.{boundary, filled, top_list}
use Rattle.sets.specs.Refusals.{Test, Verdict, taken, refused, answer, filter_lent, first_failing, holds_row, Cause, because, buffer}
use Rattle.sets.specs.Row.{bit_part, bytes_of, row, top_bytes}
use Rattle.sets.proofs.Bytes.{length_bytes_of}
use Rattle.sets.proofs.Canon.{holds_canon}
use Rattle.sets.proofs.Configurations.{w_entry, entry_width, line_at}
use Rattle.sets.proofs.Filters.{count_fits, holds_below, holds_bits, holds_tops}
use Rattle.sets.proofs.Laws.{below_in}
use Rattle.sets.proofs.Rows.{bit_part_same, length_bit_part}
use Rattle.sets.proofs.Verdicts.{after_taken, after_refused}
use Rattle.sizes.specs.Sizes.{sizes_at, refusal}
use Rattle.sizes.specs.declared.Sizes.{Sizes}
use Rattle.sizes.specs.declared.Refusal.{Refusal}
use Rattle.sets.proofs.Lists.{sets_append}
use Rattle.judge.specs.Judging.{filter_of}
use Rattle.judge.proofs.Verdicts.{filter_told, refuses, takes}
use Rattle.diff_count.specs.Making.{record_in, tally_of}
use Rattle.diff_count.specs.Calls.{shown_by}
use Rattle.diff_count.specs.declared.Filter.{Filter}
use Rattle.diff_count.proofs.Told.{One, one}
use Rattle.rows.specs.Calls.{Writes, row_by, write_verdict}
use Rattle.std.specs.Prelude.{Result, Ok, Err}

-- ---- a filter that can be written

-- an entry has 2 or 4 bytes
pub entry_wide : (f : Filter) (top bits : List ℕ) {s : Sizes} {r : Result Sizes Refusal} → r ≡ filter_of f.config (tally_of f) top bits
    → r ≡ Ok s → (s.entry ≡ 2) ⊎ (s.entry ≡ 4)
unfolding sizes_at
entry_wide f top bits {s} e q =
    subst (λ (x : Sizes). (x.entry ≡ 2) ⊎ (x.entry ≡ 4)) (sym (filter_told f.config (tally_of f) top bits s (sym e ∙ q)).1) (entry_width f.config)

pub record Writable (f : Filter) (top bits : List ℕ) (s : Sizes) (w : ℕ) : Type 0 where
  pub told : One f top bits s
  pub entry_is : w ≡ (config_at f.config).entry
  pub cells : f.count ≤ length top
  pub short : f.count * w ≤ 2 ^ 32
  pub low : f.boundary ≤ 2 ^ 32
  pub fit : Below (2 ^ (8 * w)) (take f.count top)
  pub blocks_in : blocks_for f.boundary ≤ length bits
  pub clear : Empty (held bits) f.boundary (64 * blocks_for f.boundary)

module _ (f : Filter) (top bits : List ℕ) (s : Sizes) where
  pub writable : {r : Result Sizes Refusal} → r ≡ filter_of f.config (tally_of f) top bits → r ≡ Ok s
      → {w : ℕ} → w ≡ s.entry → Writable f top bits s w
  unfolding sizes_at
  writable e q {w} v =
      let O = one f top bits s e q in
      let F = O.fits in
      let H = F.holds in
      let z : w ≡ (config_at f.config).entry =
      v ∙ ap (λ (x : Sizes). x.entry) (filter_told f.config (tally_of f) top bits s (sym e ∙ q)).1 in
      let t : s.top * w ≡ top_bytes (config_at f.config) = ap₂ ◌*◌ O.sizes.tops z in
      record {
        told = O;
        entry_is = z;
        cells = count_fits H;
        short = omega (arith, t, mul-le-mul_right w F.few, (line_at f.config).short);
        low = omega (arith, F.low, F.room.small);
        fit = subst (λ (x : ℕ). Below (2 ^ (8 * x)) (take f.count top)) (sym z)
            (λ i h. omega (arith, holds_below H i h, O.sizes.buckets, w_entry (config_at f.config) (line_at f.config).sound));
        blocks_in = omega (arith, F.low, F.room.blocks_in);
        clear = λ p a l. (holds_canon F.room.some H).clear p a (omega (arith, F.low));
      }

-- ---- the row, and the bytes left

module _ {f : Filter} {top bits : List ℕ} {s : Sizes} {w : ℕ} (R : Writable f top bits s w) where
  abbrev entry_bytes : List ℕ
  entry_bytes = bytes_of w (take f.count top)

  abbrev part : List ℕ
  part = bit_part f.boundary (held bits)

  tops_are : top_list (config_at f.config).M (W (config_at f.config)) (shown_by f top bits) ≡ take f.count top
  tops_are =
      let Z = R.told.sizes in
      ap₂ (λ (m n : ℕ). top_list m n (shown_by f top bits)) (sym Z.tops) (sym Z.buckets) ∙ sym (holds_tops R.told.fits.holds)

  edge_is_lem : boundary (config_at f.config).M (W (config_at f.config)) (shown_by f top bits) ≡ f.boundary
  edge_is_lem =
      let Z = R.told.sizes in
      ap₂ (λ (m n : ℕ). boundary m n (shown_by f top bits)) (sym Z.tops) (sym Z.buckets) ∙ sym R.told.fits.holds.edge_is

  -- below the boundary the bits are the set
  bits_agree : Agree f.boundary (shown_by f top bits) (held bits)
  bits_agree p l =
      let F = R.told.fits in
      let S = shown_by f top bits in
      let e : f.boundary ≡ boundary s.top (64 * s.blocks) S = F.holds.edge_is in
      sym (holds_bits F.holds p (omega (arith, F.low)) ∙ below_in (boundary s.top (64 * s.blocks) S) S p (omega (arith, e)))

  row_is_lem : row_by f top bits ≡ entry_bytes ++ part
  unfolding row_by row
  row_is_lem =
      let S = shown_by f top bits in
      ap₂ ◌++◌ (ap₂ bytes_of (sym R.entry_is) tops_are)
      (ap (λ (e : ℕ). bit_part e S) edge_is_lem ∙ bit_part_same f.boundary S (held bits) bits_agree)

  entries_length : length entry_bytes ≡ f.count * w
  entries_length = length_bytes_of w (take f.count top) ∙ ap (λ (x : ℕ). x * w) (length-take-le f.count top R.cells)

  row_long : length (row_by f top bits) ≡ f.count * w + length part
  row_long = ap length row_is_lem ∙ length-append entry_bytes part ∙ ap (λ (x : ℕ). x + length part) entries_length

  -- entries, and the bit part after them
  row_left : (to : List ℕ) → length (row_by f top bits) ≤ length to
      → sets (sets to 0 entry_bytes) (f.count * w) part ≡ filled (row_by f top bits) (length (row_by f top bits)) to
  row_left to h =
      let n : 0 + length entry_bytes ≡ f.count * w = omega (arith, entries_length) in
      let z : 0 + length (row_by f top bits) ≡ length (row_by f top bits) = omega arith in
      ap (λ (x : ℕ). sets (sets to 0 entry_bytes) x part) (sym n)
      ∙ sym (sets_append to 0 entry_bytes part)
      ∙ ap (sets to 0) (sym row_is_lem)
      ∙ sets-eq (row_by f top bits) to 0 (omega arith)
      ∙ ap (λ (x : ℕ). filled (row_by f top bits) x to) z

-- ---- the call

module _ (f : Filter) (top bits to : List ℕ) where
  abbrev lent : List Test
  lent = filter_lent (record_in f) top bits

  abbrev last_test : List Test
  last_test = holds_row (row_by f top bits) to ∷ []

  -- the bytes left on a verdict
  abbrev left_by : Verdict → List ℕ
  left_by v = answer v (λ n. to) (filled (row_by f top bits) (length (row_by f top bits)) to)

  not_written : {x : Refusal} {r : Result ℕ Refusal} → r ≡ Err x
      → ((k : Cause) × (write_verdict f top bits to ≡ refused k) × (x ≡ refusal k))
      → Writes f top bits to r to
  not_written h w =
      record {
        answers = h ∙ refuses (λ x. Err x) _ w;
        bytes = ap left_by (sym w.1);
      }

  -- what the judge refuses, the call does
  pub write_refused : {x : Refusal} {r : Result ℕ Refusal} → r ≡ Err x
      → ((k : Cause) × (first_failing lent ≡ refused k) × (x ≡ refusal k))
      → Writes f top bits to r to
  unfolding write_verdict
  write_refused h w = not_written h (w.0, after_refused lent last_test w.1, w.2)

  module _ {s : Sizes} {w : ℕ} (R : Writable f top bits s w) {len : ℕ}
      (e : len ≡ f.count * w + cond (eqb f.boundary 0) 0 (1 + 8 * blocks_for f.boundary)) where
    len_is : len ≡ length (row_by f top bits)
    len_is = omega (arith, e, row_long R, length_bit_part f.boundary (held bits))

    -- 3 for the buffer is left
    by_buffer : write_verdict f top bits to ≡ cond (leb (length (row_by f top bits)) (length to)) taken (refused (because buffer))
    unfolding write_verdict
    by_buffer = after_taken lent last_test R.told.taken_is

    pub write_short : length to < len → Writes f top bits to (Err (refusal (because buffer))) to
    write_short h =
        let l : length to < length (row_by f top bits) = omega (arith, len_is) in
        not_written refl (because buffer, by_buffer ∙ ap (λ (b : Bool). cond b taken (refused (because buffer))) (lt-leb _ _ l), refl)

    pub write_done : {start r : ℕ} {to₁ to₂ : List ℕ} → len ≤ length to → to₁ ≡ sets to 0 (entry_bytes R)
        → start ≡ f.count * w → r ≡ start + length (part R)
        → to₂ ≡ sets to₁ start (part R) → Writes f top bits to (Ok r) to₂
    write_done {start} {r} {to₁} {to₂} h x a y z =
        let row = row_by f top bits in
        let l : length row ≤ length to = omega (arith, len_is) in
        let t = by_buffer ∙ ap (λ (b : Bool). cond b taken (refused (because buffer))) (le-leb _ _ l) in
        record {
          answers = takes (λ x. Err x) (Ok (length row)) t (ap (λ (n : ℕ). Ok n) (y ∙ ap (λ (n : ℕ). n + length (part R)) a ∙ sym (row_long R)));
          bytes = z ∙ ap₂ (λ (l : List ℕ) (n : ℕ). sets l n (part R)) x a ∙ row_left R to l ∙ ap left_by (sym t);
        }
