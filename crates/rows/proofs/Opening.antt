-- What each path through reading and opening a row answers and leaves. Assumes nothing.
use mathlib.Core.Path.{◌≡◌, refl, sym, ap, ap₂, ◌∙◌, subst, subst₂}
use mathlib.Core.Bool.{true}
use mathlib.Core.List.{List}
use Prim.Native.Nat.{ℕ, ◌+◌, ◌-◌, ◌*◌}
use native.Mathlib.Omega.{arith}
use lib.ListN.{length, get_or}
use Rattle.sets.specs.Sets.{Empty, Falls, Set, members}
use Rattle.sets.specs.Words.{held}
use Rattle.sets.specs.Configurations.{Config, blocks_for, config_at, known}
use Rattle.sets.specs.Filter.{exact_count_at, joined}
use Rattle.sets.specs.Row.{row_block_count, row_blocks, row_entries, shown_row}
use Rattle.sets.specs.Refusals.{taken, verdict, areas_lent, is_row_of}
use Rattle.sets.proofs.Configurations.{entry_width, line_at, whole_blocks}
use Rattle.sets.proofs.Reading.{Faultless}
use Rattle.sets.proofs.Rows.{shown_row_lem}
use Rattle.sets.proofs.Verdicts.{after_taken, after_refused}
use Rattle.sizes.specs.Sizes.{sizes_at}
use Rattle.sizes.specs.declared.Sizes.{Sizes}
use Rattle.sizes.specs.declared.Refusal.{Refusal}
use Rattle.bitvec.specs.Parts.{Becomes, Room}
use Rattle.bitchunks.specs.Rows.{blocks, entries, layout_of}
use Rattle.bitchunks.specs.declared.Layout.{Layout}
use Rattle.bitchunks.proofs.Shown.{entries_are}
use Rattle.judge.specs.Judging.{areas_of}
use Rattle.judge.proofs.Verdicts.{areas_pass, areas_refused, areas_room, areas_told, refuses, takes}
use Rattle.diff_count.specs.declared.Filter.{Filter}
use Rattle.diff_count.proofs.Outcomes.{makes_ready, makes_refused}
use Rattle.judge_row.specs.Judging.{row_of, row_verdict}
use Rattle.judge_row.proofs.Verdicts.{fits_total, row_alone, row_facts, row_refused, row_told, row_walked}
use Rattle.rows.specs.Calls.{Reads, open_of, read_verdict}
use Rattle.rows.specs.Inner.{Readable, set_in}
use Rattle.std.specs.Prelude.{Result, Ok, Err}

-- ---- a row that was taken

module _ (n : ℕ) (bs : List ℕ) (t : row_verdict n bs ≡ taken) where
  readable : Readable (layout_of (config_at n) bs) (sizes_at n).top (sizes_at n).blocks bs
  unfolding sizes_at row_entries row_blocks
  readable =
      let c : Config = config_at n in
      let F : Faultless c bs = (row_facts n bs t).0 in
      let e : entries (layout_of c bs) bs ≡ row_entries c bs = entries_are c bs (entry_width n) in
      record {
        fits = (row_walked n bs t (sizes_at n).blocks refl).0;
        few = omega arith;
        falling = subst₂ Falls (sym (whole_blocks c (line_at n).sound)) (sym e) F.falling;
        counted = subst (λ (l : List ℕ). row_block_count c bs ≡ blocks_for (get_or l (c.M - 1) 0)) (sym e) F.counted;
        clear =
            subst (λ (l : List ℕ). Empty (held (row_blocks c bs)) (get_or l (c.M - 1) 0) (64 * row_block_count c bs)) (sym e) F.clear;
      }

  -- the set that has it
  set_is : set_in (layout_of (config_at n) bs) (sizes_at n).top bs ≡ shown_row (config_at n) bs
  unfolding sizes_at row_entries row_blocks
  set_is =
      let c : Config = config_at n in
      ap (λ (l : List ℕ). joined l (get_or l (c.M - 1) 0) (held (row_blocks c bs))) (entries_are c bs (entry_width n))
      ∙ sym (shown_row_lem c bs)

-- ---- read

module _ (n : ℕ) (bs top bits : List ℕ) {j : Result Sizes Refusal} (f : j ≡ areas_of n (length top) (length bits)) where
  pub read_no_areas : {x : Refusal} {r : Result Filter Refusal} → r ≡ Err x → j ≡ Err x → Reads n bs top bits r top bits
  unfolding read_verdict
  read_no_areas {x} h q =
      let a = areas_refused n (length top) (length bits) x (sym f ∙ q) in
      makes_refused (read_verdict n bs top bits) (config_at n) (shown_row (config_at n) bs) top bits x a.0 h
      (after_refused (areas_lent n (length top) (length bits)) (is_row_of (config_at n) bs) a.1) a.2

  module _ {s : Sizes} (q : j ≡ Ok s) {i : Result (Sizes × Layout) Refusal} (g : i ≡ row_of n bs) where
    told : (verdict (areas_lent n (length top) (length bits)) ≡ taken) × (s ≡ sizes_at n)
    told = areas_told n (length top) (length bits) s (sym f ∙ q)

    knows : known n ≡ true
    knows = (areas_pass n (length top) (length bits) told.0).0

    -- the row decides
    by_row : read_verdict n bs top bits ≡ row_verdict n bs
    unfolding read_verdict
    by_row = after_taken (areas_lent n (length top) (length bits)) (is_row_of (config_at n) bs) told.0 ∙ sym (row_alone n bs knows)

    pub read_no_row : {x : Refusal} {r : Result Filter Refusal} → r ≡ Err x → i ≡ Err x → Reads n bs top bits r top bits
    read_no_row {x} h w =
        let r = row_refused n bs g w in
        makes_refused (read_verdict n bs top bits) (config_at n) (shown_row (config_at n) bs) top bits x r.0 h (by_row ∙ r.1) r.2

    module _ {o : Sizes} {l : Layout} (w : i ≡ Ok (o, l)) where
      pub read_asks : Room s.top s.blocks top bits × Readable l s.top s.blocks bs
      read_asks =
          let r = row_told n bs g w in (
            areas_room n top bits s (sym f ∙ q),
            subst₂ (λ (x : Sizes) (y : Layout). Readable y x.top x.blocks bs) (sym told.1) (sym r.2) (readable n bs r.0),
          )

      pub read_ready : {top' bits' : List ℕ} {count edge : ℕ}
          → Becomes s.top s.blocks (set_in l s.top bs) top bits top' bits' count edge
          → Reads n bs top bits (Ok (record { config = n; count = count; boundary = edge })) top' bits'
      read_ready {top'} {bits'} {count} {edge} B =
          let r = row_told n bs g w in
          let e : set_in l s.top bs ≡ shown_row (config_at n) bs =
          ap₂ (λ (x : Sizes) (y : Layout). set_in y x.top bs) told.1 r.2 ∙ set_is n bs r.0 in
          makes_ready (read_verdict n bs top bits) n (shown_row (config_at n) bs) top bits s (by_row ∙ r.0) knows told.1
          (subst (λ (S : Set). Becomes s.top s.blocks S top bits top' bits' count edge) e B)

-- ---- open

module _ (n : ℕ) (bs : List ℕ) {i : Result (Sizes × Layout) Refusal} (g : i ≡ row_of n bs) where
  pub open_refused : {x : Refusal} → i ≡ Err x → Err x ≡ open_of n bs
  unfolding open_of
  open_refused w = refuses (λ x. Err x) (Ok (exact_count_at (config_at n) (shown_row (config_at n) bs))) (row_refused n bs g w)

  pub open_size : {o : Sizes} {l : Layout} {low : ℕ} → i ≡ Ok (o, l) → low ≡ length (members (held (blocks l bs)) (64 * l.n))
      → Ok (l.count + low) ≡ open_of n bs
  unfolding open_of
  open_size w e =
      takes (λ x. Err x) (Ok (exact_count_at (config_at n) (shown_row (config_at n) bs))) (row_told n bs g w).0
      (ap (λ (x : ℕ). Ok x) (fits_total n bs g w e))
