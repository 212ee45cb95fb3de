-- What each path through a call that makes a filter answers and leaves. Assumes nothing.
use mathlib.Core.Path.{◌≡◌, refl, sym, ap, ap₂, ◌∙◌, subst, subst₂}
use mathlib.Core.Bool.{Bool, true, false, cond, ◌&&◌}
use mathlib.Core.List.{List, [], ◌∷◌, ◌++◌}
use Prim.Native.Nat.{ℕ, ◌+◌, ◌-◌, ◌*◌, ◌≤◌}
use native.Mathlib.Omega.{arith}
use lib.Dec.{ltb}
use lib.ListN.{length, get_or, take-append-drop}
use Rattle.sets.specs.Sets.{Set, Below, none, apart, below, flips, members, all_below}
use Rattle.sets.specs.Words.{block_at}
use Rattle.sets.specs.Configurations.{Config, W, blocks, known, config_at}
use Rattle.sets.specs.Filter.{FilterRecord, is_filter, bits_of, boundary, top_cells, bit_cells}
use Rattle.sets.specs.Refusals.{Cause, Verdict, taken, refused, verdict, filter_lent, are_buckets, because, range}
use Rattle.sets.proofs.Areas.{Stands, holds_stands}
use Rattle.sets.proofs.Configurations.{line_at, number_at, whole_blocks}
use Rattle.sets.proofs.Laws.{members_none}
use Rattle.sets.proofs.Tests.{all_below_lem}
use Rattle.sets.proofs.Words.{word_none}
use Rattle.sets.proofs.Verdicts.{after_taken, after_refused}
use Rattle.sizes.proofs.Laws.{handed_on}
use Rattle.sizes.specs.Sizes.{sizes_at, refusal}
use Rattle.sizes.specs.declared.Sizes.{Sizes}
use Rattle.sizes.specs.declared.Refusal.{Refusal}
use Rattle.bitvec.specs.Cells.{zeroed}
use Rattle.bitvec.specs.Parts.{Becomes, Room}
use Rattle.bitvec.proofs.Filling.{zeroed_rest, zeroed_tabulate}
use Rattle.judge.specs.Judging.{areas_of, filter_of, two_of}
use Rattle.judge.proofs.Verdicts.{Passes, room_of, areas_room, areas_told, areas_refused, areas_pass, filter_told, filter_refused}
use Rattle.judge.proofs.Verdicts.{filter_pass, two_told, two_refused, two_pass}
use Rattle.diff_count.specs.Making.{Makes, filter_in, record_in, tally_of}
use Rattle.diff_count.specs.Calls.{Empties, Toggles, Differs, empty_verdict, toggle_verdict, difference_verdict, shown_by}
use Rattle.diff_count.specs.declared.Filter.{Filter}
use Rattle.std.specs.Prelude.{Result, Ok, Err, IsErrAnd}

-- ---- any call

module _ (v : Verdict) (c : Config) (S : Set) (top bits : List ℕ) where
  pub makes_refused : (x : Refusal) (k : Cause) {r : Result Filter Refusal} → r ≡ Err x → v ≡ refused k → x ≡ refusal k
      → Makes v c S top bits r top bits
  makes_refused x k h e q = record { answers = h ∙ rw e (ap (λ (y : Refusal). Err y) q); tops = rw e; blocks = rw e }

-- the filter of S was made
pub makes_ready : (v : Verdict) (n : ℕ) (S : Set) (top bits : List ℕ) (s : Sizes) {top' bits' : List ℕ} {count edge : ℕ}
    → v ≡ taken → known n ≡ true → s ≡ sizes_at n
    → Becomes s.top s.blocks S top bits top' bits' count edge
    → Makes v (config_at n) S top bits (Ok (record { config = n; count = count; boundary = edge })) top' bits'
unfolding sizes_at
makes_ready v n S top bits s {top'} {bits'} {count} {edge} t a e B₀ =
    let c : Config = config_at n in
    let B = subst (λ (x : Sizes). Becomes x.top x.blocks S top bits top' bits' count edge) e B₀ in
    let r : FilterRecord = record { config = n; count = count; boundary = edge } in
    let H : Stands c r top' bits' S = holds_stands c (line_at n).sound (sym (number_at n a)) B.holds in
    record {
      answers = rw t (ap (λ (x : FilterRecord). Ok (filter_in x)) H.record_is);
      tops = rw t (sym (take-append-drop c.M top') ∙ ap₂ (λ (x y : List ℕ). x ++ y) H.top_is B.top_rest);
      blocks = rw t (sym (take-append-drop (blocks c) bits') ∙ ap₂ (λ (x y : List ℕ). x ++ y) H.bits_are B.bit_rest);
    }

-- ---- empty

-- zeros are the empty set's filter
zeros_none : (m k : ℕ) (top bits : List ℕ) → m ≤ length top → k ≤ length bits
    → Becomes m k none top bits (zeroed 0 m top) (zeroed 0 k bits) 0 0
unfolding top_cells bit_cells
zeros_none m k top bits h l =
    let e : members none (64 * k) ≡ [] = members_none none (64 * k) (λ p a. refl) in
    record {
      holds = record {
        count_is = omega (arith, ap length e);
        edge_is = sym (ap (λ (x : List ℕ). get_or x (m - 1) 0) e);
        tops =
            zeroed_tabulate 0 m top (omega arith) h (λ i. get_or (members none (64 * k)) i 0) (λ i a. absurd (omega arith))
            (λ i a b. ap (λ (x : List ℕ). get_or x i 0) e);
        bits = zeroed_tabulate 0 k bits (omega arith) l (block_at (bits_of m (64 * k) none)) (λ i a. absurd (omega arith))
            (λ i a b. word_none (bits_of m (64 * k) none) (64 * i) 64 (λ j d. and_none (boundary m (64 * k) none) (64 * i + j)));
      };
      top_rest = zeroed_rest 0 m top (omega arith) h;
      bit_rest = zeroed_rest 0 k bits (omega arith) l;
    }
  where
    and_none : (b p : ℕ) → below b none p ≡ false
    and_none b p = go (ltb p b)
      where
        go : (x : Bool) → (x && false) ≡ false
        go true = refl
        go false = refl

module _ (n : ℕ) (top bits : List ℕ) where
  pub empty_refused : (x : Refusal) {r : Result Filter Refusal} → IsErrAnd r (λ y. y ≡ x)
      → areas_of n (length top) (length bits) ≡ Err x
      → Empties n top bits r top bits
  unfolding empty_verdict
  empty_refused x h q =
      let a = areas_refused n (length top) (length bits) x q in
      makes_refused (empty_verdict n top bits) (config_at n) none top bits x a.0 (handed_on _ h) a.1 a.2

  module _ (s : Sizes) (q : areas_of n (length top) (length bits) ≡ Ok s) where
    pub empty_ready : {top' bits' : List ℕ} → top' ≡ zeroed 0 s.top top → bits' ≡ zeroed 0 s.blocks bits
        → Empties n top bits (Ok (record { config = n; count = 0; boundary = 0 })) top' bits'
    unfolding empty_verdict
    empty_ready {top'} {bits'} x y =
        let a = areas_told n (length top) (length bits) s q in
        makes_ready (empty_verdict n top bits) n none top bits s a.0 (areas_pass n (length top) (length bits) a.0).0 a.1
        (subst₂ (λ (t b : List ℕ). Becomes s.top s.blocks none top bits t b 0 0) (sym x) (sym y)
        (zeros_none s.top s.blocks top bits (areas_room n top bits s q).cells (areas_room n top bits s q).blocks_in))

-- ---- toggle

module _ (f : Filter) (top bits list : List ℕ) where
  pub toggle_refused : (x : Refusal) {r : Result Filter Refusal} → IsErrAnd r (λ y. y ≡ x)
      → filter_of f.config (tally_of f) top bits ≡ Err x
      → Toggles f top bits list r top bits
  unfolding toggle_verdict
  toggle_refused x h q =
      let a = filter_refused f.config (tally_of f) top bits x q in
      makes_refused (toggle_verdict f top bits list) (config_at f.config) (flips list (shown_by f top bits)) top bits x a.0 (handed_on _ h)
      (after_refused (filter_lent (record_in f) top bits) (are_buckets (config_at f.config) list ∷ []) a.1) a.2

  module _ (s : Sizes) (q : filter_of f.config (tally_of f) top bits ≡ Ok s) where
    told : (verdict (filter_lent (record_in f) top bits) ≡ taken) × (s ≡ sizes_at f.config)
    told = filter_told f.config (tally_of f) top bits s q

    passes : Passes f.config (tally_of f) top bits
    passes = filter_pass f.config (tally_of f) top bits told.0

    -- 2 decides
    by_list : (v : Bool) → v ≡ all_below s.buckets list → toggle_verdict f top bits list ≡ cond v taken (refused (because range))
    unfolding toggle_verdict sizes_at
    by_list v h =
        after_taken (filter_lent (record_in f) top bits) (are_buckets (config_at f.config) list ∷ []) told.0
        ∙ ap (λ (b : Bool). cond b taken (refused (because range))) (ap (λ (x : Sizes). all_below x.buckets list) (sym told.1) ∙ sym h)

    pub toggle_past : false ≡ all_below s.buckets list → Toggles f top bits list (Err (refusal (because range))) top bits
    toggle_past h =
        makes_refused (toggle_verdict f top bits list) (config_at f.config) (flips list (shown_by f top bits)) top bits
        (refusal (because range)) (because range) refl (by_list false h) refl

    pub toggle_asks : true ≡ all_below s.buckets list
        → Room s.top s.blocks top bits
        × ((is_filter s.top s.blocks top bits f.count f.boundary ≡ true) × Below (64 * s.blocks) list)
    unfolding sizes_at
    toggle_asks h =
        let n : ℕ = f.config in
        let w : all_below (W (config_at n)) list ≡ true = ap (λ (x : Sizes). all_below x.buckets list) (sym told.1) ∙ sym h in
        subst
        (λ (x : Sizes). Room x.top x.blocks top bits
        × ((is_filter x.top x.blocks top bits f.count f.boundary ≡ true) × Below (64 * x.blocks) list))
        (sym told.1) (
          passes.room,
          (
            passes.sound,
            subst (λ (x : ℕ). Below x list) (sym (whole_blocks (config_at n) (line_at n).sound))
                (all_below_lem (W (config_at n)) list w),
          ),
        )

    pub toggle_ready : {top' bits' : List ℕ} {count edge : ℕ} → true ≡ all_below s.buckets list
        → Becomes s.top s.blocks (flips list (shown_by f top bits)) top bits top' bits' count edge
        → Toggles f top bits list (Ok (record { config = f.config; count = count; boundary = edge })) top' bits'
    toggle_ready h B =
        makes_ready (toggle_verdict f top bits list) f.config (flips list (shown_by f top bits)) top bits s (by_list true h)
        passes.known told.1 B

-- ---- symmetric_difference

module _ (f : Filter) (top bits : List ℕ) (g : Filter) (top2 bits2 to to_bits : List ℕ) where
  abbrev answered : Result Sizes Refusal
  answered = two_of f.config (tally_of f) top bits g.config (tally_of g) top2 bits2 (length to) (length to_bits)

  abbrev D : Set
  D = apart (shown_by f top bits) (shown_by g top2 bits2)

  pub difference_refused : (x : Refusal) {r : Result Filter Refusal} → IsErrAnd r (λ y. y ≡ x) → answered ≡ Err x
      → Differs f top bits g top2 bits2 to to_bits r to to_bits
  unfolding difference_verdict
  difference_refused x h q =
      let a = two_refused f.config (tally_of f) top bits g.config (tally_of g) top2 bits2 (length to) (length to_bits) x q in
      makes_refused (difference_verdict f top bits g top2 bits2 to to_bits) (config_at f.config) D to to_bits x a.0 (handed_on _ h) a.1 a.2

  module _ (s : Sizes) (q : answered ≡ Ok s) where
    pub difference_asks : Room s.top s.blocks to to_bits
        × ((is_filter s.top s.blocks top bits f.count f.boundary ≡ true)
        × (is_filter s.top s.blocks top2 bits2 g.count g.boundary ≡ true))
    difference_asks =
        let a = two_told f.config (tally_of f) top bits g.config (tally_of g) top2 bits2 (length to) (length to_bits) s q in
        let p = two_pass f.config (tally_of f) top bits g.config (tally_of g) top2 bits2 (length to) (length to_bits) a.0 in
        subst
        (λ (x : Sizes). Room x.top x.blocks to to_bits
        × ((is_filter x.top x.blocks top bits f.count f.boundary ≡ true)
        × (is_filter x.top x.blocks top2 bits2 g.count g.boundary ≡ true)))
        (sym a.1)
        (room_of f.config to to_bits p.1, (p.2.sound, p.3.sound))

    pub difference_ready : {to' to_bits' : List ℕ} {count edge : ℕ} → Becomes s.top s.blocks D to to_bits to' to_bits' count edge
        → Differs f top bits g top2 bits2 to to_bits (Ok (record { config = f.config; count = count; boundary = edge })) to' to_bits'
    unfolding difference_verdict
    difference_ready B =
        let a = two_told f.config (tally_of f) top bits g.config (tally_of g) top2 bits2 (length to) (length to_bits) s q in
        let p = two_pass f.config (tally_of f) top bits g.config (tally_of g) top2 bits2 (length to) (length to_bits) a.0 in
        makes_ready (difference_verdict f top bits g top2 bits2 to to_bits) f.config D to to_bits s a.0 p.2.known a.1 B
