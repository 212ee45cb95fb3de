-- The laws of reading a row: the reader's tests pass exactly the rows of sets. Assumes nothing.
use mathlib.Core.Path.{◌≡◌, refl, sym, ap, ap₂, ◌∙◌, subst}
use mathlib.Core.Bool.{Bool, true, false, true≢false, cond, ◌&&◌, ◌||◌}
use mathlib.Core.Logic.{◌⊎◌, inl, inr, ⊎_elim, ◌↔◌}
use mathlib.Core.List.{List, [], ◌∷◌, ◌++◌, append-nil, cons≢nil}
use Prim.Native.Nat.{ℕ, ◌+◌, ◌-◌, ◌*◌, ◌/◌, ◌%◌, ◌^◌, ◌≤◌, ◌<◌, min}
use native.Mathlib.Nat.{div-add-mod', div-le_of_le-mul, le-div_iff_mul-le, mul_comm, mul-le-mul_right, mul-mod_left}
use native.Mathlib.Numerals.{add-one}
use native.Mathlib.Decide.{ℕ_discrete}
use native.Mathlib.Omega.{arith}
use lib.Dec.{eqb, ltb, leb}
use lib.ListN.{length, get_or, take, drop, length-drop}
use lib.Seq.{ext_get_or, get_or_at, split_at, take-length}
use borrow.Author.Tests.{eq-eqb, lt-ltb, le-leb, eqb-true, ltb-true, leb-true}
use Rattle.sets.specs.Sets.{Empty, Falls, Set, below, members, onward, tabulate}
use Rattle.sets.specs.Words.{block_at, held}
use Rattle.sets.specs.Configurations.{Config, Sound, W, blocks_for, longest_row}
use Rattle.sets.specs.Row.{bit_part, bytes_of, faultless, numbers, row, row_block_count, row_blocks, row_boundary, row_entries, shown_row}
use Rattle.sets.specs.Row.{spare_byte, top_bytes}
use Rattle.sets.specs.Row.{Fault, count_fault, entries_fit, fall_fault, high_fault, is_row, length_fits, lowest, nowhere, place, rising}
use Rattle.sets.specs.Row.{place_of, sound, spare_fault}
use Rattle.sets.specs.Refusals.{Cause, Reason, Verdict, because, because_at, is_row_of, refused, taken, verdict}
use Rattle.sets.specs.Refusals.{block_count, fall, high, range, row_length, spare}
use Rattle.sets.proofs.Laws.{below_in, below_out, onward_none, onward_none_back, falls_at}
use Rattle.sets.proofs.Words.{held_word, word_same}
use Rattle.sets.proofs.Lists.{below_drop, get_d_tabulate, length_tabulate}
use Rattle.sets.proofs.Tests.{and_intro, and_left, and_right, below_all, or_cases, or_left, or_right}
use Rattle.sets.proofs.Split.{Split, joined_bit, joined_edge, joined_top}
use Rattle.sets.proofs.Bytes.{Bytes, length_bytes_of, length_numbers, numbers_below, bytes_of_numbers}
use Rattle.sets.proofs.Rows.{bit_part_none, bit_part_some, edge_of, row_bits, row_bits_held, tops_of, tops_split}
use Rattle.sets.proofs.Rows.{row_bits_lem, row_block_count_lem, row_blocks_lem, row_boundary_lem, row_cases, row_entries_lem, row_longest, row_same}
use Rattle.sets.proofs.Rows.{shown_row_lem}

-- ---- the four tests of refusal 5, as facts

-- where none finds a fault
pub record Faultless (c : Config) (bs : List ℕ) : Type 0 where
  pub falling : Falls (W c) (row_entries c bs)
  pub counted : row_block_count c bs ≡ blocks_for (row_boundary c bs)
  pub spare : (row_boundary c bs ≡ 0 → ⊥) → get_or bs (top_bytes c) 0 ≡ spare_byte (row_boundary c bs)
  pub clear : Empty (held (row_blocks c bs)) (row_boundary c bs) (64 * row_block_count c bs)

pub sound_cond : (b : Bool) (n : ℕ) → sound (cond b nowhere (place n)) ≡ b
sound_cond true n = refl
sound_cond false n = refl

pub sound_then : (b : Bool) (f : Fault) (n : ℕ) → sound (cond b f (place n)) ≡ (b && sound f)
sound_then true f n = refl
sound_then false f n = refl

rising_falls : (width at before : ℕ) (l : List ℕ) → sound (rising width at before l) ≡ true → Falls before l
rising_falls width at before [] h = tt
rising_falls width at before (x ∷ xs) h =
    let f : Fault = rising width (at + width) x xs in
    let g : (ltb x before && sound f) ≡ true = sym (sound_then (ltb x before) f at) ∙ h in
    (ltb-true x before (and_left (ltb x before) (sound f) g), rising_falls width (at + width) x xs (and_right (ltb x before) (sound f) g))

falls_rising : (width at before : ℕ) (l : List ℕ) → Falls before l → sound (rising width at before l) ≡ true
falls_rising width at before [] f = refl
falls_rising width at before (x ∷ xs) f = rw (lt-ltb x before f.0) (falls_rising width (at + width) x xs f.1)

pub lowest_none : (at : ℕ) (l : List ℕ) → sound (lowest at l) ≡ true → l ≡ []
lowest_none at [] h = refl
lowest_none at (p ∷ []) h = absurd (true≢false (sym h))
lowest_none at (p ∷ q ∷ ps) h = absurd (cons≢nil (lowest_none at (q ∷ ps) h))

-- either the boundary is 0, or the byte is right
spare_test : (e g x : ℕ) → ((e ≡ 0 → ⊥) → g ≡ x) → (eqb e 0 || eqb g x) ≡ true
spare_test e g x h = go (ℕ_discrete e 0)
  where
    go : Dec (e ≡ 0) → (eqb e 0 || eqb g x) ≡ true
    go (yes z) = or_left (eqb e 0) (eqb g x) (eq-eqb e 0 z)
    go (no z) = or_right (eqb e 0) (eqb g x) (eq-eqb g x (h z))

test_spare : (e g x : ℕ) → (eqb e 0 || eqb g x) ≡ true → (e ≡ 0 → ⊥) → g ≡ x
test_spare e g x h n = ⊎_elim (λ z. absurd (n (eqb-true e 0 z))) (λ z. eqb-true g x z) (or_cases (eqb e 0) (eqb g x) h)

module _ (c : Config) (bs : List ℕ) where
  pub faultless_facts : faultless c bs ≡ true → Faultless c bs
  unfolding fall_fault count_fault spare_fault high_fault
  faultless_facts h =
      let e : ℕ = row_boundary c bs in
      let k : ℕ = row_block_count c bs in
      let g : ℕ = get_or bs (top_bytes c) 0 in
      let R : Set = held (row_blocks c bs) in
      let high : Bool = sound (high_fault c bs) in
      let spares : Bool = sound (spare_fault c bs) in
      let h₁ : (sound (count_fault c bs) && (spares && high)) ≡ true = and_right (sound (fall_fault c bs)) _ h in
      let h₂ : (spares && high) ≡ true = and_right (sound (count_fault c bs)) _ h₁ in
      record {
        falling = rising_falls c.entry 0 (W c) (row_entries c bs) (and_left (sound (fall_fault c bs)) _ h);
        counted = eqb-true k (blocks_for e) (sym (sound_cond (eqb k (blocks_for e)) (top_bytes c)) ∙ and_left (sound (count_fault c bs)) _ h₁);
        spare = test_spare e g (spare_byte e) (sym (sound_cond (eqb e 0 || eqb g (spare_byte e)) (top_bytes c)) ∙ and_left spares high h₂);
        clear = onward_none_back e R (64 * k) (lowest_none (top_bytes c + 1) (members (onward e R) (64 * k)) (and_right spares high h₂));
      }

  pub facts_faultless : Faultless c bs → faultless c bs ≡ true
  unfolding fall_fault count_fault spare_fault high_fault
  facts_faultless F =
      let e : ℕ = row_boundary c bs in
      let k : ℕ = row_block_count c bs in
      let g : ℕ = get_or bs (top_bytes c) 0 in
      and_intro _ _ (falls_rising c.entry 0 (W c) (row_entries c bs) F.falling)
      (and_intro _ _ (sound_cond (eqb k (blocks_for e)) (top_bytes c) ∙ eq-eqb k (blocks_for e) F.counted)
      (and_intro _ _ (sound_cond (eqb e 0 || eqb g (spare_byte e)) (top_bytes c) ∙ spare_test e g (spare_byte e) F.spare)
      (ap (λ (l : List ℕ). sound (lowest (top_bytes c + 1) l)) (onward_none e (held (row_blocks c bs)) (64 * k) F.clear))))

-- ---- refusal 4, as facts

-- whole entries alone, or M of them, a spare byte and whole blocks
abbrev pub Short : Config → List ℕ → Type 0
Short c bs = (length bs % c.entry ≡ 0) × (length bs ≤ top_bytes c)

abbrev pub Long : Config → List ℕ → Type 0
Long c bs = (top_bytes c + 9 ≤ length bs) × ((length bs - (top_bytes c + 1)) % 8 ≡ 0)

module _ (c : Config) (bs : List ℕ) where
  pub length_facts : length_fits c bs ≡ true → (length bs ≤ longest_row c) × (Short c bs ⊎ Long c bs)
  unfolding length_fits
  length_facts h =
      let longest : Bool = leb (length bs) (longest_row c) in
      let whole : Bool = eqb (length bs % c.entry) 0 in
      let most : Bool = leb (length bs) (top_bytes c) in
      let more : Bool = leb (top_bytes c + 9) (length bs) in
      let eights : Bool = eqb ((length bs - (top_bytes c + 1)) % 8) 0 in (
        leb-true _ _ (and_left longest _ h),
        ⊎_elim
            {C = Short c bs ⊎ Long c bs}
            (λ g. inl (eqb-true _ _ (and_left whole most g), leb-true _ _ (and_right whole most g)))
            (λ g. inr (leb-true _ _ (and_left more eights g), eqb-true _ _ (and_right more eights g)))
            (or_cases (whole && most) (more && eights) (and_right longest _ h)),
      )

  pub facts_length : length bs ≤ longest_row c → Short c bs ⊎ Long c bs → length_fits c bs ≡ true
  unfolding length_fits
  facts_length h g =
      and_intro _ _ (le-leb _ _ h) (⊎_elim
      (λ k. or_left _ _ (and_intro _ _ (eq-eqb _ _ k.0) (le-leb _ _ k.1)))
      (λ k. or_right (eqb (length bs % c.entry) 0 && leb (length bs) (top_bytes c)) _
      (and_intro _ _ (le-leb _ _ k.0) (eq-eqb _ _ k.1)))
      g)

-- ---- the row of a set passes

module _ (c : Config) (s : Sound c) (S : Set) where
  row_spare : (edge_of c S ≡ 0 → ⊥) → get_or (row c S) (top_bytes c) 0 ≡ spare_byte (edge_of c S)
  row_spare n =
      let xs : List ℕ = bytes_of c.entry (tops_of c S) in
      row_cases c s S
      (λ e l. absurd (n e))
      (λ e f l.
      ap (λ (bs : List ℕ). get_or bs (top_bytes c) 0) (row_bits_lem c S e)
      ∙ get_or_at xs (spare_byte (edge_of c S)) (bytes_of 8 (row_bits (edge_of c S) S)) 0 (top_bytes c)
      (length_bytes_of c.entry (tops_of c S) ∙ ap (λ (x : ℕ). x * c.entry) f))

  row_faultless : Faultless c (row c S)
  row_faultless =
      let e : row_boundary c (row c S) ≡ edge_of c S = row_boundary_lem c s S in
      record {
        falling = subst (Falls (W c)) (sym (row_entries_lem c s S)) (tops_split c s S).falling;
        counted = row_block_count_lem c s S ∙ ap blocks_for (sym e);
        spare = λ n. row_spare (λ z. n (e ∙ z)) ∙ ap spare_byte (sym e);
        clear = λ p a b.
            ap (λ (l : List ℕ). held l p) (row_blocks_lem c s S)
            ∙ row_bits_held (edge_of c S) S p (omega (arith, row_block_count_lem c s S)) ∙ below_out (edge_of c S) S p (omega arith);
      }

  row_length_fits : length_fits c (row c S) ≡ true
  row_length_fits =
      facts_length c (row c S) (row_longest c s S) (row_cases c s S
      {P = Short c (row c S) ⊎ Long c (row c S)}
      (λ e l. inl (
        ap (λ (x : ℕ). x % c.entry) l ∙ mul-mod_left (length (tops_of c S)) c.entry,
        omega (arith, mul-le-mul_right c.entry (tops_split c s S).few),
      ))
      (λ e f l. inr (omega arith, omega arith)))

  pub row_passes : is_row c (row c S) ≡ true
  unfolding is_row entries_fit
  row_passes =
      let F : Faultless c (row c S) = row_faultless in
      let fit : entries_fit c (row c S) ≡ true =
      below_all (W c) (row_entries c (row c S)) (λ i h. falls_at (row_entries c (row c S)) (W c) i F.falling h) in
      and_intro _ _ row_length_fits (and_intro _ _ fit (facts_faultless c (row c S) F))

-- ---- what passes is the row of the set that it shows

-- its entries are a top list
pub entries_split : (c : Config) (bs : List ℕ) → Faultless c bs → Split c.M (W c) (row_entries c bs) (row_boundary c bs)
unfolding row_entries
entries_split c bs F =
    record {
      few = omega (arith, length_numbers c.entry (min c.M (length bs / c.entry)) bs);
      falling = F.falling;
      edge_is = refl;
    }

module _ (c : Config) (s : Sound c) (bs : List ℕ) (b : Bytes bs) (F : Faultless c bs) where
  length_blocks : length (row_blocks c bs) ≡ row_block_count c bs
  unfolding row_blocks
  length_blocks = length_numbers 8 (row_block_count c bs) (drop (top_bytes c + 1) bs)

  block_fits : (i : ℕ) → i < length (row_blocks c bs) → get_or (row_blocks c bs) i 0 < 2 ^ 64
  unfolding row_blocks
  block_fits i h = numbers_below 8 (row_block_count c bs) (drop (top_bytes c + 1) bs) (below_drop (top_bytes c + 1) bs 256 b) i h

  -- the blocks are those of the set shown
  blocks_back : row_bits (row_boundary c bs) (shown_row c bs) ≡ row_blocks c bs
  blocks_back =
      let e : ℕ = row_boundary c bs in
      let R : Set = held (row_blocks c bs) in
      let cells : ℕ → ℕ = block_at (below e (shown_row c bs)) in
      let n : length (tabulate (blocks_for e) cells) ≡ row_block_count c bs = length_tabulate (blocks_for e) cells ∙ sym F.counted in
      ext_get_or 0 (row_bits e (shown_row c bs)) (row_blocks c bs) (n ∙ sym length_blocks)
      (λ i h.
      get_d_tabulate (blocks_for e) cells i 0 (omega (arith, length_tabulate (blocks_for e) cells))
      ∙ word_same (below e (shown_row c bs)) R (64 * i) 64
      (λ j l.
      ap (λ (T : Set). below e T (64 * i + j)) (shown_row_lem c bs)
      ∙ sym (joined_bit s.some (entries_split c bs F) R (64 * row_block_count c bs) F.clear (64 * i + j) (omega arith)))
      ∙ held_word (row_blocks c bs) i (block_fits i (omega (arith, length_blocks))))

  written : row c (shown_row c bs) ≡ bytes_of c.entry (row_entries c bs) ++ bit_part (row_boundary c bs) (shown_row c bs)
  unfolding row
  written =
      let R : Set = held (row_blocks c bs) in
      ap₂ (λ (l : List ℕ) (x : ℕ). bytes_of c.entry l ++ bit_part x (shown_row c bs))
      (ap (tops_of c) (shown_row_lem c bs) ∙ joined_top s.some (entries_split c bs F) R)
      (ap (edge_of c) (shown_row_lem c bs) ∙ joined_edge s.some (entries_split c bs F) R)

  -- its entries are its first bytes
  entries_back : (n : ℕ) → min c.M (length bs / c.entry) ≡ n → n * c.entry ≤ length bs
      → bytes_of c.entry (row_entries c bs) ≡ take (n * c.entry) bs
  unfolding row_entries
  entries_back n e h = ap (λ (x : ℕ). bytes_of c.entry (numbers c.entry x bs)) e ∙ bytes_of_numbers c.entry n bs b h

  -- and its blocks the last
  tail_back : Long c bs → bytes_of 8 (row_blocks c bs) ≡ drop (top_bytes c + 1) bs
  unfolding row_blocks
  tail_back h =
      let tail : List ℕ = drop (top_bytes c + 1) bs in
      let k : row_block_count c bs * 8 ≡ length tail = omega (arith, h.0, h.1, length-drop (top_bytes c + 1) bs) in
      bytes_of_numbers 8 (row_block_count c bs) tail (below_drop (top_bytes c + 1) bs 256 b) (omega arith)
      ∙ ap (λ (x : ℕ). take x tail) k
      ∙ take-length tail

  short_row : Short c bs → row c (shown_row c bs) ≡ bs
  short_row h =
      let q : ℕ = length bs / c.entry in
      let w : q * c.entry ≡ length bs = omega (arith, div-add-mod' (length bs) c.entry, h.0) in
      let m : q ≤ c.M = div-le_of_le-mul c.entry (omega (arith, h.1, mul_comm c.M c.entry)) in
      let z : row_boundary c bs ≡ 0 = omega (arith, h.1, F.counted) in
      written
      ∙ ap₂ ◌++◌
      (entries_back q (omega arith) (omega arith) ∙ ap (λ (x : ℕ). take x bs) w ∙ take-length bs)
      (bit_part_none (row_boundary c bs) (shown_row c bs) z)
      ∙ append-nil bs

  long_row : Long c bs → row c (shown_row c bs) ≡ bs
  long_row h =
      let e : ℕ = row_boundary c bs in
      let q : c.M ≤ length bs / c.entry = (le-div_iff_mul-le {k = c.entry} (omega (arith, s.fits))).1 (omega (arith, h.0)) in
      let n : e ≡ 0 → ⊥ = omega (arith, h.0, F.counted) in
      written
      ∙ ap₂ ◌++◌
      (entries_back c.M (omega arith) (omega (arith, h.0)))
      (bit_part_some e (shown_row c bs) n ∙ ap₂ (λ (x : ℕ) (l : List ℕ). x ∷ l) (sym (F.spare n)) (ap (bytes_of 8) blocks_back ∙ tail_back h))
      ∙ ap (λ (x : ℕ). take (top_bytes c) bs ++ (get_or bs (top_bytes c) 0 ∷ drop x bs)) (add-one (top_bytes c))
      ∙ sym (split_at bs (top_bytes c) 0 (omega (arith, h.0)))

  faultless_row : length_fits c bs ≡ true → row c (shown_row c bs) ≡ bs
  faultless_row h = ⊎_elim short_row long_row (length_facts c bs h).1

-- ---- the tests pass exactly the rows of sets

pub row_tests : (c : Config) (bs : List ℕ) → is_row c bs ≡ true
    → (length_fits c bs ≡ true) × (entries_fit c bs ≡ true) × (faultless c bs ≡ true)
unfolding is_row
row_tests c bs h =
    let g : (entries_fit c bs && faultless c bs) ≡ true = and_right (length_fits c bs) _ h in
    (and_left (length_fits c bs) _ h, and_left (entries_fit c bs) _ g, and_right (entries_fit c bs) _ g)

module _ (c : Config) (s : Sound c) where
  -- where the length fits, refusal 5 tells whether the bytes are the row of the set that they show
  pub faultless_iff : (bs : List ℕ) → Bytes bs → length_fits c bs ≡ true → (faultless c bs ≡ true) ↔ (row c (shown_row c bs) ≡ bs)
  faultless_iff bs b h = (
    λ f. faultless_row c s bs b (faultless_facts c bs f) h,
    λ e. (row_tests c bs (subst (λ (l : List ℕ). is_row c l ≡ true) e (row_passes c s (shown_row c bs)))).2,
  )

  pub passed_row : (bs : List ℕ) → Bytes bs → is_row c bs ≡ true → row c (shown_row c bs) ≡ bs
  passed_row bs b h = (faultless_iff bs b (row_tests c bs h).0).0 (row_tests c bs h).2

  -- bytes pass exactly when some set of buckets has them for its row
  pub row_iff : (bs : List ℕ) → Bytes bs → (is_row c bs ≡ true) ↔ ((S : Set) × ((p : ℕ) → W c ≤ p → S p ≡ false) × (row c S ≡ bs))
  row_iff bs b = (
    λ h.
        let S : Set = shown_row c bs in
        (below (W c) S, below_out (W c) S, sym (row_same c s S (below (W c) S) (λ p l. sym (below_in (W c) S p l))) ∙ passed_row bs b h),
    λ t. subst (λ (l : List ℕ). is_row c l ≡ true) t.2 (row_passes c s t.0),
  )

-- ---- and so does the call's verdict

taken≢refused : (k : Cause) → refused k ≡ taken → ⊥
taken≢refused k e = let z : ◌≡◌ {A = ℕ} 0 1 = cc in omega arith

taken_one : (a : Bool) (k : Cause) → (cond a taken (refused k) ≡ taken) ↔ (a ≡ true)
taken_one true k = (λ e. refl, λ e. refl)
taken_one false k = (λ e. absurd (taken≢refused k e), λ e. absurd (true≢false (sym e)))

taken_and : (a b : Bool) (k : Cause) (v : Verdict) → (v ≡ taken) ↔ (b ≡ true) → (cond a v (refused k) ≡ taken) ↔ ((a && b) ≡ true)
taken_and true b k v h = h
taken_and false b k v h = (λ e. absurd (taken≢refused k e), λ e. absurd (true≢false (sym e)))

pub verdict_row : (c : Config) (bs : List ℕ) → (verdict (is_row_of c bs) ≡ taken) ↔ (is_row c bs ≡ true)
unfolding is_row
verdict_row c bs =
    taken_and (length_fits c bs) _ (because row_length) _ (taken_and (entries_fit c bs) _ (because range) _
    (by_fault fall (fall_fault c bs) (by_fault block_count (count_fault c bs) (by_fault spare (spare_fault c bs)
    (taken_one (sound (high_fault c bs)) (because_at high (place_of (high_fault c bs))))))))
  where
    by_fault : (x : Reason) (f : Fault) {b : Bool} {v : Verdict} → (v ≡ taken) ↔ (b ≡ true)
        → (cond (sound f) v (refused (because_at x (place_of f))) ≡ taken) ↔ ((sound f && b) ≡ true)
    by_fault x f {b} {v} h = taken_and (sound f) b (because_at x (place_of f)) v h
