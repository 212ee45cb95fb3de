-- Order and key once filters and mask are judged, and what each path answers. Assumes nothing.
use mathlib.Core.Path.{◌≡◌, refl, sym, ap, ap₂, ◌∙◌, subst}
use mathlib.Core.Bool.{Bool, true, false, cond}
use mathlib.Core.List.{List, [], ◌∷◌, ◌++◌}
use Prim.Native.Nat.{ℕ, ◌*◌, ◌^◌, ◌≤◌, ◌<◌}
use native.Mathlib.Omega.{arith}
use lib.Dec.{lit≤}
use Rattle.sets.specs.Sets.{Agree, Set, apart, members}
use Rattle.sets.specs.Words.{block_at}
use Rattle.sets.specs.Configurations.{W, config_at, position_bits}
use Rattle.sets.specs.Masks.{holder, kept, key_of, laid, largest_mask_size, order_of, slots_fit}
use Rattle.sets.specs.Refusals.{because, slot, Test, Verdict, taken, refused, verdict, answer, filter_lent, filters_lent, first_failing, fits_slots, in_order, Cause}
use Rattle.sets.specs.Refusals.{is_mask}
use Rattle.sets.proofs.Configurations.{at_each}
use Rattle.sets.proofs.Laws.{members_same}
use Rattle.sets.proofs.Masks.{kept_same}
use Rattle.sets.proofs.Order.{order_same}
use Rattle.sets.proofs.Verdicts.{after_taken, after_refused}
use Rattle.sizes.specs.Sizes.{refusal}
use Rattle.sizes.specs.declared.Sizes.{Sizes}
use Rattle.sizes.specs.declared.Refusal.{Refusal}
use Rattle.bitchunks.specs.Walk.{PartsOf, merged}
use Rattle.bitchunks.proofs.Mask.{repeated_kept}
use Rattle.judge.specs.Judging.{mask_of, passing}
use Rattle.judge.proofs.Verdicts.{mask_told_lem, mask_refused, refuses}
use Rattle.diff_count.specs.Making.{record_in}
use Rattle.diff_count.specs.Calls.{shown_by}
use Rattle.diff_count.specs.declared.Filter.{Filter}
use Rattle.diff_count.proofs.Told.{One, Sized, Two, fits_walk}
use Rattle.masked.specs.Inner.{key_told}
use Rattle.masked.specs.Calls.{cmp_of, cmp_verdict, key_for, key_verdict}
use Rattle.std.specs.declared.cmp.Ordering.{Ordering}
use Rattle.std.specs.Prelude.{⊤, Result, Ok, Err}

-- a single test is left
pub answer_last : {A : Type 0} (F : Refusal → A) (a : A) (b : Bool) (k : Cause)
    → answer (cond b taken (refused k)) (λ n. F (refusal n)) a ≡ cond b a (F (refusal k))
answer_last F a true k = refl
answer_last F a false k = refl

-- ---- 6 and 7, after the tests on what is lent and before any others

module _ (mask size : ℕ) (ts us : List Test) (t : first_failing ts ≡ taken) where
  pub mask_decides : {k : Cause} → verdict (is_mask mask size) ≡ refused k → first_failing (ts ++ (is_mask mask size ++ us)) ≡ refused k
  mask_decides m = after_taken ts (is_mask mask size ++ us) t ∙ after_refused (is_mask mask size) us m

  pub mask_passes : verdict (is_mask mask size) ≡ taken → first_failing (ts ++ (is_mask mask size ++ us)) ≡ first_failing us
  mask_passes m = after_taken ts (is_mask mask size ++ us) t ∙ after_taken (is_mask mask size) us m

-- a slot has some bits, and fewer than a block
pub slot_bits : (n : ℕ) {s : Sizes} → Sized (config_at n) s → (1 ≤ s.bits) × (s.bits ≤ 63)
slot_bits n Z =
    subst (λ (x : ℕ). (1 ≤ x) × (x ≤ 63)) (sym Z.slots)
    (at_each (λ c. (1 ≤ position_bits c) × (position_bits c ≤ 63)) (lit≤ tt, lit≤ tt) (lit≤ tt, lit≤ tt) (lit≤ tt, lit≤ tt) n)

-- ---- a mask that fits, and the block that it is laid over

abbrev pub MaskFits : ℕ → ℕ → Type 0
MaskFits mask size = (1 ≤ size) × (size ≤ largest_mask_size) × (mask < 2 ^ size)

module _ (mask size : ℕ) {j : Result ⊤ Refusal} (e : j ≡ mask_of mask size) (q : j ≡ passing) where
  mask_facts : (verdict (is_mask mask size) ≡ taken) × (1 ≤ size) × (size ≤ largest_mask_size) × (mask < 2 ^ size)
  mask_facts = mask_told_lem mask size (sym e ∙ q)

  pub mask_in_lem : MaskFits mask size
  mask_in_lem = (mask_facts.1, mask_facts.2, mask_facts.3)

  module _ {block len : ℕ} (l : (block ≡ block_at (laid mask size) 0) × (len ≡ size)) where
    within : size ≤ 64
    within = omega (arith, mask_in_lem.1)

    block_kept : (S : Set) → kept block len S ≡ kept mask size S
    block_kept S = ap (λ (x : ℕ). kept block x S) l.1 ∙ repeated_kept mask size mask_in_lem.0 within l.0 S

    module _ {n k : ℕ} (w : k ≡ n) where
      pub order_asked : (F G S T : Set) → Agree k F S → Agree k G T → order_of k block len F G ≡ order_of n mask size S T
      unfolding order_of
      order_asked F G S T f g =
          ap (λ (R : Set). holder F (members R k)) (block_kept (apart F G))
          ∙ order_same k mask size F G S T f g
          ∙ ap (λ (x : ℕ). order_of x mask size S T) w

      members_asked : (F S : Set) → Agree k F S → members (kept block len F) k ≡ members (kept mask size S) n
      members_asked F S f =
          ap (λ (R : Set). members R k) (block_kept F)
          ∙ members_same (kept mask size F) (kept mask size S) k (λ p h. kept_same mask size F S p (f p h))
          ∙ ap (members (kept mask size S)) w

-- ---- the order

module _ (a : Filter) (top bits : List ℕ) (b : Filter) (top2 bits2 : List ℕ) (mask size : ℕ) where
  abbrev cmp_lent : List Test
  cmp_lent = in_order (filters_lent (record_in a) top bits (record_in b) top2 bits2)

  abbrev cmp_shown : Result Ordering Refusal
  cmp_shown = Ok (order_of (W (config_at a.config)) mask size (shown_by a top bits) (shown_by b top2 bits2))

  pub cmp_taken : first_failing cmp_lent ≡ taken → verdict (is_mask mask size) ≡ taken → cmp_shown ≡ cmp_of a top bits b top2 bits2 mask size
  unfolding cmp_of cmp_verdict
  cmp_taken t m = ap (λ (v : Verdict). answer v (λ x. Err (refusal x)) cmp_shown) (sym (mask_passes mask size cmp_lent [] t m))

  -- what a judge refuses, the call does
  pub cmp_refused : {x : Refusal} → ((k : Cause) × (first_failing cmp_lent ≡ refused k) × (x ≡ refusal k))
      → Err x ≡ cmp_of a top bits b top2 bits2 mask size
  unfolding cmp_of cmp_verdict
  cmp_refused w = refuses (λ x. Err x) cmp_shown (w.0, after_refused cmp_lent (is_mask mask size) w.1, w.2)

  module _ {s : Sizes} (O : Two a top bits b top2 bits2 s) {i : Result ⊤ Refusal} (m : i ≡ mask_of mask size) where
    pub cmp_unmasked : {x : Refusal} → i ≡ Err x → Err x ≡ cmp_of a top bits b top2 bits2 mask size
    unfolding cmp_of cmp_verdict
    cmp_unmasked {x} u =
        let t = mask_refused mask size x (sym m ∙ u) in
        refuses (λ x. Err x) cmp_shown (t.0, mask_decides mask size cmp_lent [] O.taken_is t.1, t.2)

    pub cmp_done : i ≡ passing → {tops blocks tops2 blocks2 : List ℕ} → PartsOf tops blocks top a.count bits a.boundary
        → PartsOf tops2 blocks2 top2 b.count bits2 b.boundary
        → {block len : ℕ} → (block ≡ block_at (laid mask size) 0) × (len ≡ size)
        → {r : Ordering} → r ≡ order_of (64 * s.blocks) block len (merged tops 0 blocks) (merged tops2 0 blocks2)
        → Ok r ≡ cmp_of a top bits b top2 bits2 mask size
    cmp_done f {tops} {blocks} {tops2} {blocks2} P P2 l r =
        ap Ok (r
        ∙ order_asked mask size m f l O.sizes.buckets (merged tops 0 blocks) (merged tops2 0 blocks2) (shown_by a top bits)
        (shown_by b top2 bits2) (fits_walk P O.fits).1 (fits_walk P2 O.fits2).1)
        ∙ cmp_taken O.taken_is (mask_facts mask size m f).0

-- ---- the key, likewise

module _ (f : Filter) (top bits : List ℕ) (mask size : ℕ) where
  abbrev key_lent : List Test
  key_lent = filter_lent (record_in f) top bits

  abbrev slots : List Test
  slots = fits_slots (config_at f.config) mask size (shown_by f top bits) ∷ []

  abbrev key_shown : Result ℕ Refusal
  key_shown = Ok (key_of (config_at f.config) mask size (shown_by f top bits))

  -- 10 is left
  pub key_taken : first_failing key_lent ≡ taken → verdict (is_mask mask size) ≡ taken
      → key_told (position_bits (config_at f.config)) (members (kept mask size (shown_by f top bits)) (W (config_at f.config)))
      ≡ key_for f top bits mask size
  unfolding key_for key_of key_told key_verdict slots_fit
  key_taken t m =
      sym (answer_last (λ x. Err x) key_shown (slots_fit (config_at f.config) mask size (shown_by f top bits)) (because slot))
      ∙ ap (λ (v : Verdict). answer v (λ x. Err (refusal x)) key_shown) (sym (mask_passes mask size key_lent slots t m))

  pub key_refused : {x : Refusal} → ((k : Cause) × (first_failing key_lent ≡ refused k) × (x ≡ refusal k))
      → Err x ≡ key_for f top bits mask size
  unfolding key_for key_verdict
  key_refused w = refuses (λ x. Err x) key_shown (w.0, after_refused key_lent (is_mask mask size ++ slots) w.1, w.2)

  module _ {s : Sizes} (O : One f top bits s) {i : Result ⊤ Refusal} (m : i ≡ mask_of mask size) where
    pub key_unmasked : {x : Refusal} → i ≡ Err x → Err x ≡ key_for f top bits mask size
    unfolding key_for key_verdict
    key_unmasked {x} u =
        let t = mask_refused mask size x (sym m ∙ u) in
        refuses (λ x. Err x) key_shown (t.0, mask_decides mask size key_lent slots O.taken_is t.1, t.2)

    pub key_done : i ≡ passing → {tops blocks : List ℕ} → PartsOf tops blocks top f.count bits f.boundary
        → {block len : ℕ} → (block ≡ block_at (laid mask size) 0) × (len ≡ size)
        → {r : Result ℕ Refusal} → r ≡ key_told s.bits (members (kept block len (merged tops 0 blocks)) (64 * s.blocks))
        → r ≡ key_for f top bits mask size
    key_done g {tops} {blocks} P l r =
        r
        ∙ ap₂ key_told O.sizes.slots
        (members_asked mask size m g l O.sizes.buckets (merged tops 0 blocks) (shown_by f top bits) (fits_walk P O.fits).1)
        ∙ key_taken O.taken_is (mask_facts mask size m g).0
