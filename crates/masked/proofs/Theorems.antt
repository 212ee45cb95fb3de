-- Theorems about the functions that the two promises cite. Assumes nothing.
use mathlib.Core.Path.{◌≡◌, refl, sym, ap, ap₂, ◌∙◌, subst}
use mathlib.Core.Bool.{Bool, true, cond}
use mathlib.Core.List.{List, [], ◌∷◌, ◌++◌}
use Prim.Native.Nat.{ℕ, ◌^◌, ◌≤◌, ◌<◌}
use native.Mathlib.Omega.{arith}
use lib.ListN.{length}
use borrow.Author.Tests.{le-leb, lt-ltb}
use Rattle.sets.specs.Sets.{Agree, Set}
use Rattle.sets.specs.Configurations.{Config, W, known, config_at}
use Rattle.sets.specs.Filter.{record_of, top_slice, bit_slice}
use Rattle.sets.specs.Masks.{key_of, largest_mask_size, order_of, slots_fit}
use Rattle.sets.specs.Refusals.{Verdict, taken, refused, verdict, answer, filter_lent, filters_lent, fits_slots, in_order, is_mask, because, slot}
use Rattle.sets.proofs.Configurations.{number_at}
use Rattle.sets.proofs.Keys.{equal_key, greater_key, key_greater, key_same, slots_fit_lem}
use Rattle.sets.proofs.Order.{opposite, order_same, order_swap}
use Rattle.sets.proofs.Verdicts.{after_taken, all_pass}
use Rattle.sizes.specs.Sizes.{refusal}
use Rattle.sizes.specs.declared.Refusal.{Refusal}
use Rattle.judge.proofs.Passing.{lent_taken}
use Rattle.judge.proofs.Verdicts.{Passes, filter_pass, two_alone, two_pass}
use Rattle.diff_count.specs.Making.{filter_in, record_in, tally_of}
use Rattle.diff_count.specs.Calls.{shown_by}
use Rattle.diff_count.specs.declared.Filter.{Filter}
use Rattle.diff_count.proofs.OfSets.{Of, both_pass, of_passes, of_set, of_shown}
use Rattle.masked.specs.Inner.{key_told, order_answer}
use Rattle.masked.specs.Calls.{cmp_of, cmp_verdict, key_for, key_verdict}
use Rattle.masked.proofs.Asked.{MaskFits, cmp_taken, key_taken}
use Rattle.std.specs.Prelude.{Result, Ok, Err}
use Rattle.std.specs.declared.cmp.Ordering.{Ordering}
use Rattle.std.specs.declared.cmp.Ordering.TheVariants.{Less, Equal, Greater}

-- ---- two answers that one promise allows coincide

pub cmp_once : (a : Filter) (top bits : List ℕ) (b : Filter) (top2 bits2 : List ℕ) (mask size : ℕ) (r t : Result Ordering Refusal)
    → r ≡ cmp_of a top bits b top2 bits2 mask size → t ≡ cmp_of a top bits b top2 bits2 mask size → r ≡ t
cmp_once a top bits b top2 bits2 mask size r t x y = x ∙ sym y

pub key_once : (f : Filter) (top bits : List ℕ) (mask size : ℕ) (r t : Result ℕ Refusal) → r ≡ key_for f top bits mask size
    → t ≡ key_for f top bits mask size → r ≡ t
key_once f top bits mask size r t x y = x ∙ sym y

-- ---- the tests, where all pass

mask_taken : (mask size : ℕ) → MaskFits mask size → verdict (is_mask mask size) ≡ taken
mask_taken mask size m = rw (le-leb 1 size m.0, le-leb size largest_mask_size m.1, lt-ltb mask (2 ^ size) m.2)

-- ---- where no test fails

module _ (mask size : ℕ) (m : verdict (is_mask mask size) ≡ taken) where
  pub cmp_passes : (f : Filter) (top bits : List ℕ) (g : Filter) (top2 bits2 : List ℕ) → Passes f.config (tally_of f) top bits
      → Passes g.config (tally_of g) top2 bits2
      → f.config ≡ g.config
      → cmp_of f top bits g top2 bits2 mask size
      ≡ Ok (order_of (W (config_at f.config)) mask size (shown_by f top bits) (shown_by g top2 bits2))
  cmp_passes f top bits g top2 bits2 p q e = sym (cmp_taken f top bits g top2 bits2 mask size (both_pass f top bits g top2 bits2 p q e) m)

  pub key_passes : (f : Filter) (top bits : List ℕ) → Passes f.config (tally_of f) top bits
      → key_for f top bits mask size ≡ Ok (key_of (config_at f.config) mask size (shown_by f top bits))
  unfolding key_of key_told slots_fit
  key_passes f top bits p =
      let c : Config = config_at f.config in
      let S : Set = shown_by f top bits in
      sym (key_taken f top bits mask size (lent_taken p) m)
      ∙ ap (λ (b : Bool). cond b (Ok (key_of c mask size S)) (Err (refusal (because slot)))) (slots_fit_lem c mask size S)

-- ---- order and key of the filters of sets

-- the order asked is that of the sets, or the mask's refusal
pub cmp_asked : (f : Filter) (top bits : List ℕ) (g : Filter) (top2 bits2 : List ℕ) (S T : Set) → Of f top bits S
    → Of g top2 bits2 T → f.config ≡ g.config
    → (mask size : ℕ) → cmp_of f top bits g top2 bits2 mask size
    ≡ order_answer (verdict (is_mask mask size)) (order_of (W (config_at f.config)) mask size S T)
unfolding cmp_of cmp_verdict
cmp_asked f top bits g top2 bits2 S T x y e mask size =
    ap₂ order_answer
    (after_taken (in_order (filters_lent (record_in f) top bits (record_in g) top2 bits2)) (is_mask mask size)
    (both_pass f top bits g top2 bits2 (of_passes f top bits S x) (of_passes g top2 bits2 T y) e))
    (order_same (W (config_at f.config)) mask size (shown_by f top bits) (shown_by g top2 bits2) S T (of_shown f top bits S x)
    (subst (λ (n : ℕ). Agree (W (config_at n)) (shown_by g top2 bits2) T) (sym e) (of_shown g top2 bits2 T y)))

module _ (mask size : ℕ) (m : MaskFits mask size) where
  pub cmp_sets : (f : Filter) (top bits : List ℕ) (g : Filter) (top2 bits2 : List ℕ) (S T : Set) → Of f top bits S
      → Of g top2 bits2 T → f.config ≡ g.config
      → cmp_of f top bits g top2 bits2 mask size ≡ Ok (order_of (W (config_at f.config)) mask size S T)
  cmp_sets f top bits g top2 bits2 S T x y e =
      cmp_asked f top bits g top2 bits2 S T x y e mask size
      ∙ ap (λ (v : Verdict). order_answer v (order_of (W (config_at f.config)) mask size S T)) (mask_taken mask size m)

  -- the key asked is that of the set
  pub key_set : (f : Filter) (top bits : List ℕ) (S : Set) → Of f top bits S
      → key_for f top bits mask size ≡ Ok (key_of (config_at f.config) mask size S)
  key_set f top bits S x =
      key_passes mask size (mask_taken mask size m) f top bits (of_passes f top bits S x)
      ∙ ap Ok (key_same (config_at f.config) mask size (shown_by f top bits) S (of_shown f top bits S x))

  -- the same of filters as a call writes them
  module _ (n : ℕ) (k : known n ≡ true) where
    pub cmp_written : (S T : Set) (top bits top2 bits2 : List ℕ) →
        let c = config_at n in
        cmp_of (filter_in (record_of c S)) (top_slice c S top) (bit_slice c S bits) (filter_in (record_of c T)) (top_slice c T top2)
        (bit_slice c T bits2) mask size
        ≡ Ok (order_of (W c) mask size S T)
    unfolding record_of
    cmp_written S T top bits top2 bits2 =
        let c : Config = config_at n in
        cmp_sets (filter_in (record_of c S)) (top_slice c S top) (bit_slice c S bits) (filter_in (record_of c T)) (top_slice c T top2)
        (bit_slice c T bits2) S T
        (of_set n k S top bits) (of_set n k T top2 bits2) refl
        ∙ ap (λ (x : ℕ). Ok (order_of (W (config_at x)) mask size S T)) (number_at n k)

    pub key_written : (S : Set) (top bits : List ℕ) →
        let c = config_at n in
        key_for (filter_in (record_of c S)) (top_slice c S top) (bit_slice c S bits) mask size ≡ Ok (key_of c mask size S)
    unfolding record_of
    key_written S top bits =
        let c : Config = config_at n in
        key_set (filter_in (record_of c S)) (top_slice c S top) (bit_slice c S bits) S (of_set n k S top bits)
        ∙ ap (λ (x : ℕ). Ok (key_of (config_at x) mask size S)) (number_at n k)

-- ---- what an answer that is no refusal tells

answered : {A : Type 0} (v : Verdict) (k x : A) → answer v (λ n. Err (refusal n)) (Ok k) ≡ Ok x → (v ≡ taken) × (k ≡ x)
answered taken k x e = (refl, (cc))
answered (refused n) k x e =
    let z : ◌≡◌ {A = ℕ} 0 1 = cc in
    absurd (omega arith)

key_told_lem : (f : Filter) (top bits : List ℕ) (mask size x : ℕ) → key_for f top bits mask size ≡ Ok x
    → Passes f.config (tally_of f) top bits × (verdict (is_mask mask size) ≡ taken)
    × (key_of (config_at f.config) mask size (shown_by f top bits) ≡ x)
unfolding key_for key_verdict
key_told_lem f top bits mask size x e =
    let c : Config = config_at f.config in
    let S : Set = shown_by f top bits in
    let a = answered (key_verdict f top bits mask size) (key_of c mask size S) x e in
    let p = all_pass (filter_lent (record_in f) top bits) (is_mask mask size ++ (fits_slots c mask size S ∷ [])) a.0 in
    (filter_pass f.config (tally_of f) top bits p.0, (all_pass (is_mask mask size) (fits_slots c mask size S ∷ []) p.1).0, a.1)

-- ---- order and key agree, whatever was lent

module _ (f : Filter) (top bits : List ℕ) (g : Filter) (top2 bits2 : List ℕ) (mask size : ℕ) where
  abbrev line : Config
  line = config_at f.config

  abbrev S : Set
  S = shown_by f top bits

  abbrev T : Set
  T = shown_by g top2 bits2

  -- where the order is answered, both keys are
  both_keys : (o : Ordering) → cmp_of f top bits g top2 bits2 mask size ≡ Ok o
      → (key_for f top bits mask size ≡ Ok (key_of line mask size S))
      × (key_for g top2 bits2 mask size ≡ Ok (key_of line mask size T)) × (order_of (W line) mask size S T ≡ o)
  unfolding cmp_of cmp_verdict
  both_keys o e =
      let a = answered (cmp_verdict f top bits g top2 bits2 mask size) (order_of (W line) mask size S T) o e in
      let p = all_pass (in_order (filters_lent (record_in f) top bits (record_in g) top2 bits2)) (is_mask mask size) a.0 in
      let w =
      two_pass f.config (tally_of f) top bits g.config (tally_of g) top2 bits2 (length top) (length bits)
      (two_alone f.config (tally_of f) top bits g.config (tally_of g) top2 bits2 ∙ p.0) in (
        key_passes mask size p.1 f top bits w.2,
        key_passes mask size p.1 g top2 bits2 (subst (λ (n : ℕ). Passes n (tally_of g) top2 bits2) w.0 w.3)
            ∙ ap (λ (n : ℕ). Ok (key_of (config_at n) mask size T)) (sym w.0),
        a.1,
      )

  -- a greater filter never has a smaller key
  pub greater_keys : cmp_of f top bits g top2 bits2 mask size ≡ Ok Greater
      → (x : ℕ) × (y : ℕ) × (key_for f top bits mask size ≡ Ok x) × (key_for g top2 bits2 mask size ≡ Ok y) × (y ≤ x)
  greater_keys e =
      let t = both_keys Greater e in
      (key_of line mask size S, key_of line mask size T, t.0, t.1, greater_key line mask size S T t.2)

  pub less_keys : cmp_of f top bits g top2 bits2 mask size ≡ Ok Less
      → (x : ℕ) × (y : ℕ) × (key_for f top bits mask size ≡ Ok x) × (key_for g top2 bits2 mask size ≡ Ok y) × (x ≤ y)
  less_keys e =
      let t = both_keys Less e in (
        key_of line mask size S,
        key_of line mask size T,
        t.0,
        t.1,
        greater_key line mask size T S (order_swap (W line) mask size S T ∙ ap opposite t.2),
      )

  -- equal filters have one key
  pub equal_keys : cmp_of f top bits g top2 bits2 mask size ≡ Ok Equal → key_for f top bits mask size ≡ key_for g top2 bits2 mask size
  equal_keys e =
      let t = both_keys Equal e in
      t.0 ∙ ap Ok (equal_key line mask size S T t.2) ∙ sym t.1

  -- so keys that differ decide the order
  pub keys_decide : f.config ≡ g.config → (x y : ℕ) → key_for f top bits mask size ≡ Ok x
      → key_for g top2 bits2 mask size ≡ Ok y → y < x
      → cmp_of f top bits g top2 bits2 mask size ≡ Ok Greater
  keys_decide e x y h l d =
      let a = key_told_lem f top bits mask size x h in
      let b = key_told_lem g top2 bits2 mask size y l in
      let k : key_of line mask size T ≡ y = ap (λ (n : ℕ). key_of (config_at n) mask size T) e ∙ b.2 in
      cmp_passes mask size a.1 f top bits g top2 bits2 a.0 b.0 e
      ∙ ap Ok (key_greater line mask size S T (omega (arith, a.2)))
