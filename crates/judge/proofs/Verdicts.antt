-- What a judge's answer tells, and what is answered where a test fails. Assumes nothing.
use mathlib.Core.Path.{◌≡◌, refl, sym, ap, ap₂, ◌∙◌, subst}
use mathlib.Core.Bool.{Bool, true, false, cond, ◌&&◌}
use mathlib.Core.List.{List, [], ◌∷◌, ◌++◌}
use Prim.Native.Nat.{ℕ, ◌*◌, ◌/◌, ◌^◌, ◌≤◌, ◌<◌}
use native.Mathlib.Decide.{dec_lt}
use native.Mathlib.Nat.{div-eq_of_lt, lt-div-mul-add}
use native.Mathlib.Omega.{arith}
use lib.Dec.{leb, eqb}
use lib.ListN.{length}
use lib.Pow.{pow_pos}
use borrow.Author.Tests.{lt-ltb, le-ltb, le-leb, lt-leb, leb-true, ltb-true, eqb-true}
use Rattle.sets.specs.Configurations.{blocks, known, config_at}
use Rattle.sets.specs.Filter.{is_filter}
use Rattle.sets.specs.Masks.{largest_mask_size, size_fits, mask_fits}
use Rattle.sets.specs.Refusals.{Verdict, taken, refused, verdict, answer, areas_lent, filter_lent, filters_lent, hold_areas, are_filter, is_mask, Cause, because, configuration, likeness, mask_bits, mask_size, room, soundness}
use Rattle.sets.proofs.Configurations.{line_at, whole_blocks}
use Rattle.sets.proofs.Tests.{and_left, and_right}
use Rattle.sets.proofs.Verdicts.{after_taken, after_refused, passed, cond_and}
use Rattle.sizes.specs.Sizes.{sizes_at, sizes_of, refusal}
use Rattle.sizes.specs.declared.Sizes.{Sizes}
use Rattle.sizes.specs.declared.Refusal.{Refusal}
use Rattle.sizes.proofs.Laws.{known_of, unknown_of}
use Rattle.bitvec.specs.Parts.{Room}
use Rattle.bitvec.specs.declared.Tally.{Tally}
use Rattle.judge.specs.Judging.{roomy, judged, record_at, areas_of, filter_of, two_of, passing, mask_of}
use Rattle.std.specs.Prelude.{Ok, Err}

-- ---- of a judge's answer

pub judged_known : (n : ℕ) (v : Verdict) (s : Sizes) → judged n v ≡ Ok s → (v ≡ taken) × (s ≡ sizes_at n)
judged_known n taken s e = (refl, (cc))
judged_known n (refused k) s e =
    let z : ◌≡◌ {A = ℕ} 0 1 = cc in
    absurd (omega arith)

pub judged_refused : (n : ℕ) (v : Verdict) (x : Refusal) → judged n v ≡ Err x → (k : Cause) × (v ≡ refused k) × (x ≡ refusal k)
judged_refused n taken x e =
    let z : ◌≡◌ {A = ℕ} 0 1 = cc in
    absurd (omega arith)
judged_refused n (refused k) x e = (k, refl, (cc))

-- ---- the answer of a verdict

module _ {A : Type 0} (refusing : Refusal → A) (a : A) {v : Verdict} where
  pub takes : {b : A} → v ≡ taken → b ≡ a → b ≡ answer v (λ k. refusing (refusal k)) a
  takes t e = e ∙ ap (λ (w : Verdict). answer w (λ k. refusing (refusal k)) a) (sym t)

  pub refuses : {x : Refusal} → ((k : Cause) × (v ≡ refused k) × (x ≡ refusal k)) → refusing x ≡ answer v (λ k. refusing (refusal k)) a
  refuses w = ap refusing w.2 ∙ ap (λ (u : Verdict). answer u (λ k. refusing (refusal k)) a) (sym w.1)

judged_taken : (n : ℕ) {v : Verdict} {s : Sizes} → s ≡ sizes_at n → v ≡ taken → Ok s ≡ judged n v
judged_taken n e t = takes (λ x. Err x) (Ok (sizes_at n)) t (ap (λ (x : Sizes). Ok x) e)

judged_not : (n : ℕ) {v : Verdict} {x : Refusal} (k : Cause) → x ≡ refusal k → v ≡ refused k → Err x ≡ judged n v
judged_not n k e t = refuses (λ x. Err x) (Ok (sizes_at n)) (k, t, e)

-- ---- 1, 3

-- 3 of both areas is one test
rooms : (n x y : ℕ) (v : Verdict)
    → cond (leb (config_at n).M x) (cond (leb (blocks (config_at n)) y) v (refused (because room))) (refused (because room))
    ≡ cond (roomy (sizes_at n) x y) v (refused (because room))
unfolding sizes_at
rooms n x y v = cond_and (leb (config_at n).M x) (leb (blocks (config_at n)) y) v (refused (because room))

-- sizes that have room
pub room_of : (n : ℕ) (top bits : List ℕ) → roomy (sizes_at n) (length top) (length bits) ≡ true
    → Room (sizes_at n).top (sizes_at n).blocks top bits
unfolding sizes_at
room_of n top bits h =
    record {
      some = (line_at n).sound.some;
      cells = leb-true _ _ (and_left _ _ h);
      blocks_in = leb-true _ _ (and_right (leb (config_at n).M (length top)) _ h);
      small = omega (arith, (line_at n).small, whole_blocks (config_at n) (line_at n).sound);
    }

pub room_told : (n : ℕ) (s : Sizes) (top bits : List ℕ) → s ≡ sizes_at n → true ≡ roomy s (length top) (length bits)
    → Room s.top s.blocks top bits
room_told n s top bits e h =
    subst (λ (x : Sizes). Room x.top x.blocks top bits) (sym e)
    (room_of n top bits (ap (λ (x : Sizes). roomy x (length top) (length bits)) (sym e) ∙ sym h))

module _ (n x y : ℕ) where
  areas_are : verdict (areas_lent n x y) ≡ cond (known n) (cond (roomy (sizes_at n) x y) taken (refused (because room))) (refused (because configuration))
  areas_are = ap (λ (v : Verdict). cond (known n) v (refused (because configuration))) (rooms n x y taken)

  pub areas_unknown : (r : Refusal) → sizes_of n ≡ Err r → Err r ≡ areas_of n x y
  unfolding areas_of
  areas_unknown r q =
      let u = unknown_of n r q in
      judged_not n (because configuration) u.1 (areas_are ∙ ap (λ (b : Bool). cond b (cond (roomy (sizes_at n) x y) taken (refused (because room))) (refused (because configuration))) u.0)

  module _ (s : Sizes) (q : sizes_of n ≡ Ok s) where
    pub areas_short : false ≡ roomy s x y → Err (refusal (because room)) ≡ areas_of n x y
    unfolding areas_of
    areas_short h =
        let k = known_of n s q in
        let e : roomy (sizes_at n) x y ≡ false = ap (λ (z : Sizes). roomy z x y) (sym k.1) ∙ sym h in
        judged_not n (because room) refl (areas_are ∙ rw (k.0, e))

    pub areas_fit : true ≡ roomy s x y → Ok s ≡ areas_of n x y
    unfolding areas_of
    areas_fit h =
        let k = known_of n s q in
        let e : roomy (sizes_at n) x y ≡ true = ap (λ (z : Sizes). roomy z x y) (sym k.1) ∙ sym h in
        judged_taken n k.1 (areas_are ∙ rw (k.0, e))

  -- what the answer tells: the tests pass, and these are the sizes
  pub areas_told : (s : Sizes) → areas_of n x y ≡ Ok s → (verdict (areas_lent n x y) ≡ taken) × (s ≡ sizes_at n)
  unfolding areas_of
  areas_told s q = judged_known n (verdict (areas_lent n x y)) s q

  pub areas_refused : (r : Refusal) → areas_of n x y ≡ Err r → (k : Cause) × (verdict (areas_lent n x y) ≡ refused k) × (r ≡ refusal k)
  unfolding areas_of
  areas_refused r q = judged_refused n (verdict (areas_lent n x y)) r q

  pub areas_pass : verdict (areas_lent n x y) ≡ taken → (known n ≡ true) × (roomy (sizes_at n) x y ≡ true)
  areas_pass t =
      let p = passed (known n) (cond (roomy (sizes_at n) x y) taken (refused (because room))) (because configuration) (sym areas_are ∙ t) in
      (p.0, (passed (roomy (sizes_at n) x y) taken (because room) p.1).0)

pub areas_room : (n : ℕ) (top bits : List ℕ) (s : Sizes) → areas_of n (length top) (length bits) ≡ Ok s
    → Room s.top s.blocks top bits
areas_room n top bits s q =
    let a = areas_told n (length top) (length bits) s q in
    room_told n s top bits a.1
    (sym (areas_pass n (length top) (length bits) a.0).1 ∙ ap (λ (x : Sizes). roomy x (length top) (length bits)) (sym a.1))

-- ---- 1, 3, 8

-- a filter that passes
pub record Passes (n : ℕ) (t : Tally) (top bits : List ℕ) : Type 0 where
  pub known : known n ≡ true
  pub room : Room (sizes_at n).top (sizes_at n).blocks top bits
  pub sound : is_filter (sizes_at n).top (sizes_at n).blocks top bits t.count t.boundary ≡ true

module _ (n : ℕ) (t : Tally) (top bits : List ℕ) where
  abbrev sound : Bool
  sound = is_filter (config_at n).M (blocks (config_at n)) top bits t.count t.boundary

  pub filter_no_areas : (r : Refusal) → areas_of n (length top) (length bits) ≡ Err r → Err r ≡ filter_of n t top bits
  unfolding filter_of
  filter_no_areas r q =
      let a = areas_refused n (length top) (length bits) r q in
      judged_not n a.0 a.2
      (after_refused (areas_lent n (length top) (length bits)) (are_filter (config_at n) (record_at n t) top bits ∷ []) a.1)

  module _ (s : Sizes) (q : areas_of n (length top) (length bits) ≡ Ok s) where
    by_soundness : verdict (filter_lent (record_at n t) top bits) ≡ cond sound taken (refused (because soundness))
    by_soundness =
        after_taken (areas_lent n (length top) (length bits)) (are_filter (config_at n) (record_at n t) top bits ∷ [])
        (areas_told n (length top) (length bits) s q).0

    is_sound : (v : Bool) → v ≡ is_filter s.top s.blocks top bits t.count t.boundary → sound ≡ v
    unfolding sizes_at
    is_sound v h =
        ap (λ (x : Sizes). is_filter x.top x.blocks top bits t.count t.boundary)
        (sym (areas_told n (length top) (length bits) s q).1) ∙ sym h

    pub filter_unsound : false ≡ is_filter s.top s.blocks top bits t.count t.boundary
        → Err (refusal (because soundness)) ≡ filter_of n t top bits
    unfolding filter_of
    filter_unsound h = judged_not n (because soundness) refl (by_soundness ∙ ap (λ (b : Bool). cond b taken (refused (because soundness))) (is_sound false h))

    pub filter_fits : true ≡ is_filter s.top s.blocks top bits t.count t.boundary → Ok s ≡ filter_of n t top bits
    unfolding filter_of
    filter_fits h =
        judged_taken n (areas_told n (length top) (length bits) s q).1
        (by_soundness ∙ ap (λ (b : Bool). cond b taken (refused (because soundness))) (is_sound true h))

  -- what the answer tells
  pub filter_told : (s : Sizes) → filter_of n t top bits ≡ Ok s → (verdict (filter_lent (record_at n t) top bits) ≡ taken) × (s ≡ sizes_at n)
  unfolding filter_of
  filter_told s q = judged_known n (verdict (filter_lent (record_at n t) top bits)) s q

  pub filter_refused : (r : Refusal) → filter_of n t top bits ≡ Err r
      → (k : Cause) × (verdict (filter_lent (record_at n t) top bits) ≡ refused k) × (r ≡ refusal k)
  unfolding filter_of
  filter_refused r q = judged_refused n (verdict (filter_lent (record_at n t) top bits)) r q

  pub filter_pass : verdict (filter_lent (record_at n t) top bits) ≡ taken → Passes n t top bits
  unfolding sizes_at
  filter_pass v =
      let w : Verdict = cond sound taken (refused (because soundness)) in
      let p = passed (known n) (cond (leb (config_at n).M (length top))
      (cond (leb (blocks (config_at n)) (length bits)) w (refused (because room))) (refused (because room))) (because configuration) v in
      let r = passed (roomy (sizes_at n) (length top) (length bits)) w (because room) (sym (rooms n (length top) (length bits) w) ∙ p.1) in
      record { known = p.0; room = room_of n top bits r.0; sound = (passed sound taken (because soundness) r.1).0 }

-- ---- 1, 3, 8, 9

-- the tests on two filters, with room for a third, one after the other
abbrev pub chain : Bool → Bool → Bool → Bool → Bool → Bool → Bool → Bool → Verdict
chain a b p q t s u e =
    cond a (cond b (cond p (cond q (cond t (cond s (cond u (cond e taken (refused (because likeness))) (refused (because soundness))) (refused (because soundness))) (refused (because room)))
    (refused (because room))) (refused (because room))) (refused (because configuration))) (refused (because configuration))

module _ (n : ℕ) (t : Tally) (top bits : List ℕ) (o : ℕ) (u : Tally) (top2 bits2 : List ℕ) (x y : ℕ) where
  abbrev sound2 : Bool
  sound2 = is_filter (sizes_at o).top (sizes_at o).blocks top2 bits2 u.count u.boundary

  abbrev sound1 : Bool
  sound1 = is_filter (sizes_at n).top (sizes_at n).blocks top bits t.count t.boundary

  abbrev lent : Verdict
  lent = verdict (filters_lent (record_at n t) top bits (record_at o u) top2 bits2 ++ hold_areas (config_at n) x y)

  chained : lent
      ≡ chain (known n) (known o) (roomy (sizes_at n) (length top) (length bits)) (roomy (sizes_at o) (length top2) (length bits2))
      (roomy (sizes_at n) x y)
      sound1 sound2 (eqb n o)
  unfolding sizes_at
  chained =
      let v₁ : Verdict = cond sound1 (cond sound2 (cond (eqb n o) taken (refused (because likeness))) (refused (because soundness))) (refused (because soundness)) in
      let v₂ : Verdict = cond (roomy (sizes_at n) x y) v₁ (refused (because room)) in
      let v₃ : Verdict = cond (roomy (sizes_at o) (length top2) (length bits2)) v₂ (refused (because room)) in
      ap (λ (v : Verdict). cond (known n) (cond (known o) v (refused (because configuration))) (refused (because configuration)))
      (ap (λ (v : Verdict). cond (leb (config_at n).M (length top)) (cond (leb (blocks (config_at n)) (length bits)) v (refused (because room)))
      (refused (because room)))
      (ap (λ (v : Verdict). cond (leb (config_at o).M (length top2))
      (cond (leb (blocks (config_at o)) (length bits2)) v (refused (because room))) (refused (because room)))
      (rooms n x y v₁)
      ∙ rooms o (length top2) (length bits2) v₂)
      ∙ rooms n (length top) (length bits) v₃)

  pub two_first : (r : Refusal) → sizes_of n ≡ Err r → Err r ≡ two_of n t top bits o u top2 bits2 x y
  unfolding two_of
  two_first r q =
      let a : known n ≡ false = (unknown_of n r q).0 in
      let v : lent ≡ refused (because configuration) = chained ∙ rw a in
      judged_not n (because configuration) (unknown_of n r q).1 v

  pub two_second : (s : Sizes) → sizes_of n ≡ Ok s → (r : Refusal) → sizes_of o ≡ Err r
      → Err r ≡ two_of n t top bits o u top2 bits2 x y
  unfolding two_of
  two_second s q r q₂ =
      let a : known n ≡ true = (known_of n s q).0 in
      let b : known o ≡ false = (unknown_of o r q₂).0 in
      let v : lent ≡ refused (because configuration) = chained ∙ rw (a, b) in
      judged_not n (because configuration) (unknown_of o r q₂).1 v

  -- after 1: what each test told, of the sizes that were answered
  pub two_rest : (s s₂ : Sizes) → sizes_of n ≡ Ok s → sizes_of o ≡ Ok s₂ → (p r w v z e : Bool)
      → p ≡ roomy s (length top) (length bits)
      → r ≡ roomy s₂ (length top2) (length bits2)
      → w ≡ roomy s x y
      → v ≡ is_filter s.top s.blocks top bits t.count t.boundary
      → z ≡ is_filter s₂.top s₂.blocks top2 bits2 u.count u.boundary
      → e ≡ eqb n o
      → answer (chain true true p r w v z e) (λ k. Err (refusal k)) (Ok s) ≡ two_of n t top bits o u top2 bits2 x y
  unfolding two_of
  two_rest s s₂ q q₂ p r w v z e hp hr hw hv hz he =
      let a = known_of n s q in
      let b = known_of o s₂ q₂ in
      let p' : roomy (sizes_at n) (length top) (length bits) ≡ p =
      ap (λ (k : Sizes). roomy k (length top) (length bits)) (sym a.1) ∙ sym hp in
      let r' : roomy (sizes_at o) (length top2) (length bits2) ≡ r =
      ap (λ (k : Sizes). roomy k (length top2) (length bits2)) (sym b.1) ∙ sym hr in
      let w' : roomy (sizes_at n) x y ≡ w = ap (λ (k : Sizes). roomy k x y) (sym a.1) ∙ sym hw in
      let v' : sound1 ≡ v = ap (λ (k : Sizes). is_filter k.top k.blocks top bits t.count t.boundary) (sym a.1) ∙ sym hv in
      let z' : sound2 ≡ z = ap (λ (k : Sizes). is_filter k.top k.blocks top2 bits2 u.count u.boundary) (sym b.1) ∙ sym hz in
      let l : chain true true p r w v z e ≡ lent = sym (chained ∙ rw (a.0, b.0, p', r', w', v', z', sym he)) in
      ap₂ (λ (k : Sizes) (c : Verdict). answer c (λ i. Err (refusal i)) (Ok k)) a.1 l

  -- what the answer tells
  pub two_told : (s : Sizes) → two_of n t top bits o u top2 bits2 x y ≡ Ok s → (lent ≡ taken) × (s ≡ sizes_at n)
  unfolding two_of
  two_told s q = judged_known n lent s q

  pub two_refused : (r : Refusal) → two_of n t top bits o u top2 bits2 x y ≡ Err r → (k : Cause) × (lent ≡ refused k) × (r ≡ refusal k)
  unfolding two_of
  two_refused r q = judged_refused n lent r q

  -- where all pass
  pub two_pass : lent ≡ taken → (n ≡ o) × (roomy (sizes_at n) x y ≡ true) × Passes n t top bits × Passes n u top2 bits2
  two_pass v =
      let a = passed (known n) (cond (known o) after1 (refused (because configuration))) (because configuration) (sym chained ∙ v) in
      let b = passed (known o) after1 (because configuration) a.1 in
      let p = passed (roomy (sizes_at n) (length top) (length bits))
      (cond (roomy (sizes_at o) (length top2) (length bits2)) after3 (refused (because room))) (because room) b.1 in
      let q = passed (roomy (sizes_at o) (length top2) (length bits2)) after3 (because room) p.1 in
      let w = passed (roomy (sizes_at n) x y) after4 (because room) q.1 in
      let f = passed sound1 (cond sound2 (cond (eqb n o) taken (refused (because likeness))) (refused (because soundness))) (because soundness) w.1 in
      let g = passed sound2 (cond (eqb n o) taken (refused (because likeness))) (because soundness) f.1 in
      let e : n ≡ o = eqb-true n o (passed (eqb n o) taken (because likeness) g.1).0 in (
        e,
        w.0,
        record { known = a.0; room = room_of n top bits p.0; sound = f.0 },
        subst (λ (i : ℕ). Passes i u top2 bits2) (sym e) (record { known = b.0; room = room_of o top2 bits2 q.0; sound = g.0 }),
      )
    where
      after4 : Verdict
      after4 = cond sound1 (cond sound2 (cond (eqb n o) taken (refused (because likeness))) (refused (because soundness))) (refused (because soundness))

      after3 : Verdict
      after3 = cond (roomy (sizes_at n) x y) after4 (refused (because room))

      after1 : Verdict
      after1 =
          cond (roomy (sizes_at n) (length top) (length bits))
          (cond (roomy (sizes_at o) (length top2) (length bits2)) after3 (refused (because room))) (refused (because room))

-- two tests of number 3 before the rest
abbrev pub short : Verdict → Bool → Bool → Verdict
short v a b = cond a (cond b v (refused (because room))) (refused (because room))

-- without a third: its areas are asked for again where the first's stand, and that changes nothing
pub two_alone : (n : ℕ) (t : Tally) (top bits : List ℕ) (o : ℕ) (u : Tally) (top2 bits2 : List ℕ)
    → verdict (filters_lent (record_at n t) top bits (record_at o u) top2 bits2 ++ hold_areas (config_at n) (length top) (length bits))
    ≡ verdict (filters_lent (record_at n t) top bits (record_at o u) top2 bits2)
two_alone n t top bits o u top2 bits2 =
    ap (λ (v : Verdict). cond (known n) (cond (known o) v (refused (because configuration))) (refused (because configuration)))
    (go (leb (config_at n).M (length top)) (leb (blocks (config_at n)) (length bits)) (leb (config_at o).M (length top2))
    (leb (blocks (config_at o)) (length bits2))
    (cond (is_filter (config_at n).M (blocks (config_at n)) top bits t.count t.boundary)
    (cond (is_filter (config_at o).M (blocks (config_at o)) top2 bits2 u.count u.boundary) (cond (eqb n o) taken (refused (because likeness)))
    (refused (because soundness))) (refused (because soundness))))
  where
    go : (a b c d : Bool) (v : Verdict) → short (short (short v a b) c d) a b ≡ short (short v c d) a b
    go true true c d v = refl
    go true false c d v = refl
    go false b c d v = refl

-- ---- 6, 7

module _ (mask size : ℕ) where
  -- what the tests tell, and what is answered
  mask_is : (a b : Bool) → size_fits size ≡ a → mask_fits mask size ≡ b
      → answer (cond a (cond b taken (refused (because mask_bits))) (refused (because mask_size))) (λ r. Err (refusal r)) passing ≡ mask_of mask size
  unfolding mask_of
  mask_is a b ha hb =
      sym (ap₂ (λ (x y : Bool). answer (cond x (cond y taken (refused (because mask_bits))) (refused (because mask_size))) (λ r. Err (refusal r)) passing) ha hb)

  pub mask_none : size < 1 → Err (refusal (because mask_size)) ≡ mask_of mask size
  mask_none h = mask_is false (mask_fits mask size) (ap (λ (b : Bool). b && leb size largest_mask_size) (lt-leb 1 size h)) refl

  module _ (some : 1 ≤ size) where
    fits : (b : Bool) → leb size largest_mask_size ≡ b → size_fits size ≡ b
    fits b h = ap₂ (λ (x y : Bool). x && y) (le-leb 1 size some) h

    pub mask_long : largest_mask_size < size → Err (refusal (because mask_size)) ≡ mask_of mask size
    mask_long h = mask_is false (mask_fits mask size) (fits false (lt-leb size largest_mask_size h)) refl

    module _ (few : size ≤ largest_mask_size) where
      pub mask_past : (mask / 2 ^ size ≡ 0 → ⊥) → Err (refusal (because mask_bits)) ≡ mask_of mask size
      mask_past h = mask_is true false (fits true (le-leb size largest_mask_size few)) (go (dec_lt mask (2 ^ size)))
        where
          go : Dec (mask < 2 ^ size) → mask_fits mask size ≡ false
          go (yes l) = absurd (h (div-eq_of_lt l))
          go (no l) = le-ltb mask (2 ^ size) (omega arith)

      pub mask_fits_lem : mask / 2 ^ size ≡ 0 → passing ≡ mask_of mask size
      mask_fits_lem h =
          mask_is true true (fits true (le-leb size largest_mask_size few))
          (lt-ltb mask (2 ^ size) (omega (arith, h, lt-div-mul-add {a = mask} (pow_pos size), ap (λ (x : ℕ). x * 2 ^ size) h)))

  -- what the answer tells
  pub mask_told_lem : mask_of mask size ≡ passing
      → (verdict (is_mask mask size) ≡ taken) × (1 ≤ size) × (size ≤ largest_mask_size) × (mask < 2 ^ size)
  unfolding mask_of
  mask_told_lem q = go (leb 1 size) (leb size largest_mask_size) (mask_fits mask size) refl refl refl q
    where
      go : (a b d : Bool) → leb 1 size ≡ a → leb size largest_mask_size ≡ b → mask_fits mask size ≡ d
          → answer (cond (a && b) (cond d taken (refused (because mask_bits))) (refused (because mask_size))) (λ r. Err (refusal r)) passing ≡ passing
          → (cond (a && b) (cond d taken (refused (because mask_bits))) (refused (because mask_size)) ≡ taken) × (1 ≤ size) × (size ≤ largest_mask_size) × (mask < 2 ^ size)
      go true true true x y z e = (refl, leb-true _ _ x, leb-true _ _ y, ltb-true _ _ z)
      go true true false x y z e =
          let t : ◌≡◌ {A = ℕ} 0 1 = cc in
          absurd (omega arith)
      go true false d x y z e =
          let t : ◌≡◌ {A = ℕ} 0 1 = cc in
          absurd (omega arith)
      go false b d x y z e =
          let t : ◌≡◌ {A = ℕ} 0 1 = cc in
          absurd (omega arith)

  pub mask_refused : (r : Refusal) → mask_of mask size ≡ Err r
      → (k : Cause) × (verdict (is_mask mask size) ≡ refused k) × (r ≡ refusal k)
  unfolding mask_of
  mask_refused r q = go (verdict (is_mask mask size)) q
    where
      go : (v : Verdict) → answer v (λ i. Err (refusal i)) passing ≡ Err r
          → (k : Cause) × (v ≡ refused k) × (r ≡ refusal k)
      go taken e =
          let z : ◌≡◌ {A = ℕ} 0 1 = cc in
          absurd (omega arith)
      go (refused k) e = (k, refl, (cc))
