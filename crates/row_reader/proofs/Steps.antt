-- The walk to the bucket at a place, and what a step makes of it. Assumes nothing.
use mathlib.Core.Path.{◌≡◌, sym, ap, ap₂, ◌∙◌}
use mathlib.Core.List.{List, [], ◌∷◌}
use Prim.Native.Nat.{ℕ, zero, suc, ◌+◌, ◌*◌, ◌^◌, ◌≤◌, ◌<◌}
use native.Mathlib.Numerals.{add-one}
use native.Mathlib.Omega.{arith}
use lib.ListN.{length, get_or}
use Rattle.sets.specs.Sets.{Set, members}
use Rattle.sets.specs.Configurations.{W, config_at}
use Rattle.sets.specs.Masks.{given_at, place_after}
use Rattle.sets.specs.Refusals.{Cause, taken, refused}
use Rattle.sets.specs.Row.{shown_row}
use Rattle.sets.proofs.Configurations.{line_at}
use Rattle.sets.proofs.Laws.{falls_at, members_fall, members_length, members_same}
use Rattle.sets.proofs.Reader.{given_bucket, given_end, place_moves, place_stays}
use Rattle.sizes.specs.Sizes.{refusal}
use Rattle.sizes.specs.declared.Sizes.{Sizes}
use Rattle.sizes.specs.declared.Refusal.{Refusal}
use Rattle.bitchunks.specs.Walk.{Ahead}
use Rattle.bitchunks.specs.Ones.{Gives, rest}
use Rattle.bitchunks.specs.Rows.{RowWalks, row_set}
use Rattle.bitchunks.specs.declared.Layout.{Layout}
use Rattle.bitchunks.specs.declared.Ones.{Ones}
use Rattle.bitchunks.proofs.Giving.{rest_none}
use Rattle.judge_row.specs.Judging.{row_verdict, row_of}
use Rattle.judge_row.proofs.Verdicts.{row_told, row_refused, fits_blocks, fits_buckets, fits_walks, fits_shows}
use Rattle.row_reader.specs.Reading.{buckets_of, given_told, next_told, step_answer, step_place, stepped_at}
use Rattle.row_reader.specs.declared.Stepped.{Stepped}
use Rattle.std.specs.Prelude.{Option, Some, None, Result, Ok, Err}

-- ---- the walk

-- the bucket asked for is the one with `left` others before it among the members still to be given
pub record Reaching (S : Set) (tops all : List ℕ) (place left passed end block : ℕ) : Type 0 where
  pub same : given_at all place ≡ given_at (rest S end block) left
  pub ahead : Ahead tops passed end

pub reach_start : {tops : List ℕ} {k : ℕ} (S : Set) (place left : ℕ) → left ≡ place → Ahead tops 0 k
    → Reaching S tops (members S (64 * k)) place left 0 k 0
reach_start {tops} {k} S place left e a = record { same = ap₂ given_at (sym (rest_none S k)) (sym e); ahead = a }

module _ {S : Set} {tops all : List ℕ} {place left passed end block : ℕ} (t : Reaching S tops all place left passed end block) where
  pub reach_none : Gives S tops (rest S end block) None → None ≡ next_told (given_at all place)
  reach_none g = sym (ap next_told (t.same ∙ ap (λ (l : List ℕ). given_at l left) g))

  module _ (p : ℕ) (o : Ones) (g : Gives S tops (rest S end block) (Some (p, o))) where
    here : given_at all place ≡ given_at (p ∷ rest S o.cursor.end o.block) left
    here = t.same ∙ ap (λ (l : List ℕ). given_at l left) g.0

    pub reach_here : left ≡ 0 → Some p ≡ next_told (given_at all place)
    reach_here z = sym (ap next_told (here ∙ ap (given_at (p ∷ rest S o.cursor.end o.block)) z))

    pub reach_turn : (next : ℕ) → left ≡ suc next → Reaching S tops all place next o.cursor.passed o.cursor.end o.block
    reach_turn next e = record { same = here ∙ ap (given_at (p ∷ rest S o.cursor.end o.block)) e; ahead = g.1 }

-- ---- what stands at a place

bucket_told : (ps : List ℕ) (place p : ℕ) → next_told (given_at ps place) ≡ Some p → (place < length ps) × (p ≡ get_or ps place 0)
bucket_told [] place p e =
    let z : ◌≡◌ {A = ℕ} 0 1 = cc in
    absurd (omega arith)
bucket_told (x ∷ ps) zero p e = (omega arith, (cc))
bucket_told (x ∷ ps) (suc place) p e =
    let h : (place < length ps) × (p ≡ get_or ps place 0) = bucket_told ps place p e in
    (omega (arith, h.0), h.1)

end_told : (ps : List ℕ) (place : ℕ) → next_told (given_at ps place) ≡ None → length ps ≤ place
end_told [] place e = omega arith
end_told (x ∷ ps) zero e =
    let z : ◌≡◌ {A = ℕ} 0 1 = cc in
    absurd (omega arith)
end_told (x ∷ ps) (suc place) e =
    let h : length ps ≤ place = end_told ps place e in
    omega arith

-- ---- a step

abbrev made : Result (Option ℕ) Refusal → ℕ → Stepped
made r place = record { answer = r; place = place }

module _ (n : ℕ) (bs : List ℕ) where
  -- the set that the row shows, and its buckets
  abbrev shown_set : Set
  shown_set = shown_row (config_at n) bs

  abbrev ms : List ℕ
  ms = buckets_of n bs

  taken_answer : (place : ℕ) → row_verdict n bs ≡ taken → step_answer n bs place ≡ given_told (given_at ms place)
  unfolding step_answer
  taken_answer place v = rw v

  taken_place : (place : ℕ) → row_verdict n bs ≡ taken → step_place n bs place ≡ place_after (W (config_at n)) shown_set place
  unfolding step_place
  taken_place place v = rw v

  refused_answer : (place : ℕ) (k : Cause) → row_verdict n bs ≡ refused k → step_answer n bs place ≡ Err (refusal k)
  unfolding step_answer
  refused_answer place k v = rw v

  refused_place : (place : ℕ) (k : Cause) → row_verdict n bs ≡ refused k → step_place n bs place ≡ place
  unfolding step_place
  refused_place place k v = rw v

  -- before the end the next member is given
  pub step_bucket : (place : ℕ) → row_verdict n bs ≡ taken → place < length ms
      → stepped_at n bs place ≡ made (Ok (Some (get_or ms place 0))) (suc place)
  step_bucket place v h =
      ap₂ made (taken_answer place v ∙ ap given_told (given_bucket ms place h))
      (taken_place place v ∙ place_moves (W (config_at n)) shown_set place h)

  pub step_end : (place : ℕ) → row_verdict n bs ≡ taken → length ms ≤ place → stepped_at n bs place ≡ made (Ok None) place
  step_end place v h =
      ap₂ made (taken_answer place v ∙ ap given_told (given_end ms place h))
      (taken_place place v ∙ place_stays (W (config_at n)) shown_set place h)

  pub step_refused : (place : ℕ) (k : Cause) → row_verdict n bs ≡ refused k → stepped_at n bs place ≡ made (Err (refusal k)) place
  step_refused place k v = ap₂ made (refused_answer place k v) (refused_place place k v)

  pub refuses : (place : ℕ) {j : Result (Sizes × Layout) Refusal} {r : Refusal} → j ≡ row_of n bs → j ≡ Err r
      → made (Err r) place ≡ stepped_at n bs place
  refuses place e q =
      let t = row_refused n bs e q in
      ap (λ (x : Refusal). made (Err x) place) t.2 ∙ sym (step_refused place t.0 t.1)

  module _ {j : Result (Sizes × Layout) Refusal} {s : Sizes} {l : Layout} (e : j ≡ row_of n bs) (q : j ≡ Ok (s, l)) where
    pub walks : RowWalks l bs 0 s.blocks
    walks = fits_walks n bs e q s.blocks (fits_blocks n bs e q)

    members_are : members (row_set l bs) (64 * s.blocks) ≡ ms
    members_are =
        members_same (row_set l bs) shown_set (64 * s.blocks) (λ p _. fits_shows n bs e q p) ∙ ap (members shown_set) (fits_buckets n bs e q)

    module _ (place : ℕ) {b : Option ℕ} (f : b ≡ next_told (given_at (members (row_set l bs) (64 * s.blocks)) place)) where
      found : b ≡ next_told (given_at ms place)
      found = f ∙ ap (λ (x : List ℕ). next_told (given_at x place)) members_are

      module _ {p : ℕ} (h : b ≡ Some p) where
        at : (place < length ms) × (p ≡ get_or ms place 0)
        at = bucket_told ms place p (sym found ∙ h)

        pub bucket_fits : p < 2 ^ 32
        bucket_fits =
            omega (arith, at.1, falls_at ms (W (config_at n)) place (members_fall shown_set (W (config_at n))) at.0, (line_at n).small)

        pub place_fits : place + 1 < 2 ^ 64
        place_fits = omega (arith, at.0, members_length shown_set (W (config_at n)), (line_at n).small)

        pub gives : made (Ok (Some p)) (place + 1) ≡ stepped_at n bs place
        gives = ap₂ (λ (x y : ℕ). made (Ok (Some x)) y) at.1 (add-one place) ∙ sym (step_bucket place (row_told n bs e q).0 at.0)

      pub ends : b ≡ None → made (Ok None) place ≡ stepped_at n bs place
      ends h = sym (step_end place (row_told n bs e q).0 (end_told ms place (sym found ∙ h)))
