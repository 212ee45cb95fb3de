-- What each path through a call on a builder answers and leaves. Assumes nothing.
use mathlib.Core.Path.{◌≡◌, refl, sym, ap, ◌∙◌, subst}
use mathlib.Core.Logic.{⊎_elim}
use mathlib.Core.Bool.{Bool, true, false, cond}
use mathlib.Core.List.{List, [], ◌∷◌, ◌++◌}
use Prim.Native.Nat.{ℕ, ◌-◌, ◌*◌, ◌%◌, ◌^◌, ◌≤◌, ◌<◌, max}
use native.Mathlib.Omega.{arith}
use lib.Dec.{leb}
use lib.ListN.{length, take, replicate}
use lib.Pow.{pow_pos}
use borrow.Author.Tests.{le-leb, lt-leb}
use Rattle.sets.specs.Sets.{Below, all_below}
use Rattle.sets.specs.Configurations.{Config, W, blocks, config_at}
use Rattle.sets.specs.Filter.{Rises, cleared, filled}
use Rattle.sets.specs.Refusals.{Cause, test, Test, Verdict, taken, refused, range, first_failing, verdict, builder_areas, builder_lent, hold_areas, is_split, because}
use Rattle.sets.specs.Refusals.{are_buckets}
use Rattle.sets.proofs.Configurations.{entry_width, line_at, whole_blocks}
use Rattle.sets.proofs.Tests.{all_below_lem}
use Rattle.sets.proofs.Verdicts.{after_taken, after_refused}
use Rattle.sets.proofs.Words.{shl_one}
use Rattle.sizes.proofs.Laws.{handed_on}
use Rattle.sizes.specs.Sizes.{sizes_at, refusal}
use Rattle.sizes.specs.declared.Sizes.{Sizes}
use Rattle.sizes.specs.declared.Refusal.{Refusal}
use Rattle.diff_count.specs.declared.Filter.{Filter}
use Rattle.bitvec.specs.Cells.{zeroed}
use Rattle.bitvec.specs.Parts.{Becomes, Room}
use Rattle.judge.proofs.Verdicts.{takes, refuses}
use Rattle.pending.specs.Stages.{Staged, Moves, Stays}
use Rattle.pending.specs.declared.Stage.{Stage}
use Rattle.diff_count.proofs.Outcomes.{makes_refused, makes_ready}
use Rattle.judge_builder.specs.Judging.{areas_of, builder_of, target_of}
use Rattle.pending.proofs.Sound.{staged_sound}
use Rattle.judge_builder.proofs.Verdicts.{Passes, areas_told, areas_refused, areas_pass, builder_told, builder_refused, builder_pass}
use Rattle.judge_builder.proofs.Verdicts.{target_told, target_refused, target_pass}
use Rattle.builder.specs.Calls.{News, Pushed, PushOutcome, Pushes, Finishes, builder_in, config_of, finish_verdict, new_verdict}
use Rattle.builder.specs.Calls.{push_verdict, raise_verdict, raised, record_in, set_of, stage_of}
use Rattle.builder.specs.declared.Builder.{Builder}
use Rattle.std.specs.Prelude.{Result, Ok, Err, IsErrAnd}

-- ---- the last test, 2

by_range : (ts : List Test) {b v : Bool} → first_failing ts ≡ taken → b ≡ v
    → first_failing (ts ++ (test range b ∷ [])) ≡ cond v taken (refused (because range))
by_range ts {b} t e = after_taken ts (test range b ∷ []) t ∙ ap (λ (x : Bool). cond x taken (refused (because range))) e

module _ (n : ℕ) (s : Sizes) (e : s ≡ sizes_at n) where
  buckets_told : W (config_at n) ≡ s.buckets
  unfolding sizes_at
  buckets_told = ap (λ (x : Sizes). x.buckets) (sym e)

  split_past : (split : ℕ) → s.buckets < split → leb split (W (config_at n)) ≡ false
  split_past split h = lt-leb split (W (config_at n)) (omega (arith, buckets_told))

  split_fits : (split : ℕ) → split ≤ s.buckets → leb split (W (config_at n)) ≡ true
  split_fits split h = le-leb split (W (config_at n)) (omega (arith, buckets_told))

-- ---- new

zeroed_cleared : (n : ℕ) (l : List ℕ) → zeroed 0 n l ≡ cleared n l
unfolding zeroed
zeroed_cleared n l =
    let e : n - 0 ≡ n = omega arith in
    ap (λ (x : ℕ). filled (replicate x 0) n l) e

module _ (n split : ℕ) (pending bits : List ℕ) where
  new_not : (x : Refusal) (k : Cause) {r : Result Builder Refusal} → r ≡ Err x → new_verdict n split pending bits ≡ refused k
      → x ≡ refusal k
      → News n split pending bits r pending bits
  new_not x k h e q = record { answers = h ∙ rw e (ap (λ (y : Refusal). Err y) q); cells = rw e; blocks = rw e }

  pub new_refused : (x : Refusal) {r : Result Builder Refusal} → IsErrAnd r (λ y. y ≡ x)
      → areas_of n (length pending) (length bits) ≡ Err x
      → News n split pending bits r pending bits
  unfolding new_verdict
  new_refused x h q =
      let a = areas_refused n (length pending) (length bits) x q in
      new_not x a.0 (handed_on _ h) (after_refused (builder_areas n (length pending) (length bits)) (is_split (config_at n) split ∷ []) a.1) a.2

  module _ (s : Sizes) (q : areas_of n (length pending) (length bits) ≡ Ok s) where
    sized : (verdict (builder_areas n (length pending) (length bits)) ≡ taken) × (s ≡ sizes_at n)
    sized = areas_told n (length pending) (length bits) s q

    pub new_asks : (2 * s.top ≤ length pending) × (s.blocks ≤ length bits)
    unfolding sizes_at
    new_asks =
        subst (λ (x : Sizes). (2 * x.top ≤ length pending) × (x.blocks ≤ length bits)) (sym sized.1)
        ((areas_pass n (length pending) (length bits) sized.0).1, (areas_pass n (length pending) (length bits) sized.0).2)

    pub new_past : s.buckets < split → News n split pending bits (Err (refusal (because range))) pending bits
    unfolding new_verdict
    new_past h =
        new_not (refusal (because range)) (because range) refl (by_range (builder_areas n (length pending) (length bits)) sized.0 (split_past n s sized.1 split h)) refl

    pub new_next : {pending' bits' : List ℕ} → split ≤ s.buckets → pending' ≡ zeroed 0 (2 * s.top) pending
        → bits' ≡ zeroed 0 s.blocks bits
        → News n split pending bits (Ok (builder_in n split 0)) pending' bits'
    unfolding new_verdict sizes_at
    new_next h x y =
        let t : new_verdict n split pending bits ≡ taken =
        by_range (builder_areas n (length pending) (length bits)) sized.0 (split_fits n s sized.1 split h) in
        record {
          answers = rw t;
          cells = rw t (x ∙ zeroed_cleared (2 * s.top) pending ∙ ap (λ (z : Sizes). cleared (2 * z.top) pending) sized.1);
          blocks = rw t (y ∙ zeroed_cleared s.blocks bits ∙ ap (λ (z : Sizes). cleared z.blocks bits) sized.1);
        }

-- ---- push and raise

-- a level's buckets, as the code shifts them
abbrev shifted : Sizes → ℕ
shifted s = 1 * 2 ^ s.level % 2 ^ 64

level_small : (n : ℕ) → (config_at n).B < 64
level_small n = ⊎_elim (λ e. omega (arith, (line_at n).sound.fits)) (λ e. omega (arith, (line_at n).sound.fits)) (entry_width n)

level_at : (n : ℕ) → shifted (sizes_at n) ≡ 2 ^ (config_at n).B
unfolding sizes_at
level_at n = shl_one (config_at n).B (level_small n)

module _ (b : Builder) (pending bits : List ℕ) where
  abbrev asked : Result Sizes Refusal
  asked = builder_of b.config (stage_of b) pending bits

  abbrev lent : List Test
  lent = builder_lent (record_in b) pending bits

  told : (s : Sizes) → asked ≡ Ok s → (verdict lent ≡ taken) × (s ≡ sizes_at b.config)
  told s q = builder_told b.config (stage_of b) pending bits s q

  -- raise
  module _ (split : ℕ) where
    pub raise_refused : (x : Refusal) → asked ≡ Err x → Err x ≡ raised b pending bits split
    unfolding raise_verdict raised
    raise_refused x q =
        let a = builder_refused b.config (stage_of b) pending bits x q in
        refuses (λ y. Err y) (Ok (builder_in b.config (max b.split split) b.count))
        (a.0, after_refused lent (is_split (config_of b) split ∷ []) a.1, a.2)

    module _ (s : Sizes) (q : asked ≡ Ok s) where
      pub raise_past : s.buckets < split → Err (refusal (because range)) ≡ raised b pending bits split
      unfolding raise_verdict raised
      raise_past h =
          refuses (λ y. Err y) (Ok (builder_in b.config (max b.split split) b.count))
          (because range, by_range lent (told s q).0 (split_past b.config s (told s q).1 split h), refl)

      pub raise_next : (to : ℕ) → split ≤ s.buckets → to ≡ max b.split split
          → Ok (builder_in b.config to b.count) ≡ raised b pending bits split
      unfolding raise_verdict raised
      raise_next to h e =
          takes (λ y. Err y) (Ok (builder_in b.config (max b.split split) b.count))
          (by_range lent (told s q).0 (split_fits b.config s (told s q).1 split h))
          (ap (λ (x : ℕ). Ok (builder_in b.config x b.count)) e)

  -- push
  module _ (list : List ℕ) where
    push_not : (x : Refusal) (k : Cause) (r : Result Builder Refusal) → r ≡ Err x → push_verdict b pending bits list ≡ refused k
        → x ≡ refusal k
        → Pushes b pending bits list r pending bits
    push_not x k r h e q =
        subst (λ (v : Verdict). PushOutcome v b pending bits list r pending bits) (sym e)
        (h ∙ ap (λ (y : Refusal). Err y) q, refl, refl)

    pub push_refused : (x : Refusal) (r : Result Builder Refusal) → IsErrAnd r (λ y. y ≡ x) → asked ≡ Err x
        → Pushes b pending bits list r pending bits
    unfolding push_verdict
    push_refused x r h q =
        let a = builder_refused b.config (stage_of b) pending bits x q in
        push_not x a.0 r (handed_on r h) (after_refused lent (are_buckets (config_of b) list ∷ []) a.1) a.2

    module _ (s : Sizes) (q : asked ≡ Ok s) where
      passes : Passes b.config (stage_of b) pending bits
      passes = builder_pass b.config (stage_of b) pending bits (told s q).0

      by_list : {v : Bool} → v ≡ all_below s.buckets list → all_below (W (config_of b)) list ≡ v
      by_list h = ap (λ (w : ℕ). all_below w list) (buckets_told b.config s (told s q).1) ∙ sym h

      pub push_past : false ≡ all_below s.buckets list → Pushes b pending bits list (Err (refusal (because range))) pending bits
      unfolding push_verdict
      push_past h = push_not (refusal (because range)) (because range) _ refl (by_range lent (told s q).0 (by_list h)) refl

      pub level_fits : s.level < 64
      unfolding sizes_at
      level_fits = subst (λ (x : Sizes). x.level < 64) (sym (told s q).1) (level_small b.config)

      pub push_asks : true ≡ all_below s.buckets list
          → Room (2 * s.top) s.blocks pending bits
          × (Staged s.top s.blocks pending bits (stage_of b) × ((0 < shifted s) × (shifted s ≤ 2 ^ 32) × Below (64 * s.blocks) list))
      unfolding sizes_at
      push_asks h =
          let n : ℕ = b.config in
          let l : shifted (sizes_at n) ≡ 2 ^ (config_at n).B = level_at n in
          subst
          (λ (x : Sizes). Room (2 * x.top) x.blocks pending bits
          × (Staged x.top x.blocks pending bits (stage_of b) × ((0 < shifted x) × (shifted x ≤ 2 ^ 32) × Below (64 * x.blocks) list)))
          (sym (told s q).1) (
            passes.room,
            (
              passes.staged,
              (
                subst (λ (x : ℕ). 0 < x) (sym l) (pow_pos (config_at n).B),
                subst (λ (x : ℕ). x ≤ 2 ^ 32) (sym l) (omega (arith, (line_at n).small)),
                subst (λ (x : ℕ). Below x list) (sym (whole_blocks (config_at n) (line_at n).sound))
                    (all_below_lem (W (config_at n)) list (by_list h)),
              ),
            ),
          )

      pushed : {pending' bits' : List ℕ} {r : Stage}
          → Moves (config_of b).M (blocks (config_of b)) (2 ^ (config_of b).B) list pending bits (stage_of b) pending' bits' r
          → Stays (config_of b).M list (stage_of b) r
          → Pushed b pending bits list (builder_in b.config r.split r.count) pending' bits'
      unfolding sizes_at
      pushed {pending'} {bits'} {r} M S =
          let c : Config = config_of b in
          let w : 64 * blocks c ≡ W c = whole_blocks c (line_at b.config).sound in
          record {
            config_is = refl;
            sets = λ p h. M.sets p (omega arith);
            sound = staged_sound b.config pending' bits' r M.staged;
            rises = subst (λ (x : ℕ). Rises (2 ^ c.B) x b.split r.split) w M.rises;
            stays = λ h. (S h).0;
            pending_rest = M.pending_rest;
            bit_rest = M.bit_rest;
            pending_length = M.pending_length;
            bit_length = M.bit_length;
          }

      pub push_next : {pending' bits' : List ℕ} {r : Stage} → true ≡ all_below s.buckets list
          → Moves s.top s.blocks (shifted s) list pending bits (stage_of b) pending' bits' r × Stays s.top list (stage_of b) r
          → Pushes b pending bits list (Ok (builder_in b.config r.split r.count)) pending' bits'
      unfolding push_verdict sizes_at
      push_next {pending'} {bits'} {r} h M =
          let n : ℕ = b.config in
          let N = subst (λ (x : Sizes). Moves x.top x.blocks (shifted x) list pending bits (stage_of b) pending' bits' r
          × Stays x.top list (stage_of b) r) (told s q).1 M in
          let next : Builder = builder_in n r.split r.count in
          subst (λ (v : Verdict). PushOutcome v b pending bits list (Ok next) pending' bits')
          (sym (by_range lent (told s q).0 (by_list h))) (
            next,
            refl,
            pushed
                (subst (λ (x : ℕ). Moves (config_of b).M (blocks (config_of b)) x list pending bits (stage_of b) pending' bits' r)
                (level_at n) N.0)
                N.1,
          )

-- ---- finish

module _ (b : Builder) (pending bits to to_bits : List ℕ) where
  abbrev answered : Result Sizes Refusal
  answered = target_of b.config (stage_of b) pending bits (length to) (length to_bits)

  pub finish_refused : (x : Refusal) {r : Result Filter Refusal} → IsErrAnd r (λ y. y ≡ x) → answered ≡ Err x
      → Finishes b pending bits to to_bits r to to_bits
  unfolding finish_verdict
  finish_refused x h q =
      let a = target_refused b.config (stage_of b) pending bits (length to) (length to_bits) x q in
      makes_refused (finish_verdict b pending bits to to_bits) (config_of b) (set_of b pending bits) to to_bits x a.0 (handed_on _ h) a.1 a.2

  module _ (s : Sizes) (q : answered ≡ Ok s) where
    aimed : (verdict (builder_lent (record_in b) pending bits ++ hold_areas (config_of b) (length to) (length to_bits)) ≡ taken)
        × (s ≡ sizes_at b.config)
    aimed = target_told b.config (stage_of b) pending bits (length to) (length to_bits) s q

    all_pass : Passes b.config (stage_of b) pending bits × ((config_of b).M ≤ length to) × (blocks (config_of b) ≤ length to_bits)
    all_pass = target_pass b.config (stage_of b) pending bits (length to) (length to_bits) aimed.0

    pub finish_asks : Room s.top s.blocks to to_bits
        × ((s.blocks ≤ length bits) × (b.count ≤ length pending) × Below (64 * s.blocks) (take b.count pending))
    unfolding sizes_at
    finish_asks =
        let P = all_pass.0 in
        subst
        (λ (x : Sizes). Room x.top x.blocks to to_bits
        × ((x.blocks ≤ length bits) × (b.count ≤ length pending) × Below (64 * x.blocks) (take b.count pending)))
        (sym aimed.1) (
          record { some = omega (arith, P.room.some); cells = all_pass.1; blocks_in = all_pass.2; small = P.room.small },
          (P.room.blocks_in, omega (arith, P.staged.few, P.room.cells), P.staged.in_range),
        )

    pub finish_ready : {to' to_bits' : List ℕ} {count edge : ℕ}
        → Becomes s.top s.blocks (set_of b pending bits) to to_bits to' to_bits' count edge
        → Finishes b pending bits to to_bits (Ok (record { config = b.config; count = count; boundary = edge })) to' to_bits'
    unfolding finish_verdict
    finish_ready B =
        makes_ready (finish_verdict b pending bits to to_bits) b.config (set_of b pending bits) to to_bits s aimed.0
        all_pass.0.known aimed.1 B
