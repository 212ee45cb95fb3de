-- Two outcomes of an exported call coincide, of a push their sets do; a refusal is told by 01's number, and 0 exactly where a call
-- was taken; and the reader from C is the row reader. Assumes nothing.
use mathlib.Core.Path.{◌≡◌, refl, sym, ap, ◌∙◌}
use mathlib.Core.List.{List, [], ◌∷◌, ◌++◌}
use Prim.Native.Nat.{ℕ}
use denote.Ref.{Bor}
use native.Mathlib.Omega.{arith}
use Rattle.sets.specs.Sets.{Set}
use Rattle.sets.specs.Configurations.{Config}
use Rattle.sets.specs.Refusals.{Cause, Test, Verdict, taken, refused, answer, verdict, are_buckets, builder_lent}
use Rattle.sets.proofs.Verdicts.{never_zero}
use Rattle.sizes.specs.Sizes.{refusal}
use Rattle.sizes.specs.declared.Refusal.{Refusal}
use Rattle.sizes.proofs.Numbers.{refusal_numbered}
use Rattle.diff_count.specs.Making.{Makes}
use Rattle.diff_count.specs.declared.Filter.{Filter}
use Rattle.diff_count.proofs.Theorems.{makes_once}
use Rattle.builder.specs.Calls.{News, PushOutcome, Pushes, config_of, push_verdict, record_in}
use Rattle.builder.specs.declared.Builder.{Builder}
use Rattle.builder.proofs.Once.{Alike, new_once, push_once}
use Rattle.rows.specs.Calls.{Writes}
use Rattle.rows.proofs.Theorems.{write_once}
use Rattle.compare_text.specs.Answers.{Compares}
use Rattle.compare_text.proofs.Theorems.{compares_once}
use Rattle.row_reader.specs.Reading.{reader_of, step_of, step_place}
use Rattle.row_reader.specs.declared.RowReader.{RowReader}
use Rattle.exports.specs.Told.{Told, Tells, gives, refuses, number_of, cells_after, told, builder_cells, number_cell, step_cells}
use Rattle.exports.specs.Calls.{MakesBuilder, MakesFilter, Steps, Wraps, reader_after}
use Rattle.std.specs.Prelude.{Option, Some, Result, Ok, Err}

-- ---- a call that writes its cells alone

pub tells_once : {C : Type 0} {t : Told C} {cells : C} {r s : ℕ} {x y : C} → Tells t cells r x → Tells t cells s y → (r ≡ s) × (x ≡ y)
tells_once a b = (a.number ∙ sym b.number, a.values ∙ sym b.values)

pub steps_once : {reader row step : List ℕ} {r s : ℕ} {d e x y : List ℕ} → Steps reader row step r d x → Steps reader row step s e y
    → (r ≡ s) × (x ≡ y) × (d ≡ e)
steps_once a b = (a.tells.number ∙ sym b.tells.number, a.tells.values ∙ sym b.tells.values, a.moves ∙ sym b.moves)

-- ---- a call that writes more: what it tells is fixed by the answer of the call that it wraps

pub wraps_once : {A C : Type 0} {told : A → Told C} {P Q : A → Type 0} {cells : C} {r s : ℕ} {x y : C}
    (a : Wraps told P cells r x) (b : Wraps told Q cells s y)
    → a.answer ≡ b.answer → (r ≡ s) × (x ≡ y)
wraps_once {A} {C} {told} {P} {Q} {cells} a b q =
    let e : told a.answer ≡ told b.answer = ap told q in (
      a.tells.number ∙ ap number_of e ∙ sym b.tells.number,
      a.tells.values ∙ ap (λ (t : Told C). cells_after t cells) e ∙ sym b.tells.values,
    )

-- empty, toggle, symmetric_difference, builder_finish and read
pub made_once : {v : Verdict} {c : Config} {S : Set} {top bits cells : List ℕ} {r s : ℕ} {x y t t' b b' : List ℕ}
    → MakesFilter (λ a. Makes v c S top bits a t b) cells r x → MakesFilter (λ a. Makes v c S top bits a t' b') cells s y
    → ((r ≡ s) × (x ≡ y)) × (t ≡ t') × (b ≡ b')
made_once p q = let e = makes_once p.keeps q.keeps in (wraps_once p q e.0, e.1, e.2)

pub builder_new_once : {n split : ℕ} {pending bits cells : List ℕ} {r s : ℕ} {x y p p' b b' : List ℕ}
    → MakesBuilder (λ a. News n split pending bits a p b) cells r x
    → MakesBuilder (λ a. News n split pending bits a p' b') cells s y
    → ((r ≡ s) × (x ≡ y)) × (p ≡ p') × (b ≡ b')
builder_new_once u w = let e = new_once u.keeps w.keeps in (wraps_once u w e.0, e.1, e.2)

pub written_once : (f : Filter) (top bits to : List ℕ) {cells r s x y : ℕ} {b b' : List ℕ}
    → Wraps (told number_cell) (λ a. Writes f top bits to a b) cells r x
    → Wraps (told number_cell) (λ a. Writes f top bits to a b') cells s y
    → ((r ≡ s) × (x ≡ y)) × (b ≡ b')
written_once f top bits to u w = let e = write_once f top bits to u.keeps w.keeps in (wraps_once u w e.0, e.1)

pub compared_once : (input out : List ℕ) {cells r s x y : ℕ} {o o' : List ℕ}
    → Wraps (told number_cell) (λ a. Compares input out a o) cells r x
    → Wraps (told number_cell) (λ a. Compares input out a o') cells s y
    → ((r ≡ s) × (x ≡ y)) × (o ≡ o')
compared_once input out u w = let e = compares_once input out u.keeps w.keeps in (wraps_once u w e.0, e.1)

-- the number is fixed; areas and record are as far as 01 fixes a builder, and the cells hold the record
pub pushed_once : (b : Builder) (pending bits list : List ℕ) {cells : List ℕ} {r s : ℕ} {x y : List ℕ} (p p' q q' : List ℕ)
    → (u : MakesBuilder (λ a. Pushes b pending bits list a p q) cells r x)
    (w : MakesBuilder (λ a. Pushes b pending bits list a p' q') cells s y)
    → (r ≡ s)
    × (x ≡ cells_after (told builder_cells u.answer) cells)
    × (y ≡ cells_after (told builder_cells w.answer) cells)
    × Alike (push_verdict b pending bits list) b u.answer p q w.answer p' q'
pushed_once b pending bits list p p' q q' u w =
    let e = push_once b pending bits list u.answer w.answer p p' q q' u.keeps w.keeps in
    (u.tells.number ∙ go (push_verdict b pending bits list) e ∙ sym w.tells.number, u.tells.values, w.tells.values, e)
  where
    number : Result Builder Refusal → ℕ
    number a = number_of (told builder_cells a)

    go : (v : Verdict) → Alike v b u.answer p q w.answer p' q' → number u.answer ≡ number w.answer
    go taken a = ap number a.2 ∙ sym (ap number a.3)
    go (refused k) a = ap number a.0

-- ---- the number

-- of every call whose answer is by a verdict: a refusal is told by 01's number of it
pub refusal_told : {A C : Type 0} (cells : A → C) (a : Result A Refusal) (ts : List Test) {k : Cause}
    → verdict ts ≡ refused k → told cells (answer (verdict ts) (λ r. Err (refusal r)) a) ≡ refuses k.number
refusal_told cells a ts e =
    ap (λ (v : Verdict). told cells (answer v (λ r. Err (refusal r)) a)) e ∙ ap refuses (refusal_numbered ts e)

-- however answers are told: where each refusal of the verdict is told so, 0 is told only where the call was taken
pub zero_taken : {A C : Type 0} (told : A → Told C) (refuse : Cause → A) (a : A) (ts : List Test)
    → ((k : Cause) → verdict ts ≡ refused k → told (refuse k) ≡ refuses k.number)
    → number_of (told (answer (verdict ts) refuse a)) ≡ 0 → verdict ts ≡ taken
zero_taken told refuse a ts h z = go (verdict ts) refl z
  where
    go : (v : Verdict) → verdict ts ≡ v → number_of (told (answer v refuse a)) ≡ 0 → verdict ts ≡ taken
    go taken e q = e
    go (refused k) e q = let m : k.number ≡ 0 = sym (ap number_of (h k e)) ∙ q in absurd (omega (arith, never_zero ts k e))

-- as each of these calls tells it
pub told_zero : {A C : Type 0} (cells : A → C) (a : Result A Refusal) (ts : List Test)
    → number_of (told cells (answer (verdict ts) (λ r. Err (refusal r)) a)) ≡ 0 → verdict ts ≡ taken
told_zero cells a ts = zero_taken (told cells) (λ r. Err (refusal r)) a ts (λ k e. ap refuses (refusal_numbered ts e))

-- a push, of which 01 leaves more open where it is taken, answers by its verdict too
module _ (b : Builder) (pending bits list p q : List ℕ) where
  abbrev tests : List Test
  tests = builder_lent (record_in b) pending bits ++ (are_buckets (config_of b) list ∷ [])

  by_verdict : (v : Verdict) {a : Result Builder Refusal} → PushOutcome v b pending bits list a p q
      → a ≡ answer v (λ k. Err (refusal k)) a
  by_verdict taken o = refl
  by_verdict (refused k) o = o.0

  module _ {cells : List ℕ} {r : ℕ} {x : List ℕ} (w : MakesBuilder (λ a. Pushes b pending bits list a p q) cells r x) where
    telling : told builder_cells w.answer ≡ told builder_cells (answer (verdict tests) (λ k. Err (refusal k)) w.answer)
    unfolding push_verdict
    telling = ap (told builder_cells) (by_verdict (verdict tests) w.keeps)

    pub push_told : {k : Cause} → push_verdict b pending bits list ≡ refused k → (r ≡ k.number) × (x ≡ cells)
    unfolding push_verdict
    push_told e =
        let t = telling ∙ refusal_told builder_cells w.answer tests e in
        (w.tells.number ∙ ap number_of t, w.tells.values ∙ ap (λ (y : Told (List ℕ)). cells_after y cells) t)

    pub push_zero : r ≡ 0 → push_verdict b pending bits list ≡ taken
    unfolding push_verdict
    push_zero z = told_zero builder_cells w.answer tests (ap number_of (sym telling) ∙ sym w.tells.number ∙ z)

-- ---- the reader: its cells, beside the row that it holds

abbrev pub reader_cells : RowReader → List ℕ
reader_cells d = d.config ∷ d.place ∷ []

pub new_reader : (row : Bor (List ℕ)) (n place : ℕ) {cells : List ℕ} {r : ℕ} {x : List ℕ} → Tells (gives (n ∷ place ∷ [])) cells r x
    → x ≡ reader_cells (reader_of row n place)
new_reader row n place h = h.values

-- a step from a reader's cells tells what the reader's own step gives
pub step_reader : (d : RowReader) {step : List ℕ} {r : ℕ} {reader' step' : List ℕ}
    → Steps (reader_cells d) d.row.now step r reader' step'
    → Tells (told step_cells (step_of d).answer) step r step'
step_reader d h = h.tells

-- and where it gives a bucket, the cells are those of the reader that it hands back
pub step_moves : (d : RowReader) (p : ℕ) {step : List ℕ} {r : ℕ} {reader' step' : List ℕ} → (step_of d).answer ≡ Ok (Some p)
    → Steps (reader_cells d) d.row.now step r reader' step' → reader' ≡ reader_cells (step_of d).reader
unfolding reader_after
step_moves d p q h =
    h.moves ∙ ap (λ (a : Result (Option ℕ) Refusal). reader_after (reader_cells d) a (step_place d.config d.row.now d.place)) q
