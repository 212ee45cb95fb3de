-- Theorems about the functions that the promises cite. Assumes nothing.
use mathlib.Core.Path.{◌≡◌, refl, sym, ap, ap₂, ◌∙◌, subst}
use mathlib.Core.Bool.{true}
use mathlib.Core.List.{List, [], ◌∷◌, ◌++◌, map}
use Prim.Native.Nat.{ℕ, zero, suc, ◌+◌, ◌≤◌, ◌<◌, min}
use native.Mathlib.Decide.{dec_lt}
use native.Mathlib.Nat.{min-eq_left, min-eq_right, add-zero, suc-add, zero-add}
use native.Mathlib.Omega.{arith}
use lib.ListN.{length, get_or, drop, drop_of_length-le, replicate}
use lib.Seq.{drop-cons}
use denote.Ref.{Bor}
use Rattle.sets.specs.Sets.{Set, members}
use Rattle.sets.specs.Configurations.{W, known, config_at}
use Rattle.sets.specs.Refusals.{Cause, taken, refused}
use Rattle.sets.specs.Row.{row, shown_row}
use Rattle.sets.proofs.Configurations.{line_at}
use Rattle.sets.proofs.Laws.{members_same}
use Rattle.sets.proofs.Reading.{row_passes}
use Rattle.sets.proofs.Rows.{row_back}
use Rattle.sizes.specs.Sizes.{refusal}
use Rattle.judge_row.specs.Judging.{row_verdict}
use Rattle.judge_row.proofs.Verdicts.{row_takes}
use Rattle.row_reader.specs.Reading.{after_steps, buckets_of, reader_at, reader_of, step_of, stepped_at, steps}
use Rattle.row_reader.specs.declared.RowReader.{RowReader}
use Rattle.row_reader.specs.declared.Stepped.{Stepped}
use Rattle.row_reader.specs.declared.StepTaken.{StepTaken}
use Rattle.row_reader.proofs.Steps.{step_bucket, step_end, step_refused}
use Rattle.sizes.specs.declared.Refusal.{Refusal}
use Rattle.std.specs.Prelude.{Option, Some, None, Result, Ok, Err}

-- the answer of a step that gives this bucket
abbrev pub given_now : ℕ → Result (Option ℕ) Refusal
given_now p = Ok (Some p)

-- ---- two outcomes that one promise allows coincide

pub new_once : (s : Bor (List ℕ)) (n place : ℕ) (r t : RowReader) → r ≡ reader_of s n place → t ≡ reader_of s n place → r ≡ t
new_once s n place r t x y = x ∙ sym y

pub step_at_once : (n : ℕ) (bs : List ℕ) (place : ℕ) (r t : Stepped) → r ≡ stepped_at n bs place → t ≡ stepped_at n bs place → r ≡ t
step_at_once n bs place r t x y = x ∙ sym y

pub step_once : (d : RowReader) (r t : StepTaken) → r ≡ step_of d → t ≡ step_of d → r ≡ t
step_once d r t x y = x ∙ sym y

-- ---- one step after the other

-- the steps of a reader whose step makes this
module _ (d : RowReader) (x : Result (Option ℕ) Refusal) (place : ℕ)
    (e : stepped_at d.config d.row.now d.place ≡ record { answer = x; place = place }) where
  steps_next : (j : ℕ) → steps (suc j) d ≡ x ∷ steps j (reader_at d place)
  steps_next j = ap (λ (s : Stepped). s.answer ∷ steps j (reader_at d s.place)) e

  after_next : (j : ℕ) → after_steps (suc j) d ≡ after_steps j (reader_at d place)
  after_next j = ap (λ (s : Stepped). after_steps j (reader_at d s.place)) e

-- where the step leaves the place, so do all that follow, and each answers the same
module _ (d : RowReader) (x : Result (Option ℕ) Refusal) (e : stepped_at d.config d.row.now d.place ≡ record { answer = x; place = d.place }) where
  steps_stay : (j : ℕ) → steps j d ≡ replicate j x
  steps_stay zero = refl
  steps_stay (suc j) = steps_next d x d.place e j ∙ ap (λ (l : List (Result (Option ℕ) Refusal)). x ∷ l) (steps_stay j)

  after_stay : (j : ℕ) → after_steps j d ≡ d
  after_stay zero = refl
  after_stay (suc j) = after_next d x d.place e j ∙ after_stay j

-- ---- a row that no set has

module _ (d : RowReader) (k : Cause) (v : row_verdict d.config d.row.now ≡ refused k) where
  -- each step answers as opening the row would
  pub refused_steps : (j : ℕ) → steps j d ≡ replicate j (Err (refusal k))
  refused_steps = steps_stay d (Err (refusal k)) (step_refused d.config d.row.now d.place k v)

  -- and the reader stays as it is
  pub refused_stays : (j : ℕ) → after_steps j d ≡ d
  refused_stays = after_stay d (Err (refusal k)) (step_refused d.config d.row.now d.place k v)

-- ---- the row of a set

module _ (d : RowReader) (v : row_verdict d.config d.row.now ≡ taken) where
  abbrev ms : List ℕ
  ms = buckets_of d.config d.row.now

  -- the step at a place, before the end and from it on
  before_end : (p : ℕ) → p < length ms → stepped_at d.config d.row.now p ≡ record { answer = Ok (Some (get_or ms p 0)); place = suc p }
  before_end p h = step_bucket d.config d.row.now p v h

  from_end : (p : ℕ) → length ms ≤ p → stepped_at d.config d.row.now p ≡ record { answer = Ok None; place = p }
  from_end p h = step_end d.config d.row.now p v h

  -- at or past the set's size each step tells the end, and the reader stays as it is
  pub end_steps : length ms ≤ d.place → (j : ℕ) → steps j d ≡ replicate j (Ok None)
  end_steps h = steps_stay d (Ok None) (from_end d.place h)

  pub end_stays : length ms ≤ d.place → (j : ℕ) → after_steps j d ≡ d
  end_stays h = after_stay d (Ok None) (from_end d.place h)

  -- the answers from a place on: the members that are left, then the end for ever
  from_place : (qs : List ℕ) (p : ℕ) → drop p ms ≡ qs → (j : ℕ) → steps (length qs + j) (reader_at d p) ≡ map given_now qs ++ replicate j (Ok None)
  from_place [] p e j =
      ap (λ (i : ℕ). steps i (reader_at d p)) (zero-add j) ∙ steps_stay (reader_at d p) (Ok None) (from_end p (past (dec_lt p (length ms)))) j
    where
      past : Dec (p < length ms) → length ms ≤ p
      past (yes h) =
          let x : [] ≡ get_or ms p 0 ∷ drop (suc p) ms = sym e ∙ drop-cons ms p 0 h in
          let z : ◌≡◌ {A = ℕ} 0 1 = cc in
          absurd (omega arith)
      past (no h) = omega arith
  from_place (q ∷ qs) p e j = go (from_place qs (suc p)) (dec_lt p (length ms))
    where
      go : (drop (suc p) ms ≡ qs → (j : ℕ) → steps (length qs + j) (reader_at d (suc p)) ≡ map given_now qs ++ replicate j (Ok None))
          → Dec (p < length ms) → steps (length (q ∷ qs) + j) (reader_at d p) ≡ map given_now (q ∷ qs) ++ replicate j (Ok None)
      go f (yes h) =
          let x : get_or ms p 0 ∷ drop (suc p) ms ≡ q ∷ qs = sym (drop-cons ms p 0 h) ∙ e in
          ap (λ (i : ℕ). steps i (reader_at d p)) (suc-add (length qs) j)
          ∙ steps_next (reader_at d p) (Ok (Some (get_or ms p 0))) (suc p) (before_end p h) (length qs + j)
          ∙ ap₂ (λ (b : ℕ) (l : List (Result (Option ℕ) Refusal)). Ok (Some b) ∷ l) (cc) (f (cc) j)
      go f (no h) =
          let x : [] ≡ q ∷ qs = sym (drop_of_length-le ms {i = p} (omega arith)) ∙ e in
          let z : ◌≡◌ {A = ℕ} 0 1 = cc in
          absurd (omega arith)

  -- from any place: the members that were not yet given, largest first, each once, then the end for ever
  pub gives_rest : (j : ℕ) → steps (length (drop d.place ms) + j) d ≡ map given_now (drop d.place ms) ++ replicate j (Ok None)
  gives_rest = from_place (drop d.place ms) d.place refl

  place_from : (j p : ℕ) → p ≤ length ms → after_steps j (reader_at d p) ≡ reader_at d (min (p + j) (length ms))
  place_from zero p h = ap (reader_at d) (sym (ap (λ (i : ℕ). min i (length ms)) (add-zero p) ∙ min-eq_left h))
  place_from (suc j) p h = go (place_from j) (dec_lt p (length ms))
    where
      go : ((p : ℕ) → p ≤ length ms → after_steps j (reader_at d p) ≡ reader_at d (min (p + j) (length ms)))
          → Dec (p < length ms) → after_steps (suc j) (reader_at d p) ≡ reader_at d (min (p + suc j) (length ms))
      go f (yes l) =
          after_next (reader_at d p) (Ok (Some (get_or ms p 0))) (suc p) (before_end p l) j ∙ f (suc p) l
          ∙ ap (λ (i : ℕ). reader_at d (min i (length ms))) (omega arith)
      go f (no l) =
          after_stay (reader_at d p) (Ok None) (from_end p (omega arith)) (suc j)
          ∙ ap (reader_at d)
          (let a : p ≡ length ms = omega arith in
          a ∙ sym (min-eq_right (omega arith)))

  module _ (z : d.place ≡ 0) where
    -- from place 0: all members
    pub gives_all : (j : ℕ) → steps (length ms + j) d ≡ map given_now ms ++ replicate j (Ok None)
    gives_all j = ap (λ (p : ℕ). steps (length ms + j) (reader_at d p)) z ∙ from_place ms 0 refl j

    -- and the place is the number of buckets given
    pub place_counts : (j : ℕ) → after_steps j d ≡ reader_at d (min j (length ms))
    place_counts j =
        ap (λ (p : ℕ). after_steps j (reader_at d p)) z ∙ place_from j 0 (omega arith)
        ∙ ap (λ (i : ℕ). reader_at d (min i (length ms))) (zero-add j)

-- a set's own row gives the set's members
module _ (n : ℕ) (S : Set) where
  own_taken : known n ≡ true → row_verdict n (row (config_at n) S) ≡ taken
  own_taken k = row_takes n (row (config_at n) S) k (row_passes (config_at n) (line_at n).sound S)

  own_buckets : buckets_of n (row (config_at n) S) ≡ members S (W (config_at n))
  own_buckets = members_same (shown_row (config_at n) (row (config_at n) S)) S (W (config_at n)) (row_back (config_at n) (line_at n).sound S)

pub gives_set : (d : RowReader) (S : Set) → known d.config ≡ true → d.row.now ≡ row (config_at d.config) S → d.place ≡ 0
    → (j : ℕ) → steps (length (members S (W (config_at d.config))) + j) d
    ≡ map given_now (members S (W (config_at d.config))) ++ replicate j (Ok None)
gives_set d S k e z j =
    subst (λ (l : List ℕ). steps (length l + j) d ≡ map given_now l ++ replicate j (Ok None))
    (ap (buckets_of d.config) e ∙ own_buckets d.config S)
    (gives_all d (ap (row_verdict d.config) e ∙ own_taken d.config S k) z j)
