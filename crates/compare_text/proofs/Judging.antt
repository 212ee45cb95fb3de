-- What each path through the judging of an input tells. Assumes nothing.
use mathlib.Core.Path.{◌≡◌, refl, sym, ap, ◌∙◌, subst, subst₂}
use mathlib.Core.Bool.{false, true}
use mathlib.Core.List.{List, [], ◌∷◌}
use Prim.Native.Nat.{ℕ, ◌≤◌, ◌<◌}
use native.Mathlib.Omega.{arith}
use borrow.Author.Tests.{eqb-true, lt-ltb, le-ltb}
use mathlib.Core.Option as maybe
use lib.ListN.{length}
use Rattle.sets.specs.Sets.{Agree, Set}
use Rattle.sets.specs.Configurations.{Config, W, known, config_at}
use Rattle.sets.specs.Filter.{record_of}
use Rattle.sets.specs.Refusals.{Cause, Verdict, answer, because, filter_lent, filters_lent, in_order, is_mask, is_row_of, refused, taken, text_form, verdict}
use Rattle.sets.specs.Row.{shown_row}
use Rattle.sets.specs.Text.{Cut, Judged, Mask, and_then, at_line, compare_text, compared, cut, cut_at, from_hex, is}
use Rattle.sets.specs.Text.{judged_input, judged_second, largest_input, malformed, newline, nothing_follows}
use Rattle.sets.specs.Text.{printed, refused_at, row_line, unless_refused, whole}
use Rattle.sets.proofs.Configurations.{number_at}
use Rattle.sets.proofs.Verdicts.{after_taken}
use Rattle.sizes.specs.Sizes.{number_of, refusal}
use Rattle.sizes.specs.declared.Refusal.{Refusal}
use Rattle.sizes.proofs.Numbers.{refusal_numbered}
use Rattle.judge.proofs.Passing.{lent_taken}
use Rattle.judge.proofs.Verdicts.{areas_pass, filter_pass}
use Rattle.diff_count.specs.Making.{filter_in, record_in, tally_of}
use Rattle.diff_count.specs.Calls.{shown_by}
use Rattle.diff_count.specs.declared.Filter.{Filter}
use Rattle.diff_count.proofs.OfSets.{Of, both_pass, of_passes, of_set, of_shown}
use Rattle.masked.specs.Calls.{cmp_verdict}
use Rattle.figures.specs.Figures.{figures_of}
use Rattle.figures.specs.declared.Figures.{Figures}
use Rattle.lines.specs.Lines.{ReadsLine, bytes_in, line_verdict}
use Rattle.compare_text.specs.Answers.{Areas, malformed_at, on_line, spelled}
use Rattle.compare_text.specs.declared.RefusedAt.{RefusedAt}
use Rattle.lines.proofs.Judged.{row_line_lem}
use Rattle.compare_text.proofs.Spelling.{compared_agree, compared_spelled}
use Rattle.std.specs.Prelude.{◌==◌, IsErrAnd, Result, Ok, Err}

-- ---- a line of the input

-- what `?` hands on is the refusal that it met
handed_on : {A : Type 0} {x : RefusedAt} (t : Result A RefusedAt) → IsErrAnd t (λ y. y ≡ x) → t ≡ Err x
handed_on (Ok a) h = absurd h
handed_on (Err y) h = ap (λ (z : RefusedAt). Err z) h

pub line_taken : {A : Type 0} (l : ℕ) (t : Result A Refusal) {a : A} → Ok a ≡ on_line l t → t ≡ Ok a
line_taken l (Ok b) e = cc
line_taken l (Err r) e =
    let z : ◌≡◌ {A = ℕ} 0 1 = cc in
    absurd (omega arith)

line_refused : {A : Type 0} (l : ℕ) (t : Result A Refusal) {x : RefusedAt} → Err x ≡ on_line l t → (t ≡ Err x.refusal) × (x.line ≡ l)
line_refused l (Ok b) e =
    let z : ◌≡◌ {A = ℕ} 0 1 = cc in
    absurd (omega arith)
line_refused l (Err r) {x} e =
    let h : x ≡ record { refusal = r; line = l } = cc in
    (ap (λ (y : RefusedAt). Err y.refusal) (sym h), ap (λ (y : RefusedAt). y.line) h)

-- an input is cut at its first newline, the line is judged, and then what follows
module _ {A : Type 0} (l : ℕ) (s : List ℕ) (judge : List ℕ → Judged A) (next : A → List ℕ → Judged (List ℕ)) (t : Result Figures RefusedAt) where
  abbrev step : Judged (List ℕ)
  step = at_line l (cut_at newline s) (λ line rest. and_then (judge line) (λ a. next a rest))

  pub missing : {x : RefusedAt} → IsErrAnd t (λ y. y ≡ x) → (cut_at newline s ≡ whole) × (x ≡ malformed_at l) → spelled t ≡ printed step
  unfolding spelled
  missing h w = ap spelled (handed_on t h ∙ ap (λ (y : RefusedAt). Err y) w.1) ∙ sym (rw w.0)

  module _ {line rest : List ℕ} (cuts : cut_at newline s ≡ cut line rest) where
    pub stopped : {B : Type 0} (r : Result B Refusal) {x : RefusedAt} → Err x ≡ on_line l r → IsErrAnd t (λ y. y ≡ x)
        → ((y : Refusal) → r ≡ Err y → judge line ≡ refused_at (number_of y) l) → spelled t ≡ printed step
    unfolding spelled
    stopped r {x} e h told =
        let w = line_refused l r e in
        ap spelled (handed_on t h)
        ∙ ap (λ (i : ℕ). printed (refused_at (number_of x.refusal) i)) w.1
        ∙ sym (rw (cuts, told x.refusal w.0))

    pub goes_on : {a : A} → judge line ≡ is a → spelled t ≡ printed (next a rest) → spelled t ≡ printed step
    goes_on e h = h ∙ sym (rw (cuts, e))

pub something_left : {A : Type 0} (a : A) (l : List ℕ) → (length l == 0) ≡ false → nothing_follows l a ≡ malformed 5
something_left a [] h =
    let z : ◌≡◌ {A = ℕ} 0 1 = cc in
    absurd (omega arith)
something_left a (x ∷ xs) h = refl

pub nothing_left : {A : Type 0} (a : A) (l : List ℕ) → (length l == 0) ≡ true → nothing_follows l a ≡ is a
nothing_left a [] h = refl
nothing_left a (x ∷ xs) h = absurd (omega (arith, eqb-true _ _ h))

-- ---- a row's line

-- the line gives a row, and this is the filter of its set
pub record Read (n : ℕ) (bs : List ℕ) (f : Filter) (top bits : List ℕ) : Type 0 where
  pub row : List ℕ
  pub told : (l : ℕ) → row_line (config_at n) l bs ≡ is row
  pub config : f.config ≡ n
  pub filter : Of f top bits (shown_row (config_at n) row)

ready : (v : Verdict) (x f : Filter) → Ok f ≡ answer v (λ n. Err (refusal n)) (Ok x) → (v ≡ taken) × (f ≡ x)
ready taken x f e = (refl, (cc))
ready (refused k) x f e =
    let z : ◌≡◌ {A = ℕ} 0 1 = cc in
    absurd (omega arith)

line_numbered : (c : Config) (row : maybe.Option (List ℕ)) {k : Cause} → line_verdict c row ≡ refused k → number_of (refusal k) ≡ k.number
line_numbered c maybe.none {k} e =
    let q : because text_form ≡ k = cc in
    ap (λ (j : Cause). number_of (refusal j)) (sym q) ∙ ap (λ (j : Cause). j.number) q
line_numbered c (maybe.some row) e = refusal_numbered (is_row_of c row) e

module _ (n : ℕ) (bs top bits : List ℕ) (r : Result Filter Refusal) (top' bits' : List ℕ) (R : ReadsLine n bs top bits r top' bits') where
  abbrev c : Config
  c = config_at n

  abbrev v : Verdict
  v = line_verdict c (from_hex bs)

  abbrev S : Set
  S = shown_row c (bytes_in (from_hex bs))

  pub row_refused : (x : Refusal) (l : ℕ) → r ≡ Err x → row_line c l bs ≡ refused_at (number_of x) l
  row_refused x l e = row_line_lem c l bs ∙ go v refl (sym e ∙ R.answers)
    where
      go : (w : Verdict) → v ≡ w → Err x ≡ answer w (λ k. Err (refusal k)) (Ok (filter_in (record_of c S)))
          → unless_refused w l (bytes_in (from_hex bs)) ≡ refused_at (number_of x) l
      go taken t q =
          let z : ◌≡◌ {A = ℕ} 0 1 = cc in
          absurd (omega arith)
      go (refused k) t q =
          let h : refusal k ≡ x = cc in
          ap (λ (i : ℕ). refused_at i l) (sym (line_numbered c (from_hex bs) t) ∙ ap number_of h)

  pub row_read : (f : Filter) → r ≡ Ok f → Areas n → Read n bs f top' bits'
  unfolding record_of
  row_read f e a =
      let k : known n ≡ true = (areas_pass n 64 1040 a).0 in
      let g : Filter = filter_in (record_of c S) in
      let t : (v ≡ taken) × (f ≡ g) = ready v g f (sym e ∙ R.answers) in
      record {
        row = bytes_in (from_hex bs);
        told = λ l. row_line_lem c l bs ∙ ap (λ (w : Verdict). unless_refused w l (bytes_in (from_hex bs))) t.0;
        config = ap (λ (x : Filter). x.config) t.1 ∙ number_at n k;
        filter = subst (λ (x : Filter). Of x top' bits' S) (sym t.1)
            (subst₂ (λ (x y : List ℕ). Of g x y S) (sym (R.tops ∙ rw t.0)) (sym (R.blocks ∙ rw t.0)) (of_set n k S top bits));
      }

module _ (n : ℕ) (bs : List ℕ) (f : Filter) (top bits : List ℕ) (R : Read n bs f top bits) where
  abbrev T : Set
  T = shown_row (config_at n) R.row

  read_shows : Agree (W (config_at n)) (shown_by f top bits) T
  read_shows = subst (λ (i : ℕ). Agree (W (config_at i)) (shown_by f top bits) T) R.config (of_shown f top bits T R.filter)

  pub read_lent : verdict (filter_lent (record_in f) top bits) ≡ taken
  read_lent = lent_taken (of_passes f top bits T R.filter)

-- the figures are asked of filters that pass
pub figures_asks : (f : Filter) (top bits bs : List ℕ) (g : Filter) (top2 bits2 : List ℕ) (m : Mask)
    → verdict (filter_lent (record_in f) top bits) ≡ taken
    → Read f.config bs g top2 bits2 → verdict (is_mask m.mask m.size)
    ≡ taken → cmp_verdict f top bits g top2 bits2 m.mask m.size ≡ taken
unfolding cmp_verdict
figures_asks f top bits bs g top2 bits2 m p R q =
    after_taken (in_order (filters_lent (record_in f) top bits (record_in g) top2 bits2)) (is_mask m.mask m.size)
    (both_pass f top bits g top2 bits2 (filter_pass f.config (tally_of f) top bits p)
    (of_passes g top2 bits2 (shown_row (config_at f.config) R.row) R.filter) (sym R.config))
    ∙ q

-- ---- the rows

-- the figures of two rows that were read are the answer
pub compared_told : (n : ℕ) (m : Mask) (S : Set) {bs : List ℕ} (g : Filter) (top bits : List ℕ) (R : Read n bs g top bits) {x : Figures}
    → x ≡ figures_of (config_at n) m.mask m.size S (shown_by g top bits)
    → spelled (Ok x) ≡ compared (config_at n) m S (shown_row (config_at n) R.row)
compared_told n m S {bs} g top bits R e =
    ap (λ (y : Figures). spelled (Ok y)) e
    ∙ compared_spelled (config_at n) m S (shown_by g top bits)
    ∙ compared_agree n m S S (shown_by g top bits) (shown_row (config_at n) R.row) (λ p q. refl) (read_shows n bs g top bits R)

-- of the first row's set only what is below W counts
second_agree : (n : ℕ) (m : Mask) (S T : Set) (s : List ℕ) → Agree (W (config_at n)) S T
    → judged_second (config_at n) m S s ≡ judged_second (config_at n) m T s
unfolding judged_second
second_agree n m S T s h = by_cut (cut_at newline s)
  where
    by_row : (j : Judged (List ℕ)) (tail : List ℕ)
        → and_then j (λ row. nothing_follows tail (compared (config_at n) m S (shown_row (config_at n) row)))
        ≡ and_then j (λ row. nothing_follows tail (compared (config_at n) m T (shown_row (config_at n) row)))
    by_row (is row) tail =
        ap (λ (l : List ℕ). nothing_follows tail l) (compared_agree n m S T (shown_row (config_at n) row)
        (shown_row (config_at n) row) h (λ p q. refl))
    by_row (refused_at k l) tail = refl

    by_cut : (x : Cut)
        → at_line 4 x (λ fourth tail. and_then (row_line (config_at n) 4 fourth)
        (λ row. nothing_follows tail (compared (config_at n) m S (shown_row (config_at n) row))))
        ≡ at_line 4 x (λ fourth tail. and_then (row_line (config_at n) 4 fourth)
        (λ row. nothing_follows tail (compared (config_at n) m T (shown_row (config_at n) row))))
    by_cut whole = refl
    by_cut (cut fourth tail) = by_row (row_line (config_at n) 4 fourth) tail

-- the first row's set, in the filter that was read
pub first_told : (n : ℕ) (m : Mask) {bs : List ℕ} (f : Filter) (top bits : List ℕ) (R : Read n bs f top bits) (rest : List ℕ)
    → printed (judged_second (config_at f.config) m (shown_by f top bits) rest)
    ≡ printed (judged_second (config_at n) m (shown_row (config_at n) R.row) rest)
first_told n m {bs} f top bits R rest =
    ap (λ (i : ℕ). printed (judged_second (config_at i) m (shown_by f top bits) rest)) R.config
    ∙ ap printed (second_agree n m (shown_by f top bits) (shown_row (config_at n) R.row) rest (read_shows n bs f top bits R))

-- ---- the whole input

module _ (s : List ℕ) where
  pub long_input : largest_input < length s → spelled (Err (malformed_at 0)) ≡ compare_text s
  unfolding compare_text spelled
  long_input h = rw (lt-ltb _ _ h)

  pub short_input : length s ≤ largest_input → printed (judged_input s) ≡ compare_text s
  unfolding compare_text
  short_input h = rw (le-ltb _ _ h)
