-- What each path through the judging of a line answers. Assumes nothing.
use mathlib.Core.Path.{◌≡◌, refl, sym, ap, ◌∙◌, subst}
use mathlib.Core.Bool.{Bool, true, false, ◌&&◌, ◌||◌}
use mathlib.Core.List.{List}
use mathlib.Core.Option.{Option, none, some}
use Prim.Native.Nat.{ℕ, suc, ◌+◌, ◌-◌, ◌≤◌, ◌<◌}
use native.Mathlib.Numerals.{add-one}
use native.Mathlib.Omega.{arith}
use lib.Dec.{eqb}
use lib.ListN.{length, take, drop, length-drop}
use lib.Seq.{take_all}
use borrow.Author.Tests.{ne_eqb}
use Rattle.sets.specs.Sets.{same}
use Rattle.sets.specs.Configurations.{config_at}
use Rattle.sets.specs.Refusals.{Verdict, areas_lent, is_mask, is_row_of, taken, verdict, because, text_form}
use Rattle.sets.specs.Row.{shown_row}
use Rattle.sets.specs.Text.{Judged, Mask as Text-as-Mask, after, all, bare_config, config_line, cut, cut_at, decimal, from_hex, is, is_digit}
use Rattle.sets.specs.Text.{judged_mask, mask_line, numbered, refused_at, space, text, two_decimals, unless_refused}
use Rattle.sets.proofs.Verdicts.{after_taken}
use Rattle.sizes.specs.Sizes.{number_of}
use Rattle.sizes.specs.declared.Refusal.{Refusal}
use Rattle.judge.specs.Judging.{mask_of, passing}
use Rattle.judge.proofs.Verdicts.{mask_refused, mask_told_lem}
use Rattle.diff_count.specs.Making.{Makes}
use Rattle.diff_count.proofs.Outcomes.{makes_refused}
use Rattle.rows.specs.Calls.{Reads, read_verdict}
use Rattle.decode.specs.Parts.{Finds, Hexed, Starts, number_in}
use Rattle.lines.specs.Lines.{ReadsLine, bytes_in, line_verdict}
use Rattle.diff_count.specs.declared.Filter.{Filter}
use Rattle.std.specs.Prelude.{⊤, Result, Ok, Err, IsErrAnd}
use Rattle.std.specs.Option.{ok_or}
use Rattle.std.specs.Prelude as maybe
use Rattle.sizes.specs.declared.Refusal.TheVariants.{TextForm}
use Rattle.sizes.proofs.Laws.{handed_on}
use Rattle.sizes.proofs.Numbers.{refusal_numbered}

-- ---- parts

-- what is left of a text from a place on
rest : (k : ℕ) (s : List ℕ) → take (length s - k) (drop k s) ≡ drop k s
rest k s = take_all (length s - k) (drop k s) (omega (arith, length-drop k s))

module _ (word s : List ℕ) {b : Bool} (S : Starts word s b) where
  starts : b ≡ true → (length word ≤ length s) × (after word s ≡ some (drop (length word) s))
  starts e = subst (λ (x : Bool). Starts word s x) e S

  differs : b ≡ false → after word s ≡ none
  differs e = subst (λ (x : Bool). Starts word s x) e S

-- ---- a part that may be missing, and then the text is malformed

absent : {A : Type 0} (o : maybe.Option A) {x : Refusal} → ok_or o TextForm ≡ Err x → (o ≡ maybe.None) × (x ≡ TextForm)
absent maybe.None h = (refl, (cc))
absent (maybe.Some b) h =
    let z : ◌≡◌ {A = ℕ} 0 1 = cc in
    absurd (omega arith)

module _ {A : Type 0} {o : maybe.Option A} {r : Result A Refusal} (e : r ≡ ok_or o TextForm) where
  pub there : {a : A} → r ≡ Ok a → o ≡ maybe.Some a
  there {a} q = go o (sym e ∙ q)
    where
      go : (o : maybe.Option A) → ok_or o TextForm ≡ Ok a → o ≡ maybe.Some a
      go (maybe.Some b) h = cc
      go maybe.None h =
          let z : ◌≡◌ {A = ℕ} 0 1 = cc in
          absurd (omega arith)

  pub missing : {x : Refusal} → r ≡ Err x → o ≡ maybe.None
  missing q = (absent o (sym e ∙ q)).0

pub malformed : {A : Type 0} (o : maybe.Option A) {r : Result A Refusal} → r ≡ ok_or o TextForm → {x : Refusal} → r ≡ Err x
    → {B : Type 0} (t : Result B Refusal) → IsErrAnd t (λ y. y ≡ x) → t ≡ Err TextForm
malformed o e q t h = handed_on t h ∙ ap (λ (y : Refusal). Err y) (absent o (sym e ∙ q)).1

-- ---- numbered

module _ (ds : List ℕ) where
  pub other_length : (length ds ≡ 1 → ⊥) → eqb (length ds) 2 ≡ false → refused_at 11 1 ≡ numbered ds
  other_length a b = rw (ne_eqb _ _ a, b, and_false (all is_digit ds))
    where
      and_false : (x : Bool) → (x && false) ≡ false
      and_false true = refl
      and_false false = refl

  pub other_byte : false ≡ all is_digit ds → refused_at 11 1 ≡ numbered ds
  other_byte h = rw (sym h)

  module _ (few : (eqb (length ds) 1 || eqb (length ds) 2) ≡ true) (digits : true ≡ all is_digit ds) where
    pub is_seven : true ≡ same ds (text "7") → is 7 ≡ numbered ds
    is_seven h = rw (sym digits, few, sym h)

    module _ (other : false ≡ same ds (text "7")) where
      pub is_ten : true ≡ same ds (text "10") → is 10 ≡ numbered ds
      is_ten h = rw (sym digits, few, sym other, sym h)

      pub is_neither : false ≡ same ds (text "10") → refused_at 1 1 ≡ numbered ds
      is_neither h = rw (sym digits, few, sym other, sym h)

-- ---- config_line

module _ (s : List ℕ) where
  pub bare : true ≡ same s (text "config") → is bare_config ≡ config_line s
  unfolding config_line
  bare h = rw (sym h)

  module _ (more : false ≡ same s (text "config")) {b : Bool} (S : Starts (text "config ") s b) where
    pub no_config : b ≡ false → refused_at 11 1 ≡ config_line s
    unfolding config_line
    no_config e = rw (sym more, differs (text "config ") s S e)

    pub config_long : b ≡ true → 7 ≤ length s
    config_long e = (starts (text "config ") s S e).0

    pub config_told_lem : b ≡ true → {x : Judged ℕ} → x ≡ numbered (take (length s - 7) (drop 7 s)) → x ≡ config_line s
    unfolding config_line
    config_told_lem e h = rw (sym more, (starts (text "config ") s S e).1) (h ∙ ap numbered (rest 7 s))

-- ---- judged_mask

module _ (mask size : ℕ) {j : Result ⊤ Refusal} (f : j ≡ mask_of mask size) where
  pub mask_taken : j ≡ passing → is (record { mask = mask; size = size }) ≡ judged_mask mask size
  mask_taken q = rw (mask_told_lem mask size (sym f ∙ q)).0

  pub mask_not : {x : Refusal} → j ≡ Err x → refused_at (number_of x) 2 ≡ judged_mask mask size
  mask_not {x} q =
      let r = mask_refused mask size x (sym f ∙ q) in
      ap (λ (n : ℕ). refused_at n 2) (ap number_of r.2 ∙ refusal_numbered (is_mask mask size) r.1)
      ∙ ap (λ (v : Verdict). unless_refused v 2 (record { mask = mask; size = size })) (sym r.1)

-- ---- two_decimals

number_none : (o : Option ℕ) → number_in o ≡ maybe.None → o ≡ none
number_none none e = refl
number_none (some n) e =
    let z : ◌≡◌ {A = ℕ} 0 1 = cc in
    absurd (omega arith)

number_some : (o : Option ℕ) (n : ℕ) → number_in o ≡ maybe.Some n → o ≡ some n
number_some none n e =
    let z : ◌≡◌ {A = ℕ} 0 1 = cc in
    absurd (omega arith)
number_some (some k) n e = cc

module _ (s : List ℕ) {f : maybe.Option ℕ} (F : Finds space s f) where
  pub no_space : f ≡ maybe.None → refused_at 11 2 ≡ two_decimals (cut_at space s)
  no_space e = rw (subst (λ (x : maybe.Option ℕ). Finds space s x) e F)

  module _ {i : ℕ} (e : f ≡ maybe.Some i) where
    found_at : (i < length s) × (cut_at space s ≡ cut (take i s) (drop (suc i) s))
    found_at = subst (λ (x : maybe.Option ℕ). Finds space s x) e F

    pub before_end : i < length s
    before_end = found_at.0

    module _ {d : maybe.Option ℕ} (D : d ≡ number_in (decimal (take i s))) where
      pub no_mask : d ≡ maybe.None → refused_at 11 2 ≡ two_decimals (cut_at space s)
      no_mask q = rw (found_at.1, number_none (decimal (take i s)) (sym D ∙ q))

      module _ {mask : ℕ} (q : d ≡ maybe.Some mask) {g : maybe.Option ℕ}
          (G : g ≡ number_in (decimal (take (length s - (i + 1)) (drop (i + 1) s)))) where
        size_told : g ≡ number_in (decimal (drop (suc i) s))
        size_told = G ∙ ap (λ (l : List ℕ). number_in (decimal l)) (rest (i + 1) s ∙ ap (λ (k : ℕ). drop k s) (add-one i))

        pub no_size : g ≡ maybe.None → refused_at 11 2 ≡ two_decimals (cut_at space s)
        no_size p =
            rw (found_at.1, number_some (decimal (take i s)) mask (sym D ∙ q), number_none (decimal (drop (suc i) s)) (sym size_told ∙ p))

        pub two_told : {size : ℕ} → g ≡ maybe.Some size → {x : Judged Text-as-Mask} → x ≡ judged_mask mask size → x ≡ two_decimals (cut_at space s)
        two_told {size} p h =
            rw (
              found_at.1,
              number_some (decimal (take i s)) mask (sym D ∙ q),
              number_some (decimal (drop (suc i) s)) size (sym size_told ∙ p),
            ) h

-- ---- mask_line

module _ (s : List ℕ) {b : Bool} (S : Starts (text "mask ") s b) where
  pub no_word : b ≡ false → refused_at 11 2 ≡ mask_line s
  unfolding mask_line
  no_word e = rw (differs (text "mask ") s S e)

  pub mask_long : b ≡ true → 5 ≤ length s
  mask_long e = (starts (text "mask ") s S e).0

  pub mask_line_told : b ≡ true → {x : Judged Text-as-Mask} → x ≡ two_decimals (cut_at space (take (length s - 5) (drop 5 s))) → x ≡ mask_line s
  unfolding mask_line
  mask_line_told e h = rw (starts (text "mask ") s S e).1 (h ∙ ap (λ (l : List ℕ). two_decimals (cut_at space l)) (rest 5 s))

-- ---- row_line

module _ (s to : List ℕ) {h : maybe.Option ℕ} (H : Hexed s h to) where
  hexed : {k : ℕ} → h ≡ maybe.Some k → (k ≤ length to) × (from_hex s ≡ some (take k to))
  hexed e = subst (λ (x : maybe.Option ℕ). Hexed s x to) e H

  pub row_in : {k : ℕ} → h ≡ maybe.Some k → k ≤ length to
  row_in e = (hexed e).0

  module _ (n : ℕ) (top bits : List ℕ) where
    pub no_hex : h ≡ maybe.None → {r : Result Filter Refusal} → r ≡ Err TextForm → ReadsLine n s top bits r top bits
    no_hex e q =
        makes_refused (line_verdict (config_at n) (from_hex s)) (config_at n) (shown_row (config_at n) (bytes_in (from_hex s))) top bits
        TextForm (because text_form) q
        (ap (line_verdict (config_at n)) (subst (λ (x : maybe.Option ℕ). Hexed s x to) e H)) refl

    -- with areas lent, reading judges by the row alone
    pub row_told : {k : ℕ} → h ≡ maybe.Some k → verdict (areas_lent n (length top) (length bits)) ≡ taken → {r : Result Filter Refusal} {top' bits' : List ℕ}
        → Reads n (take k to) top bits r top' bits' → ReadsLine n s top bits r top' bits'
    unfolding read_verdict
    row_told {k} e a {r} {top'} {bits'} R =
        subst (λ (o : Option (List ℕ)). Makes (line_verdict (config_at n) o) (config_at n)
        (shown_row (config_at n) (bytes_in o)) top bits r top' bits') (sym (hexed e).1)
        (subst (λ (v : Verdict). Makes v (config_at n) (shown_row (config_at n) (take k to)) top bits r top' bits')
        (after_taken (areas_lent n (length top) (length bits)) (is_row_of (config_at n) (take k to)) a) R)
