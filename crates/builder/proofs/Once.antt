-- Two outcomes that a promise of a call on a builder allows coincide; of a push that is taken, their sets do. Assumes nothing.
use mathlib.Core.Path.{◌≡◌, sym, ◌∙◌}
use mathlib.Core.List.{List}
use Prim.Native.Nat.{ℕ, ◌*◌}
use lib.ListN.{length, drop}
use Rattle.sets.specs.Sets.{Agree}
use Rattle.sets.specs.Configurations.{W, blocks}
use Rattle.sets.specs.Refusals.{Verdict, taken, refused}
use Rattle.diff_count.proofs.Theorems.{makes_once}
use Rattle.builder.specs.Calls.{News, PushOutcome, Pushes, Finishes, config_of, push_verdict, raised, set_of}
use Rattle.builder.specs.declared.Builder.{Builder}
use Rattle.sizes.specs.declared.Refusal.{Refusal}
use Rattle.diff_count.specs.declared.Filter.{Filter}
use Rattle.std.specs.Prelude.{Result, Ok}

pub new_once : {n split : ℕ} {pending bits : List ℕ} {r r' : Result Builder Refusal} {p p' q q' : List ℕ} → News n split pending bits r p q
    → News n split pending bits r' p' q'
    → (r ≡ r') × (p ≡ p') × (q ≡ q')
new_once x y = (x.answers ∙ sym y.answers, x.cells ∙ sym y.cells, x.blocks ∙ sym y.blocks)

pub raise_once : (b : Builder) (pending bits : List ℕ) (split : ℕ) {r r' : Result Builder Refusal} → r ≡ raised b pending bits split
    → r' ≡ raised b pending bits split → r ≡ r'
raise_once b pending bits split x y = x ∙ sym y

pub finish_once : (b : Builder) (pending bits top blocks : List ℕ) {r r' : Result Filter Refusal} {t t' q q' : List ℕ}
    → Finishes b pending bits top blocks r t q → Finishes b pending bits top blocks r' t' q' → (r ≡ r') × (t ≡ t') × (q ≡ q')
finish_once b pending bits top blocks x y = makes_once x y

-- ---- push

-- what two pushes leave that were taken: builders of one configuration that hold the same buckets, with the same cells past their areas
pub record SameSet (b x : Builder) (p q : List ℕ) (y : Builder) (p' q' : List ℕ) : Type 0 where
  pub configs : x.config ≡ y.config
  pub sets : Agree (W (config_of b)) (set_of x p q) (set_of y p' q')
  pub pending_rest : drop (2 * (config_of b).M) p ≡ drop (2 * (config_of b).M) p'
  pub bit_rest : drop (blocks (config_of b)) q ≡ drop (blocks (config_of b)) q'
  pub pending_length : length p ≡ length p'
  pub bit_length : length q ≡ length q'

-- a refusal leaves nothing open
abbrev pub Alike : Verdict → Builder → Result Builder Refusal → List ℕ → List ℕ → Result Builder Refusal → List ℕ → List ℕ → Type 0
Alike taken b r p q r' p' q' = (x : Builder) × (y : Builder) × (r ≡ Ok x) × (r' ≡ Ok y) × SameSet b x p q y p' q'
Alike (refused k) b r p q r' p' q' = (r ≡ r') × (p ≡ p') × (q ≡ q')

pub push_once : (b : Builder) (pending bits list : List ℕ) (r r' : Result Builder Refusal) (p p' q q' : List ℕ) → Pushes b pending bits list r p q
    → Pushes b pending bits list r' p' q'
    → Alike (push_verdict b pending bits list) b r p q r' p' q'
push_once b pending bits list r r' p p' q q' x y = go (push_verdict b pending bits list) x y
  where
    go : (v : Verdict) → PushOutcome v b pending bits list r p q → PushOutcome v b pending bits list r' p' q' → Alike v b r p q r' p' q'
    go taken x y =
        let X = x.2 in
        let Y = y.2 in (
          x.0,
          y.0,
          x.1,
          y.1,
          record {
            configs = X.config_is ∙ sym Y.config_is;
            sets = λ i h. X.sets i h ∙ sym (Y.sets i h);
            pending_rest = X.pending_rest ∙ sym Y.pending_rest;
            bit_rest = X.bit_rest ∙ sym Y.bit_rest;
            pending_length = X.pending_length ∙ sym Y.pending_length;
            bit_length = X.bit_length ∙ sym Y.bit_length;
          },
        )
    go (refused k) x y = (x.0 ∙ sym y.0, x.1 ∙ sym y.1, x.2 ∙ sym y.2)
