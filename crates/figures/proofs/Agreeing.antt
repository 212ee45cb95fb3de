-- The figures look at the buckets below W alone. Assumes nothing.
use mathlib.Core.Path.{◌≡◌}
use Prim.Native.Nat.{ℕ}
use Rattle.sets.specs.Sets.{Agree, Set, apart}
use Rattle.sets.specs.Configurations.{W, config_at}
use Rattle.sets.specs.Text.{overlap}
use Rattle.sets.proofs.Keys.{key_same}
use Rattle.sets.proofs.Laws.{apart_agree}
use Rattle.sets.proofs.Order.{order_same}
use Rattle.counts.proofs.Counted.{exact_agree, limited_agree}
use Rattle.figures.specs.Figures.{figures_of, pair_of, single_of}

module _ (n mask size : ℕ) where
  single_agree : (S S' : Set) → Agree (W (config_at n)) S S' → single_of (config_at n) mask size S ≡ single_of (config_at n) mask size S'
  single_agree S S' h =
      let ones = exact_agree n S S' h in
      let limited = limited_agree n S S' h in
      let key = key_same (config_at n) mask size S S' h in
      λ i. record { ones = ones i; limited = limited i; key = key i }

  module _ (S S' T T' : Set) (h : Agree (W (config_at n)) S S') (k : Agree (W (config_at n)) T T') where
    differing : Agree (W (config_at n)) (apart S T) (apart S' T')
    differing = apart_agree S S' T T' h k

    pair_agree : pair_of (config_at n) mask size S T ≡ pair_of (config_at n) mask size S' T'
    pair_agree =
        let difference = exact_agree n (apart S T) (apart S' T') differing in
        let limited = limited_agree n (apart S T) (apart S' T') differing in
        let order = order_same (W (config_at n)) mask size S T S' T' h k in
        λ i. record { difference = difference i; limited = limited i; order = order i }

    pub figures_agree : figures_of (config_at n) mask size S T ≡ figures_of (config_at n) mask size S' T'
    unfolding figures_of
    figures_agree =
        let first = single_agree S S' h in
        let second = single_agree T T' k in
        let between = pair_agree in
        λ i. record {
          config = (config_at n).number;
          first = first i;
          second = second i;
          between = between i;
          overlap = overlap (first i).ones (second i).ones (between i).difference;
        }
