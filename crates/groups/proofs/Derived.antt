-- The codes of a group with its laws are a commutative group, so what holds of those holds of codes.
use Rattle.std.proofs.Common.{◌≡◌, ℕ, suc, ◌<◌, List, ap, arith}
use mathlib.Core.HLevel.{Σ_prop_path}
use native.Mathlib.Bridge.{le_prop}
use Rattle.groups.specs.Group.{Group, Laws, Codes}
use Rattle.groups.specs.Algebra.{Algebra}
use Rattle.groups.specs.Abelian as ab
use Rattle.groups.specs.Abelian.{Abelian}

abbrev pub Below : ℕ → Type 0
Below q = (n : ℕ) × (n < q)

module _ {q : ℕ} where
  pub same_code : (a b : Below q) → a.0 ≡ b.0 → a ≡ b
  same_code a b e = Σ_prop_path (λ (k : ℕ). le_prop {n = suc k} {m = q}) {u = a} {v = b} e

  pub same_number : {a b : Below q} → a ≡ b → a.0 ≡ b.0
  same_number e = ap (λ (c : Below q). c.0) e

module _ {G : Group} (L : Laws G) where
  abbrev pub abelian : Abelian (Below G.size)
  abelian =
      record {
        plus = λ a b. (G.add a.0 b.0, L.add_code a.0 b.0 a.1 b.1);
        neg = λ a. (G.neg a.0, L.neg_code a.0 a.1);
        nought = (0, omega (arith, L.size_low));
        assoc = λ a b c. same_code _ _ (L.assoc a.0 b.0 c.0 a.1 b.1 c.1);
        comm = λ a b. same_code _ _ (L.comm a.0 b.0 a.1 b.1);
        zero = λ a. same_code _ _ (L.zero_right a.0 a.1);
        inverse = λ a. same_code _ _ (L.neg_right a.0 a.1);
      }

  -- the map of a row
  module _ (row : List ℕ) (h : Codes G row) where
    abbrev pub mapped : Below G.size → Below G.size
    mapped a = (G.image row a.0, L.image_code row a.0 h a.1)

    pub mapped_sums : (a b : Below G.size) → mapped (abelian.plus a b) ≡ abelian.plus (mapped a) (mapped b)
    mapped_sums a b = same_code _ _ (L.image_add row a.0 b.0 h a.1 b.1)

  pub algebra : Algebra G
  algebra =
      record {
        zero_code = abelian.nought.1;
        sub_code = λ a b ha hb. L.add_code a (G.neg b) ha (L.neg_code b hb);
        zero_left = λ a ha. same_number (ab.zero_left abelian (a, ha));
        neg_left = λ a ha. same_number (ab.neg_left abelian (a, ha));
        swap = λ a b c d ha hb hc hd. same_number (ab.swap abelian (a, ha) (b, hb) (c, hc) (d, hd));
        cancel_left = λ a b c ha hb hc e. same_number (ab.cancel_left abelian (a, ha) (b, hb) (c, hc) (same_code _ _ e));
        cancel_right = λ a b c ha hb hc e. same_number (ab.cancel_right abelian (a, ha) (b, hb) (c, hc) (same_code _ _ e));
        neg_zero = same_number (ab.neg_zero abelian);
        neg_neg = λ a ha. same_number (ab.neg_neg abelian (a, ha));
        neg_add = λ a b ha hb. same_number (ab.neg_add abelian (a, ha) (b, hb));
        neg_unique = λ a b ha hb e. same_number (ab.neg_unique abelian (a, ha) (b, hb) (same_code _ _ e));
        sub_zero = λ a ha. same_number (ab.sub_zero abelian (a, ha));
        sub_self = L.neg_right;
        sub_same = λ a b ha hb e. same_number (ab.sub_same abelian (a, ha) (b, hb) (same_code _ _ e));
        add_sub = λ a b ha hb. same_number (ab.add_sub abelian (a, ha) (b, hb));
        sub_add = λ a b ha hb. same_number (ab.sub_add abelian (a, ha) (b, hb));
        sub_sum = λ a b c d ha hb hc hd. same_number (ab.sub_sum abelian (a, ha) (b, hb) (c, hc) (d, hd));
        sub_add_sub = λ a b c ha hb hc. same_number (ab.sub_add_sub abelian (a, ha) (b, hb) (c, hc));
        image_zero = λ row h. same_number (ab.map_zero abelian (mapped row h) (mapped_sums row h));
        image_neg = λ row a h ha. same_number (ab.map_neg abelian (mapped row h) (mapped_sums row h) (a, ha));
        image_sub = λ row a b h ha hb. same_number (ab.map_sub abelian (mapped row h) (mapped_sums row h) (a, ha) (b, hb));
      }
