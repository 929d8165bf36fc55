-- What follows for codes from the laws of a group.
use Rattle.std.specs.Prelude.{◌≡◌, ℕ, ◌<◌, List}
use Rattle.groups.specs.Group.{Group, Codes, sub}

-- the rules for 0, negatives, differences and images
pub record Algebra (G : Group) : Type 0 where
  pub zero_code : 0 < G.size
  pub sub_code : (a b : ℕ) → a < G.size → b < G.size → sub G a b < G.size
  pub zero_left : (a : ℕ) → a < G.size → G.add 0 a ≡ a
  pub neg_left : (a : ℕ) → a < G.size → G.add (G.neg a) a ≡ 0
  pub swap : (a b c d : ℕ) → a < G.size → b < G.size → c < G.size → d < G.size → G.add (G.add a b) (G.add c d) ≡ G.add (G.add a c) (G.add b d)
  pub cancel_left : (a b c : ℕ) → a < G.size → b < G.size → c < G.size → G.add c a ≡ G.add c b → a ≡ b
  pub cancel_right : (a b c : ℕ) → a < G.size → b < G.size → c < G.size → G.add a c ≡ G.add b c → a ≡ b
  pub neg_zero : G.neg 0 ≡ 0
  pub neg_neg : (a : ℕ) → a < G.size → G.neg (G.neg a) ≡ a
  pub neg_add : (a b : ℕ) → a < G.size → b < G.size → G.neg (G.add a b) ≡ G.add (G.neg a) (G.neg b)
  pub neg_unique : (a b : ℕ) → a < G.size → b < G.size → G.add a b ≡ 0 → b ≡ G.neg a
  pub sub_zero : (a : ℕ) → a < G.size → sub G a 0 ≡ a
  pub sub_self : (a : ℕ) → a < G.size → sub G a a ≡ 0
  pub sub_same : (a b : ℕ) → a < G.size → b < G.size → sub G a b ≡ 0 → a ≡ b
  pub add_sub : (a b : ℕ) → a < G.size → b < G.size → sub G (G.add a b) b ≡ a
  pub sub_add : (a b : ℕ) → a < G.size → b < G.size → G.add (sub G a b) b ≡ a
  pub sub_sum : (a b c d : ℕ) → a < G.size → b < G.size → c < G.size → d < G.size → sub G (G.add a b) (G.add c d) ≡ G.add (sub G a c) (sub G b d)
  pub sub_add_sub : (a b c : ℕ) → a < G.size → b < G.size → c < G.size → G.add (sub G a b) (sub G b c) ≡ sub G a c
  pub image_zero : (row : List ℕ) → Codes G row → G.image row 0 ≡ 0
  pub image_neg : (row : List ℕ) (a : ℕ) → Codes G row → a < G.size → G.image row (G.neg a) ≡ G.neg (G.image row a)
  pub image_sub : (row : List ℕ) (a b : ℕ) → Codes G row → a < G.size → b < G.size → G.image row (sub G a b) ≡ sub G (G.image row a) (G.image row b)
