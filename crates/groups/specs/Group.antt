-- What a mask group is. Its codes are the numbers below `size`.
--
-- Open: on numbers that are no codes. The laws say nothing there. The code answers on every byte what these functions
-- say, so equal bytes get equal answers, and those are bytes.
use Rattle.std.specs.Prelude.{◌≡◌, ℕ, ◌^◌, ◌<◌, ◌≤◌, List, length, slice_index}

-- `image row a` is where the map that takes the `gens` generators, in their order, to the codes of `row` takes `a`
pub record Group : Type 0 where
  pub size : ℕ
  pub gens : ℕ
  pub add : ℕ → ℕ → ℕ
  pub neg : ℕ → ℕ
  pub image : List ℕ → ℕ → ℕ

-- each number of the list is a code
abbrev pub Codes : Group → List ℕ → Type 0
Codes G xs = (k : ℕ) → k < length xs → slice_index xs k < G.size

-- a minus b
abbrev pub sub : Group → ℕ → ℕ → ℕ
sub G a b = G.add a (G.neg b)

-- the codes are a commutative group with 0 as its zero, and a row of codes gives a map on codes that keeps sums
pub record Laws (G : Group) : Type 0 where
  pub size_low : 2 ≤ G.size
  pub size_high : G.size ≤ 256
  pub gens_low : 1 ≤ G.gens
  pub gens_high : 2 ^ G.gens ≤ G.size
  pub add_code : (a b : ℕ) → a < G.size → b < G.size → G.add a b < G.size
  pub neg_code : (a : ℕ) → a < G.size → G.neg a < G.size
  pub assoc : (a b c : ℕ) → a < G.size → b < G.size → c < G.size → G.add (G.add a b) c ≡ G.add a (G.add b c)
  pub comm : (a b : ℕ) → a < G.size → b < G.size → G.add a b ≡ G.add b a
  pub zero_right : (a : ℕ) → a < G.size → G.add a 0 ≡ a
  pub neg_right : (a : ℕ) → a < G.size → G.add a (G.neg a) ≡ 0
  pub image_code : (row : List ℕ) (a : ℕ) → Codes G row → a < G.size → G.image row a < G.size
  pub image_add : (row : List ℕ) (a b : ℕ) → Codes G row → a < G.size → b < G.size → G.image row (G.add a b) ≡ G.add (G.image row a) (G.image row b)
