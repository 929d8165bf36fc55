-- Lists in lent places.
use Rattle.std.specs.Prelude.{◌≡◌, ℕ, ◌+◌, List, ◌++◌, length, take, drop}

-- the list in the first n places of `was` became the list in the first m places of `is`, with the elements xs more at its end
pub record Extends {T : Type 0} (was : List T) (n : ℕ) (is : List T) (m : ℕ) (xs : List T) : Type 0 where
  pub len : m ≡ n + length xs
  pub items : take m is ≡ take n was ++ xs
  pub spare : drop m is ≡ drop m was
  pub width : length is ≡ length was
