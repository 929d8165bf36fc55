-- How many elements of a list pass a test.
use Rattle.std.proofs.Common.{◌≡◌, ℕ, ◌+◌, ◌<◌, ◌≤◌, Bool, true, false, List, [], ◌∷◌, ◌++◌, length, get_or, take, drop, ap, ◌∙◌, arith}
use Rattle.std.proofs.lemmas.List.{take_more, take-append-drop}
use Rattle.model.specs.Words.{mark, tally}

module _ {X : Type 0} (f : X → Bool) where
  pub tally_append : (xs ys : List X) → tally f (xs ++ ys) ≡ tally f xs + tally f ys
  tally_append [] ys = omega arith
  tally_append (x ∷ xs) ys = let e = tally_append xs ys in omega arith

  pub tally_more : (xs : List X) (i : ℕ) (d : X) → i < length xs → tally f (take (i + 1) xs) ≡ tally f (take i xs) + mark (f (get_or xs i d))
  tally_more xs i d l = ap (tally f) (take_more xs i d l) ∙ tally_append (take i xs) (get_or xs i d ∷ []) ∙ omega arith

  pub tally_take : (xs : List X) (i : ℕ) → tally f (take i xs) ≤ tally f xs
  tally_take xs i = let e = tally_append (take i xs) (drop i xs) in let w = ap (tally f) (take-append-drop i xs) in omega arith

  -- one that passes is one of them all
  pub tally_below : (xs : List X) (i : ℕ) (d : X) → i < length xs → f (get_or xs i d) ≡ true → tally f (take i xs) < tally f xs
  tally_below xs i d l e =
      let m = tally_more xs i d l in
      let o = ap mark e in
      let t = tally_take xs (i + 1) in
      omega arith

  pub tally_all : (xs : List X) → tally f xs ≤ length xs
  tally_all [] = omega arith
  tally_all (x ∷ xs) = let r = tally_all xs in let m = one (f x) in omega arith
    where
      one : (b : Bool) → mark b ≤ 1
      one true = omega arith
      one false = omega arith
