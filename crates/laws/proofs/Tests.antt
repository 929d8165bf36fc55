-- Tests that pass, and tests that fail alike. Assumes nothing.
use Rattle.std.proofs.Common.{◌≡◌, ℕ, suc, ◌+◌, Bool, true, false, cond, List, [], ◌∷◌, ◌++◌, Some, None, Option, refl, ap, ◌∙◌, arith}
use Rattle.std.proofs.lemmas.Bool.{lt-ltb}
use Rattle.refusals.specs.declared.Refusal.{Refusal}
use Rattle.model.specs.Words.{Below}
use Rattle.refusals.specs.Tests.{unless, found, before, first}
use Rattle.files.specs.Faults.{beyond}

pub passes : {b : Bool} (r : Refusal) → b ≡ true → unless b r ≡ None
passes r e = ap (λ t. unless t r) e

pub both : {a : Option Refusal} (b : Option Refusal) → a ≡ None → b ≡ None → before a b ≡ None
both b p q = ap (λ t. before t b) p ∙ q

-- numbers below a limit
within : (w o high : ℕ) (xs : List ℕ) → Below high xs → beyond w o high xs ≡ None
within w o high [] h = refl
within w o high (x ∷ xs) h =
    ap (λ t. cond t (beyond w (o + w) high xs) (Some o)) (lt-ltb x high (h 0 (omega arith))) ∙ within w (o + w) high xs (λ k b. h (suc k) (omega arith))

pub none_beyond : (why : ℕ → Refusal) (w o : ℕ) {high limit : ℕ} {xs ys : List ℕ} → high ≡ limit → xs ≡ ys → Below limit ys → found why (beyond w o high xs) ≡ None
none_beyond why w o {limit} {ys} p q h = (λ i. found why (beyond w o (p i) (q i))) ∙ ap (found why) (within w o limit ys h)

-- what refuses nothing has passed, and so has the last of several tests
pub passed : (b : Bool) (r : Refusal) → unless b r ≡ None → b ≡ true
passed true r e = refl
passed false r e = cc

pub last_none : (ts : List (Option Refusal)) (t : Option Refusal) → first (ts ++ t ∷ []) ≡ None → t ≡ None
last_none [] None e = refl
last_none [] (Some r) e = e
last_none (None ∷ ts) t e = last_none ts t e
last_none (Some r ∷ ts) t e = cc

-- what follows a test matters only if it passes
pub before_same : (a b c d : Option Refusal) → a ≡ c → (a ≡ None → b ≡ d) → before a b ≡ before c d
before_same None b c d p q = q refl ∙ ap (λ t. before t d) p
before_same (Some r) b c d p q = ap (λ t. before t d) p
