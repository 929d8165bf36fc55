-- The powers of two up to 256, tested number by number.
use Rattle.std.proofs.Common.{◌≡◌, ℕ, zero, suc, ◌^◌, ◌<◌, ◌≤◌, Bool, true, false, cond, not, ◌&&◌, eqb, leb, ⊎_elim, refl, sym, ap, ◌∙◌, subst, arith}
use Rattle.std.proofs.lemmas.Bool.{and_parts, cases_eq, leb-true, eqb-true, le-leb}
use Rattle.std.specs.Int.{is_power_of_two}
use Rattle.std.specs.Int.Count.{count_trailing_zeros}
use Rattle.groups.specs.Bitwise.{xor_size}

every : (ℕ → Bool) → ℕ → Bool
every f zero = true
every f (suc n) = f n && every f n

every_at : (f : ℕ → Bool) (n k : ℕ) → every f n ≡ true → k < n → f k ≡ true
unfolding every
every_at f zero k e h = absurd (omega arith)
every_at f (suc n) k e h =
    let p = and_parts (f n) (every f n) e in
    ⊎_elim (λ (same : k ≡ n). ap f same ∙ p.0) (λ (other : k ≡ n → ⊥). every_at f n k p.1 (omega (arith, other))) (cases_eq k n)

abbrev exponent : ℕ → ℕ
exponent n = count_trailing_zeros 32 n

-- a power of two has an exponent from 1 to 8 and is one of the eight sizes; another number is none
abbrev agrees : ℕ → Bool
agrees n =
    cond (leb 2 n) (cond (is_power_of_two n) (xor_size n && (eqb (2 ^ exponent n) n && (leb 1 (exponent n) && leb (exponent n) 8))) (not (xor_size n))) true

all_agree : every agrees 257 ≡ true
unfolding every lib.Count.ones count_trailing_zeros
all_agree = refl

turned : (b : Bool) → not b ≡ true → b ≡ false
turned true e = sym e
turned false e = refl

module _ (n : ℕ) (low : 2 ≤ n) (high : n ≤ 256) where
  here : cond (is_power_of_two n) (xor_size n && (eqb (2 ^ exponent n) n && (leb 1 (exponent n) && leb (exponent n) 8))) (not (xor_size n)) ≡ true
  here =
      let a = every_at agrees 257 n all_agree (omega arith) in
      subst (λ b. cond b (cond (is_power_of_two n) (xor_size n && (eqb (2 ^ exponent n) n && (leb 1 (exponent n) && leb (exponent n) 8))) (not (xor_size n))) true ≡ true) (le-leb 2 n low) a

  pub power : is_power_of_two n ≡ true → (xor_size n ≡ true) × (2 ^ count_trailing_zeros 32 n ≡ n) × (1 ≤ count_trailing_zeros 32 n) × (count_trailing_zeros 32 n ≤ 8)
  power is =
      let a = subst (λ b. cond b (xor_size n && (eqb (2 ^ exponent n) n && (leb 1 (exponent n) && leb (exponent n) 8))) (not (xor_size n)) ≡ true) is here in
      let p = and_parts (xor_size n) _ a in
      let q = and_parts (eqb (2 ^ exponent n) n) _ p.1 in
      let r = and_parts (leb 1 (exponent n)) (leb (exponent n) 8) q.1 in
      (p.0, eqb-true (2 ^ exponent n) n q.0, leb-true 1 (exponent n) r.0, leb-true (exponent n) 8 r.1)

  pub no_power : is_power_of_two n ≡ false → xor_size n ≡ false
  no_power is =
      let a = subst (λ b. cond b (xor_size n && (eqb (2 ^ exponent n) n && (leb 1 (exponent n) && leb (exponent n) 8))) (not (xor_size n)) ≡ true) is here in
      turned (xor_size n) a
