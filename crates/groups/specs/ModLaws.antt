-- Addition modulo q meets the laws.
use Rattle.std.specs.Prelude.{◌≡◌, ℕ, ◌+◌, ◌-◌, ◌*◌, ◌/◌, ◌%◌, ◌<◌, ◌≤◌, slice_index}
use Rattle.std.proofs.Common.{sym, ap, ◌∙◌, add_comm, add_assoc, add-zero, mul-add, mul_assoc, mod-lt, mod-eq_of_lt, add-sub_of_le, le_of_lt, arith}
use Rattle.std.proofs.Math.Nat.{mod_self, mod-add-mod, add-mod-mod, add-mod, add-mul-mod_self_right, mod-add-div'}
use Rattle.groups.specs.Group.{Laws}
use Rattle.groups.specs.Modular.{mod_group}

-- a factor may be reduced first
mul_mod_mod : (r x q : ℕ) → r * (x % q) % q ≡ r * x % q
mul_mod_mod r x q =
    sym (ap (λ y. r * y % q) (sym (mod-add-div' x q)) ∙ ap (λ y. y % q) (mul-add r (x % q) (x / q * q) ∙ ap (λ y. r * (x % q) + y) (sym (mul_assoc r (x / q) q)))
    ∙ add-mul-mod_self_right (r * (x % q)) (r * (x / q)) q)

module _ (q : ℕ) (ok : (2 ≤ q) × (q ≤ 256)) where
  pos : 0 < q
  pos = omega (arith, ok.0)

  neg_right : (a : ℕ) → a < q → (a + (q - a) % q) % q ≡ 0
  neg_right a h = add-mod-mod a (q - a) q ∙ ap (λ x. x % q) (add-sub_of_le (le_of_lt h)) ∙ mod_self q

  image_add : (r a b : ℕ) → r * ((a + b) % q) % q ≡ (r * a % q + r * b % q) % q
  image_add r a b = mul_mod_mod r (a + b) q ∙ ap (λ x. x % q) (mul-add r a b) ∙ add-mod (r * a) (r * b) q

  pub mod_laws : Laws (mod_group q)
  mod_laws = record {
    size_low = ok.0;
    size_high = ok.1;
    gens_low = omega arith;
    gens_high = ok.0;
    add_code = λ a b _ _. mod-lt (a + b) pos;
    neg_code = λ a _. mod-lt (q - a) pos;
    assoc = λ a b c _ _ _. mod-add-mod (a + b) q c ∙ ap (λ x. x % q) (add_assoc a b c) ∙ sym (add-mod-mod a (b + c) q);
    comm = λ a b _ _. ap (λ x. x % q) (add_comm a b);
    zero_right = λ a h. ap (λ x. x % q) (add-zero a) ∙ mod-eq_of_lt h;
    neg_right = neg_right;
    image_code = λ row a _ _. mod-lt (slice_index row 0 * a) pos;
    image_add = λ row a b _ _ _. image_add (slice_index row 0) a b;
  }
