-- Exclusive or of g bits meets the laws.
use Rattle.std.specs.Prelude.{◌≡◌, ℕ, zero, suc, ◌+◌, ◌/◌, ◌%◌, ◌^◌, ◌<◌, ◌≤◌, List, ◌≢◌, bit_and, bit_xor, slice_index, refl}
use Rattle.std.proofs.Common.{sym, ap, ap₂, ◌∙◌, mod-lt, add-one, arith, pow_pos, pow_mono}
use Rattle.std.proofs.lemmas.Nat.{and_mask, xor_lt, xor_comm, xor_shr, xor_mod}
use Rattle.std.specs.Int.Bits.{xor_assoc, xor_self, xor_zero_r}
use Rattle.groups.specs.Group.{Laws, Codes}
use Rattle.groups.specs.Bitwise.{xor_group, picked, if_set}
use Rattle.groups.specs.Abelian as ab
use Rattle.groups.specs.Abelian.{Abelian}
use Rattle.groups.specs.Kept.{codes_read}

abbrev xors : Abelian ℕ
xors = record { plus = bit_xor; neg = λ a. a; nought = 0; assoc = xor_assoc; comm = xor_comm; zero = xor_zero_r; inverse = xor_self }

-- one digit of a sum picks an image as the two digits do
if_set_xor : (x y v : ℕ) → x < 2 → y < 2 → if_set (bit_xor x y) v ≡ bit_xor (if_set x v) (if_set y v)
if_set_xor zero y v hx hy = refl
if_set_xor (suc zero) zero v hx hy = sym (xor_zero_r v)
if_set_xor (suc zero) (suc zero) v hx hy = sym (xor_self v)
if_set_xor (suc zero) (suc (suc y)) v hx hy = absurd (omega arith)
if_set_xor (suc (suc x)) y v hx hy = absurd (omega arith)

digit_xor : (a b n : ℕ) → bit_xor a b / 2 ^ n % 2 ≡ bit_xor (a / 2 ^ n % 2) (b / 2 ^ n % 2)
digit_xor a b n = ap (λ x. x % 2) (xor_shr a b n) ∙ xor_mod (a / 2 ^ n) (b / 2 ^ n) 1

picked_xor : (n : ℕ) (row : List ℕ) (a b : ℕ) → picked n row (bit_xor a b) ≡ bit_xor (picked n row a) (picked n row b)
picked_xor zero row a b = refl
picked_xor (suc n) row a b =
    let x = a / 2 ^ n % 2 in
    let y = b / 2 ^ n % 2 in
    let v = slice_index row n in
    ap₂ bit_xor (picked_xor n row a b) (ap (λ d. if_set d v) (digit_xor a b n) ∙ if_set_xor x y v (mod-lt (a / 2 ^ n) (omega arith)) (mod-lt (b / 2 ^ n) (omega arith)))
    ∙ ab.swap xors (picked n row a) (picked n row b) (if_set x v) (if_set y v)

if_set_code : (g d v : ℕ) → v < 2 ^ g → if_set d v < 2 ^ g
if_set_code g zero v h = pow_pos g
if_set_code g (suc d) v h = h

picked_code : (g n : ℕ) (row : List ℕ) (a : ℕ) → Codes (xor_group g) row → picked n row a < 2 ^ g
picked_code g zero row a h = pow_pos g
picked_code g (suc n) row a h =
    xor_lt g (picked n row a) (if_set (a / 2 ^ n % 2) (slice_index row n)) (picked_code g n row a h) (if_set_code g (a / 2 ^ n % 2) (slice_index row n) (codes_read (xor_group g) (pow_pos g) row h n))

pub xor_laws : (g : ℕ) → (1 ≤ g) × (g ≤ 8) → Laws (xor_group g)
xor_laws g ok = record {
  size_low = pow_mono {i = 1} {j = g} ok.0;
  size_high = pow_mono {i = g} {j = 8} ok.1;
  gens_low = ok.0;
  gens_high = omega arith;
  add_code = xor_lt g;
  neg_code = λ a h. h;
  assoc = λ a b c _ _ _. xor_assoc a b c;
  comm = λ a b _ _. xor_comm a b;
  zero_right = λ a _. xor_zero_r a;
  neg_right = λ a _. xor_self a;
  image_code = λ row a h _. picked_code g g row a h;
  image_add = λ row a b _ _ _. picked_xor g row a b;
}

-- one turn of the loop over the bits: the bit at n is set, or it is not
module _ (row : List ℕ) (a n : ℕ) where
  bit_at : bit_and (a / 2 ^ n) 1 ≡ a / 2 ^ n % 2
  bit_at = and_mask (a / 2 ^ n) 1

  pub picked_set : bit_and (a / 2 ^ n) 1 ≡ 1 → bit_xor (picked n row a) (slice_index row n) ≡ picked (n + 1) row a
  picked_set e = rw add-one (ap (λ d. bit_xor (picked n row a) (if_set d (slice_index row n))) (sym e ∙ bit_at))

  pub picked_clear : bit_and (a / 2 ^ n) 1 ≢ 1 → picked n row a ≡ picked (n + 1) row a
  picked_clear no_bit =
      let clear : a / 2 ^ n % 2 ≡ 0 = omega (arith, bit_at, mod-lt (a / 2 ^ n) {m = 2} (omega arith)) in
      rw add-one (sym (ap (λ d. bit_xor (picked n row a) (if_set d (slice_index row n))) clear ∙ xor_zero_r (picked n row a)))
