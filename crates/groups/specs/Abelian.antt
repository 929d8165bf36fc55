-- Commutative groups on a type, with laws that ask for nothing, and what follows from them.
use Rattle.std.specs.Prelude.{◌≡◌}
use Rattle.std.proofs.Common.{sym, ap, ◌∙◌}

pub record Abelian (A : Type 0) : Type 0 where
  pub plus : A → A → A
  pub neg : A → A
  pub nought : A
  pub assoc : (a b c : A) → plus (plus a b) c ≡ plus a (plus b c)
  pub comm : (a b : A) → plus a b ≡ plus b a
  pub zero : (a : A) → plus a nought ≡ a
  pub inverse : (a : A) → plus a (neg a) ≡ nought

module _ {A : Type 0} (S : Abelian A) where
  open S use {plus as ◌⊕◌, neg, nought as o, assoc, comm, zero, inverse}

  infixl 60 ◌⊕◌
  pub left_comm : (a b c : A) → a ⊕ (b ⊕ c) ≡ b ⊕ (a ⊕ c)
  left_comm a b c = sym (assoc a b c) ∙ ap (λ x. x ⊕ c) (comm a b) ∙ assoc b a c

  pub swap : (a b c d : A) → (a ⊕ b) ⊕ (c ⊕ d) ≡ (a ⊕ c) ⊕ (b ⊕ d)
  swap a b c d = simp (assoc, left_comm)

  pub zero_left : (a : A) → o ⊕ a ≡ a
  zero_left a = comm o a ∙ zero a

  pub neg_left : (a : A) → neg a ⊕ a ≡ o
  neg_left a = comm (neg a) a ∙ inverse a

  undo : (c a : A) → neg c ⊕ (c ⊕ a) ≡ a
  undo c a = sym (assoc (neg c) c a) ∙ ap (λ x. x ⊕ a) (neg_left c) ∙ zero_left a

  pub cancel_left : (a b c : A) → c ⊕ a ≡ c ⊕ b → a ≡ b
  cancel_left a b c e = sym (undo c a) ∙ ap (λ x. neg c ⊕ x) e ∙ undo c b

  pub cancel_right : (a b c : A) → a ⊕ c ≡ b ⊕ c → a ≡ b
  cancel_right a b c e = cancel_left a b c (comm c a ∙ e ∙ comm b c)

  pub neg_unique : (a b : A) → a ⊕ b ≡ o → b ≡ neg a
  neg_unique a b e = cancel_left b (neg a) a (e ∙ sym (inverse a))

  pub neg_zero : neg o ≡ o
  neg_zero = sym (zero_left (neg o)) ∙ inverse o

  pub neg_neg : (a : A) → neg (neg a) ≡ a
  neg_neg a = sym (neg_unique (neg a) a (neg_left a))

  pub neg_add : (a b : A) → neg (a ⊕ b) ≡ neg a ⊕ neg b
  neg_add a b =
      sym (neg_unique (a ⊕ b) (neg a ⊕ neg b) (swap a b (neg a) (neg b) ∙ ap (λ x. x ⊕ (b ⊕ neg b)) (inverse a) ∙ zero_left (b ⊕ neg b) ∙ inverse b))

  pub sub_zero : (a : A) → a ⊕ neg o ≡ a
  sub_zero a = ap (λ x. a ⊕ x) neg_zero ∙ zero a

  pub sub_same : (a b : A) → a ⊕ neg b ≡ o → a ≡ b
  sub_same a b e = cancel_right a b (neg b) (e ∙ sym (inverse b))

  pub add_sub : (a b : A) → (a ⊕ b) ⊕ neg b ≡ a
  add_sub a b = assoc a b (neg b) ∙ ap (λ x. a ⊕ x) (inverse b) ∙ zero a

  pub sub_add : (a b : A) → (a ⊕ neg b) ⊕ b ≡ a
  sub_add a b = assoc a (neg b) b ∙ ap (λ x. a ⊕ x) (neg_left b) ∙ zero a

  pub sub_sum : (a b c d : A) → (a ⊕ b) ⊕ neg (c ⊕ d) ≡ (a ⊕ neg c) ⊕ (b ⊕ neg d)
  sub_sum a b c d = ap (λ x. (a ⊕ b) ⊕ x) (neg_add c d) ∙ swap a b (neg c) (neg d)

  pub sub_add_sub : (a b c : A) → (a ⊕ neg b) ⊕ (b ⊕ neg c) ≡ a ⊕ neg c
  sub_add_sub a b c = sym (assoc (a ⊕ neg b) b (neg c)) ∙ ap (λ x. x ⊕ neg c) (sub_add a b)

  -- a map that keeps sums
  module _ (f : A → A) (sums : (a b : A) → f (a ⊕ b) ≡ f a ⊕ f b) where
    pub map_zero : f o ≡ o
    map_zero = cancel_left (f o) o (f o) (sym (sums o o) ∙ ap f (zero o) ∙ sym (zero (f o)))

    pub map_neg : (a : A) → f (neg a) ≡ neg (f a)
    map_neg a = neg_unique (f a) (f (neg a)) (sym (sums a (neg a)) ∙ ap f (inverse a) ∙ map_zero)

    pub map_sub : (a b : A) → f (a ⊕ neg b) ≡ f a ⊕ neg (f b)
    map_sub a b = sums a (neg b) ∙ ap (λ x. f a ⊕ x) (map_neg b)
