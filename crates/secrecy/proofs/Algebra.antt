-- More that follows for codes from the laws of a group: how masks, clear values and their differences go together.
use Rattle.std.proofs.Common.{◌≡◌, ℕ, ◌<◌, List, sym, ap, ◌∙◌}
use Rattle.groups.specs.Group.{Group, Laws, Codes, sub}
use Rattle.groups.specs.Abelian as ab
use Rattle.groups.specs.Abelian.{Abelian}
use Rattle.groups.proofs.Derived.{algebra, abelian, same_code, same_number, mapped, mapped_sums}

abbrev pub Code : Group → ℕ → Type 0
Code G a = a < G.size

module _ {A : Type 0} (S : Abelian A) where
  open S use {plus as ◌⊕◌, neg, nought as o, assoc, comm, zero, inverse}

  infixl 60 ◌⊕◌
  left_comm : (a b c : A) → a ⊕ (b ⊕ c) ≡ b ⊕ (a ⊕ c)
  left_comm a b c = ab.left_comm S a b c

  cancel : (y r : A) → y ⊕ (neg y ⊕ r) ≡ r
  cancel y r = sym (assoc y (neg y) r) ∙ ap (λ x. x ⊕ r) (inverse y) ∙ ab.zero_left S r

  same_masked' : (m x y : A) → y ⊕ (m ⊕ (x ⊕ neg y)) ≡ x ⊕ m
  same_masked' m x y =
      let e : y ⊕ (m ⊕ (x ⊕ neg y)) ≡ y ⊕ (neg y ⊕ (x ⊕ m)) = simp (assoc, comm, left_comm) in
      e ∙ cancel y (x ⊕ m)

  there_and_back' : (m x y : A) → (m ⊕ (x ⊕ neg y)) ⊕ (y ⊕ neg x) ≡ m
  there_and_back' m x y =
      let e : (m ⊕ (x ⊕ neg y)) ⊕ (y ⊕ neg x) ≡ x ⊕ (neg x ⊕ (y ⊕ (neg y ⊕ m))) = simp (assoc, comm, left_comm) in
      e ∙ cancel x (y ⊕ (neg y ⊕ m)) ∙ cancel y m

  move_add' : (m x y n u v : A) → (m ⊕ (x ⊕ neg y)) ⊕ (n ⊕ (u ⊕ neg v)) ≡ (m ⊕ n) ⊕ ((x ⊕ u) ⊕ neg (y ⊕ v))
  move_add' m x y n u v = rw (ab.neg_add S y v) (simp (assoc, comm, left_comm))

  move_shift' : (m x y c : A) → m ⊕ (x ⊕ neg y) ≡ m ⊕ ((x ⊕ c) ⊕ neg (y ⊕ c))
  move_shift' m x y c =
      let e : m ⊕ ((x ⊕ c) ⊕ (neg y ⊕ neg c)) ≡ c ⊕ (neg c ⊕ (m ⊕ (x ⊕ neg y))) = simp (assoc, comm, left_comm) in
      rw (ab.neg_add S y c) (sym (e ∙ cancel c (m ⊕ (x ⊕ neg y))))

  slide' : (x m c : A) → (x ⊕ m) ⊕ c ≡ (x ⊕ c) ⊕ m
  slide' x m c = simp (assoc, comm, left_comm)

  still' : (m x : A) → m ⊕ (x ⊕ neg x) ≡ m
  still' m x = ap (λ v. m ⊕ v) (inverse x) ∙ zero m

  raise' : (b r u v : A) → b ⊕ r ≡ u → (b ⊕ (v ⊕ neg u)) ⊕ r ≡ v
  raise' b r u v e =
      let s : (b ⊕ (v ⊕ neg u)) ⊕ r ≡ v ⊕ ((b ⊕ r) ⊕ neg u) = simp (assoc, comm, left_comm) in
      s ∙ ap (λ x. v ⊕ (x ⊕ neg u)) e ∙ still' v u

  answered' : (b r t m e : A) → b ⊕ r ≡ t ⊕ m → b ⊕ e ≡ (t ⊕ (e ⊕ neg r)) ⊕ m
  answered' b r t m e p =
      let s : (t ⊕ (e ⊕ neg r)) ⊕ m ≡ e ⊕ ((t ⊕ m) ⊕ neg r) = simp (assoc, comm, left_comm) in
      let u : e ⊕ ((b ⊕ r) ⊕ neg r) ≡ (b ⊕ e) ⊕ (r ⊕ neg r) = simp (assoc, comm, left_comm) in
      sym (s ∙ ap (λ x. e ⊕ (x ⊕ neg r)) (sym p) ∙ u ∙ still' (b ⊕ e) r)

  shares_off' : (x m b r : A) → b ⊕ r ≡ m → ((x ⊕ m) ⊕ neg b) ⊕ neg r ≡ x
  shares_off' x m b r e =
      let s : ((x ⊕ (b ⊕ r)) ⊕ neg b) ⊕ neg r ≡ b ⊕ (neg b ⊕ (r ⊕ (neg r ⊕ x))) = simp (assoc, comm, left_comm) in
      ap (λ m. ((x ⊕ m) ⊕ neg b) ⊕ neg r) (sym e) ∙ s ∙ cancel b (r ⊕ (neg r ⊕ x)) ∙ cancel r x

  module _ (f : A → A) (sums : (a b : A) → f (a ⊕ b) ≡ f a ⊕ f b) where
    move_map' : (m x y : A) → f (m ⊕ (x ⊕ neg y)) ≡ f m ⊕ (f x ⊕ neg (f y))
    move_map' m x y = sums m (x ⊕ neg y) ∙ ap (λ v. f m ⊕ v) (ab.map_sub S f sums x y)

module _ (G : Group) (laws : Laws G) where
  pub zero_code : Code G 0
  zero_code = (algebra laws).zero_code

  pub sub_code : (a b : ℕ) → Code G a → Code G b → Code G (sub G a b)
  sub_code = (algebra laws).sub_code

  pub medial : (x m y n : ℕ) → Code G x → Code G m → Code G y → Code G n → G.add (G.add x m) (G.add y n) ≡ G.add (G.add x y) (G.add m n)
  medial = (algebra laws).swap

  pub unmask : (x m : ℕ) → Code G x → Code G m → sub G (G.add x m) m ≡ x
  unmask = (algebra laws).add_sub

  pub remask : (x m : ℕ) → Code G x → Code G m → G.add (sub G x m) m ≡ x
  remask = (algebra laws).sub_add

  -- what a mask and a clear value come to is the same of both histories
  pub same_masked : (m x y : ℕ) → Code G m → Code G x → Code G y → G.add y (G.add m (sub G x y)) ≡ G.add x m
  same_masked m x y hm hx hy = same_number (same_masked' (abelian laws) (m, hm) (x, hx) (y, hy))

  pub there_and_back : (m x y : ℕ) → Code G m → Code G x → Code G y → G.add (G.add m (sub G x y)) (sub G y x) ≡ m
  there_and_back m x y hm hx hy = same_number (there_and_back' (abelian laws) (m, hm) (x, hx) (y, hy))

  pub move_add : (m x y n u v : ℕ) → Code G m → Code G x → Code G y → Code G n → Code G u → Code G v → G.add (G.add m (sub G x y)) (G.add n (sub G u v)) ≡ G.add (G.add m n) (sub G (G.add x u) (G.add y v))
  move_add m x y n u v hm hx hy hn hu hv = same_number (move_add' (abelian laws) (m, hm) (x, hx) (y, hy) (n, hn) (u, hu) (v, hv))

  pub move_shift : (m x y c : ℕ) → Code G m → Code G x → Code G y → Code G c → G.add m (sub G x y) ≡ G.add m (sub G (G.add x c) (G.add y c))
  move_shift m x y c hm hx hy hc = same_number (move_shift' (abelian laws) (m, hm) (x, hx) (y, hy) (c, hc))

  pub slide : (x m c : ℕ) → Code G x → Code G m → Code G c → G.add (G.add x m) c ≡ G.add (G.add x c) m
  slide x m c hx hm hc = same_number (slide' (abelian laws) (x, hx) (m, hm) (c, hc))

  pub still : (m x : ℕ) → Code G m → Code G x → G.add m (sub G x x) ≡ m
  still m x hm hx = same_number (still' (abelian laws) (m, hm) (x, hx))

  -- one term of a sum is raised
  pub raise : (b r u v : ℕ) → Code G b → Code G r → Code G u → Code G v → G.add b r ≡ u → G.add (G.add b (sub G v u)) r ≡ v
  raise b r u v hb hr hu hv e = same_number (raise' (abelian laws) (b, hb) (r, hr) (u, hu) (v, hv) (same_code _ _ e))

  -- the own share and what was heard
  pub answered : (b r t m e : ℕ) → Code G b → Code G r → Code G t → Code G m → Code G e → G.add b r ≡ G.add t m → G.add b e ≡ G.add (G.add t (sub G e r)) m
  answered b r t m e hb hr ht hm he p = same_number (answered' (abelian laws) (b, hb) (r, hr) (t, ht) (m, hm) (e, he) (same_code _ _ p))

  -- a masked value without all shares of its mask
  pub shares_off : (x m b r : ℕ) → Code G x → Code G m → Code G b → Code G r → G.add b r ≡ m → sub G (sub G (G.add x m) b) r ≡ x
  shares_off x m b r hx hm hb hr e = same_number (shares_off' (abelian laws) (x, hx) (m, hm) (b, hb) (r, hr) (same_code _ _ e))

  pub move_map : (row : List ℕ) → Codes G row → (m x y : ℕ) → Code G m → Code G x → Code G y
      → G.image row (G.add m (sub G x y)) ≡ G.add (G.image row m) (sub G (G.image row x) (G.image row y))
  move_map row hr m x y hm hx hy = same_number (move_map' (abelian laws) (mapped laws row hr) (mapped_sums laws row hr) (m, hm) (x, hx) (y, hy))
