-- The LOOK gates by how many stand before them.
use Rattle.std.proofs.Common.{◌≡◌, ℕ, zero, suc, ◌+◌, ◌<◌, false, List, [], ◌∷◌, length, get_or, take, refl, ap, ◌∙◌, add-zero, zero-add, one-add, arith}
use Rattle.model.specs.Net.{Gate, adds, shifts, maps, looks, Net, Lookup, inputs, gate_at, is_look, look_count, look_total, ordinal, lookups_from, lookups, lookup_at}

abbrev none : Lookup
none = record { wire = 0; operand = 0; table = 0 }

abbrev nothing : Gate
nothing = adds 0 0

length_from : (w : ℕ) (gs : List Gate) → length (lookups_from w gs) ≡ look_count gs
unfolding lookups_from
length_from w [] = refl
length_from w (adds a b ∷ gs) = length_from (w + 1) gs ∙ omega arith
length_from w (shifts a b ∷ gs) = length_from (w + 1) gs ∙ omega arith
length_from w (maps a b ∷ gs) = length_from (w + 1) gs ∙ omega arith
length_from w (looks a b ∷ gs) = let e = length_from (w + 1) gs in omega arith

pub lookups_length : (net : Net) → length (lookups net) ≡ look_total net
lookups_length net = length_from (inputs net) net.gates

-- gate k of gs is a LOOK, of operand f and table t
pub record Look (gs : List Gate) (w k f t : ℕ) : Type 0 where
  pub gate : k < length gs
  pub is : get_or gs k nothing ≡ looks f t
  pub small : look_count (take k gs) < look_count gs
  pub lookup : get_or (lookups_from w gs) (look_count (take k gs)) none ≡ record { wire = w + k; operand = f; table = t }

-- a gate in front that is no LOOK
plain : (g : Gate) (gs : List Gate) (w k f t : ℕ) → is_look g ≡ false → lookups_from w (g ∷ gs) ≡ lookups_from (w + 1) gs
    → Look gs (w + 1) k f t → Look (g ∷ gs) w (suc k) f t
plain g gs w k f t e q p =
    record {
      gate = omega (arith, p.gate);
      is = p.is;
      small = rw (e, zero-add (look_count (take k gs)), zero-add (look_count gs)) p.small;
      lookup = let s : w + 1 + k ≡ w + suc k = omega arith in rw (q, e, zero-add (look_count (take k gs)), ← s) p.lookup;
    }

-- a LOOK in front
later : (a b : ℕ) (gs : List Gate) (w k f t : ℕ) → Look gs (w + 1) k f t → Look (looks a b ∷ gs) w (suc k) f t
unfolding lookups_from
later a b gs w k f t p =
    record {
      gate = omega (arith, p.gate);
      is = p.is;
      small = omega (arith, p.small);
      lookup = let s : w + 1 + k ≡ w + suc k = omega arith in rw (one-add (look_count (take k gs)), ← s) p.lookup;
    }

found : (gs : List Gate) (w k f t : ℕ) → k < length gs → get_or gs k nothing ≡ looks f t → Look gs w k f t
unfolding lookups_from
found [] w k f t h e = absurd (omega arith)
found (adds a b ∷ gs) w zero f t h e = let z : ◌≡◌ {A = ℕ} 0 1 = cc in absurd (omega arith)
found (shifts a b ∷ gs) w zero f t h e = let z : ◌≡◌ {A = ℕ} 0 1 = cc in absurd (omega arith)
found (maps a b ∷ gs) w zero f t h e = let z : ◌≡◌ {A = ℕ} 0 1 = cc in absurd (omega arith)
found (looks a b ∷ gs) w zero f t h e =
    let p : a ≡ f = cc in
    let q : b ≡ t = cc in
    record { gate = h; is = e; small = omega arith; lookup = rw (p, q, add-zero w) refl }
found (adds a b ∷ gs) w (suc k) f t h e = plain (adds a b) gs w k f t refl refl (found gs (w + 1) k f t (omega arith) e)
found (shifts a b ∷ gs) w (suc k) f t h e = plain (shifts a b) gs w k f t refl refl (found gs (w + 1) k f t (omega arith) e)
found (maps a b ∷ gs) w (suc k) f t h e = plain (maps a b) gs w k f t refl refl (found gs (w + 1) k f t (omega arith) e)
found (looks a b ∷ gs) w (suc k) f t h e = later a b gs w k f t (found gs (w + 1) k f t (omega arith) e)

sought : (gs : List Gate) (i : ℕ) → i < look_count gs
    → (k : ℕ) × (f : ℕ) × (t : ℕ) × (k < length gs) × (get_or gs k nothing ≡ looks f t) × (look_count (take k gs) ≡ i)
sought [] i h = absurd (omega arith)
sought (adds a b ∷ gs) i h = let (k, f, t, l, e, o) = sought gs i (omega arith) in (suc k, f, t, omega arith, e, omega arith)
sought (shifts a b ∷ gs) i h = let (k, f, t, l, e, o) = sought gs i (omega arith) in (suc k, f, t, omega arith, e, omega arith)
sought (maps a b ∷ gs) i h = let (k, f, t, l, e, o) = sought gs i (omega arith) in (suc k, f, t, omega arith, e, omega arith)
sought (looks a b ∷ gs) zero h = (0, a, b, omega arith, refl, refl)
sought (looks a b ∷ gs) (suc i) h = let (k, f, t, l, e, o) = sought gs i (omega arith) in (suc k, f, t, omega arith, e, omega arith)

-- gate k is a LOOK, of operand f and table t: it is lookup `ordinal net k`
pub record At (net : Net) (k f t : ℕ) : Type 0 where
  pub small : ordinal net k < look_total net
  pub wire : (lookup_at net (ordinal net k)).wire ≡ inputs net + k
  pub operand : (lookup_at net (ordinal net k)).operand ≡ f
  pub table : (lookup_at net (ordinal net k)).table ≡ t

pub look_at : (net : Net) (k f t : ℕ) → k < length net.gates → gate_at net k ≡ looks f t → At net k f t
look_at net k f t h e =
    let p = found net.gates (inputs net) k f t h e in
    record {
      small = p.small;
      wire = ap (λ (x : Lookup). x.wire) p.lookup;
      operand = ap (λ (x : Lookup). x.operand) p.lookup;
      table = ap (λ (x : Lookup). x.table) p.lookup;
    }

-- lookup l is some gate
pub look_of : (net : Net) (l : ℕ) → l < look_total net
    → (k : ℕ) × (f : ℕ) × (t : ℕ) × (k < length net.gates) × (gate_at net k ≡ looks f t) × (ordinal net k ≡ l)
look_of net l h = sought net.gates l h
