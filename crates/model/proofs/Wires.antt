-- What flows along the wires: the equation of each wire, and induction over the wires.
use Rattle.std.proofs.Common.{◌≡◌, ℕ, zero, suc, ◌+◌, ◌*◌, ◌<◌, ◌≤◌, ◌⊎◌, List, [], ◌∷◌, ◌++◌, length, get_or, take, drop, sym, refl, ap, ◌∙◌, subst, ap₂, inl, inr, add-zero, add_assoc, zero-add, arith}
use Rattle.std.proofs.lemmas.List.{get_or_append_left, get_or_past, get_or_push, length_push}
use Rattle.std.proofs.lemmas.Bool.{cases_lt}
use Rattle.groups.specs.Group.{Group, Laws, Codes}
use Rattle.groups.proofs.Derived.{algebra}
use Rattle.groups.specs.Kept.{codes_take}
use Rattle.model.specs.Words.{at, Below, mark}
use Rattle.model.specs.Net.{Gate, adds, shifts, maps, looks, Net, Valid, Rules, inputs, wires, gate_at, is_look, look_count, table_count, row_count, row, entry, first_of, second_of, limit, ordinal, step, grow, flow}
use Rattle.model.proofs.Listed.{code_at, codes_drop}

-- the gate reads wires before w alone
Reads : ℕ → Gate → Type 0
Reads w (adds f s) = (f < w) × (s < w)
Reads w (shifts f c) = f < w
Reads w (maps f r) = f < w
Reads w (looks f t) = f < w

abbrev none : Gate
none = adds 0 0

module _ (G : Group) (net : Net) (r : Rules) where
  step_same : (l w : ℕ) (g : Gate) (ws vs : List ℕ) → Reads w g → ((k : ℕ) → k < w → at ws k ≡ at vs k) → step G net r l ws g ≡ step G net r l vs g
  unfolding Reads
  step_same l w (adds f s) ws vs h e = ap₂ G.add (e f h.0) (e s h.1)
  step_same l w (shifts f c) ws vs h e = ap (r.shift c) (e f h)
  step_same l w (maps f m) ws vs h e = ap (G.image (row net m)) (e f h)
  step_same l w (looks f t) ws vs h e = ap (r.look l f t) (e f h)

  pub length_grow : (gs : List Gate) (l : ℕ) (ws : List ℕ) → length (grow G net r l ws gs) ≡ length ws + length gs
  unfolding grow
  length_grow [] l ws = sym (add-zero (length ws))
  length_grow (g ∷ gs) l ws =
      length_grow gs (l + mark (is_look g)) (ws ++ step G net r l ws g ∷ []) ∙ rw (length_push ws (step G net r l ws g)) (omega arith)

  grow_below : (gs : List Gate) (l : ℕ) (ws : List ℕ) (k : ℕ) → k < length ws → at (grow G net r l ws gs) k ≡ at ws k
  unfolding grow
  grow_below [] l ws k h = refl
  grow_below (g ∷ gs) l ws k h =
      let v = step G net r l ws g in
      grow_below gs (l + mark (is_look g)) (ws ++ v ∷ []) k (rw (length_push ws v) (omega arith)) ∙ get_or_append_left ws (v ∷ []) 0 k h

  grow_at : (gs : List Gate) (l : ℕ) (ws : List ℕ) (n k : ℕ) → length ws ≡ n → k < length gs
      → ((j : ℕ) → j < length gs → Reads (n + j) (get_or gs j none))
      → at (grow G net r l ws gs) (n + k) ≡ step G net r (l + look_count (take k gs)) (grow G net r l ws gs) (get_or gs k none)
  unfolding grow
  grow_at [] l ws n k e h reads = absurd (omega arith)
  grow_at (g ∷ gs) l ws n zero e h reads =
      let v = step G net r l ws g in
      let all = grow G net r (l + mark (is_look g)) (ws ++ v ∷ []) gs in
      let below : (j : ℕ) → j < n + 0 → at all j ≡ at ws j
      = λ j q. grow_below gs (l + mark (is_look g)) (ws ++ v ∷ []) j (rw (length_push ws v) (omega arith)) ∙ get_or_append_left ws (v ∷ []) 0 j (omega arith) in
      let here : at all (n + 0) ≡ v
      = grow_below gs (l + mark (is_look g)) (ws ++ v ∷ []) (n + 0) (rw (length_push ws v) (omega arith)) ∙ get_or_push ws v 0 (n + 0) (omega arith) in
      here ∙ sym (step_same l (n + 0) g all ws (reads 0 (omega arith)) below)
      ∙ ap (λ x. step G net r x all g) (sym (add-zero l))
  grow_at (g ∷ gs) l ws n (suc k) e h reads =
      let v = step G net r l ws g in
      let m = mark (is_look g) in
      let all = grow G net r (l + m) (ws ++ v ∷ []) gs in
      let s : suc n + k ≡ n + suc k = omega arith in
      subst (λ (x : ℕ). at all x ≡ step G net r ((l + m) + look_count (take k gs)) all (get_or gs k none)) s
      (grow_at gs (l + m) (ws ++ v ∷ []) (suc n) k (length_push ws v ∙ omega arith) (omega arith)
      (λ j q. subst (λ (x : ℕ). Reads x (get_or gs j none)) (omega arith) (reads (suc j) (omega arith))))
      ∙ ap (λ x. step G net r x all (get_or gs k none)) (add_assoc l m (look_count (take k gs)))

module _ (net : Net) (valid : Valid net) where
  gate_reads : (q t s w : ℕ) (g : Gate) → (first_of g < w) × (second_of g < limit q t s w g) → Reads w g
  unfolding Reads
  gate_reads q t s w (adds f x) h = h
  gate_reads q t s w (shifts f x) h = h.0
  gate_reads q t s w (maps f x) h = h.0
  gate_reads q t s w (looks f x) h = h.0

  reads : (k : ℕ) → k < length net.gates → Reads (inputs net + k) (gate_at net k)
  reads k l = gate_reads net.size (row_count net) (table_count net) (inputs net + k) (gate_at net k) (valid.wired k l)

  -- a fact of every wire: of the inputs, and of the wire of each gate if of its operands
  pub wire_ind : (P : ℕ → Type 0) → ((i : ℕ) → i < inputs net → P i)
      → ((k f s : ℕ) → k < length net.gates → gate_at net k ≡ adds f s → f < inputs net + k → s < inputs net + k → P f → P s → P (inputs net + k))
      → ((k f c : ℕ) → k < length net.gates → gate_at net k ≡ shifts f c → f < inputs net + k → c < net.size → P f → P (inputs net + k))
      → ((k f m : ℕ) → k < length net.gates → gate_at net k ≡ maps f m → f < inputs net + k → m < row_count net → P f → P (inputs net + k))
      → ((k f t : ℕ) → k < length net.gates → gate_at net k ≡ looks f t → f < inputs net + k → t < table_count net → P f → P (inputs net + k))
      → (i : ℕ) → i < wires net → P i
  wire_ind P ins add shift map' look i h = upto (length net.gates) (omega arith) i h
    where
      gate : (k : ℕ) → k < length net.gates → ((j : ℕ) → j < inputs net + k → P j) → (g : Gate) → gate_at net k ≡ g
          → (first_of g < inputs net + k) × (second_of g < limit net.size (row_count net) (table_count net) (inputs net + k) g) → P (inputs net + k)
      gate k l below (adds f s) e v = add k f s l e v.0 v.1 (below f v.0) (below s v.1)
      gate k l below (shifts f c) e v = shift k f c l e v.0 v.1 (below f v.0)
      gate k l below (maps f m) e v = map' k f m l e v.0 v.1 (below f v.0)
      gate k l below (looks f t) e v = look k f t l e v.0 v.1 (below f v.0)

      more : (n : ℕ) → suc n ≤ length net.gates → ((j : ℕ) → j < inputs net + n → P j) → (j : ℕ) → j < inputs net + suc n → (j < inputs net + n) ⊎ (inputs net + n ≤ j) → P j
      more n l below j q (inl a) = below j a
      more n l below j q (inr a) = subst P (omega arith) (gate n l below (gate_at net n) refl (valid.wired n l))

      upto : (n : ℕ) → n ≤ length net.gates → (j : ℕ) → j < inputs net + n → P j
      upto zero l j q = ins j (omega arith)
      upto (suc n) l j q = more n l (upto n (omega arith)) j q (cases_lt j (inputs net + n))

  module _ (G : Group) (r : Rules) (ins : List ℕ) (e : length ins ≡ inputs net) where
    pub flow_length : length (flow G net r ins) ≡ wires net
    flow_length = length_grow G net r net.gates 0 ins ∙ rw e refl

    pub flow_input : (i : ℕ) → i < inputs net → at (flow G net r ins) i ≡ at ins i
    flow_input i h = grow_below G net r net.gates 0 ins i (rw e h)

    pub flow_gate : (k : ℕ) → k < length net.gates → (g : Gate) → gate_at net k ≡ g
        → at (flow G net r ins) (inputs net + k) ≡ step G net r (ordinal net k) (flow G net r ins) g
    flow_gate k h g p =
        grow_at G net r net.gates 0 ins (inputs net) k e h reads
        ∙ ap (λ x. step G net r x (flow G net r ins) (gate_at net k)) (zero-add (ordinal net k))
        ∙ ap (λ x. step G net r (ordinal net k) (flow G net r ins) x) p

module _ (G : Group) (laws : Laws G) (net : Net) (valid : Valid net) (same : G.size ≡ net.size) where
  pub codes_of : (xs : List ℕ) → Below net.size xs → Codes G xs
  codes_of xs h = subst (λ (q : ℕ). Below q xs) (sym same) h

  pub row_codes : (m : ℕ) → Codes G (row net m)
  row_codes m = codes_take G 8 (drop (8 * m) net.rows) (codes_drop G laws (8 * m) net.rows (codes_of net.rows valid.coded.1))

  pub entry_code : (t x : ℕ) → entry net t x < G.size
  entry_code t x = code_at G laws net.tables (codes_of net.tables valid.coded.0) (t * net.size + x)

  -- a flow of codes by rules that give codes
  pub flow_code : (r : Rules) (ins : List ℕ) → length ins ≡ inputs net → Codes G ins
      → ((c x : ℕ) → c < G.size → x < G.size → r.shift c x < G.size)
      → ((l f t x : ℕ) → x < G.size → r.look l f t x < G.size)
      → (i : ℕ) → at (flow G net r ins) i < G.size
  flow_code r ins e codes shift look i = go (cases_lt i (wires net))
    where
      gate : (k : ℕ) → k < length net.gates → (g : Gate) → gate_at net k ≡ g → step G net r (ordinal net k) (flow G net r ins) g < G.size
          → at (flow G net r ins) (inputs net + k) < G.size
      gate k h g p c = rw (flow_gate net valid G r ins e k h g p) c

      inside : (i : ℕ) → i < wires net → at (flow G net r ins) i < G.size
      inside =
          wire_ind net valid (λ i. at (flow G net r ins) i < G.size)
          (λ i h. rw (flow_input net valid G r ins e i h) (code_at G laws ins codes i))
          (λ k f s h g _ _ p q. gate k h (adds f s) g (laws.add_code _ _ p q))
          (λ k f c h g _ b p. gate k h (shifts f c) g (shift _ _ (rw same b) p))
          (λ k f m h g _ _ p. gate k h (maps f m) g (laws.image_code (row net m) _ (row_codes m) p))
          (λ k f t h g _ _ p. gate k h (looks f t) g (look _ _ _ _ p))

      go : (i < wires net) ⊎ (wires net ≤ i) → at (flow G net r ins) i < G.size
      go (inl h) = inside i h
      go (inr h) = rw (get_or_past (flow G net r ins) i 0 (rw (flow_length net valid G r ins e) h)) (algebra laws).zero_code
