-- Gates as records, one after another.
use Rattle.std.proofs.Common.{◌≡◌, ℕ, ◌+◌, ◌<◌, ◌≤◌, Bool, true, false, refl, List, [], ◌∷◌, ◌++◌, length, get_or, take, drop, set, sym, ap, ◌∙◌, subst, ap₂, arith}
use Rattle.std.proofs.lemmas.List.{get_or-map, length-map, length-take-le, take_all, take_more_set, at_drop_more, at_drop_all}
use Rattle.std.specs.Int.{from_bool}
use Rattle.groups.specs.Group.{Group}
use Rattle.model.specs.Words.{mark}
use Rattle.model.specs.Net.{Net, adds, Rules, Wired, inputs, is_look, row_count, table_count, gate_at, first_of, second_of, limit, step, grow}
use Rattle.files.specs.declared.gate.Gate as of
use Rattle.files.specs.Gates.{gate_of, gates_of, no_gate}

-- gate k of the net, by its record
pub gate_is : (net : Net) (gs : List of.Gate) (k : ℕ) → gates_of gs ≡ net.gates → k < length gs → gate_at net k ≡ gate_of (get_or gs k no_gate)
gate_is net gs k meant l = ap (λ xs. get_or xs k (adds 0 0)) (sym meant) ∙ get_or-map gate_of gs k no_gate (adds 0 0) l

pub gate_count : (net : Net) (gs : List of.Gate) → gates_of gs ≡ net.gates → length gs ≡ length net.gates
gate_count net gs meant = sym (length-map gs gate_of) ∙ ap length meant

-- Gate k is run on the first n wires, and what is left gives all.
module _ (G : Group) (net : Net) (r : Rules) (gs : List of.Gate) (ws : List ℕ) (n k l : ℕ) where
  pub grow_more : (n' l' : ℕ) (all : List ℕ) (v : ℕ) → grow G net r l (take n ws) (gates_of (drop k gs)) ≡ all → k < length gs → n < length ws
      → v ≡ step G net r l (take n ws) (gate_of (get_or gs k no_gate)) → n' ≡ n + 1 → l' ≡ l + mark (is_look (gate_of (get_or gs k no_gate)))
      → grow G net r l' (take n' (set ws n v)) (gates_of (drop (k + 1) gs)) ≡ all
  unfolding grow
  grow_more n' l' all v so hk hn value wire next =
      ap₂ (λ m w. grow G net r m w (gates_of (drop (k + 1) gs))) next
      (ap (λ m. take m (set ws n v)) wire ∙ take_more_set ws n v hn ∙ ap (λ x. take n ws ++ x ∷ []) value)
      ∙ sym (at_drop_more (λ xs. grow G net r l (take n ws) (gates_of xs)) gs k no_gate hk)
      ∙ so

  pub grow_all : (all : List ℕ) → grow G net r l (take n ws) (gates_of (drop k gs)) ≡ all → length gs ≤ k → length ws ≤ n → ws ≡ all
  unfolding grow
  grow_all all so hk hn = sym (take_all n ws hn) ∙ sym (at_drop_all (λ xs. grow G net r l (take n ws) (gates_of xs)) gs k hk) ∙ so

-- what a net that is wired says of gate k, by the gate's record
pub operands : (net : Net) (gs : List of.Gate) (ws : List ℕ) (n k : ℕ) → gates_of gs ≡ net.gates → Wired net → k < length gs → n ≡ inputs net + k → n ≤ length ws
    → (first_of (gate_of (get_or gs k no_gate)) < length (take n ws))
    × (second_of (gate_of (get_or gs k no_gate)) < limit net.size (row_count net) (table_count net) (length (take n ws)) (gate_of (get_or gs k no_gate)))
operands net gs ws n k meant wired hk hn room =
    let there : k < length net.gates = omega (arith, gate_count net gs meant) in
    let which = gate_is net gs k meant hk in
    let reach : inputs net + k ≡ length (take n ws) = sym (length-take-le n ws room ∙ hn) in
    let gate = gate_at net k in (
      subst (λ g. first_of g < length (take n ws)) which (subst (λ m. first_of gate < m) reach (wired k there).0),
      subst (λ g. second_of g < limit net.size (row_count net) (table_count net) (length (take n ws)) g) which
          (subst (λ m. second_of gate < limit net.size (row_count net) (table_count net) m gate) reach (wired k there).1),
    )

-- a test as a number, 1 or 0
pub mark_is : (b : Bool) → (from_bool b ≡ mark b) × (from_bool b ≤ 1)
mark_is true = (refl, omega arith)
mark_is false = (refl, omega arith)
