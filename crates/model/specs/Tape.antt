-- A dealer's tape: codes, from which a deal is made.
use Rattle.std.specs.Prelude.{◌≡◌, ℕ, zero, suc, ◌+◌, ◌-◌, ◌*◌, List, [], ◌∷◌, ◌++◌, length, take, drop}
use Rattle.std.specs.List.{flat_map}
use Rattle.groups.specs.Group.{Group, Laws, Codes, sub}
use Rattle.groups.specs.Total.{total}
use Rattle.model.specs.Words.{at, each}
use Rattle.model.specs.Net.{Net, Valid, inputs, look_total}
use Rattle.model.specs.Deal.{Deal, Lawful, masks, owed, columns, column}

-- a mask for each input and each LOOK, then a block for every party but the last
abbrev pub tape_length : Net → ℕ
tape_length net = inputs net + (look_total net + (net.parties - 1) * columns net)

-- a tape of the right length, all codes
pub record Tape (G : Group) (net : Net) (tape : List ℕ) : Type 0 where
  pub long : length tape ≡ tape_length net
  pub codes : Codes G tape

-- the first m pieces of n numbers
unfoldable pub pieces : ℕ → ℕ → List ℕ → List (List ℕ)
pieces zero n xs = []
pieces (suc m) n xs = take n xs ∷ pieces m n (drop n xs)

-- the deal with these masks and blocks, and a last block of what the others lack
abbrev pub completed : Group → Net → List ℕ → List ℕ → List (List ℕ) → Deal
completed G net ins looks front =
    let m = masks G net (record { inputs = ins; looks = looks; shares = front }) in
    record {
      inputs = ins;
      looks = looks;
      shares = front ++ each (columns net) (λ k. sub G (at (owed G net m) k) (total G (column front k))) ∷ [];
    }

-- the deal of a tape
unfoldable pub deal_of : Group → Net → List ℕ → Deal
deal_of G net tape =
    let rest = drop (inputs net) tape in
    completed G net (take (inputs net) tape) (take (look_total net) rest) (pieces (net.parties - 1) (columns net) (drop (look_total net) rest))

-- the tape of a deal
unfoldable pub tape_of : Net → Deal → List ℕ
tape_of net d = d.inputs ++ (d.looks ++ flat_map (λ (b : List ℕ). b) (take (net.parties - 1) d.shares))

-- tapes of codes and lawful deals are one to one
pub record OneToOne (G : Group) (net : Net) : Type 0 where
  pub deals : (tape : List ℕ) → Tape G net tape → Lawful G net (deal_of G net tape)
  pub tapes : (d : Deal) → Lawful G net d → Tape G net (tape_of net d)
  pub there : (tape : List ℕ) → Tape G net tape → tape_of net (deal_of G net tape) ≡ tape
  pub back : (d : Deal) → Lawful G net d → deal_of G net (tape_of net d) ≡ d

-- whatever the group and the circuit
abbrev pub TapesAreDeals : Type 0
TapesAreDeals = (G : Group) → Laws G → (net : Net) → Valid net → G.size ≡ net.size → OneToOne G net
