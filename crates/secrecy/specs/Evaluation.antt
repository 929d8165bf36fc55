-- What one evaluation at the host of party h shows, in two histories that differ in the values entered there; and the shift of
-- its deal that hides which of the two it was.
use Rattle.std.specs.Prelude.{◌≡◌, ℕ, ◌+◌, ◌*◌, ◌<◌, Bool, cond, List, map, length, nat_lt, slice_index_or, slice_set}
use Rattle.groups.specs.Group.{Group, Laws, Codes, sub}
use Rattle.groups.specs.Total.{total}
use Rattle.model.specs.Words.{at, each}
use Rattle.model.specs.Net.{Net, Valid, Rules, inputs, wires, entry, look_total, lookup_at, flow}
use Rattle.model.specs.Deal.{Deal, Lawful, masks, owed, columns, column, block, others}

-- An input wire: not given; entered at the host, in the first and in the second history; taken, masked.
pub data Given : Type 0 where
  missing : Given
  entered : ℕ → ℕ → Given
  taken : ℕ → Given

-- What was given; what was heard at each LOOK, added up; at how many LOOKs the own share went out; whether OPEN was accepted.
pub record Log : Type 0 where
  pub given : List Given
  pub heard : List ℕ
  pub shared : ℕ
  pub opened : Bool

abbrev pub given_at : Log → ℕ → Given
given_at log i = slice_index_or log.given i missing

-- CLEAR RUNS

-- the clear value of an input whose mask is m
abbrev pub first_value : Group → ℕ → Given → ℕ
first_value G m missing = 0
first_value G m (entered a b) = a
first_value G m (taken c) = sub G c m

abbrev pub second_value : Group → ℕ → Given → ℕ
second_value G m missing = 0
second_value G m (entered a b) = b
second_value G m (taken c) = sub G c m

-- by how much what was heard at LOOK l differs from the others' shares, c being the operand's masked value
unfoldable pub error : Group → Net → ℕ → Log → Deal → ℕ → ℕ → ℕ
error G net h log d l c =
    cond (nat_lt l (length log.heard)) (sub G (at log.heard l) (total G (column (others h d.shares) (l * net.size + c)))) 0

-- a LOOK whose share went out has its table's entry and the error e; any other has 0
abbrev pub looked : Group → Net → Log → ℕ → ℕ → ℕ → ℕ → ℕ
looked G net log l t x e = cond (nat_lt l log.shared) (G.add (entry net t x) e) 0

-- the clear values of all wires in the first history
abbrev pub first_rules : Group → Net → ℕ → Log → Deal → Rules
first_rules G net h log d =
    record { shift = λ c x. G.add x c; look = λ l f t x. looked G net log l t x (error G net h log d l (G.add x (at (masks G net d) f))) }

unfoldable pub first : Group → Net → ℕ → Log → Deal → List ℕ
first G net h log d = flow G net (first_rules G net h log d) (each (inputs net) (λ i. first_value G (at d.inputs i) (given_at log i)))

-- and in the second, with the errors of the first
abbrev pub second_rules : Group → Net → ℕ → Log → Deal → Rules
second_rules G net h log d =
    record {
      shift = λ c x. G.add x c;
      look = λ l f t x. looked G net log l t x (error G net h log d l (G.add (at (first G net h log d) f) (at (masks G net d) f)));
    }

unfoldable pub second : Group → Net → ℕ → Log → Deal → List ℕ
second G net h log d = flow G net (second_rules G net h log d) (each (inputs net) (λ i. second_value G (at d.inputs i) (given_at log i)))

-- DIFFERENCES

-- the first clear value of wire w minus the second
abbrev pub apart : Group → Net → ℕ → Log → Deal → ℕ → ℕ
apart G net h log d w = sub G (at (first G net h log d) w) (at (second G net h log d) w)

-- the same along the gates: an own input has its values' difference, every other input 0; an ADD adds, a SHIFT keeps, a MAP applies
-- its row; a LOOK whose share went out has entry minus entry
abbrev pub between : Group → Given → ℕ
between G missing = 0
between G (entered a b) = sub G a b
between G (taken c) = 0

abbrev pub differing : Group → Net → ℕ → Log → Deal → Rules
differing G net h log d =
    record {
      shift = λ c x. x;
      look = λ l f t x. cond (nat_lt l log.shared) (sub G (entry net t (at (first G net h log d) f)) (entry net t (at (second G net h log d) f))) 0;
    }

abbrev pub difference : Group → Net → ℕ → Log → Deal → List ℕ
difference G net h log d = flow G net (differing G net h log d) (each (inputs net) (λ i. between G (given_at log i)))

-- THE SHIFT

-- the masks of inputs and LOOKs moved by the difference
unfoldable pub moved : Group → Net → ℕ → Log → Deal → Deal
moved G net h log d =
    record {
      inputs = each (inputs net) (λ i. G.add (at d.inputs i) (apart G net h log d i));
      looks = each (look_total net) (λ l. G.add (at d.looks l) (apart G net h log d (lookup_at net l).wire));
      shares = d.shares;
    }

-- and the own block by what is then owed more
unfoldable pub shift : Group → Net → ℕ → Log → Deal → Deal
shift G net h log d =
    let e = moved G net h log d in
    record {
      inputs = e.inputs;
      looks = e.looks;
      shares =
          slice_set d.shares h
          (each (columns net)
          (λ k. G.add (at (block d.shares h) k) (sub G (at (owed G net (masks G net e)) k) (at (owed G net (masks G net d)) k))));
    }

-- the two histories exchanged
abbrev pub swapped : Given → Given
swapped missing = missing
swapped (entered a b) = entered b a
swapped (taken c) = taken c

abbrev pub swap : Log → Log
swap log = record { given = map swapped log.given; heard = log.heard; shared = log.shared; opened = log.opened }

-- own wires alone are entered, and all numbers are codes
abbrev pub Fair : Group → Net → ℕ → ℕ → Given → Type 0
Fair G net h i missing = Unit {0}
Fair G net h i (entered a b) = (at net.owners i ≡ h) × (a < G.size) × (b < G.size)
Fair G net h i (taken c) = c < G.size

pub record Sane (G : Group) (net : Net) (h : ℕ) (log : Log) : Type 0 where
  pub given : (i : ℕ) → i < inputs net → Fair G net h i (given_at log i)
  pub heard : Codes G log.heard

-- the difference of the clear runs follows the rules along the gates
abbrev pub DifferenceFollows : Type 0
DifferenceFollows =
    (G : Group) → Laws G → (net : Net) → Valid net → G.size ≡ net.size → (h : ℕ) (log : Log) → Sane G net h log → (d : Deal) → Lawful G net d
    → (w : ℕ) → w < wires net → at (difference G net h log d) w ≡ apart G net h log d w
