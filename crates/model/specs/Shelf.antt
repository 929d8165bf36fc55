-- A host: a desk that says how far each place is, and a shelf of bytes, place after place.
use Rattle.std.specs.Prelude.{ℕ, ◌+◌, ◌*◌, Bool, true, false, cond, not, ◌&&◌, ◌||◌, List, [], ◌∷◌, ◌++◌, length, take, drop, replicate, ◌==◌, nat_le, nat_lt, slice_index_or, slice_set}
use borrow.Rule.Slice.PartMut.{put_mid}
use Rattle.groups.specs.Group.{Group}
use Rattle.model.specs.Net.{Net, inputs, is_look, gate_at, wires, look_total}
use Rattle.model.specs.Deal.{owned, part_length}
use Rattle.model.specs.Host.{Answer, refused, Ask, STOCK, ENTER, TAKE, WALK, HEAR, OPEN, CLOSE, DROP, empty, ask, fits, Call, Control, blank, Place, Test, or, failing, own, turn, says, part_after, wires_after, lent, buffer_after}

-- The party, the counts of INSTALL's circuit, and each place.
pub record Desk : Type 0 where
  pub party : ℕ
  pub parties : ℕ
  pub inputs : ℕ
  pub gates : ℕ
  pub looks : ℕ
  pub outputs : ℕ
  pub own : ℕ
  pub places : List Control

-- what INSTALL asks of the group's size, the circuit, the party and the number of places
abbrev pub asks_install : ℕ → Net → ℕ → ℕ → List Test
asks_install q net h K = or 9 (net.size == q) ∷ or 10 (nat_lt h net.parties) ∷ or 10 (nat_le 1 K && nat_le K 8) ∷ []

-- INSTALL of party h with a circuit and K places, all empty
abbrev pub installed : Net → ℕ → ℕ → Desk
installed net h K =
    record {
      party = h;
      parties = net.parties;
      inputs = inputs net;
      gates = length net.gates;
      looks = look_total net;
      outputs = length net.outputs;
      own = owned h net.owners;
      places = replicate K (blank net);
    }

-- how far place p is; past the last, not at all
abbrev pub nowhere : Control
nowhere = record { phase = empty; given = []; gate = 0; shares = 0 }

abbrev pub control_at : Desk → ℕ → Control
control_at d p = slice_index_or d.places p nowhere

-- the bytes of one place, where place p begins, and its bytes
abbrev pub room_length : Net → ℕ → ℕ
room_length net h = part_length net h + wires net

abbrev pub start : Net → ℕ → ℕ → ℕ
start net h p = p * room_length net h

abbrev pub room_at : Net → ℕ → List ℕ → ℕ → List ℕ
room_at net h shelf p = take (room_length net h) (drop (start net h p) shelf)

-- place p, as far as c
abbrev pub place_at : Net → ℕ → List ℕ → ℕ → Control → Place
place_at net h shelf p c =
    let room = room_at net h shelf p in
    record { control = c; part = take (part_length net h) room; wires = drop (part_length net h) room }

-- the group's size and the circuit's counts are those of INSTALL
abbrev pub same_counts : ℕ → Net → Desk → Bool
same_counts q net d =
    net.size == q && net.parties == d.parties && inputs net == d.inputs && length net.gates == d.gates
    && look_total net == d.looks && length net.outputs == d.outputs && owned d.party net.owners == d.own

-- the gate at which a waiting place hears is a LOOK
abbrev pub is_hear : Ask → Bool
is_hear STOCK = false
is_hear ENTER = false
is_hear TAKE = false
is_hear WALK = false
is_hear HEAR = true
is_hear OPEN = false
is_hear CLOSE = false
is_hear DROP = false

abbrev pub at_look : Net → Desk → ℕ → Ask → Bool
at_look net d p a =
    not (is_hear a && nat_lt p (length d.places) && fits a (control_at d p).phase)
    || (nat_lt (control_at d p).gate (length net.gates) && is_look (gate_at net (control_at d p).gate))

-- the tests that every call has, the shelf having `len` bytes, and then more
abbrev pub frame : ℕ → Net → Desk → ℕ → ℕ → Ask → List Test → List Test
frame q net d len p a more =
    or 9 (same_counts q net d) ∷ or 9 (at_look net d p a) ∷ or 10 (nat_le (length d.places * room_length net d.party) len)
    ∷ or 11 (nat_lt p (length d.places)) ∷ or 12 (fits a (control_at d p).phase) ∷ more

-- all tests of a call, in their order
abbrev pub tests : ℕ → Net → Desk → List ℕ → ℕ → Call → List Test
tests q net d shelf p call =
    frame q net d (length shelf) p (ask call) (own net d.party (control_at d p) (room_at net d.party shelf p) call)

-- 0, or the number of the refusal
abbrev pub shelf_verdict : ℕ → Net → Desk → List ℕ → ℕ → Call → ℕ
shelf_verdict q net d shelf p call = failing (tests q net d shelf p call)

-- the desk and the shelf with one place changed
abbrev pub seated : Desk → ℕ → Control → Desk
seated d p c =
    record {
      party = d.party;
      parties = d.parties;
      inputs = d.inputs;
      gates = d.gates;
      looks = d.looks;
      outputs = d.outputs;
      own = d.own;
      places = slice_set d.places p c;
    }

abbrev pub stored : Net → ℕ → List ℕ → ℕ → List ℕ → List ℕ
stored net h shelf p room = put_mid (start net h p) (room_length net h) shelf room

-- what a call answers, and the desk, the shelf and the buffer that it leaves
pub record Served : Type 0 where
  pub answer : Answer
  pub desk : Desk
  pub shelf : List ℕ
  pub buffer : List ℕ

abbrev pub accepted : Group → Net → Desk → List ℕ → ℕ → Call → Control → Served
accepted G net d shelf p call c =
    let P = place_at net d.party shelf p c in
    record {
      answer = says G net d.party P call;
      desk = seated d p (turn net c call);
      shelf = stored net d.party shelf p (part_after net d.party P call ++ wires_after G net d.party P call);
      buffer = buffer_after G net d.party P call;
    }

abbrev pub refusing : Desk → List ℕ → List ℕ → ℕ → Served
refusing d shelf buffer n = record { answer = refused n; desk = d; shelf = shelf; buffer = buffer }

-- a call to place p, with the circuit and the shelf that are handed in
abbrev pub serve : Group → Net → Desk → List ℕ → ℕ → Call → Served
serve G net d shelf p call =
    let n = shelf_verdict G.size net d shelf p call in
    cond (n == 0) (accepted G net d shelf p call (control_at d p)) (refusing d shelf (lent call) n)

-- what a call comes to, part by part
abbrev pub outcome : Answer → Desk → List ℕ → List ℕ → Served
outcome a d shelf buffer = record { answer = a; desk = d; shelf = shelf; buffer = buffer }
