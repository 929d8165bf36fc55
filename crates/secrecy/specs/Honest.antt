-- The honest run: every party sends what its part holds.
use Rattle.std.specs.Prelude.{◌≡◌, ℕ, ◌+◌, ◌-◌, ◌*◌, ◌<◌, ◌≤◌, cond, List, [], ◌∷◌, ◌++◌, map, length, take, drop, ◌==◌}
use Rattle.std.specs.List.{range_with_len, flat_map}
use Rattle.groups.specs.Group.{Group, Laws, Codes}
use Rattle.model.specs.Words.{at, each}
use Rattle.model.specs.Net.{Net, Valid, inputs, wires, look_total, lookup_at}
use Rattle.model.specs.Clear.{clear, outputs_of}
use Rattle.model.specs.Deal.{Deal, Lawful, masks, cells, part}
use Rattle.model.specs.Host.{Call, stock, enter, takes, walk, hear, opens, close, number, at_end, share, Answer, mask_at, share_at}
use Rattle.model.specs.Shelf.{installed, room_length}
use Rattle.secrecy.specs.Script.{to, Seen, runs}

-- the parties other than h
abbrev pub other_parties : Net → ℕ → List ℕ
other_parties net h = take h (range_with_len 0 net.parties) ++ drop (h + 1) (range_with_len 0 net.parties)

-- what its owner's part makes of the value of wire w, and what the part of party p holds at column k
abbrev pub sends_input : Group → Net → Deal → List ℕ → ℕ → ℕ
sends_input G net d values w = G.add (at values w) (mask_at net (at net.owners w) (part net (at net.owners w) d) w)

abbrev pub sends_share : Net → Deal → ℕ → ℕ → ℕ
sends_share net d k p = share_at net p (part net p d) k

-- the masked value of wire w, and the column that is read at LOOK l
abbrev pub masked_at : Group → Net → Deal → List ℕ → ℕ → ℕ
masked_at G net d values w = G.add (at (clear G net values) w) (at (masks G net d) w)

abbrev pub column_at : Group → Net → Deal → List ℕ → ℕ → ℕ
column_at G net d values l = l * net.size + masked_at G net d values (lookup_at net l).operand

-- the first wire after the LOOK before LOOK l
abbrev pub start_at : Net → ℕ → ℕ
start_at net l = cond (l == 0) (inputs net) ((lookup_at net (l - 1)).wire + 1)

-- THE CALLS of party h: its part; each input; a WALK and what the others send at each LOOK; the last WALK, OPEN, and CLOSE with what the
-- others send

abbrev pub input_call : Group → Net → ℕ → Deal → List ℕ → ℕ → Call
input_call G net h d values w = cond (at net.owners w == h) (enter w (at values w)) (takes w (sends_input G net d values w))

abbrev pub look_calls : Group → Net → ℕ → Deal → List ℕ → ℕ → List Call
look_calls G net h d values l =
    walk (length net.gates) ∷ hear (map (sends_share net d (column_at G net d values l)) (other_parties net h)) ∷ []

abbrev pub others_outputs : Net → ℕ → Deal → List ℕ
others_outputs net h d = flat_map (λ p. each (length net.outputs) (λ k. sends_share net d (cells net + k) p)) (other_parties net h)

abbrev pub last_calls : Net → ℕ → Deal → List ℕ → List ℕ → List Call
last_calls net h d buffer buffer' = walk (length net.gates) ∷ opens buffer ∷ close (others_outputs net h d) buffer' ∷ []

abbrev pub honest_calls : Group → Net → ℕ → Deal → List ℕ → List ℕ → List ℕ → List Call
honest_calls G net h d values buffer buffer' =
    stock (part net h d)
    ∷ (each (inputs net) (input_call G net h d values)
    ++ (flat_map (look_calls G net h d values) (range_with_len 0 (look_total net)) ++ last_calls net h d buffer buffer'))

-- THE ANSWERS: what h sends; the masked value of each LOOK; at the end the clear outputs

abbrev pub plain : Answer → Seen
plain a = record { answer = a; buffer = [] }

abbrev pub input_seen : Group → Net → ℕ → Deal → List ℕ → ℕ → Seen
input_seen G net h d values w = plain (number (cond (at net.owners w == h) (sends_input G net d values w) (inputs net - (w + 1))))

abbrev pub look_seen : Group → Net → ℕ → Deal → List ℕ → ℕ → List Seen
look_seen G net h d values l =
    plain (share (sends_share net d (column_at G net d values l) h) ((lookup_at net l).wire - start_at net l) (l + 1))
    ∷ plain (number (masked_at G net d values (lookup_at net l).wire)) ∷ []

abbrev pub last_seen : Group → Net → ℕ → Deal → List ℕ → List Seen
last_seen G net h d values =
    plain (at_end (wires net - start_at net (look_total net)) (look_total net))
    ∷ record { answer = number (length net.outputs); buffer = each (length net.outputs) (λ k. sends_share net d (cells net + k) h) }
    ∷ record { answer = number (look_total net + length net.outputs); buffer = outputs_of net (clear G net values) } ∷ []

abbrev pub honest_seen : Group → Net → ℕ → Deal → List ℕ → List Seen
honest_seen G net h d values =
    plain (number 0)
    ∷ (each (inputs net) (input_seen G net h d values)
    ++ (flat_map (look_seen G net h d values) (range_with_len 0 (look_total net)) ++ last_seen G net h d values))

-- A host answers the honest calls with what it sends, and the last with the clear outputs: at any place, on any shelf that is long
-- enough, with any lawful deal and any values.
abbrev pub Honest : Type 0
Honest =
    (G : Group) → Laws G → (net : Net) → Valid net → G.size ≡ net.size → (h : ℕ) → h < net.parties → (K p : ℕ) → p < K
    → (shelf : List ℕ) → K * room_length net h ≤ length shelf
    → (d : Deal) → Lawful G net d → (values : List ℕ) → length values ≡ inputs net → Codes G values
    → (buffer buffer' : List ℕ) → length buffer ≡ length net.outputs → length buffer' ≡ length net.outputs
    → runs G net (installed net h K) shelf (map (to p) (honest_calls G net h d values buffer buffer')) ≡ honest_seen G net h d values
