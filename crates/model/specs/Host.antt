-- One place of a host of party h: the part of one deal and the masked values of the wires, driven by calls.
use Rattle.std.specs.Prelude.{ℕ, zero, suc, ◌+◌, ◌-◌, ◌*◌, Bool, true, false, cond, not, ◌&&◌, List, [], ◌∷◌, ◌++◌, length, take, drop, replicate, ◌==◌, nat_lt, slice_index_or, slice_set}
use Rattle.groups.specs.Group.{Group, sub}
use Rattle.groups.specs.Tested.{are_codes}
use Rattle.groups.specs.Total.{total}
use Rattle.model.specs.Words.{at, tally, each}
use Rattle.model.specs.Net.{Gate, adds, shifts, maps, looks, Net, Rules, inputs, gate_at, wires, ordinal, look_total, step}
use Rattle.model.specs.Deal.{cells, owned, part_length}

-- What a call says: a part; an own wire and its value; another's wire and its masked value; how many gates to pass at most;
-- the others' shares of a LOOK; a buffer for the own output shares; the others' output shares and a buffer for the outputs.
pub data Call : Type 0 where
  stock : List ℕ → Call
  enter : ℕ → ℕ → Call
  takes : ℕ → ℕ → Call
  walk : ℕ → Call
  hear : List ℕ → Call
  opens : List ℕ → Call
  close : List ℕ → List ℕ → Call
  drops : Call

-- What a call answers: the number of a refusal; a number; or of a WALK that it is at the end, has a share to send, or pauses,
-- with the gates that it passed and the shares since STOCK.
pub data Answer : Type 0 where
  refused : ℕ → Answer
  number : ℕ → Answer
  at_end : ℕ → ℕ → Answer
  share : ℕ → ℕ → ℕ → Answer
  pause : ℕ → ℕ → Answer

pub data Phase : Type 0 where
  empty gathering walking waiting ended opened : Phase

-- How far a place is: its phase, which inputs are given, the next gate, how many shares went out.
pub record Control : Type 0 where
  pub phase : Phase
  pub given : List Bool
  pub gate : ℕ
  pub shares : ℕ

-- a place: how far it is, and its bytes
pub record Place : Type 0 where
  pub control : Control
  pub part : List ℕ
  pub wires : List ℕ

-- an empty place's control, and a stocked one's
abbrev pub blank : Net → Control
blank net = record { phase = empty; given = replicate (inputs net) false; gate = 0; shares = 0 }

abbrev pub stocked : Net → Control
stocked net = record { phase = gathering; given = replicate (inputs net) false; gate = 0; shares = 0 }

-- how many inputs are missing
abbrev pub lacking : List Bool → ℕ
lacking bs = tally not bs

-- TESTS

-- a test, and the number of the refusal if it fails
pub record Test : Type 0 where
  pub holds : Bool
  pub number : ℕ

abbrev pub or : ℕ → Bool → Test
or n b = record { holds = b; number = n }

-- the number of the first test that fails, 0 if none does
abbrev pub failing : List Test → ℕ
failing [] = 0
failing (t ∷ ts) = cond t.holds (failing ts) t.number

-- a call without what it says
pub data Ask : Type 0 where
  STOCK ENTER TAKE WALK HEAR OPEN CLOSE DROP : Ask

abbrev pub ask : Call → Ask
ask (stock part) = STOCK
ask (enter w v) = ENTER
ask (takes w m) = TAKE
ask (walk b) = WALK
ask (hear cs) = HEAR
ask (opens buf) = OPEN
ask (close cs buf) = CLOSE
ask drops = DROP

abbrev pub rank : Phase → ℕ
rank empty = 0
rank gathering = 1
rank walking = 2
rank waiting = 3
rank ended = 4
rank opened = 5

abbrev pub is : Phase → Phase → Bool
is p q = rank q == rank p

-- whether a place in this phase takes the call
abbrev pub fits : Ask → Phase → Bool
fits STOCK p = is empty p
fits ENTER p = is gathering p
fits TAKE p = is gathering p
fits WALK p = is walking p
fits HEAR p = is waiting p
fits OPEN p = is ended p
fits CLOSE p = is opened p
fits DROP p = not (is empty p)

-- wire w is an input of h, or of another party; it is not given yet
abbrev pub mine_at : Net → ℕ → ℕ → Bool
mine_at net h w = nat_lt w (inputs net) && at net.owners w == h

abbrev pub theirs_at : Net → ℕ → ℕ → Bool
theirs_at net h w = nat_lt w (inputs net) && not (at net.owners w == h)

abbrev pub absent : Control → ℕ → Bool
absent c w = not (slice_index_or c.given w false)

-- what a call asks of what it says, and then more
abbrev pub asks : Net → ℕ → Control → Call → List Test → List Test
asks net h c (stock part) more = or 15 (length part == part_length net h) ∷ or 16 (are_codes net.size part) ∷ more
asks net h c (enter w v) more = or 13 (mine_at net h w) ∷ or 14 (absent c w) ∷ or 16 (nat_lt v net.size) ∷ more
asks net h c (takes w m) more = or 13 (theirs_at net h w) ∷ or 14 (absent c w) ∷ or 16 (nat_lt m net.size) ∷ more
asks net h c (walk b) more = more
asks net h c (hear cs) more = or 15 (length cs == net.parties - 1) ∷ or 16 (are_codes net.size cs) ∷ more
asks net h c (opens buf) more = or 15 (length buf == length net.outputs) ∷ more
asks net h c (close cs buf) more =
    or 15 (length cs == (net.parties - 1) * length net.outputs && length buf == length net.outputs)
    ∷ or 16 (are_codes net.size cs) ∷ more
asks net h c drops more = more

-- the place's bytes are codes, unless the call does not read them
abbrev pub readable : Net → List ℕ → Ask → Bool
readable net bytes STOCK = true
readable net bytes ENTER = are_codes net.size bytes
readable net bytes TAKE = are_codes net.size bytes
readable net bytes WALK = are_codes net.size bytes
readable net bytes HEAR = are_codes net.size bytes
readable net bytes OPEN = are_codes net.size bytes
readable net bytes CLOSE = are_codes net.size bytes
readable net bytes DROP = true

-- the tests 13 to 17 of a call, the place having these bytes
abbrev pub own : Net → ℕ → Control → List ℕ → Call → List Test
own net h c bytes call = asks net h c call (or 17 (readable net bytes (ask call)) ∷ [])

-- WALK

-- how many gates a WALK passes: those in front of the next LOOK, and not more than it may
unfoldable pub stride : ℕ → List Gate → ℕ
stride b [] = 0
stride zero (g ∷ gs) = 0
stride (suc b) (adds f s ∷ gs) = suc (stride b gs)
stride (suc b) (shifts f c ∷ gs) = suc (stride b gs)
stride (suc b) (maps f r ∷ gs) = suc (stride b gs)
stride (suc b) (looks f t ∷ gs) = 0

abbrev pub steps : Net → ℕ → ℕ → ℕ
steps net g b = stride b (drop g net.gates)

-- where it then stands: at the end, at a LOOK with this operand, or on the way
pub data Stop : Type 0 where
  the_end : Stop
  a_look : ℕ → Stop
  on_the_way : Stop

abbrev pub stop_of : Gate → Stop
stop_of (adds f s) = on_the_way
stop_of (shifts f c) = on_the_way
stop_of (maps f r) = on_the_way
stop_of (looks f t) = a_look f

abbrev pub stop_at : Net → ℕ → Stop
stop_at net k = cond (nat_lt k (length net.gates)) (stop_of (gate_at net k)) the_end

abbrev pub operand_of : Stop → ℕ
operand_of the_end = 0
operand_of (a_look f) = f
operand_of on_the_way = 0

-- masked values flow as clear ones do, up to a LOOK
abbrev pub passing : Group → Rules
passing G = record { shift = λ c x. G.add x c; look = λ l f t x. 0 }

-- the wires after n gates, from gate g on
unfoldable pub pass : Group → Net → ℕ → ℕ → List ℕ → List ℕ
pass G net zero g ws = ws
pass G net (suc n) g ws = pass G net n (suc g) (slice_set ws (inputs net + g) (step G net (passing G) 0 ws (gate_at net g)))

-- NUMBERS

-- the mask of own wire w, and the own share of column k
abbrev pub mask_at : Net → ℕ → List ℕ → ℕ → ℕ
mask_at net h part w = at part (owned h (take w net.owners))

abbrev pub share_at : Net → ℕ → List ℕ → ℕ → ℕ
share_at net h part k = at part (owned h net.owners + k)

-- the own share of the LOOK at gate g whose operand's masked value is x
abbrev pub cell_at : Net → ℕ → List ℕ → ℕ → ℕ → ℕ
cell_at net h part g x = share_at net h part (ordinal net g * net.size + x)

-- the masked value of an own wire, and that of the LOOK at which the others' shares are heard
abbrev pub entered_at : Group → Net → ℕ → Place → ℕ → ℕ → ℕ
entered_at G net h P w v = G.add v (mask_at net h P.part w)

abbrev pub heard_at : Group → Net → ℕ → Place → List ℕ → ℕ
heard_at G net h P cs =
    G.add (cell_at net h P.part P.control.gate (at P.wires (operand_of (stop_at net P.control.gate)))) (total G cs)

-- the others' shares of output k, which come party by party
abbrev pub shares_of : Net → List ℕ → ℕ → List ℕ
shares_of net cs k = each (net.parties - 1) (λ p. at cs (p * length net.outputs + k))

-- output k: its masked value without all shares of its mask
abbrev pub result_at : Group → Net → ℕ → Place → List ℕ → ℕ → ℕ
result_at G net h P cs k =
    sub G (sub G (at P.wires (at net.outputs k)) (share_at net h P.part (cells net + k))) (total G (shares_of net cs k))

-- AN ACCEPTED CALL

-- the control after wire w is given, and where a WALK to gate g stops
abbrev pub filling : Control → ℕ → Control
filling c w =
    let given = slice_set c.given w true in
    record { phase = cond (lacking given == 0) walking gathering; given = given; gate = c.gate; shares = c.shares }

abbrev pub walk_to : Control → ℕ → Stop → Control
walk_to c g the_end = record { phase = ended; given = c.given; gate = g; shares = c.shares }
walk_to c g (a_look f) = record { phase = waiting; given = c.given; gate = g; shares = c.shares + 1 }
walk_to c g on_the_way = record { phase = walking; given = c.given; gate = g; shares = c.shares }

-- how far the place then is
abbrev pub turn : Net → Control → Call → Control
turn net c (stock part) = stocked net
turn net c (enter w v) = filling c w
turn net c (takes w m) = filling c w
turn net c (walk b) = let g = c.gate + steps net c.gate b in walk_to c g (stop_at net g)
turn net c (hear cs) = record { phase = walking; given = c.given; gate = c.gate + 1; shares = c.shares }
turn net c (opens buf) = record { phase = opened; given = c.given; gate = c.gate; shares = c.shares }
turn net c (close cs buf) = blank net
turn net c drops = blank net

-- its part
abbrev pub part_after : Net → ℕ → Place → Call → List ℕ
part_after net h P (stock part) = part
part_after net h P (enter w v) = P.part
part_after net h P (takes w m) = P.part
part_after net h P (walk b) = P.part
part_after net h P (hear cs) = P.part
part_after net h P (opens buf) = P.part
part_after net h P (close cs buf) = replicate (part_length net h) 0
part_after net h P drops = replicate (part_length net h) 0

-- its wires
abbrev pub wires_after : Group → Net → ℕ → Place → Call → List ℕ
wires_after G net h P (stock part) = replicate (wires net) 0
wires_after G net h P (enter w v) = slice_set P.wires w (entered_at G net h P w v)
wires_after G net h P (takes w m) = slice_set P.wires w m
wires_after G net h P (walk b) = pass G net (steps net P.control.gate b) P.control.gate P.wires
wires_after G net h P (hear cs) = slice_set P.wires (inputs net + P.control.gate) (heard_at G net h P cs)
wires_after G net h P (opens buf) = P.wires
wires_after G net h P (close cs buf) = replicate (wires net) 0
wires_after G net h P drops = replicate (wires net) 0

-- the answer
abbrev pub walk_answer : Net → ℕ → Place → ℕ → List ℕ → Stop → Answer
walk_answer net h P n ws the_end = at_end n P.control.shares
walk_answer net h P n ws (a_look f) = share (cell_at net h P.part (P.control.gate + n) (at ws f)) n (P.control.shares + 1)
walk_answer net h P n ws on_the_way = pause n P.control.shares

abbrev pub says : Group → Net → ℕ → Place → Call → Answer
says G net h P (stock part) = number 0
says G net h P (enter w v) = number (entered_at G net h P w v)
says G net h P (takes w m) = number (lacking (slice_set P.control.given w true))
says G net h P (walk b) =
    let n = steps net P.control.gate b in
    walk_answer net h P n (pass G net n P.control.gate P.wires) (stop_at net (P.control.gate + n))
says G net h P (hear cs) = number (heard_at G net h P cs)
says G net h P (opens buf) = number (length net.outputs)
says G net h P (close cs buf) = number (look_total net + length net.outputs)
says G net h P drops = number 0

-- the buffer that a call lends, and what it then holds: the own output shares, or the outputs
abbrev pub lent : Call → List ℕ
lent (stock part) = []
lent (enter w v) = []
lent (takes w m) = []
lent (walk b) = []
lent (hear cs) = []
lent (opens buf) = buf
lent (close cs buf) = buf
lent drops = []

abbrev pub buffer_after : Group → Net → ℕ → Place → Call → List ℕ
buffer_after G net h P (stock part) = []
buffer_after G net h P (enter w v) = []
buffer_after G net h P (takes w m) = []
buffer_after G net h P (walk b) = []
buffer_after G net h P (hear cs) = []
buffer_after G net h P (opens buf) = each (length net.outputs) (λ k. share_at net h P.part (cells net + k))
buffer_after G net h P (close cs buf) = each (length net.outputs) (result_at G net h P cs)
buffer_after G net h P drops = []

-- A CALL

-- what a place answers, what it then is, and what the buffer then holds
pub record Reply : Type 0 where
  pub answer : Answer
  pub place : Place
  pub buffer : List ℕ

-- 0, or the number of the refusal
abbrev pub verdict : Net → ℕ → Place → Call → ℕ
verdict net h P call = failing (or 12 (fits (ask call) P.control.phase) ∷ own net h P.control (P.part ++ P.wires) call)

abbrev pub accept : Group → Net → ℕ → Place → Call → Reply
accept G net h P call =
    record {
      answer = says G net h P call;
      place = record { control = turn net P.control call; part = part_after net h P call; wires = wires_after G net h P call };
      buffer = buffer_after G net h P call;
    }

-- a refusal changes nothing
abbrev pub refuse : Place → Call → ℕ → Reply
refuse P call n = record { answer = refused n; place = P; buffer = lent call }

abbrev pub act : Group → Net → ℕ → Place → Call → Reply
act G net h P call = let n = verdict net h P call in cond (n == 0) (accept G net h P call) (refuse P call n)
