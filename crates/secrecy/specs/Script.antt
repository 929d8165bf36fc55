-- Two histories of a host, side by side.
use Rattle.std.specs.Prelude.{◌≡◌, ℕ, ◌<◌, Bool, true, false, cond, ◌⊎◌, List, [], ◌∷◌, ◌++◌, length, replicate, ◌==◌, ◌≢◌, slice_set}
use Rattle.groups.specs.Group.{Group}
use Rattle.groups.specs.Total.{total}
use Rattle.model.specs.Words.{at}
use Rattle.model.specs.Net.{Net, inputs}
use Rattle.model.specs.Deal.{Deal, Lawful, part}
use Rattle.model.specs.Host.{Call, stock, enter, takes, walk, hear, opens, close, drops, Control, Answer, ask, fits, asks, or, failing, stocked, turn}
use Rattle.model.specs.Shelf.{Desk, Served, shelf_verdict, serve}
use Rattle.secrecy.specs.Evaluation.{Given, missing, entered, taken, Log, first, second, shift}

-- One step of both histories: the own part of the next deal is stocked; bytes that STOCK refuses, in the first and in the second;
-- an own value is entered, in the first and in the second; any other call, the same in both.
pub data Step : Type 0 where
  dealt : Step
  rejected : List ℕ → List ℕ → Step
  enters : ℕ → ℕ → ℕ → Step
  common : Call → Step

pub record Item : Type 0 where
  pub place : ℕ
  pub step : Step

-- a call to a place
pub record At : Type 0 where
  pub place : ℕ
  pub call : Call

abbrev pub to : ℕ → Call → At
to p c = record { place = p; call = c }

-- THE CALLS

-- the call of a step, `bytes` being the own part of the next deal
abbrev pub first_call : List ℕ → Step → Call
first_call bytes dealt = stock bytes
first_call bytes (rejected a b) = stock a
first_call bytes (enters w a b) = enter w a
first_call bytes (common c) = c

abbrev pub second_call : List ℕ → Step → Call
second_call bytes dealt = stock bytes
second_call bytes (rejected a b) = stock b
second_call bytes (enters w a b) = enter w b
second_call bytes (common c) = c

-- the own part of the next deal, and the deals that are left after a step
abbrev pub top_part : Net → ℕ → List Deal → List ℕ
top_part net h [] = []
top_part net h (d ∷ ds) = part net h d

abbrev pub tail : List Deal → List Deal
tail [] = []
tail (d ∷ ds) = ds

abbrev pub left : Step → List Deal → List Deal
left dealt ds = tail ds
left (rejected a b) ds = ds
left (enters w a b) ds = ds
left (common c) ds = ds

-- the calls of the first history and of the second
unfoldable pub firsts : Net → ℕ → List Item → List Deal → List At
firsts net h [] ds = []
firsts net h (i ∷ s) ds = to i.place (first_call (top_part net h ds) i.step) ∷ firsts net h s (left i.step ds)

unfoldable pub seconds : Net → ℕ → List Item → List Deal → List At
seconds net h [] ds = []
seconds net h (i ∷ s) ds = to i.place (second_call (top_part net h ds) i.step) ∷ seconds net h s (left i.step ds)

-- the two histories exchanged
abbrev pub swap_step : Step → Step
swap_step dealt = dealt
swap_step (rejected a b) = rejected b a
swap_step (enters w a b) = enters w b a
swap_step (common c) = common c

abbrev pub swap_item : Item → Item
swap_item i = record { place = i.place; step = swap_step i.step }

-- THE ANSWERS

-- what a call lets see: its answer, and the buffer's bytes
pub record Seen : Type 0 where
  pub answer : Answer
  pub buffer : List ℕ

abbrev pub seen : Served → Seen
seen r = record { answer = r.answer; buffer = r.buffer }

-- what a list of calls lets see, one after another, with one circuit and one shelf
unfoldable pub runs : Group → Net → Desk → List ℕ → List At → List Seen
runs G net d shelf [] = []
runs G net d shelf (a ∷ rest) =
    let r = serve G net d shelf a.place a.call in
    seen r ∷ runs G net r.desk r.shelf rest

-- THE LOGS

-- the number with which a place refuses a call, or 0, as far as it does not lie in the place's bytes
unfoldable pub refusal : Net → ℕ → Control → Call → ℕ
refusal net h c call = failing (or 12 (fits (ask call) c.phase) ∷ asks net h c call [])

-- what an accepted step adds to the log of its evaluation
abbrev pub giving : Log → ℕ → Given → Log
giving log w g = record { given = slice_set log.given w g; heard = log.heard; shared = log.shared; opened = log.opened }

abbrev pub note_common : Group → Net → Control → Log → Call → Log
note_common G net c log (stock part) = log
note_common G net c log (enter w v) = log
note_common G net c log (takes w m) = giving log w (taken m)
note_common G net c log (walk b) = record { given = log.given; heard = log.heard; shared = (turn net c (walk b)).shares; opened = log.opened }
note_common G net c log (hear cs) = record { given = log.given; heard = log.heard ++ total G cs ∷ []; shared = log.shared; opened = log.opened }
note_common G net c log (opens buf) = record { given = log.given; heard = log.heard; shared = log.shared; opened = true }
note_common G net c log (close cs buf) = log
note_common G net c log drops = log

abbrev pub note : Group → Net → Control → Log → Step → Log
note G net c log dealt = log
note G net c log (rejected a b) = log
note G net c log (enters w a b) = giving log w (entered a b)
note G net c log (common p) = note_common G net c log p

-- an accepted CLOSE or DROP ends the evaluation
abbrev pub ends_with : Call → Bool
ends_with (stock part) = false
ends_with (enter w v) = false
ends_with (takes w m) = false
ends_with (walk b) = false
ends_with (hear cs) = false
ends_with (opens buf) = false
ends_with (close cs buf) = true
ends_with drops = true

abbrev pub ends : Step → Bool
ends dealt = false
ends (rejected a b) = false
ends (enters w a b) = false
ends (common p) = ends_with p

-- the log of an evaluation over the steps of its place, from how far the place is and from the log so far
unfoldable pub log_from : Group → Net → ℕ → Control → Log → List Step → Log
log_from G net h c log [] = log
log_from G net h c log (st ∷ sts) =
    cond (refusal net h c (first_call [] st) == 0)
    (cond (ends st) log (log_from G net h (turn net c (first_call [] st)) (note G net c log st) sts))
    (log_from G net h c log sts)

-- the log after STOCK
abbrev pub fresh : Net → Log
fresh net = record { given = replicate (inputs net) missing; heard = []; shared = 0; opened = false }

-- the steps of one place
unfoldable pub only : ℕ → List Item → List Step
only p [] = []
only p (i ∷ s) = cond (i.place == p) (i.step ∷ only p s) (only p s)

-- the log of each deal's evaluation, in the order of the deals
abbrev pub logs_with : Group → Net → ℕ → ℕ → Step → List Item → List Log → List Log
logs_with G net h p dealt s ls = log_from G net h (stocked net) (fresh net) (only p s) ∷ ls
logs_with G net h p (rejected a b) s ls = ls
logs_with G net h p (enters w a b) s ls = ls
logs_with G net h p (common c) s ls = ls

unfoldable pub logs : Group → Net → ℕ → List Item → List Log
logs G net h [] = []
logs G net h (i ∷ s) = logs_with G net h i.place i.step s (logs G net h s)

-- each deal shifted by its log
unfoldable pub shifted_by : Group → Net → ℕ → List Log → List Deal → List Deal
shifted_by G net h [] ds = ds
shifted_by G net h (l ∷ ls) [] = []
shifted_by G net h (l ∷ ls) (d ∷ ds) = shift G net h l d ∷ shifted_by G net h ls ds

abbrev pub shifted : Group → Net → ℕ → List Item → List Deal → List Deal
shifted G net h s ds = shifted_by G net h (logs G net h s) ds

-- SCRIPTS

-- a fact of every element
unfoldable pub Every : {X : Type 0} → (X → Type 0) → List X → Type 0
Every P [] = Unit {0}
Every P (x ∷ xs) = P x × Every P xs

-- any call but STOCK and ENTER
abbrev pub Other : Call → Type 0
Other (stock part) = ⊥
Other (enter w v) = ⊥
Other (takes w m) = Unit {0}
Other (walk b) = Unit {0}
Other (hear cs) = Unit {0}
Other (opens buf) = Unit {0}
Other (close cs buf) = Unit {0}
Other drops = Unit {0}

-- the histories differ only in values that are codes
abbrev pub Private : Group → Step → Type 0
Private G dealt = Unit {0}
Private G (rejected a b) = Unit {0}
Private G (enters w a b) = (a ≡ b) ⊎ ((a < G.size) × (b < G.size))
Private G (common c) = Other c

-- where the first history comes to a step: a deal's part is accepted; rejected bytes are refused, those of the second history with
-- the same number
abbrev pub Goes : ℕ → Net → Desk → List ℕ → ℕ → List ℕ → Step → Type 0
Goes q net d shelf p bytes dealt = shelf_verdict q net d shelf p (stock bytes) ≡ 0
Goes q net d shelf p bytes (rejected a b) =
    (shelf_verdict q net d shelf p (stock a) ≢ 0) × (shelf_verdict q net d shelf p (stock b) ≡ shelf_verdict q net d shelf p (stock a))
Goes q net d shelf p bytes (enters w a b) = Unit {0}
Goes q net d shelf p bytes (common c) = Unit {0}

unfoldable pub GoesAll : Group → Net → ℕ → Desk → List ℕ → List Item → List Deal → Type 0
GoesAll G net h d shelf [] ds = Unit {0}
GoesAll G net h d shelf (i ∷ s) ds =
    let r = serve G net d shelf i.place (first_call (top_part net h ds) i.step) in
    Goes G.size net d shelf i.place (top_part net h ds) i.step × GoesAll G net h r.desk r.shelf s (left i.step ds)

-- no call of the first history is refused for the bytes of its place, so that the logs go by what the host accepts
unfoldable pub ReadAll : Group → Net → ℕ → Desk → List ℕ → List Item → List Deal → Type 0
ReadAll G net h d shelf [] ds = Unit {0}
ReadAll G net h d shelf (i ∷ s) ds =
    let x = first_call (top_part net h ds) i.step in
    let r = serve G net d shelf i.place x in
    (shelf_verdict G.size net d shelf i.place x ≢ 17) × ReadAll G net h r.desk r.shelf s (left i.step ds)

-- A script for a host, and its family: a lawful deal for each accepted STOCK.
pub record Scripted (G : Group) (net : Net) (h : ℕ) (d : Desk) (shelf : List ℕ) (s : List Item) (ds : List Deal) : Type 0 where
  pub private : Every (λ (i : Item). Private G i.step) s
  pub goes : GoesAll G net h d shelf s ds
  pub lawful : Every (Lawful G net) ds
  pub exact : length ds ≡ length (logs G net h s)

-- an evaluation whose OPEN is accepted comes to the same outputs in both
abbrev pub Agreed : Group → Net → ℕ → Log → Deal → Type 0
Agreed G net h log d =
    log.opened ≡ true
    → (k : ℕ) → k < length net.outputs → at (first G net h log d) (at net.outputs k) ≡ at (second G net h log d) (at net.outputs k)

unfoldable pub AgreeBy : Group → Net → ℕ → List Log → List Deal → Type 0
AgreeBy G net h [] ds = Unit {0}
AgreeBy G net h (l ∷ ls) [] = Unit {0}
AgreeBy G net h (l ∷ ls) (d ∷ ds) = Agreed G net h l d × AgreeBy G net h ls ds

abbrev pub Agree : Group → Net → ℕ → List Item → List Deal → Type 0
Agree G net h s ds = AgreeBy G net h (logs G net h s) ds

-- every other party's part is the same
abbrev pub SameToOthers : Net → ℕ → Deal → Deal → Type 0
SameToOthers net h d e = (p : ℕ) → p ≢ h → part net p d ≡ part net p e

unfoldable pub AllSame : Net → ℕ → List Deal → List Deal → Type 0
AllSame net h [] [] = Unit {0}
AllSame net h [] (e ∷ es) = ⊥
AllSame net h (d ∷ ds) [] = ⊥
AllSame net h (d ∷ ds) (e ∷ es) = SameToOthers net h d e × AllSame net h ds es
