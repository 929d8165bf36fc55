-- What a host lets see says nothing of the values entered at it.
use Rattle.std.specs.Prelude.{◌≡◌, ℕ, ◌<◌, cond, List, [], ◌∷◌, ◌++◌, map, ◌==◌}
use Rattle.groups.specs.Group.{Group, Laws}
use Rattle.model.specs.Net.{Net, Valid}
use Rattle.model.specs.Deal.{Deal, Lawful, part}
use Rattle.model.specs.Tape.{Tape, deal_of, tape_of}
use Rattle.model.specs.Host.{Call, stock, enter, takes, walk, hear, opens, close, drops}
use Rattle.model.specs.Shelf.{Desk, shelf_verdict, serve, installed}
use Rattle.secrecy.specs.Script.{Item, At, swap_item, firsts, seconds, runs, shifted, Every, ReadAll, Scripted, Agree, AllSame}

-- one script on one desk, from one shelf
pub record Hidden (G : Group) (net : Net) (h : ℕ) (d : Desk) (shelf : List ℕ) (s : List Item) (ds : List Deal) : Type 0 where
  -- the second history with the deals shifted is answered as the first, if opened evaluations come to the same outputs
  pub answers : Agree G net h s ds → runs G net d shelf (firsts net h s ds) ≡ runs G net d shelf (seconds net h s (shifted G net h s ds))
  -- shifted deals are lawful, and the same to all other parties
  pub lawful : Every (Lawful G net) (shifted G net h s ds)
  pub others : AllSame net h (shifted G net h s ds) ds
  -- the exchanged script shifts them back
  pub undone : shifted G net h (map swap_item s) (shifted G net h s ds) ≡ ds
  -- no call of the first history is refused for its place's bytes, so what is logged is what is accepted
  pub read : ReadAll G net h d shelf s ds
  -- the exchanged script is one, and its first history is the second one here
  pub exchanged : Scripted G net h d shelf (map swap_item s) (shifted G net h s ds)
  pub agrees : Agree G net h s ds → Agree G net h (map swap_item s) (shifted G net h s ds)
  pub histories : (es : List Deal) → firsts net h (map swap_item s) es ≡ seconds net h s es

-- OVER TAPES

-- the tapes of the second history that go with the tapes ts of the first
abbrev pub matched : Group → Net → ℕ → List Item → List (List ℕ) → List (List ℕ)
matched G net h s ts = map (tape_of net) (shifted G net h s (map (deal_of G net) ts))

pub record Matched (G : Group) (net : Net) (h : ℕ) (d : Desk) (shelf : List ℕ) (s : List Item) (ts us : List (List ℕ)) : Type 0 where
  -- they are tapes
  pub tapes : Every (Tape G net) us
  -- the host lets see the same in the first history with the ones as in the second with the others
  pub answers :
      Agree G net h s (map (deal_of G net) ts)
      → runs G net d shelf (firsts net h s (map (deal_of G net) ts)) ≡ runs G net d shelf (seconds net h s (map (deal_of G net) us))
  -- every other party's part is the same
  pub others : AllSame net h (map (deal_of G net) us) (map (deal_of G net) ts)
  -- they go with the exchanged script, and it matches them back
  pub exchanged : Scripted G net h d shelf (map swap_item s) (map (deal_of G net) us)
  pub agrees : Agree G net h s (map (deal_of G net) ts) → Agree G net h (map swap_item s) (map (deal_of G net) us)
  pub back : matched G net h (map swap_item s) us ≡ ts

-- NO LIST OF CALLS IS LEFT OUT

-- the bytes of the STOCKs that are accepted
abbrev pub bytes_of : Call → List (List ℕ)
bytes_of (stock bytes) = bytes ∷ []
bytes_of (enter w v) = []
bytes_of (takes w m) = []
bytes_of (walk b) = []
bytes_of (hear cs) = []
bytes_of (opens buf) = []
bytes_of (close cs buf) = []
bytes_of drops = []

unfoldable pub stocks : Group → Net → Desk → List ℕ → List At → List (List ℕ)
stocks G net d shelf [] = []
stocks G net d shelf (a ∷ rest) =
    let r = serve G net d shelf a.place a.call in
    cond (shelf_verdict G.size net d shelf a.place a.call == 0) (bytes_of a.call) [] ++ stocks G net r.desk r.shelf rest

-- a script whose first history these calls are
pub record FirstOf (G : Group) (net : Net) (h : ℕ) (d : Desk) (shelf : List ℕ) (calls : List At) (ds : List Deal) : Type 0 where
  pub script : List Item
  pub scripted : Scripted G net h d shelf script ds
  pub same : firsts net h script ds ≡ calls

-- THE WHOLE

-- For every group and circuit, every party and number of places, every shelf, and every circuit at INSTALL.
pub record Secrecy : Type 0 where
  pub hides :
      (G : Group) → Laws G → (net : Net) → Valid net → (at_install : Net) (h K : ℕ) → h < at_install.parties
      → (shelf : List ℕ) (s : List Item) (ds : List Deal)
      → Scripted G net h (installed at_install h K) shelf s ds
      → Hidden G net h (installed at_install h K) shelf s ds
  -- the same over the tapes that a dealer draws: each way round one to one
  pub over_tapes :
      (G : Group) → Laws G → (net : Net) → Valid net → (at_install : Net) (h K : ℕ) → h < at_install.parties
      → (shelf : List ℕ) (s : List Item) (ts : List (List ℕ))
      → Every (Tape G net) ts
      → Scripted G net h (installed at_install h K) shelf s (map (deal_of G net) ts)
      → Matched G net h (installed at_install h K) shelf s ts (matched G net h s ts)
  -- every list of calls whose accepted STOCKs are own parts of lawful deals is the first history of a script
  pub nothing_lost :
      (G : Group) (net at_install : Net) (h K : ℕ) (shelf : List ℕ) (calls : List At) (ds : List Deal)
      → Every (Lawful G net) ds
      → stocks G net (installed at_install h K) shelf calls ≡ map (part net h) ds
      → FirstOf G net h (installed at_install h K) shelf calls ds
