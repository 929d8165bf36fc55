-- A call on the shelf is a call on one place.
use Rattle.std.specs.Prelude.{◌≡◌, ℕ, ◌*◌, ◌<◌, ◌≤◌, true, List, length, drop, ◌≢◌}
use Rattle.groups.specs.Group.{Group}
use Rattle.model.specs.Net.{Net}
use Rattle.model.specs.Host.{Call, Place, ask, act}
use Rattle.model.specs.Shelf.{Desk, control_at, place_at, room_length, same_counts, at_look, seated, serve}

-- place p of a desk and a shelf
abbrev pub place_of : Net → Desk → List ℕ → ℕ → Place
place_of net d shelf p = place_at net d.party shelf p (control_at d p)

-- a call with a circuit of INSTALL's counts and a shelf that is long enough, to a place that there is
pub record Proper (G : Group) (net : Net) (d : Desk) (shelf : List ℕ) (p : ℕ) (call : Call) : Type 0 where
  pub counts : same_counts G.size net d ≡ true
  pub look : at_look net d p (ask call) ≡ true
  pub long : length d.places * room_length net d.party ≤ length shelf
  pub there : p < length d.places

pub record Lifted (G : Group) (net : Net) (d : Desk) (shelf : List ℕ) (p : ℕ) (call : Call) : Type 0 where
  -- it answers as the place does
  pub answer : (serve G net d shelf p call).answer ≡ (act G net d.party (place_of net d shelf p) call).answer
  pub buffer : (serve G net d shelf p call).buffer ≡ (act G net d.party (place_of net d shelf p) call).buffer
  -- the place is then what it becomes, on the shelf and on the desk
  pub here :
      place_of net (serve G net d shelf p call).desk (serve G net d shelf p call).shelf p ≡ (act G net d.party (place_of net d shelf p) call).place
  pub desk : (serve G net d shelf p call).desk ≡ seated d p (act G net d.party (place_of net d shelf p) call).place.control
  -- every other place is as it was
  pub others :
      (o : ℕ) → o < length d.places → o ≢ p
      → place_of net (serve G net d shelf p call).desk (serve G net d shelf p call).shelf o ≡ place_of net d shelf o
  -- and so are the bytes past the last
  pub past :
      drop (length d.places * room_length net d.party) (serve G net d shelf p call).shelf
      ≡ drop (length d.places * room_length net d.party) shelf
  pub length_kept : length (serve G net d shelf p call).shelf ≡ length shelf

abbrev pub Lifts : Type 0
Lifts =
    (G : Group) (net : Net) (d : Desk) (shelf : List ℕ) (p : ℕ) (call : Call) → Proper G net d shelf p call → Lifted G net d shelf p call
