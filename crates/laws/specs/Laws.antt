-- What is true of every circuit file.
use Rattle.std.specs.Prelude.{◌≡◌, ℕ, ◌≤◌, List, length, take, None}
use Rattle.model.specs.Words.{Below}
use Rattle.model.specs.Net.{Net, Valid}
use Rattle.files.specs.declared.gate.Gate.{Gate as Record}
use Rattle.files.specs.Gates.{gates_of}
use Rattle.files.specs.Format.{header_of, net_in}
use Rattle.files.specs.Faults.{fault}
use Rattle.circuits.specs.Made.{circuit_fault, circuit_net}
use Rattle.laws.specs.Written.{Gaps, Bytes, counts_of, written, Fits, Agree}

-- What is written of a net is made of bytes, if its gaps are; it is accepted, and gives the net and its counts.
pub record Recovered (net : Net) (gaps : Gaps) (gate_places output_places : ℕ) : Type 0 where
  pub bytes : Bytes gaps → Below 256 (written net gaps)
  pub accepted : fault (written net gaps) gate_places output_places ≡ None
  pub counts : header_of (written net gaps) ≡ counts_of net
  pub circuit : net_in (written net gaps) ≡ net

-- Every valid net can be written and read again, whatever its gaps, where there are places for its gates and outputs.
abbrev pub ReadBack : Type 0
ReadBack =
    (net : Net) (gaps : Gaps) (gate_places output_places : ℕ) → Valid net → Fits net gaps → length net.gates ≤ gate_places → length net.outputs ≤ output_places
    → Recovered net gaps gate_places output_places

-- Two files are read alike.
pub record Alike (f g : List ℕ) (gate_places output_places : ℕ) : Type 0 where
  pub verdict : fault f gate_places output_places ≡ fault g gate_places output_places
  pub counts : header_of f ≡ header_of g
  pub circuit : net_in f ≡ net_in g

-- What a file has in its gaps changes nothing, be the file valid or not.
abbrev pub GapsUnread : Type 0
GapsUnread = (f g : List ℕ) (gate_places output_places : ℕ) → Agree f g → Alike f g gate_places output_places

-- what CIRCUIT makes of a file that READ accepted and of places that hold the file's gates and outputs
pub record Held (f : List ℕ) (gates : List Record) (outputs : List ℕ) : Type 0 where
  pub valid : Valid (net_in f)
  pub accepted : circuit_fault f gates outputs ≡ None
  pub same : circuit_net f gates outputs ≡ net_in f

-- what READ accepts is a valid net, and CIRCUIT holds it
abbrev pub CircuitsHold : Type 0
CircuitsHold =
    (f : List ℕ) (gates : List Record) (outputs : List ℕ) → fault f (length gates) (length outputs) ≡ None
    → gates_of (take (header_of f).gates gates) ≡ (net_in f).gates
    → take (header_of f).outputs outputs ≡ (net_in f).outputs
    → Held f gates outputs
