-- What READ answers and what it leaves in the places.
use Rattle.std.specs.Prelude.{◌≡◌, ℕ, List, take, drop}
use Rattle.model.specs.Net.{look_count}
use Rattle.files.specs.declared.gate.Gate.{Gate}
use Rattle.files.specs.declared.contents.Survey.{Survey}
use Rattle.files.specs.declared.contents.Contents.{Contents}
use Rattle.files.specs.Gates.{gates_of}
use Rattle.files.specs.Format.{header_of, directory_of, net_in}

-- the numbers of a file that passed
pub record Surveyed (f : List ℕ) (s : Survey) : Type 0 where
  pub header : s.header ≡ header_of f
  pub directory : s.directory ≡ directory_of f
  pub looks : s.looks ≡ look_count (net_in f).gates

-- the same numbers, and three sections
pub record Answered (f : List ℕ) (c : Contents) : Type 0 where
  pub header : c.header ≡ header_of f
  pub looks : c.looks ≡ look_count (net_in f).gates
  pub owners : c.owners.now ≡ (net_in f).owners
  pub tables : c.tables.now ≡ (net_in f).tables
  pub rows : c.rows.now ≡ (net_in f).rows

-- the first places hold the gates and the outputs of the file, and the spare ones are as they were
pub record Filled (f : List ℕ) (gates gates' : List Gate) (outputs outputs' : List ℕ) : Type 0 where
  pub gates_are : gates_of (take (header_of f).gates gates') ≡ (net_in f).gates
  pub gates_stay : drop (header_of f).gates gates' ≡ drop (header_of f).gates gates
  pub outputs_are : take (header_of f).outputs outputs' ≡ (net_in f).outputs
  pub outputs_stay : drop (header_of f).outputs outputs' ≡ drop (header_of f).outputs outputs
