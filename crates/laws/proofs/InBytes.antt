-- A written file is made of bytes. Assumes nothing.
use Rattle.std.proofs.Common.{ℕ, ◌<◌, ◌≤◌, List, [], ◌∷◌, ◌++◌, arith}
use Rattle.std.specs.List.{flat_map as each, AllByRecursion as All}
use Rattle.std.proofs.ByRecursion.{All-append, All-get_or, All-from_get_or}
use Rattle.model.specs.Words.{Below}
use Rattle.model.specs.Net.{Net, Gate, adds, shifts, maps, looks, Valid}
use Rattle.laws.specs.Written.{Gaps, Bytes, two_bytes, four_bytes, kind_byte, gate_bytes, counts_of, in_order, directory, written}
use Rattle.laws.proofs.Sections.{chained, front, pieces}

abbrev Byte : ℕ → Type 0
Byte x = x < 256

all_each : {X : Type 0} (bytes : X → List ℕ) → ((x : X) → All Byte (bytes x)) → (xs : List X) → All Byte (each bytes xs)
all_each bytes h [] = tt
all_each bytes h (x ∷ xs) = All-append Byte (bytes x) (each bytes xs) (h x) (all_each bytes h xs)

all_chained : (f : List ℕ) (ps : List (List ℕ)) → All Byte f → All (All Byte) ps → All Byte (chained f ps)
all_chained f [] h t = h
all_chained f (p ∷ ps) h t = all_chained (f ++ p) ps (All-append Byte f p h t.0) t.1

all_below : (q : ℕ) (xs : List ℕ) → q ≤ 256 → Below q xs → All Byte xs
all_below q xs l h = All-from_get_or Byte xs 0 (λ k b. omega (arith, h k b))

gap : (xs : List ℕ) → Below 256 xs → All Byte xs
gap xs h = all_below 256 xs (omega arith) h

next : {A B : Type 0} → A → B → A × B
next a b = (a, b)

two_bytes_lem : (n : ℕ) → All Byte (two_bytes n)
two_bytes_lem n = (omega arith, (omega arith, tt))

four_bytes_lem : (n : ℕ) → All Byte (four_bytes n)
four_bytes_lem n = (omega arith, (omega arith, (omega arith, (omega arith, tt))))

kind_byte_lem : (g : Gate) → kind_byte g < 256
kind_byte_lem (adds f s) = omega arith
kind_byte_lem (shifts f s) = omega arith
kind_byte_lem (maps f s) = omega arith
kind_byte_lem (looks f s) = omega arith

gate_bytes_lem : (g : Gate) → All Byte (gate_bytes g)
gate_bytes_lem g = (kind_byte_lem g, (omega arith, (omega arith, (omega arith, (omega arith, tt)))))

module _ (net : Net) (gaps : Gaps) (v : Valid net) (b : Bytes gaps) where
  pieces_bytes : All (All Byte) (pieces net gaps)
  pieces_bytes =
      next (gap _ b.0) (next (all_below net.parties _ (omega arith) v.named.0)
      (next (gap _ b.1) (next (all_below net.size _ v.sized.1 v.coded.0)
      (next (gap _ b.2) (next (all_below net.size _ v.sized.1 v.coded.1)
      (next (gap _ b.3) (next (all_each gate_bytes gate_bytes_lem net.gates)
      (next (gap _ b.4) (next (all_each two_bytes two_bytes_lem net.outputs)
      (next (gap _ b.5) tt))))))))))

  pub in_bytes : Below 256 (written net gaps)
  in_bytes k l =
      let counts = all_each two_bytes two_bytes_lem (in_order (counts_of net)) in
      let entries = all_each four_bytes four_bytes_lem (directory net gaps) in
      All-get_or Byte (written net gaps) k 0 l
      (all_chained (front net gaps) (pieces net gaps)
      (All-append Byte (each two_bytes (in_order (counts_of net))) (each four_bytes (directory net gaps)) counts entries)
      pieces_bytes)
