-- What is written of a valid net holds it. Assumes nothing.
use Rattle.std.proofs.Common.{◌≡◌, ℕ, ◌^◌, ◌<◌, [], length, get_or, refl, arith}
use Rattle.std.proofs.lemmas.Nat.{mul-le}
use Rattle.model.specs.Net.{Net, Valid, inputs, table_count, row_count}
use Rattle.files.specs.Format.{header_of}
use Rattle.laws.specs.Written.{Gaps, Fits, two_bytes, gate_bytes, counts_of, gate_section, output_section, owners_start, tables_start, rows_start, gates_start, outputs_start, written}
use Rattle.laws.specs.Laws.{ReadBack}
use Rattle.laws.proofs.Bytes.{two_read, four_read, length_each}
use Rattle.laws.proofs.Sections.{Part, piece, start, front, pieces}
use Rattle.laws.proofs.InBytes.{in_bytes}
use Rattle.laws.proofs.Accepted.{Holds, accepted, circuit}

module _ (net : Net) (gaps : Gaps) (v : Valid net) (fits : Fits net gaps) where
  counts_read : header_of (written net gaps) ≡ counts_of net
  counts_read i =
      record {
        size = two_read net.size (omega arith) i;
        parties = two_read net.parties (omega arith) i;
        inputs = two_read (inputs net) (omega arith) i;
        gates = two_read (length net.gates) (omega arith) i;
        tables = two_read (table_count net) (omega arith) i;
        rows = two_read (row_count net) (omega arith) i;
        outputs = two_read (length net.outputs) (omega arith) i;
      }

  part : (k : ℕ) → k < 11 → Part (written net gaps) (start 54 (pieces net gaps) k) (get_or (pieces net gaps) k [])
  part k b = piece (front net gaps) 54 (pieces net gaps) k refl b

  tables_long : length net.tables < 2 ^ 32
  tables_long = omega (arith, mul-le (table_count net) net.size 16 256 v.whole.1 v.sized.1)

  gates_long : length (gate_section net) < 2 ^ 32
  gates_long = omega (arith, length_each gate_bytes 5 (λ g. refl) net.gates)

  outputs_long : length (output_section net) < 2 ^ 32
  outputs_long = omega (arith, length_each two_bytes 2 (λ n. refl) net.outputs)

  holds : Holds (written net gaps) net gaps
  holds =
      record {
        counts = counts_read;
        owners =
            record { begins = four_read (owners_start net gaps) (omega arith); measures = four_read (length net.owners) (omega arith); part = part 1 (omega arith) };
        tables =
            record { begins = four_read (tables_start net gaps) (omega arith); measures = four_read (length net.tables) tables_long; part = part 3 (omega arith) };
        rows =
            record { begins = four_read (rows_start net gaps) (omega arith); measures = four_read (length net.rows) (omega arith); part = part 5 (omega arith) };
        gates =
            record { begins = four_read (gates_start net gaps) (omega arith); measures = four_read (length (gate_section net)) gates_long; part = part 7 (omega arith) };
        outputs =
            record { begins = four_read (outputs_start net gaps) (omega arith); measures = four_read (length (output_section net)) outputs_long; part = part 9 (omega arith) };
      }

pub read_back : ReadBack
read_back net gaps gate_places output_places v fits g o =
    let h = holds net gaps v fits in
    let f = written net gaps in
    record {
      bytes = in_bytes net gaps v;
      accepted = accepted f net gaps v h gate_places output_places g o;
      counts = h.counts;
      circuit = circuit f net gaps v h;
    }
