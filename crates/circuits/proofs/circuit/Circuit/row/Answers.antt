use Rattle.std.proofs.Common.{◌∙◌, ap₂, length, ◌/◌, get_or, []}
use Rattle.circuits.proofs.Chunks.{chunk_at}
use Rattle.circuits.proofs.circuit.Circuit.row.Goals as goal

pub returns : goal.returns
returns c =
    let rows = c.args.self.now.rows.now in
    ap₂ (λ xss k. get_or xss k []) c.as_chunks.ensures.front c.from.ensures ∙ chunk_at 8 (length rows / 8) rows c.args.r c.requires
