use Rattle.std.proofs.Common.{arith, rules}
use Rattle.std.proofs.lemmas.Slice.{overwrites}
use Rattle.circuits.specs.Circuits.{net}
use Rattle.dealer.proofs.Shifts.{block_shifted}
use Rattle.dealer.proofs.shifting.Moving.shift_block.Goals as goal

pub returns : goal.returns
returns g c =
    let was = c.args.self.now.was in
    let over = was.over.now in
    let block = c.write_all_cells.new.block in
    block_shifted (g.G.MaskGroup.means over.group.now) was.masks.now c.args.self.now.differences.now (net over.circuit.now) c.copy_from_slice.new.self c.args.shares.now block
    c.shift_outputs.new.places c.cell_count.result c.cell_count.ensures.is (omega (arith, c.requires.places)) (search (rules, overwrites)) c.copy_from_slice.ensures.after
    c.write_all_cells.ensures.done c.write_all_cells.ensures.left c.shift_outputs.ensures
