use Rattle.std.proofs.Common.{arith, rules}
use Rattle.std.proofs.lemmas.Slice.{overwrites}
use Rattle.circuits.specs.Circuits.{net}
use Rattle.dealer.proofs.Tables.{lacking_written}
use Rattle.dealer.proofs.masked.Masked.write_lacking.Goals as goal

pub returns : goal.returns
returns g c =
    let over = c.args.self.now.over.now in
    lacking_written (g.G.MaskGroup.means over.group.now) (net over.circuit.now) c.args.self.now.masks.now c.args.block.now c.write_all_cells.new.block c.write_lacking_outputs.new.places
    c.cell_count.result c.cell_count.ensures.is (omega (arith, c.requires.places)) (search (rules, overwrites)) c.write_all_cells.ensures.done c.write_all_cells.ensures.left c.write_lacking_outputs.ensures
