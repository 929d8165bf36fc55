use Rattle.std.proofs.Common.{◌+◌, ◌*◌, ◌∙◌, arith}
use Rattle.std.proofs.lemmas.List.Edits.{length-between}
use Rattle.circuits.specs.Looked.{lookup_of}
use Rattle.dealer.proofs.Tables.{look_next, all_gone, going_more}
use Rattle.dealer.proofs.cells.WritesCells.write_all_cells.Goals as goal

pub slice_bounds-write_cells-end : goal.slice_bounds-write_cells-end
slice_bounds-write_cells-end g c =
    let next =
    look_next c.circuit-circuit.ensures c.circuit-circuit.result.now.valid c.loop-l.invariant c.in-Some.l c.from-size.result (lookup_of c.in-Some.look) c.next.new.self.iter c.in-Some.ensures.steps.0
    c.in-Some.ensures.steps.1 (c.from-size.ensures ∙ c.size.ensures.is) in
    omega (arith, next.room, c.requires)

pub write_cells-requires : goal.write_cells-requires
write_cells-requires g c =
    let next =
    look_next c.circuit-circuit.ensures c.circuit-circuit.result.now.valid c.loop-l.invariant c.in-Some.l c.from-size.result (lookup_of c.in-Some.look) c.next.new.self.iter c.in-Some.ensures.steps.0
    c.in-Some.ensures.steps.1 (c.from-size.ensures ∙ c.size.ensures.is) in
    let start = c.in-Some.l * c.from-size.result in
    record { look = next.within; places = length-between c.loop-l.block start (start + c.from-size.result) (omega (arith, next.room, c.requires)) ∙ omega (arith, next.wide) }

pub loop-l-preserved : goal.loop-l-preserved
loop-l-preserved g c =
    let next =
    look_next c.circuit-circuit.ensures c.circuit-circuit.result.now.valid c.loop-l.invariant c.in-Some.l c.from-size.result (lookup_of c.in-Some.look) c.next.new.self.iter c.in-Some.ensures.steps.0
    c.in-Some.ensures.steps.1 (c.from-size.ensures ∙ c.size.ensures.is) in
    going_more c.loop-l.invariant c.in-Some.l c.from-size.result (lookup_of c.in-Some.look) c.next.new.self.iter next (omega (arith, c.requires)) c.next.new.self.count c.in-Some.ensures.steps.2
    c.write_cells.new.cells c.write_cells.ensures

pub returns : goal.returns
returns g c = let all = all_gone c.loop-l.invariant c.in-None.ensures.steps.0.0 in record { done = all.done; left = all.left }
