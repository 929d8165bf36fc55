use Rattle.dealer.proofs.Tables.{Going}
use Rattle.dealer.proofs.cells.WritesCells.write_all_cells.Given as goal

abbrev pub invariant-loop-l : goal.invariant-loop-l
invariant-loop-l g l =
    let S = g.Self.WritesCells in
    Going (S.parts l.self) (S.becomes l.self) l.initial.block l.block l.l-iterator.count l.l-iterator.iter
