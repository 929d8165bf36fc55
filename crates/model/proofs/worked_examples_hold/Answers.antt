use Rattle.std.proofs.Common.{refl}
use Rattle.model.specs.Net.{lookups_from, grow}
use Rattle.model.specs.Deal.{masks}
use Rattle.model.proofs.worked_examples_hold.Goals as goal

pub returns : goal.returns
unfolding grow lookups_from masks
returns c =
    record {
      negative = refl;
      product = refl;
      double = refl;
      double_again = refl;
      wires = refl;
      opened = refl;
      mask_two = refl;
      masked = refl;
      cell_five = refl;
    }
