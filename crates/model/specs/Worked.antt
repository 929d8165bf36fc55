-- Worked examples of the definitions.
use Rattle.std.specs.Prelude.{◌≡◌, ℕ, List, [], ◌∷◌}
use Rattle.groups.specs.Bitwise.{xor_group}
use Rattle.groups.specs.Modular.{mod_group}
use Rattle.model.specs.Words.{at, each}
use Rattle.model.specs.Net.{Net, adds, looks}
use Rattle.model.specs.Clear.{clear, outputs_of}
use Rattle.model.specs.Deal.{Deal, masks, owed_at}

-- multiplication by 9 in the integers modulo 10
abbrev pub ninefold : List ℕ
ninefold = 9 ∷ 0 ∷ 0 ∷ 0 ∷ 0 ∷ 0 ∷ 0 ∷ 0 ∷ []

-- doubling in the field of 256 elements
abbrev pub doubling : List ℕ
doubling = 2 ∷ 4 ∷ 8 ∷ 16 ∷ 32 ∷ 64 ∷ 128 ∷ 27 ∷ []

-- the last digits of the squares
abbrev pub squares : List ℕ
squares = 0 ∷ 1 ∷ 4 ∷ 9 ∷ 6 ∷ 5 ∷ 6 ∷ 9 ∷ 4 ∷ 1 ∷ []

-- the example circuit: parties 0 and 1 give a digit each, and the square of their sum is put out
abbrev pub example : Net
example =
    record { size = 10; parties = 2; owners = 0 ∷ 1 ∷ []; tables = squares; rows = []; gates = adds 0 1 ∷ looks 2 0 ∷ []; outputs = 3 ∷ [] }

-- a deal of it, before any shares: masks 4 and 8 for the inputs, 5 for the LOOK
abbrev pub example_deal : Deal
example_deal = record { inputs = 4 ∷ 8 ∷ []; looks = 5 ∷ []; shares = [] }

-- the masks of its wires, and its wires' clear values on 7 and 6
abbrev pub example_masks : List ℕ
example_masks = masks (mod_group 10) example example_deal

abbrev pub example_values : List ℕ
example_values = clear (mod_group 10) example (7 ∷ 6 ∷ [])

pub record Worked : Type 0 where
  -- modulo 10 the negative of 4 is 6, and nine times 3 is 7
  pub negative : (mod_group 10).neg 4 ≡ 6
  pub product : (mod_group 10).image ninefold 3 ≡ 7
  -- doubled, 87 is 174, and 174 is 71
  pub double : (xor_group 8).image doubling 87 ≡ 174
  pub double_again : (xor_group 8).image doubling 174 ≡ 71
  -- the example on 7 and 6: wire 2 has 3, wire 3 has 9, which is put out
  pub wires : example_values ≡ 7 ∷ 6 ∷ 3 ∷ 9 ∷ []
  pub opened : outputs_of example example_values ≡ 9 ∷ []
  -- dealt masks 4, 8 and 5: wire 2 has mask 2; wires 0, 1 and 2 show 1, 4 and 5; cell 5 adds to 4
  pub mask_two : at example_masks 2 ≡ 2
  pub masked : each 3 (λ w. (mod_group 10).add (at example_values w) (at example_masks w)) ≡ 1 ∷ 4 ∷ 5 ∷ []
  pub cell_five : owed_at (mod_group 10) example example_masks 5 ≡ 4
