-- The number and the figure of each refusal.
use Rattle.std.specs.Prelude.{ℕ, Some, None, Option}
use Rattle.refusals.specs.declared.Refusal.{Refusal}
use Rattle.refusals.specs.declared.Refusal.TheVariants.{Layout, Limit, Places, Kind, Operand, Code, Absent, Group, Counts, Party, Length, NotCode}

-- the number of a cause; 11 to 14 and 17 are kept free for later calls
abbrev pub number : Refusal → ℕ
number (Layout _) = 1
number (Limit _) = 2
number (Places _) = 3
number (Kind _) = 4
number (Operand _) = 5
number (Code _) = 6
number (Absent _) = 7
number Group = 8
number Counts = 9
number Party = 10
number Length = 15
number NotCode = 16

-- the offset or length that shows a cause from 1 to 7
abbrev pub figure : Refusal → Option ℕ
figure (Layout at) = Some at
figure (Limit at) = Some at
figure (Places at) = Some at
figure (Kind at) = Some at
figure (Operand at) = Some at
figure (Code at) = Some at
figure (Absent at) = Some at
figure Group = None
figure Counts = None
figure Party = None
figure Length = None
figure NotCode = None
