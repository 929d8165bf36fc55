-- The lengths of what a dealer reads and writes, and where a part has the mask of a wire.
use Rattle.std.specs.Prelude.{ℕ, ◌+◌, ◌&&◌, if◌then◌else◌, take, Some, None, Option, ◌==◌, nat_lt}
use Rattle.refusals.specs.declared.Refusal.{Refusal}
use Rattle.refusals.specs.declared.Refusal.TheVariants.{Party}
use Rattle.refusals.specs.Tests.{unless}
use Rattle.model.specs.Words.{at}
use Rattle.model.specs.Net.{Net, inputs, wires}
use Rattle.model.specs.Deal.{owned, part_length}

-- h is one of the parties
abbrev pub party_fault : Net → ℕ → Option Refusal
party_fault net h = unless (nat_lt h net.parties) Party

-- what a party keeps for one evaluation: its part, and a number for each wire
abbrev pub place_length : Net → ℕ → ℕ
place_length net h = part_length net h + wires net

-- where the part of h has the mask of wire w, if w is an input of h: past the masks of h's inputs before w
abbrev pub slot_of : Net → ℕ → ℕ → Option ℕ
slot_of net h w = (if nat_lt w (inputs net) && at net.owners w == h then Some (owned h (take w net.owners)) else None)
