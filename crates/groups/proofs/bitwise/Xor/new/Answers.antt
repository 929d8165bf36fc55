use Rattle.std.proofs.Common.{sym, ◌∙◌, arith}
use Rattle.groups.proofs.Powers.{power, no_power}
use Rattle.groups.proofs.bitwise.Xor.new.Goals as goal

pub invariant_of-result : goal.invariant_of-result
invariant_of-result c = let p = power c.args.size (omega arith) (omega arith) (sym c.is_power_of_two.ensures ∙ c.if-is_power_of_two.true) in record { ok = (p.2, p.3) }

pub returns-in-2-to-256-clause-made : goal.returns-in-2-to-256-clause-made
returns-in-2-to-256-clause-made c = (power c.args.size (omega arith) (omega arith) (sym c.is_power_of_two.ensures ∙ c.if-is_power_of_two.true)).1

pub returns-in-2-to-256-clause-allowed : goal.returns-in-2-to-256-clause-allowed
returns-in-2-to-256-clause-allowed c = sym (power c.args.size (omega arith) (omega arith) (sym c.is_power_of_two.ensures ∙ c.if-is_power_of_two.true)).0

pub returns-in_default-2-clause-allowed : goal.returns-in_default-2-clause-allowed
returns-in_default-2-clause-allowed c = sym (no_power c.args.size (omega arith) (omega arith) (sym c.is_power_of_two.ensures ∙ c.if-is_power_of_two.false))
