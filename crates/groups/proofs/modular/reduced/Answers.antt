use Rattle.std.proofs.Common.{sym, ◌∙◌, mod-eq_of_lt}
use native.Mathlib.Nat.{mod-eq-sub-mod}
use Rattle.groups.proofs.modular.reduced.Goals as goal

pub returns-then-n-modulus : goal.returns-then-n-modulus
returns-then-n-modulus c = sym (mod-eq_of_lt c.if-n-modulus.true)

pub returns-then-less-modulus : goal.returns-then-less-modulus
returns-then-less-modulus c = sym (mod-eq-sub-mod c.if-n-modulus.false ∙ mod-eq_of_lt c.if-less-modulus.true)

pub returns-else-less-modulus : goal.returns-else-less-modulus
returns-else-less-modulus c = sym (mod-eq-sub-mod c.if-n-modulus.false)
