-- Which group a word and a size name.
use Rattle.std.specs.Prelude.{◌≡◌, ℕ, true, List, codes}
use Rattle.groups.specs.Bitwise.{xor_size}
use Rattle.groups.specs.Modular.{mod_size}
use Rattle.groups.specs.declared.Kind.{Kind}
use Rattle.groups.specs.declared.Kind.TheVariants.{Xor, Mod}

-- the word and the number of codes name a group of this kind
abbrev pub Names : List ℕ → ℕ → Kind → Type 0
Names word q Xor = (word ≡ codes "xor") × (xor_size q ≡ true)
Names word q Mod = (word ≡ codes "mod") × (mod_size q ≡ true)

-- the number of a kind
abbrev pub kind_number : Kind → ℕ
kind_number Xor = 1
kind_number Mod = 2
