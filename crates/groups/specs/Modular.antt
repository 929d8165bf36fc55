-- The numbers below q under addition modulo q, with the one generator 1.
use Rattle.std.specs.Prelude.{ℕ, ◌+◌, ◌-◌, ◌*◌, ◌%◌, Bool, ◌&&◌, nat_le, slice_index}
use Rattle.groups.specs.Group.{Group}

-- the group of q codes
abbrev pub mod_group : ℕ → Group
mod_group q = record {
  size = q;
  gens = 1;
  add = λ a b. (a + b) % q;
  neg = λ a. (q - a) % q;
  image = λ row a. slice_index row 0 * a % q;
}

-- whether such a group may have q codes
abbrev pub mod_size : ℕ → Bool
mod_size q = nat_le 2 q && nat_le q 256
