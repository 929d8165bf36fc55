-- The numbers of g bits under exclusive or: each is its own negative, and the generators are the bits, the lowest first.
use Rattle.std.specs.Prelude.{ℕ, zero, suc, ◌/◌, ◌%◌, ◌^◌, Bool, ◌||◌, List, ◌==◌, bit_xor, slice_index}
use Rattle.groups.specs.Group.{Group}

-- an image, if its bit is set
abbrev pub if_set : ℕ → ℕ → ℕ
if_set zero image = 0
if_set (suc bit) image = image

-- the exclusive or of the images of those of the n lowest bits of a that are set
abbrev pub picked : ℕ → List ℕ → ℕ → ℕ
picked zero row a = 0
picked (suc n) row a = bit_xor (picked n row a) (if_set (a / 2 ^ n % 2) (slice_index row n))

-- the group of g bits
abbrev pub xor_group : ℕ → Group
xor_group g = record { size = 2 ^ g; gens = g; add = bit_xor; neg = λ a. a; image = picked g }

-- whether such a group may have q codes
abbrev pub xor_size : ℕ → Bool
xor_size q = q == 2 || q == 4 || q == 8 || q == 16 || q == 32 || q == 64 || q == 128 || q == 256
