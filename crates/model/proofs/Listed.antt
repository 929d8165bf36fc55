-- Lists by place, and lists of codes.
use Rattle.std.proofs.Common.{◌≡◌, ℕ, ◌+◌, ◌<◌, List, length, drop, arith}
use Rattle.std.proofs.lemmas.List.{get_or-drop}
use Rattle.std.proofs.lemmas.List.FromFn.{length-map-range_with_len, get_or-map-range_with_len}
use Rattle.groups.specs.Group.{Group, Laws, Codes}
use Rattle.groups.proofs.Derived.{algebra}
use Rattle.groups.specs.Kept.{codes_read}
use Rattle.model.specs.Words.{at, each}

pub at_each : (n : ℕ) (f : ℕ → ℕ) (i : ℕ) → i < n → at (each n f) i ≡ f i
at_each n f i h = get_or-map-range_with_len f 0 n i i 0 h (omega arith)

pub length_each : {X : Type 0} (n : ℕ) (f : ℕ → X) → length (each n f) ≡ n
length_each n f = length-map-range_with_len f 0 n

pub codes_each : (G : Group) (n : ℕ) (f : ℕ → ℕ) → ((i : ℕ) → i < n → f i < G.size) → Codes G (each n f)
codes_each G n f h i l =
    let m : i < n = rw (length_each n f) at l in
    rw (at_each n f i m) (h i m)

-- a list of codes gives a code at every place
pub code_at : (G : Group) → Laws G → (xs : List ℕ) → Codes G xs → (k : ℕ) → at xs k < G.size
code_at G laws xs h k = codes_read G (algebra laws).zero_code xs h k

pub codes_drop : (G : Group) → Laws G → (n : ℕ) (xs : List ℕ) → Codes G xs → Codes G (drop n xs)
codes_drop G laws n xs c k l = rw (get_or-drop n xs k 0) (code_at G laws xs c (n + k))
