-- Numbers in bytes, read again. Assumes nothing.
use Rattle.std.proofs.Common.{◌≡◌, ℕ, suc, ◌+◌, ◌*◌, ◌/◌, ◌%◌, ◌^◌, ◌<◌, List, [], ◌∷◌, length, refl, ◌∙◌, arith, length-append}
use Rattle.std.specs.List.{flat_map as each}
use Rattle.model.specs.Words.{Below}
use Rattle.files.specs.Format.{joined, numbers}
use Rattle.laws.specs.Written.{two_bytes}

low_read : (n : ℕ) → joined (n % 256) (n / 256 % 256) ≡ n % 65536
low_read n = omega arith

pub two_read : (n : ℕ) → n < 65536 → joined (n % 256) (n / 256 % 256) ≡ n
two_read n small = omega (arith, low_read n)

pub four_read : (n : ℕ) → n < 2 ^ 32 → joined (n % 256) (n / 256 % 256) + 65536 * joined (n / 65536 % 256) (n / 65536 / 256 % 256) ≡ n
four_read n small = omega (arith, low_read n, two_read (n / 65536) (omega arith))

pub numbers_read : (xs : List ℕ) → Below 65536 xs → numbers (each two_bytes xs) ≡ xs
numbers_read [] h = refl
numbers_read (x ∷ xs) h =
    let here = two_read x (h 0 (omega arith)) in
    let rest = numbers_read xs (λ k b. h (suc k) (omega arith)) in
    λ i. here i ∷ rest i

-- so many bytes for each
pub length_each : {X : Type 0} (bytes : X → List ℕ) (n : ℕ) → ((x : X) → length (bytes x) ≡ n) → (xs : List X) → length (each bytes xs) ≡ n * length xs
length_each bytes n each_n [] = omega arith
length_each bytes n each_n (x ∷ xs) = length-append (bytes x) (each bytes xs) ∙ omega (arith, each_n x, length_each bytes n each_n xs)
