-- A list cut into runs of one length.
use Rattle.std.proofs.Common.{◌≡◌, ℕ, zero, suc, ◌+◌, ◌*◌, ◌<◌, List, [], get_or, take, drop, ap, ◌∙◌, arith}
use Rattle.std.proofs.lemmas.List.{drop-drop}
use Rattle.std.specs.Simd.{first_chunks}

-- run k
pub chunk_at : {X : Type 0} (n m : ℕ) (xs : List X) (k : ℕ) → k < m → get_or (first_chunks n m xs) k [] ≡ take n (drop (n * k) xs)
chunk_at n zero xs k l = absurd (omega arith)
chunk_at n (suc m) xs zero l = let none : 0 ≡ n * 0 = omega arith in ap (λ i. take n (drop i xs)) none
chunk_at n (suc m) xs (suc k) l =
    let more : n + n * k ≡ n * suc k = omega arith in
    chunk_at n m (drop n xs) k (omega arith) ∙ ap (take n) (drop-drop (n * k) n xs ∙ ap (λ i. drop i xs) more)
