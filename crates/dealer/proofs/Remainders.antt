-- Remainders are codes.
use Rattle.std.proofs.Common.{◌≡◌, ℕ, ◌%◌, ◌<◌, List, length, get_or, sym, ◌∙◌, subst, arith}
use Rattle.std.proofs.lemmas.List.{ext_get_or, get_or-map, length-map}
use Rattle.std.proofs.lemmas.Nat.{mod_below}
use Rattle.model.specs.Words.{at}
use Rattle.groups.specs.Group.{Group, Laws, Codes}
use Rattle.dealer.specs.Fills.{filled}

pub filled_codes : (G : Group) → Laws G → (bytes : List ℕ) → Codes G (filled G.size bytes)
filled_codes G laws bytes k l =
    let q = G.size in
    let within : k < length bytes = omega (arith, length-map bytes (λ b. b % q)) in
    let some : 0 < q = omega (arith, laws.size_low) in
    subst (λ x. x < q) (sym (get_or-map (λ b. b % q) bytes k 0 0 within)) (mod_below (get_or bytes k 0) q some)

-- the remainder at each place
pub filled_is : (q : ℕ) (bytes tape : List ℕ) → length tape ≡ length bytes → ((k : ℕ) → k < length bytes → at tape k ≡ at bytes k % q) → tape ≡ filled q bytes
filled_is q bytes tape long each =
    ext_get_or 0 tape (filled q bytes) (long ∙ sym (length-map bytes (λ b. b % q)))
    (λ k l. let within : k < length bytes = omega arith in each k within ∙ sym (get_or-map (λ b. b % q) bytes k 0 0 within))
