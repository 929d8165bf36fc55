-- A list in lent places that takes what an iterator gives.
use Rattle.std.proofs.Common.{◌≡◌, ℕ, ◌*◌, ◌≤◌, List, [], ◌∷◌, ◌++◌, map, length, take, drop, Some, None, Ok, Err, Option, option_map, Result, MatchResult, sym, refl, ap, ◌∙◌, ap₂, arith}
use Rattle.std.proofs.lemmas.Iterator.{YieldsList, items_from_drains}
use Rattle.std.proofs.lemmas.Iterator.Consumers.{YieldsList-so_far}
use Rattle.std.proofs.lemmas.List.{length-map, length_push, length-take, map-id}
use Rattle.std.specs.Iterator.{Yields, Drains}
use Rattle.std.specs.List.{filter_map}
use Rattle.model.specs.Net as net
use Rattle.files.specs.Gates.{gate_of, record_of, entries_in}
use Rattle.files.specs.Format.{known, gate_entries}
use Rattle.files.specs.Lists.{Extends}

module _ {S A : Type 0} {steps : S → Option A → S → Type 0} {s : S} {all : List A} (road : YieldsList steps (λ x. x) s all) where
  -- where there are places for all, all were taken
  all_taken : {E : Type 0} (r : Result (Unit {0}) E) (xs : List A) (n m : ℕ) → length all ≤ n → m ≡ length xs
      → MatchResult r (λ _. Drains steps s xs) (λ _. (n ≤ m) × ((y : A) × (t : S) × Yields steps s (xs ++ y ∷ []) t)) → xs ≡ all
  all_taken (Ok u) xs n m room e d = sym (map-id xs) ∙ items_from_drains xs (d.1.0, d.1.1, λ _. (d.0, d.1.2)) road
  all_taken (Err r) xs n m room e d =
      let more = xs ++ d.1.0 ∷ [] in
      let a = ap length (YieldsList-so_far road more d.1.1 d.1.2) in
      let b = length-map more (λ x. x) in
      let c = length_push xs d.1.0 in
      let f = length-take (length more) all in
      absurd (omega (arith, a, b, c, f, d.0))

  -- an empty list that takes them has them in its first places, where f reads ys, and the others stay
  pub filled : {Y : Type 0} (f : A → Y) (ys : List Y) (was is : List A) (n m : ℕ) {E : Type 0} (r : Result (Unit {0}) E)
      → (xs : List A) × Extends was n is m xs × MatchResult r (λ _. Drains steps s xs) (λ _. (length was ≤ m) × ((y : A) × (t : S) × Yields steps s (xs ++ y ∷ []) t)) → n ≡ 0
      → map f all ≡ ys → length ys ≤ length was → (map f (take (length ys) is) ≡ ys) × (drop (length ys) is ≡ drop (length ys) was)
  filled f ys was is n m r adds empty reads room =
      let so = adds.1 in
      let count = ap length (sym reads) ∙ length-map all f in
      let taken = all_taken r adds.0 (length was) m (omega (arith, count)) (omega (arith, so.len)) adds.2 in
      let long : length ys ≡ m = omega (arith, count, ap length taken, so.len) in (
        ap (λ k. map f (take k is)) long ∙ ap (map f) (so.items ∙ ap (λ k. take k was ++ adds.0) empty ∙ taken) ∙ reads,
        ap (λ k. drop k is) long ∙ so.spare ∙ ap (λ k. drop k was) (sym long),
      )

gate_of-record_of : (g : net.Gate) → gate_of (record_of g) ≡ g
gate_of-record_of (net.adds f s) = refl
gate_of-record_of (net.shifts f s) = refl
gate_of-record_of (net.maps f s) = refl
gate_of-record_of (net.looks f s) = refl

-- the records of the entries of known kinds
pub records_known : (es : List (Option net.Gate)) → map gate_of (filter_map (λ e. e) (map (option_map record_of) es)) ≡ known es
records_known [] = refl
records_known (None ∷ es) = records_known es
records_known (Some g ∷ es) = ap₂ (λ x xs. x ∷ xs) (gate_of-record_of g) (records_known es)

-- the same of all entries
pub records_entries : (es : List (Option net.Gate)) → map (option_map gate_of) (map (option_map record_of) es) ≡ es
records_entries [] = refl
records_entries (None ∷ es) = ap (λ xs. None ∷ xs) (records_entries es)
records_entries (Some g ∷ es) = ap₂ (λ x xs. Some x ∷ xs) (gate_of-record_of g) (records_entries es)

known_few : (es : List (Option net.Gate)) → length (known es) ≤ length es
known_few [] = omega arith
known_few (None ∷ es) = let h = known_few es in omega arith
known_few (Some g ∷ es) = let h = known_few es in omega arith

entries_few : (xs : List ℕ) → 5 * length (gate_entries xs) ≤ length xs
entries_few [] = omega arith
entries_few (k ∷ []) = omega arith
entries_few (k ∷ a ∷ []) = omega arith
entries_few (k ∷ a ∷ b ∷ []) = omega arith
entries_few (k ∷ a ∷ b ∷ c ∷ []) = omega arith
entries_few (k ∷ a ∷ b ∷ c ∷ d ∷ rest) = let h = entries_few rest in omega arith

pub known_in_few : (xs : List ℕ) → 5 * length (known (gate_entries xs)) ≤ length xs
known_in_few xs = omega (arith, known_few (gate_entries xs), entries_few xs)

pub entries_in_few : (xs : List ℕ) → 5 * length (entries_in xs) ≤ length xs
entries_in_few xs = omega (arith, length-map (gate_entries xs) (option_map record_of), entries_few xs)
