-- The gates of a file, read again and tested. Assumes nothing.
use Rattle.std.proofs.Common.{◌≡◌, ℕ, suc, ◌+◌, ◌<◌, ◌≤◌, Bool, true, false, not, ◌||◌, ltb, List, [], ◌∷◌, map, length, get_or, Some, None, refl, ap, ◌∙◌, subst, add-zero, arith}
use Rattle.std.specs.List.{flat_map as each}
use Rattle.std.proofs.lemmas.Bool.{lt-ltb}
use Rattle.model.specs.Words.{mark}
use Rattle.model.specs.Net.{Gate, adds, shifts, maps, looks, is_look, look_count, first_of, second_of, limit}
use Rattle.files.specs.declared.header.Header.{Header}
use Rattle.files.specs.Format.{gate_of_kind, gate_entries, known}
use Rattle.files.specs.Faults.{gates_fault}
use Rattle.laws.specs.Written.{kind_byte, gate_bytes}
use Rattle.laws.proofs.Tests.{passes, both}
use Rattle.laws.proofs.Bytes.{two_read}

-- each gate, writing wire w + k, names what there is
abbrev pub Sound : Header → ℕ → List Gate → Type 0
Sound h w gs =
    (k : ℕ) → k < length gs
    → (first_of (get_or gs k (adds 0 0)) < w + k)
    × (second_of (get_or gs k (adds 0 0)) < limit h.size h.rows h.tables (w + k) (get_or gs k (adds 0 0)))

sound_head : (h : Header) (w : ℕ) (g : Gate) (gs : List Gate) → Sound h w (g ∷ gs) → (first_of g < w) × (second_of g < limit h.size h.rows h.tables w g)
sound_head h w g gs s =
    subst (λ n. (first_of g < n) × (second_of g < limit h.size h.rows h.tables n g)) (add-zero w) (s 0 (omega arith))

sound_tail : (h : Header) (w : ℕ) (g : Gate) (gs : List Gate) → Sound h w (g ∷ gs) → Sound h (w + 1) gs
sound_tail h w g gs s k b =
    let e : w + suc k ≡ w + 1 + k = omega arith in
    subst
    (λ n. (first_of (get_or gs k (adds 0 0)) < n) × (second_of (get_or gs k (adds 0 0)) < limit h.size h.rows h.tables n (get_or gs k (adds 0 0))))
    e
    (s (suc k) (omega arith))

-- no count of the header exceeds m
abbrev pub Narrow : Header → ℕ → Type 0
Narrow h m = (h.size ≤ m) × (h.rows ≤ m) × (h.tables ≤ m)

limit_le : (h : Header) (m w : ℕ) → Narrow h m → w ≤ m → (g : Gate) → limit h.size h.rows h.tables w g ≤ m
limit_le h m w n l (adds f s) = l
limit_le h m w n l (shifts f s) = n.0
limit_le h m w n l (maps f s) = n.1
limit_le h m w n l (looks f s) = n.2

kind_read : (g : Gate) → gate_of_kind (kind_byte g) (first_of g) (second_of g) ≡ Some g
kind_read (adds f s) = refl
kind_read (shifts f s) = refl
kind_read (maps f s) = refl
kind_read (looks f s) = refl

entries_read : (h : Header) (w : ℕ) (gs : List Gate) → Narrow h 65536 → w + length gs ≤ 65536 → Sound h w gs → gate_entries (each gate_bytes gs) ≡ map Some gs
entries_read h w [] n l s = refl
entries_read h w (g ∷ gs) n l s =
    let here = sound_head h w g gs s in
    let second : second_of g < 65536 = omega (arith, limit_le h 65536 w n (omega arith) g) in
    let a = two_read (first_of g) (omega arith) in
    let b = two_read (second_of g) second in
    let rest = entries_read h (w + 1) gs n (omega arith) (sound_tail h w g gs s) in
    (λ i. gate_of_kind (kind_byte g) (a i) (b i) ∷ rest i) ∙ ap (λ e. e ∷ map Some gs) (kind_read g)

known_all : (gs : List Gate) → known (map Some gs) ≡ gs
known_all [] = refl
known_all (g ∷ gs) = ap (λ t. g ∷ t) (known_all gs)

few_looks : (b : Bool) (l : ℕ) → l + mark b ≤ 240 → (not b || ltb l 240) ≡ true
few_looks true l few = lt-ltb l 240 (omega arith)
few_looks false l few = refl

gates_pass : (h : Header) (o w l : ℕ) (gs : List Gate) → Sound h w gs → l + look_count gs ≤ 240 → gates_fault h o w l (map Some gs) ≡ None
gates_pass h o w l [] s few = refl
gates_pass h o w l (g ∷ gs) s few =
    let here = sound_head h w g gs s in
    both _
    (both _ (passes _ (few_looks (is_look g) l (omega arith))) (both _ (passes _ (lt-ltb _ _ here.0)) (both _ (passes _ (lt-ltb _ _ here.1)) refl)))
    (gates_pass h (o + 5) (w + 1) (l + mark (is_look g)) gs (sound_tail h w g gs s) (omega arith))

-- what the bytes of sound gates, few of them LOOKs, are read as
module _ (h : Header) (w : ℕ) (gs : List Gate) (n : Narrow h 65536) (l : w + length gs ≤ 65536) (s : Sound h w gs) where
  pub gates_read : known (gate_entries (each gate_bytes gs)) ≡ gs
  gates_read = ap known (entries_read h w gs n l s) ∙ known_all gs

  pub gates_accepted : (o : ℕ) → look_count gs ≤ 240 → gates_fault h o w 0 (gate_entries (each gate_bytes gs)) ≡ None
  gates_accepted o few = ap (gates_fault h o w 0) (entries_read h w gs n l s) ∙ gates_pass h o w 0 gs s (omega arith)
