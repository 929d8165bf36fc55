-- The tests of gates that come one by one.
use Rattle.std.proofs.Common.{◌≡◌, ℕ, ◌+◌, ◌*◌, Bool, true, false, List, [], ◌∷◌, Some, None, Ok, Err, Option, option_map, map, length, sym, refl, ap, ◌∙◌, ap₂, arith}
use Rattle.std.specs.Int.{from_bool}
use Rattle.std.specs.Option.{ok_or}
use Rattle.std.specs.Iterator.{YieldsFirst, AlwaysYields}
use Rattle.std.specs.Iterator.Adapters.{map_source, map_callee, map_steps}
use Rattle.std.specs.Slice.Iter.{iter_rest, iter_steps}
use Rattle.std.specs.Fn.{Called, Mut}
use Rattle.std.proofs.Common.{Bor, Iter}
use Rattle.std.specs.declared.iter.Map.{Map}
use Rattle.refusals.specs.declared.Refusal.{Refusal}
use Rattle.refusals.specs.declared.Refusal.TheVariants.{Kind}
use Rattle.model.specs.Words.{mark}
use Rattle.model.specs.Net as net
use Rattle.model.specs.Net.{is_look, look_count}
use Rattle.files.specs.declared.header.Header.{Header}
use Rattle.files.specs.declared.gate.Gate.{Gate}
use Rattle.refusals.specs.Tests.{before}
use Rattle.files.specs.Gates.{gate_of, gates_of}
use Rattle.files.specs.Format.{known}
use Rattle.files.specs.Faults.{gate_fault, gates_fault}

-- what `ok_or` tells of an entry
entry_unknown : (e : Option Gate) (x r : Refusal) → Err r ≡ ok_or e x → (e ≡ None) × (r ≡ x)
entry_unknown None x r e = (refl, cc)
entry_unknown (Some g) x r e = absurd (cc)

entry_known : (e : Option Gate) (x : Refusal) (g : Gate) → Ok g ≡ ok_or e x → e ≡ Some g
entry_known None x g e = absurd (cc)
entry_known (Some f) x g e = cc

module _ (h : Header) (start : ℕ) {S : Type 0} (steps : S → Option (Option Gate) → S → Type 0) (es : List (Option net.Gate)) where
  -- of the entries es, n have passed, l of them LOOK gates, and the others are still to come from s
  pub record Testing (s : S) (n l : ℕ) : Type 0 where
    pub rest : List (Option net.Gate)
    pub comes : AlwaysYields steps (option_map gate_of) s rest
    pub fault : gates_fault h (start + 5 * n) (h.inputs + n) l rest ≡ gates_fault h start h.inputs 0 es
    pub count : l + look_count (known rest) ≡ look_count (known es)

  module _ (s t : S) (n l : ℕ) (so : Testing s n l) where
    after_none : (rest : List (Option net.Gate)) → AlwaysYields steps (option_map gate_of) s rest → steps s None t → rest ≡ []
    after_none [] y p = refl
    after_none (e ∷ rest) y p = absurd (y.0 t p)

    pub testing_ends : steps s None t → (gates_fault h start h.inputs 0 es ≡ None) × (l ≡ look_count (known es))
    testing_ends p =
        let e = after_none so.rest so.comes p in (
          sym so.fault ∙ ap (gates_fault h (start + 5 * n) (h.inputs + n) l) e,
          let c = ap (λ r. look_count (known r)) e in omega (arith, c, so.count),
        )

    -- the entry that came is the first of those that were still to come
    after_some : (rest : List (Option net.Gate)) (x : Option Gate) → AlwaysYields steps (option_map gate_of) s rest → steps s (Some x) t
        → (more : List (Option net.Gate)) × (rest ≡ option_map gate_of x ∷ more) × AlwaysYields steps (option_map gate_of) t more
    after_some [] x y p = absurd (y x t p)
    after_some (e ∷ more) x y p = let z = y.1 x t p in (more, ap (λ f. f ∷ more) (sym z.0), z.1)

    module _ (o w : ℕ) (stands : o ≡ start + 5 * n) (writes : w ≡ h.inputs + n) where
      here : (rest : List (Option net.Gate)) → gates_fault h o w l rest ≡ gates_fault h (start + 5 * n) (h.inputs + n) l rest
      here rest = ap₂ (λ x y. gates_fault h x y l rest) stands writes

      -- the entry that came is of no known kind, or has a gate g
      module _ (e : Option Gate) (came : steps s (Some e) t) (x : Refusal) where
        pub testing_unknown : (r : Refusal) → Err r ≡ ok_or e x → x ≡ Kind o → gates_fault h start h.inputs 0 es ≡ Some r
        testing_unknown r is kind =
            let u = entry_unknown e x r is in
            let a = after_some so.rest e so.comes came in
            sym so.fault ∙ sym (here so.rest) ∙ ap (gates_fault h o w l) (a.1 ∙ ap (λ f. option_map gate_of f ∷ a.0) u.0) ∙ ap Some (sym kind ∙ sym u.1)

        module _ (g : Gate) (is : Ok g ≡ ok_or e x) where
          comes_first : (more : List (Option net.Gate)) × (so.rest ≡ Some (gate_of g) ∷ more) × AlwaysYields steps (option_map gate_of) t more
          comes_first =
              let a = after_some so.rest e so.comes came in
              (a.0, a.1 ∙ ap (λ f. option_map gate_of f ∷ a.0) (entry_known e x g is), a.2)

          pub testing_refuses : (r : Refusal) → gate_fault h o w l (gate_of g) ≡ Some r → gates_fault h start h.inputs 0 es ≡ Some r
          testing_refuses r f =
              let a = comes_first in
              sym so.fault ∙ sym (here so.rest) ∙ ap (gates_fault h o w l) a.1
              ∙ ap (λ u. before u (gates_fault h (o + 5) (w + 1) (l + mark (is_look (gate_of g))) a.0)) f

          pub testing_goes : (k m : ℕ) → gate_fault h o w l (gate_of g) ≡ None → k ≡ n + 1 → m ≡ mark (is_look (gate_of g)) → Testing t k (l + m)
          testing_goes k m f next looks =
              let a = comes_first in
              let o' : start + 5 * k ≡ o + 5 = omega arith in
              let w' : h.inputs + k ≡ w + 1 = omega arith in
              record {
                rest = a.0;
                comes = a.2;
                fault =
                    ap₂ (λ x y. gates_fault h x y (l + m) a.0) o' w'
                    ∙ ap (λ x. gates_fault h (o + 5) (w + 1) (l + x) a.0) looks
                    ∙ sym (ap (λ u. before u (gates_fault h (o + 5) (w + 1) (l + mark (is_look (gate_of g))) a.0)) f)
                    ∙ sym (ap (gates_fault h o w l) a.1)
                    ∙ here so.rest
                    ∙ so.fault;
                count = let c = ap (λ r. look_count (known r)) a.1 in omega (arith, c, looks, so.count);
              }

-- 1 for a LOOK and 0 for another, as the program counts them
pub mark_from : (b : Bool) → from_bool b ≡ mark b
mark_from true = refl
mark_from false = refl

-- what an iterator shows is what comes from it
pub entries_come : {S : Type 0} (rest : S → List (Option Gate)) (s : S) (xs : List (Option Gate)) → rest s ≡ xs → AlwaysYields (YieldsFirst rest) (option_map gate_of) s (map (option_map gate_of) xs)
entries_come rest s [] e = λ x j p. absurd (cc)
entries_come rest s (x ∷ xs) e = (λ j p. absurd (cc), λ y j p. (ap (option_map gate_of) (cc), entries_come rest j xs (cc)))

-- the same of records that a slice shows
pub records_come : {F : Type 0} (g : Mut F (Bor Gate × Unit {0}) (Option Gate)) → ((f : F) (x : Bor Gate) (r : Option Gate) (f' : F) → Called g f (x, tt) r f' → r ≡ Some x.now)
    → (gs : List Gate) (s : Map (Iter Gate) F) → iter_rest (map_source s) ≡ gs → AlwaysYields (map_steps iter_steps g) (option_map gate_of) s (map (λ y. Some y) (gates_of gs))
records_come g is [] s e = λ y j p. absurd (cc (p.1, e))
records_come g is (x ∷ gs) s e = (
  λ j p. let n = ap length e in absurd (omega (arith, p.0.0, n)),
  λ y j p. (ap (option_map gate_of) (is (map_callee s) p.0 y (map_callee j) p.2) ∙ ap (λ z. Some (gate_of z)) (cc (p.1, e)), records_come g is gs j (cc (p.1, e))),
)

pub known_all : (gs : List net.Gate) → known (map (λ y. Some y) gs) ≡ gs
known_all [] = refl
known_all (g ∷ gs) = ap (λ xs. g ∷ xs) (known_all gs)
