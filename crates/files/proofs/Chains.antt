-- A list of tests, where those before the last pass.
use Rattle.std.proofs.Common.{◌≡◌, ℕ, ◌≤◌, List, length, Some, None, Option, ap, ◌∙◌}
use Rattle.std.proofs.lemmas.Bool.{le-leb}
use Rattle.refusals.specs.declared.Refusal.{Refusal}
use Rattle.refusals.specs.declared.Refusal.TheVariants.{Layout}
use Rattle.refusals.specs.Tests.{unless, before}
use Rattle.files.specs.Format.{header_of}
use Rattle.files.specs.Faults.{length_fault, counts_fault, pairs_fault, places_fault, sections_fault, fault}

pub passes : (t rest : Option Refusal) {r : Option Refusal} → t ≡ None → rest ≡ r → before t rest ≡ r
passes t rest e f = ap (λ x. before x rest) e ∙ f

last : (t : Option Refusal) {r : Option Refusal} → t ≡ r → before t None ≡ r
last None e = e
last (Some r) e = e

module _ (f : List ℕ) (g o : ℕ) (long : 54 ≤ length f) (counts : counts_fault f ≡ None) (pairs : pairs_fault f ≡ None) where
  front_passes : {r : Option Refusal} → before (places_fault (header_of f) g o) (before (sections_fault f) None) ≡ r → fault f g o ≡ r
  unfolding fault
  front_passes e =
      passes (length_fault f) _ (ap (λ b. unless b (Layout (length f))) (le-leb 54 (length f) long))
      (passes (counts_fault f) _ counts (passes (pairs_fault f) _ pairs e))

  -- then too few places refuse, and where there are enough the sections decide, whatever they come to
  pub places_refuse : {r : Refusal} → places_fault (header_of f) g o ≡ Some r → fault f g o ≡ Some r
  places_refuse e = front_passes (ap (λ x. before x (before (sections_fault f) None)) e)

  pub sections_decide : {r : Option Refusal} → places_fault (header_of f) g o ≡ None → sections_fault f ≡ r → fault f g o ≡ r
  sections_decide places e = front_passes (passes (places_fault (header_of f) g o) _ places (last (sections_fault f) e))
