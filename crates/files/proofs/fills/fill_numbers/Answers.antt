use Rattle.std.proofs.Common.{ℕ, List, length, map, take, slice_index, sym, ap, ◌∙◌, rules, arith}
use Rattle.std.proofs.lemmas.Iterator.{YieldsList-from_slice, YieldsList-from_map}
use Rattle.std.proofs.lemmas.Iterator.Consumers.{YieldsList-at}
use Rattle.std.proofs.lemmas.List.{map-id}
use Rattle.files.specs.Format.{joined, numbers}
use Rattle.files.proofs.Filling.{filled}
use Rattle.files.proofs.Limits.{numbers_in_chunks, numbers_few}
use Rattle.files.proofs.fills.fill_numbers.Goals as goal

pub returns : goal.returns
returns c =
    let bytes = c.args.bytes.now in
    let pairs = c.as_chunks.result.0.now in
    let number : List ℕ → ℕ = λ n. joined (slice_index n 0) (slice_index n 1) in
    let f =
    filled (YieldsList-from_map _ number (YieldsList-at c.map.ensures.source (YieldsList-from_slice pairs (cc))) c.map.ensures.closure (λ x r q k. search rules)) (λ (n : ℕ). n)
    (numbers bytes) _ _ _ _ c.extend.result c.extend.ensures.adds c.new-list.ensures.len
    (map-id (map number pairs) ∙ ap (map number) c.as_chunks.ensures.front ∙ numbers_in_chunks bytes) (omega (arith, numbers_few bytes, ap length c.new-list.ensures.kept))
    in
    let items = sym (map-id (take (length (numbers bytes)) _)) ∙ f.0 in
    record { filled = search rules; spare = search rules }
