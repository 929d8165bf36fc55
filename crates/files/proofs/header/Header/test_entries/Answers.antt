use Rattle.std.proofs.Common.{◌≡◌, ◌+◌, ◌*◌, None, refl, ap, ◌∙◌, rules, arith}
use Rattle.std.proofs.lemmas.Result.{err_from_is_err_and}
use Rattle.std.specs.Int.{from_bool}
use Rattle.std.specs.Iterator.Adapters.{enumerate_source, enumerate_count}
use Rattle.refusals.specs.declared.Refusal.TheVariants.{Kind}
use Rattle.model.specs.Words.{mark}
use Rattle.model.specs.Net.{is_look}
use Rattle.files.specs.Gates.{gate_of}
use Rattle.files.specs.Faults.{gate_fault}
use Rattle.files.proofs.Left.{look_room}
use Rattle.files.proofs.Testing.{testing_ends, testing_unknown, testing_refuses, testing_goes, mark_from}
use Rattle.files.proofs.header.Header.test_entries.Goals as goal

pub returns-in_err-gate : goal.returns-in_err-gate
returns-in_err-gate g c = λ es y.
    let o = c.args.start + 5 * c.in-Some.k in
    let w = c.from-inputs.result + c.in-Some.k in
    let p = err_from_is_err_and c.from_residual.result c.from_residual.ensures.1 in
    let step = c.in-Some.ensures.steps in
    rw (p.1, p.2)
    (testing_unknown c.args.self.now c.args.start g.I.Iterator.next_gives es (enumerate_source c.loop-k.k-iterator) (enumerate_source c.next.new.self)
    (enumerate_count c.loop-k.k-iterator) c.loop-k.looks (c.loop-k.invariant.4 es y) o w (omega (arith, step.1)) (omega (arith, step.1)) c.in-Some.entry step.0 (Kind o)
    c.in_err-gate.field-0.0 c.in_err-gate.ensures.value refl)

pub returns-in_err-test : goal.returns-in_err-test
returns-in_err-test g c = λ es y.
    let o = c.args.start + 5 * c.in-Some.k in
    let w = c.from-inputs.result + c.in-Some.k in
    let p = err_from_is_err_and c.from_residual-in_err-test.result c.from_residual-in_err-test.ensures.1 in
    let step = c.in-Some.ensures.steps in
    rw (p.1, p.2)
    (testing_refuses c.args.self.now c.args.start g.I.Iterator.next_gives es (enumerate_source c.loop-k.k-iterator) (enumerate_source c.next.new.self)
    (enumerate_count c.loop-k.k-iterator) c.loop-k.looks (c.loop-k.invariant.4 es y) o w (omega (arith, step.1)) (omega (arith, step.1)) c.in-Some.entry step.0 (Kind o)
    c.in_ok-gate.gate c.in_ok-gate.ensures.value c.in_err-test.field-0.0 c.in_err-test.ensures)

pub loop-k-preserved : goal.loop-k-preserved
loop-k-preserved g c =
    let l = c.loop-k.looks in
    let gate = c.in_ok-gate.gate in
    let o = c.args.start + 5 * c.in-Some.k in
    let w = c.from-inputs.result + c.in-Some.k in
    let step = c.in-Some.ensures.steps in
    let passes : gate_fault c.args.self.now o w l (gate_of gate) ≡ None = c.in_ok-test.ensures.0 in
    let counted : c.from-looks.result ≡ mark (is_look (gate_of gate)) = c.from-looks.ensures ∙ ap from_bool c.is_look.ensures ∙ mark_from (is_look (gate_of gate)) in
    let room = look_room c.args.self.now o w l (gate_of gate) passes c.loop-k.invariant.3 in (
      search rules,
      search rules,
      search rules,
      omega (arith, room, counted),
      λ es y.
          testing_goes c.args.self.now c.args.start g.I.Iterator.next_gives es (enumerate_source c.loop-k.k-iterator) (enumerate_source c.next.new.self)
          (enumerate_count c.loop-k.k-iterator) l (c.loop-k.invariant.4 es y) o w (omega (arith, step.1)) (omega (arith, step.1)) c.in-Some.entry step.0 (Kind o)
          gate c.in_ok-gate.ensures.value (enumerate_count c.next.new.self) c.from-looks.result passes step.2 counted,
    )

pub returns : goal.returns
returns g c = λ es y.
    testing_ends c.args.self.now c.args.start g.I.Iterator.next_gives es (enumerate_source c.loop-k.k-iterator) (enumerate_source c.next.new.self)
    (enumerate_count c.loop-k.k-iterator) c.loop-k.looks (c.loop-k.invariant.4 es y) c.in-None.ensures.steps.0
