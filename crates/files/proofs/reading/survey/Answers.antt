use Rattle.std.proofs.Common.{◌≡◌, Some, subst}
use Rattle.std.proofs.lemmas.Result.{err_from_is_err_and}
use Rattle.files.specs.declared.header.Header.{Header}
use Rattle.files.specs.Faults.{places_fault}
use Rattle.files.proofs.Chains.{places_refuse}
use Rattle.files.proofs.reading.survey.Goals as goal

pub returns-in_err-test_places : goal.returns-in_err-test_places
returns-in_err-test_places c =
    let p = err_from_is_err_and c.from_residual-in_err-test_places.result c.from_residual-in_err-test_places.ensures.1 in
    let header = c.in_ok-header.ensures in
    let At : Header → Type 0 = λ h. places_fault h c.args.gate_places c.args.output_places ≡ Some c.in_err-test_places.field-0.0 in
    rw (p.1, p.2)
    (places_refuse c.args.file.now c.args.gate_places c.args.output_places c.if-file-lt54.false header.0 c.in_ok-directory.ensures.0 (subst At header.1 c.in_err-test_places.ensures))
