use Rattle.std.proofs.Common.{subst}
use Rattle.std.specs.Bool.{Decides}
use Rattle.role_names.specs.Covered.{IsCoveredByList}
use Rattle.result_reader.proofs.Decided.{same_test}
use Rattle.result_reader.proofs.names.is_listed.Goals as goal

pub returns : goal.returns
returns c =
    let reading = c.args.reading.now in
    let name = c.args.name.now in
    same_test _ _
    (subst (λ attached. Decides c.covers.result (IsCoveredByList reading.names.rules attached name)) c.attached_name.ensures c.covers.ensures)
    (c.covered_names_are_decided.ensures.by_list reading.names.rules reading.attached name)
