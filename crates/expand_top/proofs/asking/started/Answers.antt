use Rattle.std.proofs.Common.{[], arith}
use Rattle.std.proofs.lemmas.List.Elements.{All-nil}
use Rattle.expansion_model.specs.Table.{look}
use Rattle.expand_top.specs.Asking.{IsOneOf}
use Rattle.expand_top.specs.UnderWay.{asked_with}
use Rattle.expand_top.proofs.asking.started.Goals as goal

pub returns-clause-under_way : goal.returns-clause-under_way
returns-clause-under_way g c = λ macros plugins source before. record {
  wanted = [];
  driven = c.new.ensures.driven before;
  tells = c.new.ensures.table (look c.new-2.result) c.new-2.ensures;
  each = All-nil (IsOneOf plugins (asked_with macros plugins source (look c.new-2.result)));
  different = λ key. omega arith;
}
