use Rattle.std.proofs.Common.{Ok, Err, List, subst, sym, refl}
use Rattle.swift_lexer.specs.Tokens.{IsLexed}
use Rattle.swift_lexer.specs.declared.token.Token.{Token}
use Rattle.sample_macros.proofs.argument.elements_of.Goals as goal

pub returns-in-Err-Fault : goal.returns-in-Err-Fault
returns-in-Err-Fault c = record {
  tokens = Err c.in-Err-Fault.field-0-0;
  lexed = rw c.in-Err-Fault.field-0-is at c.in-Err-Fault.ensures;
  groups = refl;
}

pub returns-in-Ok-group : goal.returns-in-Ok-group
returns-in-Ok-group c = record {
  tokens = Ok c.deref.result.now;
  lexed = subst (λ (tokens : List Token). IsLexed c.args.text.now (Ok tokens)) (sym c.deref.ensures.value) c.in-Ok.ensures;
  groups = (_, c.in-Ok-group.ensures, refl);
}

pub returns : goal.returns
returns c = record {
  tokens = Ok c.deref.result.now;
  lexed = subst (λ (tokens : List Token). IsLexed c.args.text.now (Ok tokens)) (sym c.deref.ensures.value) c.in-Ok.ensures;
  groups = (Err c.in-Err-Fault-group.field-0-0, rw c.in-Err-Fault-group.field-0-is at c.in-Err-Fault-group.ensures, refl);
}
