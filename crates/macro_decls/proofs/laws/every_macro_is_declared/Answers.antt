use Rattle.macro_decls.proofs.Declaring.{each_macro_declared, each_role_declared}
use Rattle.macro_decls.proofs.laws.every_macro_is_declared.Goals as goal

pub returns-clause-names : goal.returns-clause-names
returns-clause-names c = each_macro_declared

pub returns-clause-roles : goal.returns-clause-roles
returns-clause-roles c = each_role_declared
