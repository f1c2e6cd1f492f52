use Rattle.std.proofs.Common.{◌∙◌, ap}
use Rattle.macro_decls.specs.Macros.{declaration_named}
use Rattle.macro_decls.proofs.Entries.{find_entry}
use Rattle.macro_decls.proofs.table.MacroTable.find.Goals as goal

pub returns : goal.returns
returns c =
    c.get.ensures.value ∙ find_entry c.args.name.now c.self.inside.declarations.entries c.self.invariant ∙ ap (declaration_named c.args.name.now) c.self.view_is
