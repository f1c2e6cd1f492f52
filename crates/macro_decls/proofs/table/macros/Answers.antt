use Rattle.std.proofs.Common.{sym, ap, subst, ◌∙◌, []}
use Rattle.macro_decls.specs.Faults.{faults_from}
use Rattle.macro_decls.specs.Tables.{AreFresh}
use Rattle.macro_decls.proofs.Freshness.{empty, fresh}
use Rattle.macro_decls.proofs.table.macros.Goals as goal

pub table_of-requires : goal.table_of-requires
table_of-requires c =
    subst (AreFresh []) (sym c.in_ok-declarations.ensures)
    (fresh c.in_ok-written.written.items
    (ap (faults_from []) (sym c.deref.ensures.value) ∙ sym c.in_ok-faults.ensures ∙ empty c.in_ok-faults.faults.items _ c.in_ok-faults.faults.ok.0 c.if-not-is_empty.ensures))
