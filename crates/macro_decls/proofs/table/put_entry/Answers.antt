use Rattle.std.proofs.Common.{◌∙◌, ap, subst, sym}
use Rattle.std.proofs.lemmas.List.{map_push}
use Rattle.indexmap.proofs.CallerLemmas.{insert_entry-new}
use Rattle.macro_decls.specs.Tables.{AreNamed, Entry, declarations_in}
use Rattle.macro_decls.proofs.Entries.{fresh_key, named-more}
use Rattle.macro_decls.proofs.table.put_entry.Goals as goal

pub returns-clause-named : goal.returns-clause-named
returns-clause-named c =
    let own = c.in_ok-name.ensures.items ∙ c.bytes.ensures in
    subst AreNamed
    (sym (c.in_ok-insert.ensures.entries ∙ insert_entry-new _ c.args.entries.now c.in_ok-name.name c.args.declaration (fresh_key c.args.entries.now.entries c.in_ok-name.name c.args.declaration own c.requires.named c.requires.fresh)))
    (named-more c.args.entries.now.entries (c.in_ok-name.name, c.args.declaration) c.requires.named own)

pub returns-clause-put : goal.returns-clause-put
returns-clause-put c =
    let own = c.in_ok-name.ensures.items ∙ c.bytes.ensures in
    ap declarations_in
    (c.in_ok-insert.ensures.entries ∙ insert_entry-new _ c.args.entries.now c.in_ok-name.name c.args.declaration (fresh_key c.args.entries.now.entries c.in_ok-name.name c.args.declaration own c.requires.named c.requires.fresh))
    ∙ map_push (λ (entry : Entry). entry.1) c.args.entries.now.entries (c.in_ok-name.name, c.args.declaration)
