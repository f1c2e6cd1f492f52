use Rattle.std.proofs.Common.{◌∙◌, sym, ap, append-nil, append_assoc, List, ◌++◌, drop, ◌+◌}
use Rattle.std.specs.List.{flat_map}
use Rattle.std.specs.Option.{option_copied}
use Rattle.macro_decls.specs.declared.table.MacroDecl.{MacroDecl}
use Rattle.expansion_model.specs.Visit.{pairs_in}
use Rattle.expansion_model.specs.declared.buffer.Ancestor.{Ancestor}
use Rattle.expansion_model.proofs.Walks.{past_the_end, one_further}
use Rattle.expansion_model.proofs.visiting.pairs_of.Goals as goal

pub returns-in_default : goal.returns-in_default
returns-in_default c =
    sym (append-nil c.macros.pairs.items) ∙ ap (λ (l : List MacroDecl). c.macros.pairs.items ++ flat_map pairs_in l) (sym (past_the_end c.args.macros.now c.macros.index (sym c.at.ensures ∙ ap option_copied c.in_default.is)))
    ∙ c.macros.invariant

pub macros-preserved : goal.macros-preserved
macros-preserved c =
    let declared = c.in-Some.declared.now in
    let rest = drop (c.macros.index + 1) c.args.macros.now in
    ap (λ (l : List Ancestor). l ++ flat_map pairs_in rest) c.in_ok-put_pairs.ensures ∙ append_assoc c.macros.pairs.items (pairs_in declared) (flat_map pairs_in rest)
    ∙ ap (λ (l : List MacroDecl). c.macros.pairs.items ++ flat_map pairs_in l) (sym (one_further c.args.macros.now c.macros.index declared (sym c.at.ensures ∙ ap option_copied c.in-Some.is)))
    ∙ c.macros.invariant
