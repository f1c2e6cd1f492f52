use Rattle.std.proofs.Common.{◌≡◌, ◌++◌, drop, filter, map}
use Rattle.macro_decls.specs.Macros.{head_of, is_macro, macro_written}
use Rattle.macro_decls.proofs.roles.put_written.Given as goal

abbrev pub invariant-items : goal.invariant-items
invariant-items l =
    l.written.items ++ map (macro_written l.number l.outline.text) (filter (λ head. is_macro head.kind) (map head_of (drop l.item-index l.outline.items.items)))
    ≡ l.initial.written.items ++ map (macro_written l.number l.outline.text) (filter (λ head. is_macro head.kind) (map head_of l.outline.items.items))
