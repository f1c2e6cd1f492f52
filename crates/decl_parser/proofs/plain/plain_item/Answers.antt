use Rattle.std.proofs.Common.{◌≡◌, ◌∙◌, ap, [], ◌∷◌, Some, None}
use Rattle.swift_tree.specs.declared.item.Item.{roll-Item}
use Rattle.swift_tree.specs.Outlines.{item, item_of, no_block}
use Rattle.swift_tree.proofs.Folds.{item_of-roll}
use Rattle.element_marks.specs.Spans.{name_of}
use Rattle.decl_parser.proofs.plain.plain_item.Goals as goal

pub returns : goal.returns
returns c =
    let name = c.args.name.now in
    let run = c.args.run in
    let names : c.one.result ≡ name_of name ∷ [] = c.one.ensures ∙ ap (λ n. n ∷ []) c.name_of.ensures in
    let bound_names : c.one-2.result ≡ name_of name ∷ [] = c.one-2.ensures ∙ ap (λ n. n ∷ []) c.name_of-2.ensures in
    let bindings : c.one-3.result ≡ record { names = name_of name ∷ []; type_span = None; equals = Some c.args.equals; init = Some (record { start = c.args.value; end = run.end }); end = run.end } ∷ [] =
    c.one-3.ensures ∙ (λ i. record { names = bound_names i; type_span = None; equals = Some c.args.equals; init = Some (record { start = c.args.value; end = run.end }); end = run.end } ∷ []) in
    ap (λ f. item_of (roll-Item (record { span = record { start = c.args.start; end = run.end }; after = run.after; kind = c.args.kind; names = c.one.result; bindings = c.one-3.result; block = None; further = f }))) c.none.ensures
    ∙ item_of-roll (record { span = record { start = c.args.start; end = run.end }; after = run.after; kind = c.args.kind; attrs = []; names = c.one.result; bindings = c.one-3.result; inherits = []; extended = None; uses = []; locals = [] }) None
    ∙ (λ i. item (record { span = record { start = c.args.start; end = run.end }; after = run.after; kind = c.args.kind; attrs = []; names = names i; bindings = bindings i; inherits = []; extended = None; uses = []; locals = [] }) no_block)
