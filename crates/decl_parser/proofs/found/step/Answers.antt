use Rattle.std.proofs.Common.{◌≡◌, ◌∙◌, ◌-◌, ◌∷◌, ◌++◌, [], ap, arith, nat_lt, drop, take, reverse, if◌then◌else◌}
use Rattle.element_marks.specs.Heads.{attribute_length}
use Rattle.element_marks.specs.Uses.{use_length}
use Rattle.decl_parser.specs.Attributes.{attr_of}
use Rattle.decl_parser.specs.Found.{joined, local_attributes, seen, within}
use Rattle.decl_parser.proofs.FoundWalks.{other_found, own_found}
use Rattle.decl_parser.proofs.found.step.Goals as goal

pub returns-then-own-gt0-clause-found : goal.returns-then-own-gt0-clause-found
returns-then-own-gt0-clause-found c =
    let marks = drop c.args.at c.args.search.list.now in
    let before = reverse (take c.args.at c.args.search.list.now) in
    let insides = drop (c.args.at - c.args.search.from) c.args.search.insides.now in
    let blocks = c.args.search.blocks.starts.now in
    let findings = c.args.findings.now in
    let used : c.use_length-used.result ≡ use_length blocks before marks =
    c.use_length-used.ensures.value ∙ ap (λ l. use_length blocks (reverse l) c.behind-marks.result.now) c.upto.ensures ∙ ap (use_length blocks before) c.behind-marks.ensures in
    let own : c.own_length-own.result ≡ (if nat_lt c.args.at c.args.search.own then attribute_length marks else 0) =
    c.own_length-own.ensures.value ∙ ap (λ l. if nat_lt c.args.at c.args.search.own then attribute_length l else 0) c.behind-marks.ensures in
    let attr : c.in_ok-attr_of.field-0 ≡ attr_of marks insides =
    c.in_ok-attr_of.ensures ∙ ap (λ l. attr_of l c.behind-insides.result.now) c.behind-marks.ensures ∙ ap (attr_of marks) c.behind-insides.ensures in
    ap (λ l. record { attrs = l; uses = findings.uses.items; locals = findings.locals.items }) (c.in_ok-add-2.ensures ∙ ap (λ a. findings.attrs.items ++ a ∷ []) attr)
    ∙ own_found (seen findings) (use_length blocks before marks) (if nat_lt c.args.at c.args.search.own then attribute_length marks else 0) marks insides
    (omega (arith, used, c.if-used-gt0.false)) (omega (arith, own, c.if-own-gt0.true))

pub returns-clause-found : goal.returns-clause-found
returns-clause-found c =
    let marks = drop c.args.at c.args.search.list.now in
    let before = reverse (take c.args.at c.args.search.list.now) in
    let insides = drop (c.args.at - c.args.search.from) c.args.search.insides.now in
    let blocks = c.args.search.blocks.starts.now in
    let findings = c.args.findings.now in
    let used : c.use_length-used.result ≡ use_length blocks before marks =
    c.use_length-used.ensures.value ∙ ap (λ l. use_length blocks (reverse l) c.behind-marks.result.now) c.upto.ensures ∙ ap (use_length blocks before) c.behind-marks.ensures in
    let own : c.own_length-own.result ≡ (if nat_lt c.args.at c.args.search.own then attribute_length marks else 0) =
    c.own_length-own.ensures.value ∙ ap (λ l. if nat_lt c.args.at c.args.search.own then attribute_length l else 0) c.behind-marks.ensures in
    let locals : c.add_local.new.locals.items ≡ findings.locals.items ++ local_attributes marks insides =
    c.in_ok-add_local.ensures
    ∙ ap (λ l. findings.locals.items ++ local_attributes l c.behind-insides.result.now) c.behind-marks.ensures
    ∙ ap (λ l. findings.locals.items ++ local_attributes marks l) c.behind-insides.ensures in
    c.in_ok-add_inside.ensures
    ∙ ap (λ l. joined (record { attrs = findings.attrs.items; uses = findings.uses.items; locals = c.add_local.new.locals.items }) (within l)) c.behind-insides.ensures
    ∙ other_found (seen findings) c.add_local.new.locals.items (use_length blocks before marks) (if nat_lt c.args.at c.args.search.own then attribute_length marks else 0) marks insides
    (omega (arith, used, c.if-used-gt0.false)) (omega (arith, own, c.if-own-gt0.false)) locals
