use Rattle.std.proofs.Common.{◌∙◌, ap, ◌∷◌, ◌++◌, [], append_assoc, subst, sym}
use Rattle.std.proofs.lemmas.Result.{on_ok_weaker}
use Rattle.swift_lexer.specs.Trees.{tree_of, forest_of, cons}
use Rattle.decl_parser.specs.Gathering.{IsGathered}
use Rattle.decl_parser.specs.Levels.{insides}
use Rattle.decl_parser.proofs.GatheredMore.{told_token}
use Rattle.decl_parser.proofs.QuietGroups.{blank_leaf}
use Rattle.decl_parser.proofs.gathering.Gathered.add_token.Goals as goal

pub returns-in-Each : goal.returns-in-Each
unfolding insides
returns-in-Each c = λ elements read.
    let text = c.args.text.now in
    let more = insides text (forest_of c.args.others.now) in
    let kept = subst (λ g. IsGathered text g (cons (tree_of c.args.element.now) (forest_of c.args.others.now)) elements) c.in-Each.is read in
    on_ok_weaker c.add.result (λ added.
    ap (λ l. l ++ more) added
    ∙ append_assoc c.in-Each.list.items (c.nothing_inside.result ∷ []) more
    ∙ ap (λ inside. c.in-Each.list.items ++ (inside ∷ more)) (c.nothing_inside.ensures ∙ blank_leaf text (tree_of c.args.element.now) c.requires)
    ∙ kept) c.add.ensures

pub returns-in-Quiet : goal.returns-in-Quiet
returns-in-Quiet c = λ elements read.
    let text = c.args.text.now in
    let tree = tree_of c.args.element.now in
    let others = forest_of c.args.others.now in
    let told = subst (λ g. IsGathered text g (cons tree others) elements) c.in-Quiet.is read in
    subst (λ g. IsGathered text g others elements) (sym c.in-Quiet.is) (told_token text c.in-Quiet.field-0 tree others elements c.requires told)
