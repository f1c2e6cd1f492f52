use Rattle.std.proofs.Common.{◌≡◌, ◌∙◌, ap, ◌∷◌, ◌++◌, [], append_assoc, subst}
use Rattle.std.proofs.lemmas.Result.{on_ok_weaker}
use Rattle.std.specs.Result.{OnOk}
use Rattle.swift_lexer.specs.Trees.{tree_of, forest_of, cons}
use Rattle.decl_parser.specs.Gathering.{IsGathered}
use Rattle.decl_parser.specs.Levels.{insides}
use Rattle.decl_parser.proofs.GatheredMore.{told_more}
use Rattle.decl_parser.proofs.gathering.Gathered.add.Goals as goal

pub returns-in-Each : goal.returns-in-Each
unfolding insides
returns-in-Each c = λ elements read.
    let text = c.args.text.now in
    let more = insides text (forest_of c.args.others.now) in
    let kept = subst (λ g. IsGathered text g (cons (tree_of c.args.element.now) (forest_of c.args.others.now)) elements) c.in-Each.is read in
    on_ok_weaker c.add.result (λ added.
    ap (λ l. l ++ more) added
    ∙ append_assoc c.in-Each.list.items (c.args.inside ∷ []) more
    ∙ ap (λ inside. c.in-Each.list.items ++ (inside ∷ more)) c.requires
    ∙ kept) c.add.ensures

pub returns-in_ok-add_uses-in-Quiet : goal.returns-in_ok-add_uses-in-Quiet
returns-in_ok-add_uses-in-Quiet c = λ elements read.
    let text = c.args.text.now in
    let old = c.in-Quiet.told in
    let tree = tree_of c.args.element.now in
    let others = forest_of c.args.others.now in
    let told = subst (λ g. IsGathered text g (cons tree others) elements) c.in-Quiet.is read in
    let uses : c.add_uses.new.list.items ≡ old.uses.items ++ c.args.inside.uses =
    subst (λ r. OnOk r (c.add_uses.new.list.items ≡ old.uses.items ++ c.items.result.now)) c.in_ok-add_uses-in-Quiet.was c.add_uses.ensures ∙ ap (λ l. old.uses.items ++ l) c.items.ensures in
    on_ok_weaker c.add_locals.result (λ locals.
    told_more text old (record { uses = c.add_uses.new.list; locals = c.add_locals.new.list }) tree others elements c.args.inside c.requires told
    uses (locals ∙ ap (λ l. old.locals.items ++ l) c.items-in-Quiet.ensures)) c.add_locals.ensures
