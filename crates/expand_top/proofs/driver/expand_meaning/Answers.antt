use Rattle.std.proofs.Common.{[], map, subst, sym}
use Rattle.link_driver.specs.Links.{link_seen}
use Rattle.expand_top.specs.Asking.{IsExpansion, asking_of}
use Rattle.expand_top.specs.Lines.{output_seen}
use Rattle.expand_top.specs.Meaning.{Refused}
use Rattle.expand_top.specs.Means.{meaning_seen}
use Rattle.expand_top.proofs.Promises.{nothing_expanded}
use Rattle.expand_top.proofs.driver.expand_meaning.Goals as goal

pub returns-in-Refused-clause-expansion : goal.returns-in-Refused-clause-expansion
returns-in-Refused-clause-expansion g c =
    let name = c.args.name.now in
    let plugins = c.args.plugins.now in
    let seen = g.P.Starter.seen c.args.starter.now in
    let link = link_seen g.P.Writer.Sink.seen g.P.Reader.Source.seen in
    let own = c.nothing_asked.result in
    let refusal = c.in-Refused.output in
    subst (λ m. IsExpansion name plugins (meaning_seen m) (asking_of (map link own.links.items) own.unstarted.items seen seen) (output_seen own.output)) (sym c.in-Refused.is)
    (subst (λ o. IsExpansion name plugins (Refused (output_seen refusal)) (asking_of (map link own.links.items) own.unstarted.items seen seen) (output_seen o)) (sym c.nothing_asked.ensures.output)
    (subst (λ links. IsExpansion name plugins (Refused (output_seen refusal)) (asking_of (map link links) own.unstarted.items seen seen) (output_seen refusal)) (sym c.nothing_asked.ensures.links)
    (subst (λ failed. IsExpansion name plugins (Refused (output_seen refusal)) (asking_of [] failed seen seen) (output_seen refusal)) (sym c.nothing_asked.ensures.unstarted)
    (nothing_expanded name plugins (output_seen refusal) seen))))
