use Rattle.std.proofs.Common.{◌∙◌, sym, take, length}
use Rattle.std.proofs.lemmas.Slice.Eq.{bytes_eq-Decides}
use Rattle.role_names.proofs.Joined.{joined, front_of, back_of}
use Rattle.role_names.proofs.covering.is_joined.Goals as goal

pub returns-in-Some : goal.returns-in-Some
returns-in-Some c =
    let name = c.args.name.now in
    let front = c.args.front.now in
    let back = c.args.back.now in
    let first = bytes_eq-Decides (take (length front) name) front in
    let last = bytes_eq-Decides c.in-Some.rest.now back in (
      λ equal. joined name front back (first.0 c.in-Some.ensures.cases.0) (sym c.in-Some.ensures.cases.1 ∙ last.0 (sym c.eq.ensures ∙ equal)),
      λ is. c.eq.ensures ∙ last.1 (c.in-Some.ensures.cases.1 ∙ back_of name front back is),
    )

pub returns-in-None : goal.returns-in-None
returns-in-None c =
    let name = c.args.name.now in
    let front = c.args.front.now in
    let back = c.args.back.now in
    let first = bytes_eq-Decides (take (length front) name) front in
    (λ wrong. cc, λ is. sym c.in-None.ensures.cases ∙ first.1 (front_of name front back is))
