use Rattle.std.proofs.Common.{◌∙◌, ◌++◌, ap}
use Rattle.swift_base.proofs.Writing.{one_more, proper_front, some_left, none_written}
use Rattle.swift_base.proofs.write.write_all.Goals as goal

pub returns-in_default-clause-front : goal.returns-in_default-clause-front
returns-in_default-clause-front g c =
    let done = c.loop-rest.invariant.written in
    proper_front _ _ done.0 _ _ done.1 (c.in_default.ensures.kept ∙ done.2) (some_left c.loop-rest.rest.now c.loop-rest-test.ensures)

pub loop-rest-preserved : goal.loop-rest-preserved
loop-rest-preserved g c =
    let done = c.loop-rest.invariant.written in
    let more = one_more _ _ _ done.0 c.loop-rest.rest.now _ c.in-Ok.taken done.1 done.2 c.in-Ok.ensures.taken in
    let some = some_left c.loop-rest.rest.now c.loop-rest-test.ensures in
    record {
      written = (more.0, ap (λ r. more.0 ++ r) c.split_at.ensures.back ∙ more.1, more.2);
      steady = c.in-Ok.ensures.steady ∙ c.loop-rest.invariant.steady;
      closing = c.in-Ok.ensures.open some ∙ c.loop-rest.invariant.closing;
      no_call = λ none. absurd (none_written _ _ _ done.1 some none);
    }
