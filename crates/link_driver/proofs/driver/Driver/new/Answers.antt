use Rattle.std.proofs.Common.{ap, map, refl}
use Rattle.link_driver.specs.Links.{link_seen}
use Rattle.link_driver.proofs.Turns.{nothing_done}
use Rattle.link_driver.proofs.driver.Driver.new.Goals as goal
use Rattle.link_driver.proofs.Tables.{fresh_table}

pub returns-clause-driven : goal.returns-clause-driven
returns-clause-driven g c = λ before. nothing_done before _ (ap (map (link_seen g.W.Sink.seen g.R.Source.seen)) c.new.ensures.items) c.new-2.ensures.items refl refl

pub returns-clause-table : goal.returns-clause-table
returns-clause-table g c = λ table none. fresh_table table _ (ap (map (link_seen g.W.Sink.seen g.R.Source.seen)) c.new.ensures.items) c.new-2.ensures.items refl refl none
