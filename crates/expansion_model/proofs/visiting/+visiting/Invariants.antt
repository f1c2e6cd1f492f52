use Rattle.std.proofs.Common.{◌≡◌, ◌+◌, ◌*◌, drop}
use Rattle.expansion_model.specs.Buffers.{buffer_seen}
use Rattle.expansion_model.specs.Requests.{IsPlaceIn}
use Rattle.expansion_model.specs.Table.{look}
use Rattle.expansion_model.specs.Visit.{given, over, visit_to}
use Rattle.expansion_model.specs.Visited.{visited_of, visited_seen, with_more}
use Rattle.expansion_model.proofs.visiting.+visiting.Given as goal

abbrev pub decreases-visit_to : goal.decreases-visit_to
decreases-visit_to l = 8 * l.depth

abbrev pub decreases-visit_sites : goal.decreases-visit_sites
decreases-visit_sites l = 8 * l.depth + 6

abbrev pub decreases-put_site : goal.decreases-put_site
decreases-put_site l = 8 * l.depth + 5

abbrev pub decreases-put_ask : goal.decreases-put_ask
decreases-put_ask l = 8 * l.depth + 4

abbrev pub decreases-put_outcome : goal.decreases-put_outcome
decreases-put_outcome l = 8 * l.depth + 3

abbrev pub decreases-put_replied : goal.decreases-put_replied
decreases-put_replied l = 8 * l.depth + 2

abbrev pub decreases-put_reply : goal.decreases-put_reply
decreases-put_reply l = 8 * l.depth + 1

abbrev pub invariant-visit_sites-sites : goal.invariant-visit_sites-sites
invariant-visit_sites-sites l = IsPlaceIn l.buffer.outline.text l.place
    × (with_more (visited_seen l.visited) (visited_of (look l.table) (over (given (visit_to l.macros l.plugins (look l.table) l.depth) l.macros (look l.table) (buffer_seen l.buffer)) (drop l.site-index l.sites)))
    ≡ visited_of (look l.table) (over (given (visit_to l.macros l.plugins (look l.table) l.depth) l.macros (look l.table) (buffer_seen l.buffer)) l.sites))
