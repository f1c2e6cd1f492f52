use Rattle.std.proofs.Common.{◌≡◌, ◌++◌, map}
use Rattle.expansion_model.specs.BufferSites.{buffer_sites, unless_recursive}
use Rattle.expansion_model.specs.Buffers.{buffer_seen}
use Rattle.expansion_model.proofs.recursion.buffer_sites.Given as goal

abbrev pub invariant-sites : goal.invariant-sites
invariant-sites l = l.sites.items ++ map (unless_recursive l.buffer.ancestors) l.site-iterator.rest.items ≡ buffer_sites l.macros l.plugins (buffer_seen l.buffer)
