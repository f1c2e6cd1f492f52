use Rattle.std.proofs.Common.{◌≡◌, length}
use Rattle.expansion_model.specs.Macros.{plugin_for}
use Rattle.expansion_model.proofs.macros.plugin_for.Given as goal

abbrev pub invariant-plugins : goal.invariant-plugins
invariant-plugins l = plugin_for l.module_name l.plugins ≡ plugin_for l.module_name l.rest

abbrev pub decreases-plugins : goal.decreases-plugins
decreases-plugins l = length l.rest
