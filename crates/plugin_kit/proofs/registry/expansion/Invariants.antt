use Rattle.std.proofs.Common.{◌≡◌, drop}
use Rattle.plugin_kit.specs.Given.{first_named}
use Rattle.plugin_kit.proofs.registry.expansion.Given as goal

-- the entries so far have other names
abbrev pub invariant-entries : goal.invariant-entries
invariant-entries g l =
    first_named (λ e. e.module) (λ e. e.type_name) (drop l.entry-index l.registry.entries.items) l.target
    ≡ first_named (λ e. e.module) (λ e. e.type_name) l.registry.entries.items l.target
