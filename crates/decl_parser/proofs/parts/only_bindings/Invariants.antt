use Rattle.std.proofs.Common.{◌≡◌, ◌++◌, map}
use Rattle.decl_parser.proofs.parts.only_bindings.Given as goal

abbrev pub invariant-bounds : goal.invariant-bounds
invariant-bounds l = l.bindings.items ++ map (λ bound. bound.binding) l.bound-iterator.rest.items ≡ map (λ bound. bound.binding) l.fn.bounds.items
