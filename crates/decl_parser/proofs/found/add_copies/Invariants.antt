use Rattle.std.proofs.Common.{◌≡◌, ◌++◌, take}
use Rattle.decl_parser.proofs.found.add_copies.Given as goal

abbrev pub invariant-attributes : goal.invariant-attributes
invariant-attributes l = l.list.items ≡ l.fn.list.items ++ take l.attr-index l.attrs
