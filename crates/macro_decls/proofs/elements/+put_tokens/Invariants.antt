use Rattle.std.proofs.Common.{◌≡◌, ◌++◌, drop}
use Rattle.std.specs.List.{flat_map}
use Rattle.swift_lexer.specs.Tiles.{bytes_of}
use Rattle.swift_lexer.specs.Trees.{forest_of, forest_tokens}
use Rattle.macro_decls.proofs.elements.+put_tokens.Given as goal

abbrev pub invariant-inner : goal.invariant-inner
invariant-inner l =
    l.bytes.items ++ flat_map (bytes_of l.text) (forest_tokens (forest_of (drop l.part-index l.part-items)))
    ≡ l.initial.bytes.items ++ flat_map (bytes_of l.text) (forest_tokens (forest_of l.part-items))
