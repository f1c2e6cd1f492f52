use Rattle.std.proofs.Common.{◌≡◌, drop}
use Rattle.swift_lexer.specs.Trees.{forest_of}
use Rattle.decl_parser.specs.Gathering.{IsGathered}
use Rattle.decl_parser.proofs.levels.+inside_of.Given as goal

abbrev pub invariant-inner : goal.invariant-inner
invariant-inner l = IsGathered l.text l.read (forest_of (drop l.part-index l.inner)) (forest_of l.inner) × (l.rest ≡ drop l.part-index l.inner)
