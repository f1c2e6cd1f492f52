use Rattle.std.proofs.Common.{◌≡◌, ◌+◌, ◌-◌, ◌*◌, length, map}
use Rattle.swift_lexer.specs.Trees.{forest_of}
use Rattle.swift_tree.specs.Outlines.{item_of}
use Rattle.element_marks.specs.Levels.{level}
use Rattle.decl_parser.specs.Parts.{prefixed}
use Rattle.decl_parser.specs.Fronts.{IsFront}
use Rattle.decl_parser.specs.Levels.{forest_size, held, insides}
use Rattle.decl_parser.proofs.Cutting.{rest_from}
use Rattle.decl_parser.proofs.items.+items.Given as goal

abbrev pub decreases-item_at : goal.decreases-item_at
decreases-item_at l = 3 * forest_size (forest_of l.own.elements.now) + 1

abbrev pub decreases-items : goal.decreases-items
decreases-items l = 3 * forest_size (forest_of l.elements.now) + 2

abbrev pub decreases-members_at : goal.decreases-members_at
decreases-members_at l = 3 * forest_size (forest_of l.elements.now)

abbrev pub invariant-items-items : goal.invariant-items-items
invariant-items-items l =
    IsFront (level l.text (forest_of l.elements)) l.front
    × (prefixed (map item_of l.items.items) (rest_from l.place (level l.text (forest_of l.elements)) (insides l.text (forest_of l.elements)) (held l.text (forest_of l.elements)) l.at)
    ≡ rest_from l.place (level l.text (forest_of l.elements)) (insides l.text (forest_of l.elements)) (held l.text (forest_of l.elements)) 0)

abbrev pub decreases-items-items : goal.decreases-items-items
decreases-items-items l = length l.elements - l.at
