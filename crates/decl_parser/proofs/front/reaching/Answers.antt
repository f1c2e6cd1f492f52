use Rattle.std.proofs.Common.{◌∙◌, sym, refl}
use Rattle.swift_lexer.specs.Trees.{forest_of}
use Rattle.element_marks.specs.Levels.{level}
use Rattle.decl_parser.proofs.QuietGroups.{length_level}
use Rattle.decl_parser.proofs.FrontItems.{readable_all, readable_by}
use Rattle.decl_parser.proofs.front.reaching.Goals as goal

pub returns-then-is_readable : goal.returns-then-is_readable
returns-then-is_readable c =
    readable_by (level c.args.text.now (forest_of c.args.elements.now)) c.args.front c.args.at c.requires (sym c.is_readable.ensures ∙ c.if-is_readable.true) (length_level c.args.text.now c.args.elements.now)

pub returns-then-is_readable-2 : goal.returns-then-is_readable-2
returns-then-is_readable-2 c =
    readable_by (level c.args.text.now (forest_of c.args.elements.now)) (record { from = c.args.at; marks = c.in_ok-front_marks.field-0 }) c.args.at c.in_ok-front_marks.ensures.value (sym c.is_readable-2.ensures ∙ c.if-is_readable-2.true) (length_level c.args.text.now c.args.elements.now)

pub returns : goal.returns
returns c =
    readable_all (level c.args.text.now (forest_of c.args.elements.now)) (record { from = 0; marks = c.in_ok-marks_in.field-0 }) c.args.at refl c.in_ok-marks_in.ensures
