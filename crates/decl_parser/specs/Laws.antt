-- Laws of outlines.
use Rattle.std.specs.Prelude.{◌≡◌, ℕ, List, length, Ok}
use Rattle.swift_lexer.specs.declared.token.Token.{Token}
use Rattle.swift_lexer.specs.Tiles.{TokensTile}
use Rattle.swift_tree.specs.declared.outline.Shape.{Shape}
use Rattle.swift_tree.specs.Outlines.{OutlineSeen}
use Rattle.decl_parser.specs.Nesting.{OutlineLies}
use Rattle.decl_parser.specs.Outline.{OutlineOutcome, IsOutline, read_tokens}

-- a text has at most one outline or fault for a shape
abbrev pub OneOutline : Type 0
OneOutline = (text : List ℕ) (shape : Shape) (one other : OutlineOutcome) → IsOutline text shape one → IsOutline text shape other → one ≡ other

-- a text has an outline or a fault for each shape
abbrev pub SomeOutline : Type 0
SomeOutline = (text : List ℕ) (shape : Shape) → (outcome : OutlineOutcome) × IsOutline text shape outcome

-- an outline is of the text and of the shape that was asked for
abbrev pub OutlineKeepsTheText : Type 0
OutlineKeepsTheText = (text : List ℕ) (shape : Shape) (seen : OutlineSeen) → IsOutline text shape (Ok seen) → (seen.text ≡ text) × (seen.shape ≡ shape)

-- an accepted text has tokens, which with their trivia tile it
abbrev pub AcceptedTextsTile : Type 0
AcceptedTextsTile = (text : List ℕ) (shape : Shape) (seen : OutlineSeen) → IsOutline text shape (Ok seen) → (tokens : List Token) × (read_tokens text ≡ Ok tokens) × TokensTile text tokens

-- all that an outline holds lies in its text, in order
abbrev pub SpansInOrder : Type 0
SpansInOrder = (text : List ℕ) (shape : Shape) (seen : OutlineSeen) → IsOutline text shape (Ok seen) → OutlineLies (length text) seen
