-- What the state of grouping stands for: this project's own.
use Rattle.std.specs.Prelude.{ℕ, List, ◌∷◌, map, Result, Ok, Err}
use Rattle.swift_lexer.specs.Answers.{Refuses}
use Rattle.swift_lexer.specs.Trees.{forest_of}
use Rattle.swift_lexer.specs.Groups.{Level, Reaches, GroupOutcome, IsGrouped}
use Rattle.swift_lexer.specs.declared.token.Token.{Token}
use Rattle.swift_lexer.specs.declared.refusal.Refusal.{Refusal}
use Rattle.swift_lexer.specs.declared.element.GroupFault.{GroupFault}
use Rattle.swift_lexer.specs.declared.grouping.OpenGroup.{OpenGroup}
use Rattle.swift_lexer.specs.declared.grouping.Grouping.{Grouping}

abbrev pub level_of : OpenGroup → Level
level_of group = record { before = forest_of group.before.items; left = group.left }

-- the tokens up to the rest are those of this state
unfoldable pub Stands : List ℕ → List Token → Grouping → List Token → Type 0
Stands text tokens grouping rest = Reaches text tokens (map level_of grouping.levels.items) (forest_of grouping.here.items) rest

-- wherever the old state stands before the token, the new one stands behind it
abbrev pub Passes : List ℕ → Token → Grouping → Grouping → Type 0
Passes text token old new = (tokens rest : List Token) → Stands text tokens old (token ∷ rest) → Stands text tokens new rest

-- wherever the state stands before the token, the fault is the outcome
abbrev pub Stops : List ℕ → Token → Grouping → GroupOutcome → Type 0
Stops text token grouping outcome = (tokens rest : List Token) → Stands text tokens grouping (token ∷ rest) → IsGrouped text tokens outcome

-- the token is taken, or it is where the outcome is a fault
abbrev pub Takes : List ℕ → Token → Grouping → Grouping → Result (Unit {0}) (Refusal GroupFault) → Type 0
Takes text token old new (Ok done) = Passes text token old new
Takes text token old new (Err refusal) = Refuses refusal (Stops text token old)
