-- The arguments of an attribute: this project's own, after SE-0389 and SE-0402.
use Rattle.std.specs.Prelude.{ℕ, suc, ◌+◌, ◌==◌, ◌&&◌, not, if◌then◌else◌, Bool, true, false, Option, Some, None, option_map, List, [], ◌∷◌, map, drop, count_by, codes}
use Rattle.std.specs.Str.{bytes_eq}
use Rattle.swift_lexer.specs.declared.token.Token.{Token}
use Rattle.swift_lexer.specs.declared.token.Class.{Class}
use Rattle.swift_lexer.specs.declared.token.Class.TheVariants as class
use Rattle.swift_lexer.specs.Trees.{Tree, leaf, nest, tree_of}
use Rattle.swift_lexer.specs.Tiles.{bytes_of}
use Rattle.macro_decls.specs.Elements.{spells, spells_at, word_at}
use Rattle.macro_decls.specs.declared.arguments.Label.{Label}
use Rattle.macro_decls.specs.declared.arguments.Label.TheVariants as label
use Rattle.macro_decls.specs.declared.arguments.Argument as declared

abbrev pub is_operator : Class → Bool
is_operator class.Oper = true
is_operator _ = false

-- how often the byte stands in an operator other than `->`
abbrev pub token_angles : List ℕ → ℕ → Token → ℕ
token_angles text byte token =
    if is_operator token.class && not (spells text token (codes "->")) then count_by (λ b. b == byte) (bytes_of text token) else 0

abbrev pub angle_count : List ℕ → ℕ → Tree → ℕ
angle_count text byte (leaf token) = token_angles text byte token
angle_count text byte (nest left inner right) = 0

abbrev pub is_comma : List ℕ → Tree → Bool
is_comma text (leaf token) = spells text token (codes ",")
is_comma text (nest left inner right) = false

abbrev pub before_first : {A : Type 0} → A → List (List A) → List (List A)
before_first x [] = (x ∷ []) ∷ []
before_first x (piece ∷ pieces) = (x ∷ piece) ∷ pieces

-- what stands between the commas of angle depth 0, where so many `<` and `>` had passed; without a comma all is one piece
abbrev pub cut : List ℕ → ℕ → ℕ → List Tree → List (List Tree)
cut text opened closed [] = [] ∷ []
cut text opened closed (tree ∷ trees) =
    if is_comma text tree && (opened == closed) then [] ∷ cut text 0 0 trees
    else before_first tree (cut text (opened + angle_count text 60 tree) (closed + angle_count text 62 tree) trees)

-- how many elements stand before the first such comma
abbrev pub before_comma : List ℕ → ℕ → ℕ → List Tree → ℕ
before_comma text opened closed [] = 0
before_comma text opened closed (tree ∷ trees) =
    if is_comma text tree && (opened == closed) then 0
    else suc (before_comma text (opened + angle_count text 60 tree) (closed + angle_count text 62 tree) trees)

abbrev pub label_by : List ℕ → Label
label_by word =
    if bytes_eq word (codes "names") then label.Names
    else (if bytes_eq word (codes "conformances") then label.Conformances else label.Other)

-- the label of a piece that begins with a word and a colon
abbrev pub label_of : List ℕ → List Tree → Option Label
label_of text piece =
    if spells_at text piece 1 (codes ":") then option_map (λ word. label_by (bytes_of text word)) (word_at piece 0) else None

-- an argument: the label of its list, whether it is the one with the label, and its elements behind that
pub record Argument : Type 0 where
  pub label : Option Label
  pub begins : Bool
  pub entry : List Tree

-- a piece by its own label, in the list that was begun before it
abbrev pub argument_in : Option Label → List Tree → Option Label → Argument
argument_in current piece None = record { label = current; begins = false; entry = piece }
argument_in current piece (Some own) = record { label = Some own; begins = true; entry = drop 2 piece }

-- a label begins a list, which goes on to the next label
abbrev pub arguments : List ℕ → Option Label → List (List Tree) → List Argument
arguments text current [] = []
arguments text current (piece ∷ pieces) =
    let first = argument_in current piece (label_of text piece) in first ∷ arguments text first.label pieces

abbrev pub is_names : Option Label → Bool
is_names (Some label.Names) = true
is_names _ = false

abbrev pub is_conformances : Option Label → Bool
is_conformances (Some label.Conformances) = true
is_conformances _ = false

-- the code's arguments, apart from where their elements lie in memory
abbrev pub argument_seen : declared.Argument → Argument
argument_seen a = record { label = a.label; begins = a.begins; entry = map tree_of a.entry.now }
