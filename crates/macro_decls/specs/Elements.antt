-- What stands in a row of elements. This project's own.
use Rattle.std.specs.Prelude.{ℕ, ◌-◌, if◌then◌else◌, Bool, true, false, Option, Some, None, List, [], ◌∷◌, drop, slice_get, slice_range, option_and_then, codes}
use Rattle.std.specs.List.{flat_map}
use Rattle.std.specs.Option.{option_map_or}
use Rattle.std.specs.Str.{bytes_eq}
use Rattle.swift_base.specs.declared.place.Span.{Span}
use Rattle.swift_lexer.specs.declared.token.Token.{Token}
use Rattle.swift_lexer.specs.declared.token.Class.{Class}
use Rattle.swift_lexer.specs.declared.token.Class.TheVariants as class
use Rattle.swift_lexer.specs.Trees.{Tree, leaf, nest, Forest, none, cons, tree_tokens, forest_of}
use Rattle.swift_lexer.specs.Tiles.{bytes_of}
use Rattle.macro_decls.specs.declared.elements.Shape.{Shape}
use Rattle.macro_decls.specs.declared.elements.Shape.TheVariants as shape

-- a place of the text as bytes
abbrev pub text_at : List ℕ → Span → List ℕ
text_at text span = slice_range text span.start span.end

abbrev pub spells : List ℕ → Token → List ℕ → Bool
spells text token word = bytes_eq (bytes_of text token) word

-- between the first byte of a token and its last: what backquotes and the quotes of a string stand around
abbrev pub inside_of : List ℕ → Token → List ℕ
inside_of text token = drop 1 (slice_range text token.start (token.end - 1))

abbrev pub trees_in : Forest → List Tree
trees_in none = []
trees_in (cons tree forest) = tree ∷ trees_in forest

abbrev pub leaf_of : Tree → Option Token
leaf_of (leaf token) = Some token
leaf_of (nest left inner right) = None

-- what stands in a group in round brackets
abbrev pub round_of : List ℕ → Tree → Option (List Tree)
round_of text (leaf token) = None
round_of text (nest left inner right) = if spells text left (codes "(") then Some (trees_in inner) else None

abbrev pub leaf_at : List Tree → ℕ → Option Token
leaf_at trees k = option_and_then leaf_of (slice_get trees k)

abbrev pub round_at : List ℕ → List Tree → ℕ → Option (List Tree)
round_at text trees k = option_and_then (round_of text) (slice_get trees k)

abbrev pub is_word : Class → Bool
is_word class.Word = true
is_word _ = false

-- the element at a place is a word
abbrev pub word_at : List Tree → ℕ → Option Token
word_at trees k = option_and_then (λ token. if is_word token.class then Some token else None) (leaf_at trees k)

-- the element at a place is a token that spells the word
abbrev pub spells_at : List ℕ → List Tree → ℕ → List ℕ → Bool
spells_at text trees k word = option_map_or (λ token. spells text token word) (leaf_at trees k) false

-- the texts of the tokens at every depth, joined
abbrev pub joined : List ℕ → List Tree → List ℕ
joined text trees = flat_map (λ tree. flat_map (bytes_of text) (tree_tokens tree)) trees

-- the elements of the code in a row
abbrev pub tree_seen : Shape → Tree
tree_seen (shape.Leaf token) = leaf token
tree_seen (shape.Nest left inner right) = nest left (forest_of inner.now) right
