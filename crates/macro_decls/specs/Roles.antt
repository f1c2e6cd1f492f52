-- The attributes that give a macro its roles (SE-0382, SE-0389, SE-0397, SE-0402).
use Rattle.std.specs.Prelude.{ℕ, ◌==◌, ◌&&◌, ◌||◌, not, if◌then◌else◌, Bool, true, false, Option, Some, None, option_and_then, Result, Ok, Err, List, [], length, drop, slice_get, codes}
use Rattle.std.specs.Option.{option_map_or}
use Rattle.std.specs.Str.{bytes_eq}
use Rattle.swift_base.specs.declared.place.Span.{Span}
use Rattle.swift_lexer.specs.Trees.{Tree, leaf, nest, Forest}
use Rattle.swift_lexer.specs.Tiles.{bytes_of}
use Rattle.swift_tree.specs.declared.item.Attr.{Attr}
use Rattle.decl_parser.specs.declared.fault.ParseFault.{ParseFault}
use Rattle.decl_parser.specs.Outline.{elements_of}
use Rattle.unique_names.specs.Roles.{role_of}
use Rattle.unique_names.specs.declared.role.Role.{Role}
use Rattle.unique_names.specs.declared.role.Role.TheVariants as role
use Rattle.macro_decls.specs.Elements.{text_at, trees_in, word_at}
use Rattle.macro_decls.specs.Arguments.{cut, arguments}
use Rattle.macro_decls.specs.Rules.{names_in, conformances_in}
use Rattle.macro_decls.specs.declared.written.RoleWritten.{RoleWritten}

abbrev pub trees_read : Result Forest ParseFault → List Tree
trees_read (Ok forest) = trees_in forest
trees_read (Err fault) = []

-- the elements of a text; none where it isn't read
unfoldable pub trees_of : List ℕ → List Tree
trees_of text = trees_read (elements_of text)

abbrev pub is_freestanding : List ℕ → Attr → Bool
is_freestanding text attr = bytes_eq (text_at text attr.name) (codes "freestanding")

abbrev pub is_attached : List ℕ → Attr → Bool
is_attached text attr = bytes_eq (text_at text attr.name) (codes "attached")

-- `@freestanding` or `@attached`
abbrev pub gives_role : List ℕ → Attr → Bool
gives_role text attr = not attr.dotted && (is_freestanding text attr || is_attached text attr)

abbrev pub inside_tree : Tree → List Tree
inside_tree (leaf token) = []
inside_tree (nest left inner right) = trees_in inner

-- what stands inside the one group that arguments are
abbrev pub group_inside : List Tree → List Tree
group_inside trees = option_map_or inside_tree (slice_get trees 0) []

-- a role of `@freestanding`; the others are roles of `@attached`
abbrev pub stands_free : Role → Bool
stands_free role.Expression = true
stands_free role.Declaration = true
stands_free _ = false

-- a role of the attribute's sort
abbrev pub is_of_sort : Bool → Role → Bool
is_of_sort freestanding role = if freestanding then stands_free role else not (stands_free role)

abbrev pub role_with : Bool → Option Role → Option Role
role_with freestanding None = None
role_with freestanding (Some role) = if is_of_sort freestanding role then Some role else None

-- the role that a piece is
abbrev pub role_in : List ℕ → Bool → List Tree → Option Role
role_in text freestanding piece =
    if length piece == 1 then role_with freestanding (option_and_then (λ word. role_of (bytes_of text word)) (word_at piece 0)) else None

abbrev pub first_role : List ℕ → Bool → List (List Tree) → Option Role
first_role text freestanding pieces = option_and_then (role_in text freestanding) (slice_get pieces 0)

-- an attribute by its place, its sort and its pieces
unfoldable pub role_by : List ℕ → ℕ → Bool → List (List Tree) → RoleWritten
role_by text at freestanding pieces =
    let role = first_role text freestanding pieces in
    let lists = arguments text None (drop 1 pieces) in
    record { at = at; freestanding = freestanding; role = role; names = names_in text lists; conformances = conformances_in text role lists }

abbrev pub args_of : List ℕ → Option Span → List ℕ
args_of text None = []
args_of text (Some args) = text_at text args

-- the arguments between the commas
unfoldable pub pieces_in : List ℕ → List (List Tree)
pieces_in args = cut args 0 0 (group_inside (trees_of args))

-- an attribute that gives a role, as it is written
unfoldable pub role_written : List ℕ → Attr → RoleWritten
role_written text attr =
    let args = args_of text attr.args in role_by args attr.span.start (is_freestanding text attr) (pieces_in args)
