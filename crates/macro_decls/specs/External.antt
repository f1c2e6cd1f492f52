-- Where a macro is implemented (SE-0382).
use Rattle.std.specs.Prelude.{ℕ, ◌==◌, ◌&&◌, ◌||◌, not, if◌then◌else◌, Bool, true, false, Option, Some, None, option_and_then, List, [], ◌∷◌, length, codes}
use Rattle.std.specs.List.{list_any}
use Rattle.std.specs.Option.{option_or}
use Rattle.swift_lexer.specs.declared.token.Token.{Token}
use Rattle.swift_lexer.specs.declared.token.Class.{Class}
use Rattle.swift_lexer.specs.declared.token.Class.TheVariants as class
use Rattle.swift_lexer.specs.Trees.{Tree}
use Rattle.swift_lexer.specs.Tiles.{bytes_of}
use Rattle.macro_decls.specs.Elements.{inside_of, leaf_at, round_at, spells_at}
use Rattle.macro_decls.specs.declared.external.External.{External}
use Rattle.macro_decls.specs.declared.external.Strings.{Strings}

abbrev pub is_string : Class → Bool
is_string class.Str = true
is_string _ = false

abbrev pub begins_with_quote : List ℕ → Bool
begins_with_quote [] = false
begins_with_quote (first ∷ more) = first == 34

abbrev pub holds_escape : List ℕ → Bool
holds_escape inside = list_any (λ b. b == 34 || b == 92) inside

-- what stands between the quotes of a string of one line without `\`
abbrev pub quoted : List ℕ → Token → Option (List ℕ)
quoted text token =
    if is_string token.class && begins_with_quote (bytes_of text token) && not (holds_escape (inside_of text token)) then Some (inside_of text token)
    else None

abbrev pub quoted_at : List ℕ → List Tree → ℕ → Option (List ℕ)
quoted_at text trees k = option_and_then (quoted text) (leaf_at trees k)

-- `module: S, type: S`
abbrev pub names_external : List ℕ → List Tree → Bool
names_external text trees =
    (length trees == 7) && spells_at text trees 0 (codes "module") && spells_at text trees 1 (codes ":")
    && spells_at text trees 3 (codes ",") && spells_at text trees 4 (codes "type") && spells_at text trees 5 (codes ":")

abbrev pub external_by : Option (List ℕ) → Option (List ℕ) → Option External
external_by (Some module_name) (Some type_name) = Some (record { module_name = module_name; type_name = type_name })
external_by module_name type_name = None

abbrev pub external_of : List ℕ → List Tree → Option External
external_of text trees = if names_external text trees then external_by (quoted_at text trees 2) (quoted_at text trees 6) else None

-- `= #externalMacro(module: S, type: S)` stands first
abbrev pub external_at : List ℕ → List Tree → Option External
external_at text trees =
    if spells_at text trees 0 (codes "=") && spells_at text trees 1 (codes "#externalMacro") then option_and_then (external_of text) (round_at text trees 2)
    else None

-- the first such
abbrev pub external_in : List ℕ → List Tree → Option External
external_in text [] = None
external_in text (tree ∷ trees) = option_or (external_at text (tree ∷ trees)) (external_in text trees)

-- the code's strings, apart from where they lie in memory
abbrev pub strings_seen : Strings → External
strings_seen strings = record { module_name = strings.module_name.now; type_name = strings.type_name.now }
