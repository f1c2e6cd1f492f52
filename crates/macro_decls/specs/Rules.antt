-- What stands behind `names:` (SE-0389) and behind `conformances:` (SE-0402).
use Rattle.std.specs.Prelude.{ℕ, ◌==◌, ◌&&◌, ◌||◌, not, nat_le, if◌then◌else◌, Bool, true, false, is_some, Option, Some, None, option_and_then, option_map, List, [], ◌∷◌, length, count_by, codes}
use Rattle.std.specs.List.{list_any}
use Rattle.swift_lexer.specs.declared.token.Token.{Token}
use Rattle.swift_lexer.specs.declared.token.Class.{Class}
use Rattle.swift_lexer.specs.declared.token.Class.TheVariants as class
use Rattle.swift_lexer.specs.Trees.{Tree}
use Rattle.swift_lexer.specs.Tiles.{bytes_of}
use Rattle.unique_names.specs.declared.role.Role.{Role}
use Rattle.unique_names.specs.declared.role.Role.TheVariants as role
use Rattle.role_names.specs.declared.rule.NameRule.{NameRule}
use Rattle.role_names.specs.declared.rule.NameRule.TheVariants as rule
use Rattle.role_names.specs.declared.rule.NameList.{NameList}
use Rattle.macro_decls.specs.Elements.{inside_of, leaf_at, round_at, spells_at, joined}
use Rattle.macro_decls.specs.Arguments.{Argument, is_names, is_conformances}
use Rattle.macro_decls.specs.declared.arguments.Label.{Label}
use Rattle.macro_decls.specs.declared.arguments.Label.TheVariants as label

-- a word, an operator, or what stands between backquotes
abbrev pub name_by : List ℕ → Class → Token → Option (List ℕ)
name_by text class.Word token = Some (bytes_of text token)
name_by text class.Oper token = Some (bytes_of text token)
name_by text class.Quoted token = Some (inside_of text token)
name_by text _ token = None

abbrev pub name_of : List ℕ → Token → Option (List ℕ)
name_of text token = name_by text token.class token

-- a name, perhaps followed by a group in round brackets, which doesn't count
abbrev pub named : List ℕ → List Tree → Option (List ℕ)
named text trees =
    if (length trees == 1) || ((length trees == 2) && is_some (round_at text trees 1)) then option_and_then (name_of text) (leaf_at trees 0)
    else None

-- `overloaded` or `arbitrary`
abbrev pub bare_rule : List ℕ → List Tree → Option NameRule
bare_rule text entry =
    if spells_at text entry 0 (codes "overloaded") then Some rule.Overloaded
    else (if spells_at text entry 0 (codes "arbitrary") then Some rule.Arbitrary else None)

-- `named`, `prefixed` or `suffixed`, by the name in the brackets
abbrev pub rule_with : List ℕ → List Tree → List ℕ → Option NameRule
rule_with text entry name =
    if spells_at text entry 0 (codes "named") then Some (rule.Named name)
    else (if spells_at text entry 0 (codes "prefixed") then Some (rule.Prefixed name)
    else (if spells_at text entry 0 (codes "suffixed") then Some (rule.Suffixed name) else None))

abbrev pub called_name : List ℕ → List Tree → Option (List ℕ)
called_name text entry = option_and_then (named text) (round_at text entry 1)

abbrev pub called_rule : List ℕ → List Tree → Option NameRule
called_rule text entry = option_and_then (rule_with text entry) (called_name text entry)

-- the rule that an entry is
unfoldable pub rule_of : List ℕ → List Tree → Option NameRule
rule_of text entry =
    if length entry == 1 then bare_rule text entry else (if length entry == 2 then called_rule text entry else None)

abbrev pub with_rule : Option NameRule → Option (List NameRule) → Option (List NameRule)
with_rule None rules = None
with_rule (Some first) None = None
with_rule (Some first) (Some rules) = Some (first ∷ rules)

-- the rules of the entries of `names:`, where each entry is one
abbrev pub rules_in : List ℕ → List Argument → Option (List NameRule)
rules_in text [] = Some []
rules_in text (argument ∷ arguments) =
    if is_names argument.label then with_rule (rule_of text argument.entry) (rules_in text arguments) else rules_in text arguments

abbrev pub is_extension : Option Role → Bool
is_extension (Some role.Extension) = true
is_extension _ = false

-- an argument that no role takes: one without a list, or of an unknown one, or an empty conformance
abbrev pub is_stray_by : Bool → Option Label → Bool
is_stray_by empty None = true
is_stray_by empty (Some label.Names) = false
is_stray_by empty (Some label.Conformances) = empty
is_stray_by empty (Some label.Other) = true

abbrev pub is_stray : Argument → Bool
is_stray argument = is_stray_by (length argument.entry == 0) argument.label

abbrev pub begins_names : Argument → Bool
begins_names argument = argument.begins && is_names argument.label

abbrev pub begins_conformances : Argument → Bool
begins_conformances argument = argument.begins && is_conformances argument.label

abbrev pub any_stray : List Argument → Bool
any_stray arguments = list_any is_stray arguments

-- how many lists of names, and how many of conformances
abbrev pub names_lists : List Argument → ℕ
names_lists arguments = count_by begins_names arguments

abbrev pub conformances_lists : List Argument → ℕ
conformances_lists arguments = count_by begins_conformances arguments

-- only the role extension takes conformances
abbrev pub most_conformances : Option Role → ℕ
most_conformances role = if is_extension role then 1 else 0

-- the arguments behind the first are lists that the role takes, each at most once
abbrev pub fits : Option Role → List Argument → Bool
fits role arguments =
    not (any_stray arguments) && nat_le (names_lists arguments) 1 && nat_le (conformances_lists arguments) (most_conformances role)

-- the types behind `conformances:`, each as the texts of its tokens
abbrev pub conformances_listed : List ℕ → List Argument → List (List ℕ)
conformances_listed text [] = []
conformances_listed text (argument ∷ arguments) =
    if is_conformances argument.label then joined text argument.entry ∷ conformances_listed text arguments else conformances_listed text arguments

-- the same, where the arguments fit the role
unfoldable pub conformances_in : List ℕ → Option Role → List Argument → Option (List (List ℕ))
conformances_in text role arguments = if fits role arguments then Some (conformances_listed text arguments) else None

abbrev pub name_list : List NameRule → NameList
name_list rules = record { rules = rules }

-- the list behind `names:`, where each entry is a rule
abbrev pub names_in : List ℕ → List Argument → Option NameList
names_in text arguments = option_map name_list (rules_in text arguments)
