-- The command that words mean. This project's own.
use Rattle.std.specs.Prelude.{ℕ, ◌==◌, ◌&&◌, ◌||◌, not, nat_lt, Bool, true, false, if◌then◌else◌, Option, Some, None, option_map, option_and_then, List, [], ◌∷◌, length, codes, string_bytes}
use Rattle.std.specs.Char.{is_ascii_alphabetic, is_ascii_alphanumeric}
use Rattle.std.specs.List.{list_all, position_or_len, before_first, after_first}
use Rattle.std.specs.Str.{bytes_eq}
use Rattle.swift_base.specs.declared.plugins.Plugin.{Plugin}
use Rattle.expand_top.specs.declared.command.Command.{Command}
use Rattle.expand_top.specs.declared.command.Command.TheVariants as command
use Rattle.expand_top.specs.declared.command.Named as code

-- a plain word that isn't empty; one that begins with `-` is plain only alone
abbrev pub is_plain : List ℕ → Bool
is_plain [] = false
is_plain (first ∷ []) = true
is_plain (first ∷ more) = not (first == 45)

abbrev pub is_empty : List ℕ → Bool
is_empty [] = true
is_empty (first ∷ more) = false

abbrev pub begins_module : ℕ → Bool
begins_module first = is_ascii_alphabetic first || first == 95

abbrev pub continues_module : ℕ → Bool
continues_module byte = is_ascii_alphanumeric byte || byte == 95

-- an ASCII letter or `_`, then ASCII letters, digits and `_`
abbrev pub is_module : List ℕ → Bool
is_module [] = false
is_module (first ∷ more) = begins_module first && list_all continues_module more

-- the first `=` stands in the word, behind a module and before a command
abbrev pub names_plugin : List ℕ → Bool
names_plugin word =
    nat_lt (position_or_len (λ b. b == 61) word) (length word) && is_module (before_first (λ b. b == 61) word) && not (is_empty (after_first (λ b. b == 61) word))

-- MODULE=COMMAND, split at its first `=`
abbrev pub plugin_of : List ℕ → Option Plugin
plugin_of word =
    if names_plugin word
    then Some (record { «module» = before_first (λ b. b == 61) word; command = after_first (λ b. b == 61) word })
    else None

-- no plug-in, or the one that the word names
abbrev pub plugins_of : Option (List ℕ) → Option (List Plugin)
plugins_of None = Some []
plugins_of (Some word) = option_map (λ plugin. plugin ∷ []) (plugin_of word)

-- the words by what they name: the file of macros, the source, and a plug-in
pub record Named : Type 0 where
  pub macros : Option (List ℕ)
  pub source : List ℕ
  pub plugin : Option (List ℕ)

abbrev pub named_seen : code.Named → Named
named_seen named = record {
  macros = option_map (λ w. string_bytes w.now) named.macros;
  source = string_bytes named.source.now;
  plugin = option_map (λ w. string_bytes w.now) named.plugin;
}

abbrev pub named_if : Bool → Named → Option Named
named_if plain named = if plain then Some named else None

abbrev pub source_words : Option (List ℕ) → List (List ℕ) → Option Named
source_words macros (source ∷ []) = named_if (is_plain source) (record { macros = macros; source = source; plugin = None })
source_words macros (source ∷ word ∷ []) = named_if (is_plain source) (record { macros = macros; source = source; plugin = Some word })
source_words macros words = None

abbrev pub macros_words : List (List ℕ) → Option Named
macros_words [] = None
macros_words (file ∷ words) = if is_plain file then source_words (Some file) words else None

abbrev pub option_words : List (List ℕ) → Option Named
option_words [] = None
option_words (first ∷ words) = if bytes_eq first (codes "--macros") then macros_words words else source_words None (first ∷ words)

-- `expand [--macros FILE] SOURCE [MODULE=COMMAND]`
abbrev pub named_in : List (List ℕ) → Option Named
named_in [] = None
named_in (verb ∷ words) = if bytes_eq verb (codes "expand") then option_words words else None

abbrev pub command_named : Named → Option Command
command_named named = option_map (command.Expand named.source named.macros) (plugins_of named.plugin)

-- the command of these words; any other words are none
abbrev pub command_of : List (List ℕ) → Option Command
command_of words = option_and_then command_named (named_in words)
