-- What the sample macros answer. This project's own, after the examples of SE-0382.
use Rattle.std.specs.Prelude.{◌≡◌, ℕ, ◌==◌, ◌||◌, if◌then◌else◌, Option, Some, None, option_and_then, List, [], ◌∷◌, ◌++◌, codes}
use Rattle.std.specs.List.{flat_map}
use Rattle.unique_names.specs.declared.role.Role.{Role}
use Rattle.unique_names.specs.declared.role.Role.TheVariants.{Expression, Declaration}
use Rattle.unique_names.specs.Unique.{made_name}
use Rattle.plugin_messages.specs.declared.request.Parts.{Parts}
use Rattle.plugin_messages.specs.declared.request.Parts.TheVariants.{Freestanding}
use Rattle.plugin_messages.specs.declared.message.HostMessage.{HostMessage}
use Rattle.plugin_messages.specs.declared.message.HostMessage.TheVariants.{GetCapability, Expand, LoadLibrary}
use Rattle.plugin_messages.specs.declared.message.PluginMessage.{PluginMessage}
use Rattle.plugin_messages.specs.declared.message.PluginMessage.TheVariants as plugin
use Rattle.plugin_kit.specs.Refusing.{refusal_of}
use Rattle.sample_macros.specs.Use.{readable, HasArgumentWhereSome}

-- The Swift Programming Language, string literals: how a byte is written in one
abbrev pub escaped_byte : ℕ → List ℕ
escaped_byte byte =
    if byte == 92 || byte == 34 then 92 ∷ byte ∷ []
    else (if byte == 10 then codes "\\n"
    else (if byte == 13 then codes "\\r"
    else byte ∷ []))

unfoldable pub escaped : List ℕ → List ℕ
escaped = flat_map escaped_byte

-- `(A, "E")`: the argument, and its text as a string literal
unfoldable pub stringified : List ℕ → List ℕ
stringified argument = codes "(" ++ (argument ++ (codes ", \"" ++ (escaped argument ++ codes "\")")))

-- what a macro says to a message that isn't for it, or that lacks what the reply needs
unfoldable pub misfit : List ℕ
misfit = codes "this macro does not fit here"

-- the source of the use that is to be expanded as an expression
abbrev pub source_by : Role → Parts → Option (List ℕ)
source_by Expression (Freestanding syntax) = Some syntax.source
source_by _ _ = None

abbrev pub expression_source : HostMessage → Option (List ℕ)
expression_source (GetCapability version) = None
expression_source (Expand target role discriminator parts) = source_by role parts
expression_source (LoadLibrary path name) = None

unfoldable pub stringify_reply : HostMessage → Option (List ℕ) → PluginMessage
stringify_reply asked None = refusal_of asked misfit
stringify_reply asked (Some argument) = plugin.Result (Some (stringified argument)) []

-- The reply of `StringifyMacro` to a message.
pub record IsStringifyReply (asked : HostMessage) (reply : PluginMessage) : Type 0 where
  pub argument : Option (List ℕ)
  pub has : HasArgumentWhereSome (option_and_then readable (expression_source asked)) argument
  pub is : reply ≡ stringify_reply asked argument

-- the discriminator of the use that is to be expanded as a declaration
abbrev pub discriminator_by : Role → List ℕ → Parts → Option (List ℕ)
discriminator_by Declaration discriminator (Freestanding syntax) = Some discriminator
discriminator_by _ discriminator _ = None

abbrev pub declaration_discriminator : HostMessage → Option (List ℕ)
declaration_discriminator (GetCapability version) = None
declaration_discriminator (Expand target role discriminator parts) = discriminator_by role discriminator parts
declaration_discriminator (LoadLibrary path name) = None

-- `func U() {}`, U the first name that the discriminator and no base make
unfoldable pub unique_func : List ℕ → List ℕ
unique_func discriminator = codes "func " ++ (made_name discriminator [] 0 ++ codes "() {}")

abbrev pub func_unique_by : HostMessage → Option (List ℕ) → PluginMessage
func_unique_by asked None = refusal_of asked misfit
func_unique_by asked (Some discriminator) = plugin.Result (Some (unique_func discriminator)) []

-- The reply of `FuncUniqueMacro` to a message.
unfoldable pub func_unique_reply : HostMessage → PluginMessage
func_unique_reply asked = func_unique_by asked (declaration_discriminator asked)
