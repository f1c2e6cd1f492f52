-- The replies of a registry. Its entries are seen by their names and by the replies of their macros.
-- This project's own; the messages are swift-syntax's.
use Rattle.std.specs.Prelude.{◌≡◌, ◌&&◌, ℕ, Bool, false, List, [], find, Option, Some, None, pos}
use Rattle.std.specs.Str.{bytes_eq}
use Rattle.std.proofs.Common.{◌∙◌, sym}
use Rattle.plugin_messages.specs.declared.request.MacroRef.{MacroRef}
use Rattle.plugin_messages.specs.declared.message.HostMessage.{HostMessage}
use Rattle.plugin_messages.specs.declared.message.HostMessage.TheVariants.{GetCapability, Expand, LoadLibrary}
use Rattle.plugin_messages.specs.declared.message.PluginMessage.{PluginMessage}
use Rattle.plugin_messages.specs.declared.message.PluginMessage.TheVariants as plugin
use Rattle.plugin_kit.specs.Refusing.{refusal_of, no_macro_text}

-- the version of the messages that a plug-in speaks
abbrev pub protocol_version : ℕ
protocol_version = 7

-- the module and the type are those of the macro that is asked for
abbrev pub is_named : List ℕ → List ℕ → MacroRef → Bool
is_named of_module of_type target = bytes_eq of_module target.module && bytes_eq of_type target.type_name

-- the first entry with the names of the macro that is asked for
abbrev pub first_named : {E : Type 0} → (E → List ℕ) → (E → List ℕ) → List E → MacroRef → Option E
first_named module_of type_of entries target = find (λ e. is_named (module_of e) (type_of e) target) entries

-- what the entry's macro gives, or the error that there is none
abbrev pub IsExpansion : {E : Type 0} → (E → HostMessage → PluginMessage → Type 0) → Option E → MacroRef → HostMessage → PluginMessage → Type 0
IsExpansion replies None target asked reply = reply ≡ refusal_of asked (no_macro_text target)
IsExpansion replies (Some e) target asked reply = replies e asked reply

-- the reply of a registry
abbrev pub IsGiven : {E : Type 0} → (E → List ℕ) → (E → List ℕ) → (E → HostMessage → PluginMessage → Type 0) → List E → HostMessage → PluginMessage → Type 0
IsGiven module_of type_of replies entries (GetCapability version) reply = reply ≡ plugin.Capability (pos protocol_version)
IsGiven module_of type_of replies entries (Expand target role discriminator parts) reply =
    IsExpansion replies (first_named module_of type_of entries target) target (Expand target role discriminator parts) reply
IsGiven module_of type_of replies entries (LoadLibrary path name) reply = reply ≡ plugin.Loaded false []

-- there is one, where each macro has one
pub one_expansion : {E : Type 0} (replies : E → HostMessage → PluginMessage → Type 0)
    → ((e : E) (asked : HostMessage) (a b : PluginMessage) → replies e asked a → replies e asked b → a ≡ b)
    → (found : Option E) (target : MacroRef) (asked : HostMessage) (a b : PluginMessage)
    → IsExpansion replies found target asked a → IsExpansion replies found target asked b → a ≡ b
one_expansion replies one None target asked a b x y = x ∙ sym y
one_expansion replies one (Some e) target asked a b x y = one e asked a b x y

pub one_given : {E : Type 0} (module_of type_of : E → List ℕ) (replies : E → HostMessage → PluginMessage → Type 0)
    → ((e : E) (asked : HostMessage) (a b : PluginMessage) → replies e asked a → replies e asked b → a ≡ b)
    → (entries : List E) (message : HostMessage) (a b : PluginMessage)
    → IsGiven module_of type_of replies entries message a → IsGiven module_of type_of replies entries message b → a ≡ b
one_given module_of type_of replies one entries (GetCapability version) a b x y = x ∙ sym y
one_given module_of type_of replies one entries (Expand target role discriminator parts) a b x y =
    one_expansion replies one (first_named module_of type_of entries target) target (Expand target role discriminator parts) a b x y
one_given module_of type_of replies one entries (LoadLibrary path name) a b x y = x ∙ sym y
