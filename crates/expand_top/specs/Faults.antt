-- What the lines of faults say. This project's own.
use Rattle.std.specs.Prelude.{ℕ, List, ◌++◌, codes}
use Rattle.decl_parser.specs.declared.fault.ParseKind.{ParseKind}
use Rattle.decl_parser.specs.declared.fault.ParseKind.TheVariants as kind
use Rattle.macro_decls.specs.declared.fault.MacroKind.{MacroKind}
use Rattle.macro_decls.specs.declared.fault.MacroKind.TheVariants as declaration
use Rattle.expansion_model.specs.declared.answer.LimitKind.{LimitKind}
use Rattle.expansion_model.specs.declared.answer.LimitKind.TheVariants as limit
use Rattle.expansion_model.specs.declared.message.MessageText.{MessageText}
use Rattle.expansion_model.specs.declared.message.MessageText.TheVariants as says
use Rattle.expansion_model.specs.declared.site.SiteKind.{SiteKind}
use Rattle.expansion_model.specs.declared.site.SiteKind.TheVariants as site

-- one row a kind of fault
abbrev pub fault_text : ParseKind → List ℕ
fault_text kind.SourceTooLarge = codes "the text is longer than 4194304 bytes"
fault_text kind.NotUtf8 = codes "the text is not UTF-8"
fault_text kind.BadCharacter = codes "this character has no place here"
fault_text kind.OpenString = codes "the string does not end"
fault_text kind.OpenComment = codes "the comment does not end"
fault_text kind.ExtendedRegex = codes "regex literals with # are left out"
fault_text kind.UseInInterpolation = codes "a macro use in an interpolation is left out"
fault_text kind.Unopened = codes "this bracket was not opened"
fault_text kind.Unclosed = codes "this bracket is not closed"
fault_text kind.Mismatched = codes "this bracket closes another kind"
fault_text kind.TooDeep = codes "brackets are nested deeper than 200"
fault_text kind.ReservedWord = codes "names that begin with $sX are reserved"
fault_text kind.NotADeclaration = codes "a declaration was expected"
fault_text kind.BuiltinItem = codes "this # word is left out at declaration level"
fault_text kind.AttributedUse = codes "attributes and modifiers before a use are left out"
fault_text kind.MissingName = codes "a name was expected"
fault_text kind.MissingBlock = codes "a block was expected"
fault_text kind.BadBinding = codes "a binding was expected"
fault_text kind.DanglingJoiner = codes "the declaration does not end here"
fault_text kind.NotAnAttribute = codes "an attribute was expected"
fault_text kind.NotAnAccessor = codes "an accessor was expected"
fault_text kind.NotAnExpression = codes "an expression was expected"
fault_text kind.Empty = codes "the reply is empty"

-- of a source and of a reply alike
abbrev pub too_large : List ℕ
too_large = fault_text kind.SourceTooLarge

-- a name in quotes between two texts
abbrev pub quoting : List ℕ → List ℕ → List ℕ → List ℕ
quoting before name behind = before ++ (name ++ behind)

-- one row a kind of fault of a macro's declaration, by the macro's name
abbrev pub macro_fault_text : MacroKind → List ℕ → List ℕ
macro_fault_text declaration.Duplicate name = quoting (codes "macro '") name (codes "' is declared twice")
macro_fault_text declaration.NoRole name = quoting (codes "macro '") name (codes "' has no role")
macro_fault_text declaration.BadRole name = codes "this role is left out or repeated"
macro_fault_text declaration.BothFreestanding name = quoting (codes "macro '") name (codes "' has two freestanding roles")
macro_fault_text declaration.BadNames name = codes "this list of names is not understood"
macro_fault_text declaration.BadConformances name = codes "this list of conformances is not understood"
macro_fault_text declaration.NotExternal name = quoting (codes "macro '") name (codes "' is not an external macro")

-- one row a kind of fault of a site, by the macro's name, or the module's
abbrev pub site_fault_text : SiteKind → List ℕ → List ℕ
site_fault_text site.UnknownMacro name = quoting (codes "no macro named '") name (codes "'")
site_fault_text site.LocalAttached name = quoting (codes "macro '") name (codes "' is attached in a local place")
site_fault_text site.WrongRole name = quoting (codes "macro '") name (codes "' has no role for this place")
site_fault_text site.NotOneBinding name = codes "an accessor macro needs a variable with one name"
site_fault_text site.AccessorOnBody name = codes "an accessor macro needs a variable without a getter block"
site_fault_text site.NoPlugin name = quoting (codes "no plug-in for module '") name (codes "'")
site_fault_text site.Recursive name = quoting (codes "macro '") name (codes "' expands to itself in the same role")

abbrev pub not_built : List ℕ
not_built = codes "this form is not built yet"

-- of a request whose plug-in has this module
abbrev pub no_reply_text : List ℕ → List ℕ
no_reply_text module_name = quoting (codes "plug-in '") module_name (codes "' gave no reply")

-- one row a kind of message
abbrev pub message_text : MessageText → List ℕ
message_text (says.Parse kind) = fault_text kind
message_text (says.Site kind name) = site_fault_text kind name
message_text says.NotBuilt = not_built
message_text (says.NoReply module_name) = no_reply_text module_name
message_text (says.NoText macro_name) = quoting (codes "macro '") macro_name (codes "' gave no text")
message_text (says.ForbiddenKind macro_name) = quoting (codes "macro '") macro_name (codes "' may not make this declaration here")
message_text says.FileScopeArbitrary = codes "arbitrary names are not allowed at file scope"
message_text (says.Uncovered name macro_name) = quoting (codes "the name '") name (quoting (codes "' is not in the list of macro '") macro_name (codes "'"))

-- one row a limit
abbrev pub limit_text : LimitKind → List ℕ
limit_text limit.Requests = codes "the file needs more than 65536 expansions"
limit_text limit.Bytes = codes "the plug-ins sent more than 67108864 bytes"
