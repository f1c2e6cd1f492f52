-- this project's own, after swift-syntax: how cases, labels, kinds and severities are spelled, apart from the constants that the definitions share with the code.
use Rattle.std.specs.Prelude.{◌≡◌, ℕ, List, [], ◌∷◌, map, codes}
use Rattle.plugin_messages.specs.declared.request.SyntaxKind.{SyntaxKind}
use Rattle.plugin_messages.specs.declared.request.SyntaxKind.TheVariants as kind
use Rattle.plugin_messages.specs.declared.message.Severity.{Severity}
use Rattle.plugin_messages.specs.declared.message.Severity.TheVariants as severity
use Rattle.plugin_messages.specs.declared.request.TheConstants.{KINDS}
use Rattle.plugin_messages.specs.declared.message.TheConstants.{SEVERITIES}
use Rattle.plugin_messages.specs.declared.labels.TheConstants.{GET_CAPABILITY, EXPAND_FREESTANDING_MACRO, EXPAND_ATTACHED_MACRO, LOAD_PLUGIN_LIBRARY, GET_CAPABILITY_RESULT, EXPAND_MACRO_RESULT, LOAD_PLUGIN_LIBRARY_RESULT, CAPABILITY, PROTOCOL_VERSION, MACRO, MACRO_ROLE, DISCRIMINATOR, SYNTAX, ATTRIBUTE_SYNTAX, DECL_SYNTAX, PARENT_DECL_SYNTAX, EXTENDED_TYPE_SYNTAX, CONFORMANCE_LIST_SYNTAX, LIBRARY_PATH, EXPANDED_SOURCE, LOADED, DIAGNOSTICS, MODULE_NAME, TYPE_NAME, NAME, KIND, SOURCE, LOCATION, FILE_ID, FILE_NAME, OFFSET, LINE, COLUMN, MESSAGE, SEVERITY, POSITION, HIGHLIGHTS, NOTES, FIX_ITS}

-- a constant, and its spelling
abbrev pub labels : List (List ℕ × List ℕ)
labels =
    (GET_CAPABILITY.now, codes "getCapability") ∷
    (EXPAND_FREESTANDING_MACRO.now, codes "expandFreestandingMacro") ∷
    (EXPAND_ATTACHED_MACRO.now, codes "expandAttachedMacro") ∷
    (LOAD_PLUGIN_LIBRARY.now, codes "loadPluginLibrary") ∷
    (GET_CAPABILITY_RESULT.now, codes "getCapabilityResult") ∷
    (EXPAND_MACRO_RESULT.now, codes "expandMacroResult") ∷
    (LOAD_PLUGIN_LIBRARY_RESULT.now, codes "loadPluginLibraryResult") ∷
    (CAPABILITY.now, codes "capability") ∷
    (PROTOCOL_VERSION.now, codes "protocolVersion") ∷
    (MACRO.now, codes "macro") ∷
    (MACRO_ROLE.now, codes "macroRole") ∷
    (DISCRIMINATOR.now, codes "discriminator") ∷
    (SYNTAX.now, codes "syntax") ∷
    (ATTRIBUTE_SYNTAX.now, codes "attributeSyntax") ∷
    (DECL_SYNTAX.now, codes "declSyntax") ∷
    (PARENT_DECL_SYNTAX.now, codes "parentDeclSyntax") ∷
    (EXTENDED_TYPE_SYNTAX.now, codes "extendedTypeSyntax") ∷
    (CONFORMANCE_LIST_SYNTAX.now, codes "conformanceListSyntax") ∷
    (LIBRARY_PATH.now, codes "libraryPath") ∷
    (EXPANDED_SOURCE.now, codes "expandedSource") ∷
    (LOADED.now, codes "loaded") ∷
    (DIAGNOSTICS.now, codes "diagnostics") ∷
    (MODULE_NAME.now, codes "moduleName") ∷
    (TYPE_NAME.now, codes "typeName") ∷
    (NAME.now, codes "name") ∷
    (KIND.now, codes "kind") ∷
    (SOURCE.now, codes "source") ∷
    (LOCATION.now, codes "location") ∷
    (FILE_ID.now, codes "fileID") ∷
    (FILE_NAME.now, codes "fileName") ∷
    (OFFSET.now, codes "offset") ∷
    (LINE.now, codes "line") ∷
    (COLUMN.now, codes "column") ∷
    (MESSAGE.now, codes "message") ∷
    (SEVERITY.now, codes "severity") ∷
    (POSITION.now, codes "position") ∷
    (HIGHLIGHTS.now, codes "highlights") ∷
    (NOTES.now, codes "notes") ∷
    (FIX_ITS.now, codes "fixIts") ∷ []

abbrev pub LabelsAreSpelled : Type 0
LabelsAreSpelled = map (λ row. row.0) labels ≡ map (λ row. row.1) labels

abbrev pub kinds : List (SyntaxKind × List ℕ)
kinds =
    (kind.Declaration, codes "declaration") ∷
    (kind.Statement, codes "statement") ∷
    (kind.Expression, codes "expression") ∷
    (kind.TypeName, codes "type") ∷
    (kind.Pattern, codes "pattern") ∷
    (kind.Attribute, codes "attribute") ∷ []

abbrev pub KindsAreSpelled : Type 0
KindsAreSpelled = map (λ row. (row.0, row.1.now)) KINDS ≡ kinds

abbrev pub severities : List (Severity × List ℕ)
severities =
    (severity.Error, codes "error") ∷
    (severity.Warning, codes "warning") ∷
    (severity.Remark, codes "remark") ∷
    (severity.Note, codes "note") ∷ []

abbrev pub SeveritiesAreSpelled : Type 0
SeveritiesAreSpelled = map (λ row. (row.0, row.1.now)) SEVERITIES ≡ severities
