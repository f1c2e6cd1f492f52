-- this project's own, after swift-syntax: the texts of the kinds of syntax and of the severities.
use Rattle.std.specs.Prelude.{ℕ, List, [], map, get_or, Option}
use Rattle.unique_names.specs.Roles.{among}
use Rattle.plugin_messages.specs.declared.request.SyntaxKind.{SyntaxKind}
use Rattle.plugin_messages.specs.declared.request.SyntaxKind.TheVariants as kind
use Rattle.plugin_messages.specs.declared.message.Severity.{Severity}
use Rattle.plugin_messages.specs.declared.message.Severity.TheVariants as severity
use Rattle.plugin_messages.specs.declared.request.TheConstants.{KINDS}
use Rattle.plugin_messages.specs.declared.message.TheConstants.{SEVERITIES}

-- their rows, from 0
abbrev pub kind_row : SyntaxKind → ℕ
kind_row kind.Declaration = 0
kind_row kind.Statement = 1
kind_row kind.Expression = 2
kind_row kind.TypeName = 3
kind_row kind.Pattern = 4
kind_row kind.Attribute = 5

abbrev pub severity_row : Severity → ℕ
severity_row severity.Error = 0
severity_row severity.Warning = 1
severity_row severity.Remark = 2
severity_row severity.Note = 3

abbrev pub kind_text : SyntaxKind → List ℕ
kind_text kind = get_or (map (λ row. row.1.now) KINDS) (kind_row kind) []

abbrev pub severity_text : Severity → List ℕ
severity_text severity = get_or (map (λ row. row.1.now) SEVERITIES) (severity_row severity) []

-- those whose text this is
abbrev pub kind_of : List ℕ → Option SyntaxKind
kind_of = among (λ row. row.0) (λ row. row.1.now) KINDS

abbrev pub severity_of : List ℕ → Option Severity
severity_of = among (λ row. row.0) (λ row. row.1.now) SEVERITIES
