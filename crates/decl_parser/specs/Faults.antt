-- Faults of a text's tokens and brackets as faults of the text: this project's own.
use Rattle.std.specs.Prelude.{ℕ}
use Rattle.swift_lexer.specs.declared.token.LexKind.{LexKind}
use Rattle.swift_lexer.specs.declared.token.LexKind.TheVariants as lex
use Rattle.swift_lexer.specs.declared.element.GroupKind.{GroupKind}
use Rattle.swift_lexer.specs.declared.element.GroupKind.TheVariants as group
use Rattle.decl_parser.specs.declared.fault.ParseKind.{ParseKind}
use Rattle.decl_parser.specs.declared.fault.ParseKind.TheVariants as kind
use Rattle.decl_parser.specs.declared.fault.ParseFault.{ParseFault}

abbrev pub lex_kind : LexKind → ParseKind
lex_kind lex.NotUtf8 = kind.NotUtf8
lex_kind lex.BadCharacter = kind.BadCharacter
lex_kind lex.OpenString = kind.OpenString
lex_kind lex.OpenComment = kind.OpenComment
lex_kind lex.ExtendedRegex = kind.ExtendedRegex
lex_kind lex.UseInInterpolation = kind.UseInInterpolation

abbrev pub group_kind : GroupKind → ParseKind
group_kind group.Unopened = kind.Unopened
group_kind group.Unclosed = kind.Unclosed
group_kind group.Mismatched = kind.Mismatched
group_kind group.TooDeep = kind.TooDeep

abbrev pub fault : ℕ → ParseKind → ParseFault
fault at kind = record { at = at; kind = kind }
