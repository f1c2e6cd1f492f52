use Rattle.std.proofs.Common.{◌∙◌, sym}
use Rattle.unicode_ident.proofs.IdentLemmas.{is_xid_continue-ascii}
use Rattle.swift_lexer.specs.Chars.{is_number_part, is_word_part}
use Rattle.swift_lexer.proofs.chars.is_word_part.Goals as goal

pub returns-then-c-lt128 : goal.returns-then-c-lt128
unfolding is_number_part is_word_part
returns-then-c-lt128 c = c.is_number_part.ensures ∙ sym (is_xid_continue-ascii c.args.c c.if-c-lt128.true)
