-- Each message has one reply of a macro.
use Rattle.std.specs.Prelude.{◌≡◌, ℕ, List, Option, Some, None, option_and_then, Ok, Err}
use Rattle.std.specs.Result.{result_ok}
use Rattle.std.proofs.Common.{◌∙◌, sym, ap, subst}
use Rattle.swift_lexer.specs.Tokens.{Outcome}
use Rattle.swift_lexer.specs.Trees.{Forest}
use Rattle.swift_lexer.proofs.OneOutcome.{one_token_outcome}
use Rattle.swift_lexer.proofs.OneGrouping.{one_group_outcome}
use Rattle.plugin_messages.specs.declared.message.HostMessage.{HostMessage}
use Rattle.plugin_messages.specs.declared.message.PluginMessage.{PluginMessage}
use Rattle.sample_macros.specs.Use.{readable, HasGroups, HasElements, argument_in, HasArgumentWhereSome}
use Rattle.sample_macros.specs.Samples.{expression_source, stringify_reply, IsStringifyReply}

one_grouping : (text : List ℕ) (outcome : Outcome) (one other : Option Forest) → HasGroups text outcome one → HasGroups text outcome other → one ≡ other
one_grouping text (Err fault) one other has again = has ∙ sym again
one_grouping text (Ok tokens) one other has again = has.2 ∙ ap result_ok (one_group_outcome text tokens has.0 again.0 has.1 again.1) ∙ sym again.2

one_row : (text : List ℕ) (one other : Option Forest) → HasElements text one → HasElements text other → one ≡ other
one_row text one other has again =
    let same : has.tokens ≡ again.tokens = one_token_outcome text has.tokens again.tokens has.lexed again.lexed in
    one_grouping text again.tokens one other (subst (λ outcome. HasGroups text outcome one) same has.groups) again.groups

one_argument : (source one other : Option (List ℕ)) → HasArgumentWhereSome source one → HasArgumentWhereSome source other → one ≡ other
one_argument None one other has again = has ∙ sym again
one_argument (Some source) one other has again =
    has.is ∙ ap (option_and_then (argument_in source)) (one_row source has.elements again.elements has.has again.has) ∙ sym again.is

pub one_stringify_reply : (asked : HostMessage) (one other : PluginMessage) → IsStringifyReply asked one → IsStringifyReply asked other → one ≡ other
one_stringify_reply asked one other reply again =
    reply.is ∙ ap (stringify_reply asked) (one_argument (option_and_then readable (expression_source asked)) reply.argument again.argument reply.has again.has) ∙ sym again.is
