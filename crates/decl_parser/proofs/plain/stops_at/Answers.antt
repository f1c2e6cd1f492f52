use Rattle.std.proofs.Common.{◌∙◌, sym}
use Rattle.decl_parser.proofs.PlainRuns.{goes_on_headless, headless, one_head, starter_stops}
use Rattle.decl_parser.proofs.plain.stops_at.Goals as goal

pub returns-then-begins_nothing : goal.returns-then-begins_nothing
returns-then-begins_nothing c = λ behind.
    goes_on_headless _ c.args.mark.now.first _ c.args.joined (sym c.is_semicolon.ensures ∙ c.if-is_semicolon.false) (headless c.args.mark.now behind (sym c.begins_nothing.ensures ∙ c.if-begins_nothing.true))

pub returns-then-begins_alone : goal.returns-then-begins_alone
returns-then-begins_alone c = λ behind.
    starter_stops _ c.args.mark.now.first _ c.args.joined (sym c.is_semicolon.ensures ∙ c.if-is_semicolon.false) c.if-not-mark.false (one_head c.args.mark.now behind (sym c.begins_alone.ensures ∙ c.if-begins_alone.true)) c.if-joined.false
