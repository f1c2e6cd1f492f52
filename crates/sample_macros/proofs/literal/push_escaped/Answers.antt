-- One byte more is written as its own text more.
use Rattle.std.proofs.Common.{◌∙◌, ◌++◌, sym, ap, append-nil, take, get_or}
use Rattle.std.proofs.lemmas.List.{flat_map_more, take_more}
use Rattle.sample_macros.specs.Samples.{escaped_byte, escaped}
use Rattle.sample_macros.proofs.literal.push_escaped.Goals as goal

pub bytes-init : goal.bytes-init
unfolding escaped
bytes-init c = sym (append-nil c.args.text.now.items)

pub bytes-preserved : goal.bytes-preserved
unfolding escaped
bytes-preserved c =
    c.in_ok-push_byte.ensures
    ∙ ap (λ l. l ++ escaped_byte (get_or c.args.bytes.now c.bytes.byte-index 0)) c.bytes.invariant
    ∙ flat_map_more escaped_byte c.args.text.now.items (take c.bytes.byte-index c.args.bytes.now) (get_or c.args.bytes.now c.bytes.byte-index 0)
    ∙ ap (λ l. c.args.text.now.items ++ escaped l) (sym (take_more c.args.bytes.now c.bytes.byte-index 0 c.bytes-test.true))
