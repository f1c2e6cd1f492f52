use Rattle.std.proofs.Common.{◌≡◌, ◌++◌, string_bytes, append_assoc, ◌∙◌}
use Rattle.std.proofs.Math.Utf8.{encode}
use Rattle.unique_names.specs.Roles.{letter_of}
use Rattle.unique_names.specs.Names.{numeral}
use Rattle.unique_names.proofs.Prefix.{step_text_written}
use Rattle.unique_names.proofs.naming.put_step.Goals as goal

pub returns : goal.returns
returns c =
    let s = c.args.step in
    let written : string_bytes c.push-2.new.self ≡ (((string_bytes c.args.text.now ++ numeral s.offset) ++ encode (letter_of s.role)) ++ numeral s.member) ++ encode 95 =
    cc (c.in_ok-put_number.ensures, c.in_ok-push.ensures.bytes, c.in_ok-put_number-2.ensures, c.in_ok-push-2.ensures.bytes, c.letter.ensures, c.from.ensures) in
    rw (step_text_written s) (written ∙ simp append_assoc)
