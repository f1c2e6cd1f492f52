use Rattle.std.proofs.Common.{◌≡◌, subst, sym, rules, arith}
use Rattle.std.proofs.lemmas.Grind.{common_steps}
use Rattle.std.specs.Str.{IsUtf8}
use Rattle.plugin_kit.specs.Refusing.{no_macro_text}
use Rattle.plugin_kit.proofs.Texts.{no_macro_utf8}
use Rattle.plugin_kit.proofs.refusing.no_macro.Goals as goal

pub returns-clause-utf8 : goal.returns-clause-utf8
unfolding no_macro_text
returns-clause-utf8 c = λ writable.
    let text : c.extend_from_slice-4.new.self.items ≡ no_macro_text c.args.target.now = first_of (search rules, grind (arith, common_steps)) in
    subst IsUtf8 (sym text) (no_macro_utf8 c.args.target.now writable)
