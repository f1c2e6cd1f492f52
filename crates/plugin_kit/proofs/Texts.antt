-- Texts of errors are UTF-8.
use Rattle.std.proofs.Common.{codes, refl}
use Rattle.std.specs.Str.{IsUtf8}
use Rattle.std.proofs.lemmas.Str.{IsUtf8-append}
use Rattle.plugin_messages.specs.declared.request.MacroRef.{MacroRef}
use Rattle.plugin_messages.specs.Writable.{IsMacroWritable}
use Rattle.plugin_kit.specs.Refusing.{no_macro_text}

pub no_macro_utf8 : (target : MacroRef) → IsMacroWritable target → IsUtf8 (no_macro_text target)
unfolding no_macro_text lib.Utf8.encode
no_macro_utf8 target writable =
    IsUtf8-append _ _
    (IsUtf8-append _ _
    (IsUtf8-append _ _
    (IsUtf8-append _ _ (codes "no macro ", (refl, refl)) writable.module_name)
    (codes ".", (refl, refl)))
    writable.type_name)
    (codes " in this plug-in", (refl, refl))
