-- The refusal of a reply that is too long to be read.
use Rattle.std.proofs.Common.{◌≡◌, ◌∙◌, sym, refl, ap, ℕ, List, length, Ok, Err}
use Rattle.std.proofs.lemmas.Bool.{lt-ltb}
use Rattle.decl_parser.specs.declared.fault.ParseKind.TheVariants.{SourceTooLarge}
use Rattle.decl_parser.specs.declared.parse.TheConstants.{LONGEST_SOURCE}
use Rattle.decl_parser.specs.Outline.{elements_of, outline, read_tokens}
use Rattle.macro_decls.specs.declared.table.MacroDecl.{MacroDecl}
use Rattle.result_reader.specs.Reading.{ReadingOutcome, reading_of}
use Rattle.result_reader.specs.declared.fault.ResultFault.{ResultFault}
use Rattle.result_reader.specs.declared.fault.ResultKind.TheVariants.{Parse}
use Rattle.expansion_model.specs.Buffers.{BufferSeen}
use Rattle.expansion_model.specs.Messages.{IsNear}
use Rattle.expansion_model.specs.Visit.{reading_for}
use Rattle.expansion_model.specs.declared.site.Ask.{Ask}

at_of : ReadingOutcome → ℕ
at_of outcome = elim outcome [ Ok seen ↦ 0 | Err fault ↦ fault.at ]

pub reading_is_near : (macros : List MacroDecl) (buffer : BufferSeen) (ask : Ask) (reply : List ℕ) (fault : ResultFault) → reading_of (reading_for macros buffer ask) reply ≡ Err fault → IsNear reply fault.at
unfolding reading_of outline at_of elements_of read_tokens
reading_is_near macros buffer ask reply fault is long =
    let cut : reading_of (reading_for macros buffer ask) reply ≡ Err (record { at = 0; kind = Parse SourceTooLarge }) = rw (lt-ltb LONGEST_SOURCE (length reply) long) refl in ap at_of (sym is ∙ cut)
