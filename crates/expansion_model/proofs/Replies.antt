-- A reply that is read is the outline of its text.
use Rattle.std.proofs.Common.{◌≡◌, ◌∙◌, ap₂, sym, ℕ, List, Option, Some, None, Ok, Err}
use Rattle.swift_tree.specs.declared.outline.Shape.{Shape}
use Rattle.swift_tree.specs.Outlines.{OutlineSeen}
use Rattle.decl_parser.specs.Outline.{OutlineOutcome, IsOutline, outline}
use Rattle.decl_parser.proofs.Accepting.{then_ok, outline_keeps_the_text}
use Rattle.macro_decls.specs.declared.table.MacroDecl.{MacroDecl}
use Rattle.result_reader.specs.Reading.{fault_by, parsed, reading_of, shape_of, unless_fault}
use Rattle.result_reader.specs.declared.fault.ResultFault.{ResultFault}
use Rattle.result_reader.specs.declared.reading.Reading.{Reading}
use Rattle.expansion_model.specs.Buffers.{BufferSeen, IsSound, reply_buffer}
use Rattle.expansion_model.specs.Visit.{reading_for}
use Rattle.expansion_model.specs.declared.site.Ask.{Ask}

parsed_ok : (outcome : OutlineOutcome) (seen : OutlineSeen) → parsed outcome ≡ Ok seen → outcome ≡ Ok seen
parsed_ok (Ok other) seen is = cc
parsed_ok (Err fault) seen is = cc

no_fault : (one seen : OutlineSeen) (fault : Option ResultFault) → unless_fault one fault ≡ Ok seen → one ≡ seen
no_fault one seen None is = cc
no_fault one seen (Some fault) is = cc

read_is_outline : (reading : Reading) (text : List ℕ) (seen : OutlineSeen) → reading_of reading text ≡ Ok seen → IsOutline text (shape_of reading.role) (Ok seen)
unfolding reading_of
read_is_outline reading text seen is =
    let outcome = outline text (shape_of reading.role) in
    let read = then_ok (parsed outcome) (λ one. unless_fault one (fault_by reading.role reading text one)) seen is in
    let same : read.0 ≡ seen = no_fault read.0 seen (fault_by reading.role reading text read.0) read.2 in
    let own : outcome ≡ Ok read.0 = parsed_ok outcome read.0 read.1 in
    cc

outline_is_its_own : (text : List ℕ) (shape : Shape) (seen : OutlineSeen) → IsOutline text shape (Ok seen) → IsOutline seen.text seen.shape (Ok seen)
outline_is_its_own text shape seen is =
    let kept = outline_keeps_the_text text shape seen is in
    is ∙ ap₂ outline (sym kept.0) (sym kept.1)

-- the buffer of a reply that is read is sound
pub reply_is_sound : (macros : List MacroDecl) (buffer : BufferSeen) (ask : Ask) (reply : List ℕ) (seen : OutlineSeen) → reading_of (reading_for macros buffer ask) reply ≡ Ok seen
    → IsSound (reply_buffer buffer ask seen)
reply_is_sound macros buffer ask reply seen is =
    outline_is_its_own reply (shape_of ask.stands_for.role) seen (read_is_outline (reading_for macros buffer ask) reply seen is)
