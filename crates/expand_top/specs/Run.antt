-- What one call of the program does. This project's own.
use Rattle.std.specs.Prelude.{◌≡◌, ℕ, ◌<◌, ◌≤◌, Option, Some, None, List, [], length, take, codes}
use Rattle.swift_base.specs.Told.{then_bytes, then_name, Rose}
use Rattle.swift_base.specs.Outside.{SinkSeen, FilesSeen, HasContent}
use Rattle.swift_base.specs.declared.plugins.Plugin.{Plugin}
use Rattle.expand_top.specs.Asking.{Asking, IsExpansion}
use Rattle.expand_top.specs.Lines.{Output}
use Rattle.expand_top.specs.Meaning.{meaning_of}
use Rattle.expand_top.specs.declared.ended.Inputs.{Inputs}
use Rattle.expand_top.specs.declared.ended.SourceRead.{SourceRead}
use Rattle.expand_top.specs.declared.ended.SourceRead.TheVariants as read

-- how a file was read, and what the files tell of that
abbrev pub ReadsSource : FilesSeen → FilesSeen → List ℕ → SourceRead → Type 0
ReadsSource before after name read.Nothing = ⊥
ReadsSource before after name read.Failed =
    Rose before.faults after.faults × (after.names ≡ then_name before.names name)
ReadsSource before after name read.Larger =
    (after.faults ≡ before.faults) × (after.names ≡ then_name before.names name) × HasContent before.contents name (λ bytes. 4194304 < length bytes)
ReadsSource before after name (read.Bytes text) =
    (after.faults ≡ before.faults) × (after.names ≡ then_name before.names name) × (length text ≤ 4194304) × HasContent before.contents name (λ bytes. text ≡ bytes)

-- the source is read only where the macros file was
abbrev pub ReadsNext : SourceRead → FilesSeen → FilesSeen → List ℕ → SourceRead → Type 0
ReadsNext (read.Bytes text) before after name source = ReadsSource before after name source
ReadsNext read.Nothing before after name source = (after ≡ before) × (source ≡ read.Nothing)
ReadsNext read.Failed before after name source = (after ≡ before) × (source ≡ read.Nothing)
ReadsNext read.Larger before after name source = (after ≡ before) × (source ≡ read.Nothing)

-- the macros file is read first, where one is named, and then the source
abbrev pub ReadsInputs : FilesSeen → FilesSeen → Option (List ℕ) → List ℕ → Inputs → Type 0
ReadsInputs before after None name inputs = (inputs.macros ≡ read.Nothing) × ReadsSource before after name inputs.source
ReadsInputs before after (Some file) name inputs =
    (between : FilesSeen) × ReadsSource before between file inputs.macros × ReadsNext inputs.macros between after name inputs.source

-- a text that was read has at most so many bytes
abbrev pub IsShort : SourceRead → Type 0
IsShort read.Nothing = Unit {0}
IsShort read.Failed = Unit {0}
IsShort read.Larger = Unit {0}
IsShort (read.Bytes text) = length text ≤ 4194304

-- a stream gained all of the bytes
pub record GainsAll (before after : SinkSeen) (bytes : List ℕ) : Type 0 where
  pub held : after.held ≡ then_bytes before.held bytes
  pub faults : after.faults ≡ before.faults
  pub closing : after.closing ≡ before.closing

-- a stream failed, and gained a proper front of them
pub record GainsFront (before after : SinkSeen) (bytes : List ℕ) : Type 0 where
  pub held : (n : ℕ) × (n < length bytes) × (after.held ≡ then_bytes before.held (take n bytes))
  pub faults : Rose before.faults after.faults
  pub closing : after.closing ≡ before.closing

-- An output was written, `out` first and then `err`, or up to the first fault, which makes the status 4.
pub data IsDelivered (out out_after err err_after : SinkSeen) (output : Output) : ℕ → Type 0 where
  whole : GainsAll out out_after output.out → GainsAll err err_after output.err → IsDelivered out out_after err err_after output output.status
  out_failed : GainsFront out out_after output.out → err_after ≡ err → IsDelivered out out_after err err_after output 4
  err_failed : GainsAll out out_after output.out → GainsFront err err_after output.err → IsDelivered out out_after err err_after output 4

abbrev pub usage_text : List ℕ
usage_text = codes "usage: expand [--macros FILE] [--width N] SOURCE [MODULE=COMMAND]...\n       check [--macros FILE] SOURCE\n       show SOURCE\n       measure N\n"

abbrev pub usage : Output
usage = record { out = []; err = usage_text; status = 2 }

-- Words that are no command: the usage text, and no process and no failed start is handed back.
pub record IsRefused {A B : Type 0} (out out_after err err_after : SinkSeen) (status : ℕ) (links : List A) (unstarted : List B) : Type 0 where
  pub no_links : links ≡ []
  pub none_unstarted : unstarted ≡ []
  pub written : (status ≡ 5 → ⊥) → IsDelivered out out_after err err_after usage status

-- A command was done: its files were read, what they ask for was asked, and what came of it was written.
pub record Expands (macros : Option (List ℕ)) (name : List ℕ) (plugins : List Plugin) (files files_after : FilesSeen) (out out_after err err_after : SinkSeen)
    (status : ℕ) (inputs : Inputs) (asking : Asking) : Type 0 where
  pub reads : ReadsInputs files files_after macros name inputs
  pub output : Output
  pub expands : IsExpansion name plugins (meaning_of macros name inputs) asking output
  pub delivered : IsDelivered out out_after err err_after output status

-- nothing was written to either stream
pub record IsUnwritten (out out_after err err_after : SinkSeen) : Type 0 where
  pub out_same : out_after ≡ out
  pub err_same : err_after ≡ err
