-- The tables are those of the format, and no object in them is looked into in part.
use Rattle.std.proofs.Common.{◌≡◌, ℕ, suc, ◌+◌, refl, ap, ◌∙◌, arith}
use Rattle.serde_json.specs.Data.{Data}
use Rattle.plugin_messages.specs.declared.table.Shape.{Shape}
use Rattle.plugin_messages.specs.declared.table.Shape.TheVariants as shape
use Rattle.plugin_messages.specs.declared.table.TheConstants.{DEEPEST}
use Rattle.plugin_messages.specs.Rows.{rows_of}
use Rattle.plugin_messages.specs.Checked.{value_checked, all_checked, rows_checked, object_checked}
use Rattle.plugin_messages.specs.Format.{TablesAreSpelled, ObjectsAreReadWhole}

pub as_spelled : TablesAreSpelled
unfolding rows_of
as_spelled shape.Greeting = refl
as_spelled shape.Capability = refl
as_spelled shape.Freestanding = refl
as_spelled shape.Attached = refl
as_spelled shape.Load = refl
as_spelled shape.Reply = refl
as_spelled shape.Loading = refl
as_spelled shape.Macro = refl
as_spelled shape.Syntax = refl
as_spelled shape.Location = refl
as_spelled shape.Diagnostic = refl
as_spelled shape.Note = refl
as_spelled shape.Position = refl

at_any_depth : (more : ℕ) (s : Shape) (d : Data) → rows_checked (object_checked (suc (suc (suc more)))) (rows_of s) d ≡ rows_checked (object_checked DEEPEST) (rows_of s) d
unfolding rows_of value_checked all_checked rows_checked object_checked
at_any_depth more shape.Greeting d = refl
at_any_depth more shape.Capability d = refl
at_any_depth more shape.Freestanding d = refl
at_any_depth more shape.Attached d = refl
at_any_depth more shape.Load d = refl
at_any_depth more shape.Reply d = refl
at_any_depth more shape.Loading d = refl
at_any_depth more shape.Macro d = refl
at_any_depth more shape.Syntax d = refl
at_any_depth more shape.Location d = refl
at_any_depth more shape.Diagnostic d = refl
at_any_depth more shape.Note d = refl
at_any_depth more shape.Position d = refl

pub read_whole : ObjectsAreReadWhole
read_whole more s d = let e : DEEPEST + more ≡ suc (suc (suc more)) = omega arith in ap (λ n. rows_checked (object_checked n) (rows_of s) d) e ∙ at_any_depth more s d
