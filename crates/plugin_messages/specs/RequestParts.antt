-- this project's own, after swift-syntax: the parts of a request whose labels passed their check.
use Rattle.std.specs.Prelude.{option_map}
use Rattle.serde_json.specs.Data.{Data}
use Rattle.plugin_messages.specs.declared.request.Location.{Location}
use Rattle.plugin_messages.specs.declared.request.Syntax.{Syntax}
use Rattle.plugin_messages.specs.declared.request.MacroRef.{MacroRef}
use Rattle.plugin_messages.specs.declared.request.Parts.{Parts}
use Rattle.plugin_messages.specs.declared.request.Parts.TheVariants.{Freestanding, Attached}
use Rattle.plugin_messages.specs.declared.labels.TheConstants.{FILE_ID, FILE_NAME, OFFSET, LINE, COLUMN, KIND, SOURCE, LOCATION, MODULE_NAME, TYPE_NAME, NAME, SYNTAX, ATTRIBUTE_SYNTAX, DECL_SYNTAX, PARENT_DECL_SYNTAX, EXTENDED_TYPE_SYNTAX, CONFORMANCE_LIST_SYNTAX}
use Rattle.plugin_messages.specs.Fields.{present}
use Rattle.plugin_messages.specs.Taken.{text_at, small_at, kind_at, inside}

unfoldable pub location_of : Data → Location
location_of d = record {
  file_id = text_at FILE_ID.now d;
  file_name = text_at FILE_NAME.now d;
  offset = small_at OFFSET.now d;
  line = small_at LINE.now d;
  column = small_at COLUMN.now d;
}

unfoldable pub syntax_of : Data → Syntax
syntax_of d = record {
  kind = kind_at KIND.now d;
  source = text_at SOURCE.now d;
  location = option_map location_of (present LOCATION.now d);
}

unfoldable pub macro_of : Data → MacroRef
macro_of d = record {
  «module» = text_at MODULE_NAME.now d;
  type_name = text_at TYPE_NAME.now d;
  name = text_at NAME.now d;
}

unfoldable pub freestanding_of : Data → Parts
freestanding_of d = Freestanding (syntax_of (inside SYNTAX.now d))

unfoldable pub attached_of : Data → Parts
attached_of d =
    Attached
    (syntax_of (inside ATTRIBUTE_SYNTAX.now d))
    (syntax_of (inside DECL_SYNTAX.now d))
    (option_map syntax_of (present PARENT_DECL_SYNTAX.now d))
    (option_map syntax_of (present EXTENDED_TYPE_SYNTAX.now d))
    (option_map syntax_of (present CONFORMANCE_LIST_SYNTAX.now d))
