-- The macros that outlines declare, or what is wrong with their declarations (SE-0382, SE-0389, SE-0397, SE-0402).
use Rattle.std.specs.Prelude.{ℕ, suc, Bool, true, false, Option, Some, None, option_map, Result, Ok, Err, List, [], ◌∷◌, ◌++◌, map, filter, filter_map, find}
use Rattle.std.specs.Str.{IsUtf8, bytes_eq}
use Rattle.swift_base.specs.declared.place.Span.{Span}
use Rattle.swift_tree.specs.declared.item.Kind.{Kind}
use Rattle.swift_tree.specs.declared.item.Kind.TheVariants as kind
use Rattle.swift_tree.specs.declared.item.Item.{Item, out-Item}
use Rattle.swift_tree.specs.Outlines.{Head, ItemSeen, item, ItemsSeen, none, cons, OutlineSeen}
use Rattle.unique_names.specs.declared.role.Role.{Role}
use Rattle.role_names.specs.declared.rule.NameList.{NameList}
use Rattle.macro_decls.specs.Elements.{text_at}
use Rattle.macro_decls.specs.External.{external_in}
use Rattle.macro_decls.specs.Faults.{faults_from}
use Rattle.macro_decls.specs.Roles.{gives_role, role_written, trees_of}
use Rattle.macro_decls.specs.declared.external.External.{External}
use Rattle.macro_decls.specs.declared.fault.MacroFault.{MacroFault}
use Rattle.macro_decls.specs.declared.table.MacroDecl.{MacroDecl}
use Rattle.macro_decls.specs.declared.table.RoleDecl.{RoleDecl}
use Rattle.macro_decls.specs.declared.written.MacroWritten.{MacroWritten}
use Rattle.macro_decls.specs.declared.written.RoleWritten.{RoleWritten}

-- a declaration of the code without its block
abbrev pub head_of : Item → Head
head_of i = let own = out-Item i in record { span = own.span; after = own.after; kind = own.kind; attrs = own.further.attrs; names = own.names; bindings = own.bindings; inherits = own.further.inherits; extended = own.further.extended; uses = own.further.uses; locals = own.further.locals }

abbrev pub is_macro : Kind → Bool
is_macro kind.Macro = true
is_macro _ = false

abbrev pub outer_head : ItemSeen → Head
outer_head (item head inner) = head

-- the declarations that stand in no block
abbrev pub outer_heads : ItemsSeen → List Head
outer_heads none = []
outer_heads (cons first rest) = outer_head first ∷ outer_heads rest

-- the first name; without one, an empty text where the declaration begins
abbrev pub name_from : ℕ → List Span → Span
name_from start [] = record { start = start; end = start }
name_from start (name ∷ names) = name

abbrev pub name_span : Head → Span
name_span head = name_from head.span.start head.names

-- where the text of a declaration says that the macro is implemented
unfoldable pub external_of_text : List ℕ → Option External
external_of_text text = external_in text (trees_of text)

-- a macro of the outline of that number, as it is written
unfoldable pub macro_written : ℕ → List ℕ → Head → MacroWritten
macro_written outline text head = record {
  outline = outline;
  at = (name_span head).start;
  name = text_at text (name_span head);
  roles = map (role_written text) (filter (gives_role text) head.attrs);
  external = external_of_text (text_at text head.span);
}

-- the macros of an outline, members excepted
abbrev pub written_in : ℕ → OutlineSeen → List MacroWritten
written_in outline seen = map (macro_written outline seen.text) (filter (λ head. is_macro head.kind) (outer_heads seen.items))

-- the macros of outlines, of which the first has that number
abbrev pub written_from : ℕ → List OutlineSeen → List MacroWritten
written_from outline [] = []
written_from outline (seen ∷ others) = written_in outline seen ++ written_from (suc outline) others

abbrev pub role_declared_by : Option Role → Option NameList → Option (List (List ℕ)) → Option RoleDecl
role_declared_by (Some role) (Some names) (Some conformances) = Some (record { role = role; names = names; conformances = conformances })
role_declared_by role names conformances = None

-- the role that an attribute declares, where all of it could be read
abbrev pub role_declared : RoleWritten → Option RoleDecl
role_declared written = role_declared_by written.role written.names written.conformances

abbrev pub declared_by : MacroWritten → External → MacroDecl
declared_by written external = record {
  name = written.name;
  module_name = external.module_name;
  type_name = external.type_name;
  roles = filter_map role_declared written.roles;
}

-- the macro that is declared, where its implementation is named
abbrev pub declared : MacroWritten → Option MacroDecl
declared written = option_map (declared_by written) written.external

abbrev pub macros_by : List MacroFault → List MacroWritten → Result (List MacroDecl) (List MacroFault)
macros_by [] written = Ok (filter_map declared written)
macros_by (fault ∷ faults) written = Err (fault ∷ faults)

-- the macros of outlines in order, or the first fault of each faulty declaration
unfoldable pub macros : List OutlineSeen → Result (List MacroDecl) (List MacroFault)
macros outlines = macros_by (faults_from [] (written_from 0 outlines)) (written_from 0 outlines)

-- what names the implementation is UTF-8
pub record IsDeclReadable (declaration : MacroDecl) : Type 0 where
  pub module_name : IsUtf8 declaration.module_name
  pub type_name : IsUtf8 declaration.type_name

-- the declaration of that name
abbrev pub declaration_named : List ℕ → List MacroDecl → Option MacroDecl
declaration_named name declarations = find (λ d. bytes_eq d.name name) declarations
