-- What names an implementation is UTF-8.
use Rattle.std.proofs.Common.{◌≡◌, refl, sym, subst, ℕ, zero, suc, ◌+◌, ◌-◌, List, [], ◌∷◌, map, filter, filter_map, Option, Some, None, Result, Ok, Err, Bool, true, false, ◌&&◌, if◌then◌else◌, IfOk}
use Rattle.std.specs.Prelude.{not, option_map, option_and_then}
use Rattle.std.specs.List.{All, AllByRecursion, cons_option}
use Rattle.std.specs.Option.{IfSome, option_or}
use Rattle.std.specs.Str.{IsUtf8}
use Rattle.std.proofs.lemmas.List.Elements.{All-from_recursion}
use Rattle.swift_base.specs.declared.refusal.Refusal.{Refusal}
use Rattle.swift_lexer.specs.declared.token.Class.{Class}
use Rattle.swift_lexer.specs.declared.token.Class.TheVariants as class
use Rattle.swift_lexer.specs.declared.token.Token.{Token}
use Rattle.swift_lexer.specs.Tiles.{bytes_of}
use Rattle.swift_lexer.specs.Trees.{Tree, leaf, nest, Forest, none, cons}
use Rattle.swift_tree.specs.Outlines.{Head, OutlineSeen}
use Rattle.element_marks.specs.Answers.{Answers}
use Rattle.decl_parser.specs.declared.fault.ParseFault.{ParseFault}
use Rattle.decl_parser.specs.Outline.{elements_of}
use Rattle.macro_decls.specs.Elements.{inside_of, leaf_at, round_at, round_of, spells, text_at, trees_in}
use Rattle.macro_decls.specs.External.{begins_with_quote, external_at, external_by, external_in, external_of, holds_escape, is_string, names_external, quoted, quoted_at}
use Rattle.macro_decls.specs.Faults.{faults_from}
use Rattle.macro_decls.specs.Macros.{IsDeclReadable, declared, declared_by, external_of_text, is_macro, macro_written, macros, macros_by, outer_heads, written_from, written_in}
use Rattle.macro_decls.specs.Roles.{trees_of, trees_read}
use Rattle.macro_decls.specs.declared.external.External.{External}
use Rattle.macro_decls.specs.declared.fault.MacroFault.{MacroFault}
use Rattle.macro_decls.specs.declared.table.MacroDecl.{MacroDecl}
use Rattle.macro_decls.specs.declared.written.MacroWritten.{MacroWritten}
use Rattle.macro_decls.proofs.Accepted.{accepted}
use Rattle.macro_decls.proofs.Boundaries.{before_last, behind_quote, inside-is, utf8_between}
use Rattle.macro_decls.proofs.Placed.{IsPlaced, IsTreePlaced, IsForestPlaced, each_append}

module _ {A : Type 0} (P : A → Type 0) where
  some_if : (which : Bool) (x : A) → (which ≡ true → P x) → IfSome (if which then Some x else None) P
  some_if true x holds = holds refl
  some_if false x holds = tt

  held_if : (which : Bool) (o : Option A) → IfSome o P → IfSome (if which then o else None) P
  held_if true o holds = holds
  held_if false o holds = tt

  held_or : (one other : Option A) → IfSome one P → IfSome other P → IfSome (option_or one other) P
  held_or None other first second = second
  held_or (Some x) other first second = first

module _ {A B : Type 0} (P : A → Type 0) (Q : B → Type 0) where
  held_then : (f : A → Option B) (o : Option A) → ((x : A) → P x → IfSome (f x) Q) → IfSome o P → IfSome (option_and_then f o) Q
  held_then f None each holds = tt
  held_then f (Some x) each holds = each x holds

record IsExternalReadable (external : External) : Type 0 where
  module_name : IsUtf8 external.module_name
  type_name : IsUtf8 external.type_name

string_class : (of_class : Class) → is_string of_class ≡ true → of_class ≡ class.Str
string_class class.Str is = refl
string_class _ is = cc

first_two : (a b c : Bool) → (a && b && c) ≡ true → (a ≡ true) × (b ≡ true)
first_two true true c is = (refl, refl)
first_two true false c is = cc
first_two false b c is = cc

abbrev AreTreesPlaced : List ℕ → List Tree → Type 0
AreTreesPlaced text trees = AllByRecursion (IsTreePlaced text) trees

trees_placed : (text : List ℕ) (forest : Forest) → IsForestPlaced text forest → AreTreesPlaced text (trees_in forest)
trees_placed text none placed = tt
trees_placed text (cons tree forest) placed = (placed.0, trees_placed text forest placed.1)

leaf_placed : (text : List ℕ) (trees : List Tree) (k : ℕ) → AreTreesPlaced text trees → IfSome (leaf_at trees k) (IsPlaced text)
leaf_placed text [] k each = tt
leaf_placed text ((leaf token) ∷ trees) zero each = each.0
leaf_placed text ((nest left inner right) ∷ trees) zero each = tt
leaf_placed text (tree ∷ trees) (suc k) each = leaf_placed text trees k each.1

tree_round : (text : List ℕ) (tree : Tree) → IsTreePlaced text tree → IfSome (round_of text tree) (AreTreesPlaced text)
tree_round text (leaf token) placed = tt
tree_round text (nest left inner right) placed = some_if (AreTreesPlaced text) (spells text left _) _ (λ is. trees_placed text inner placed.1)

round_placed : (text : List ℕ) (trees : List Tree) (k : ℕ) → AreTreesPlaced text trees → IfSome (round_at text trees k) (AreTreesPlaced text)
round_placed text [] k each = tt
round_placed text (tree ∷ trees) zero each = tree_round text tree each.0
round_placed text (tree ∷ trees) (suc k) each = round_placed text trees k each.1

module _ (text : List ℕ) (utf8 : IsUtf8 text) where
  inside_readable : (token : Token) → IsPlaced text token → token.class ≡ class.Str → begins_with_quote (bytes_of text token) ≡ true → IsUtf8 (inside_of text token)
  inside_readable token placed is quote =
      subst IsUtf8 (sym (inside-is text token.start (token.end - 1)))
      (utf8_between text (token.start + 1) (token.end - 1) utf8 (behind_quote text token utf8 placed.0 quote) (before_last text token placed.0 is))

  quoted_readable : (token : Token) → IsPlaced text token → IfSome (quoted text token) IsUtf8
  quoted_readable token placed =
      let string = is_string token.class in
      let quote = begins_with_quote (bytes_of text token) in
      let plain = not (holds_escape (inside_of text token)) in
      some_if IsUtf8 (string && quote && plain) (inside_of text token) (λ is. let both = first_two string quote plain is in inside_readable token placed (string_class token.class both.0) both.1)

  quoted_at_readable : (trees : List Tree) (k : ℕ) → AreTreesPlaced text trees → IfSome (quoted_at text trees k) IsUtf8
  quoted_at_readable trees k each = held_then (IsPlaced text) IsUtf8 (quoted text) (leaf_at trees k) quoted_readable (leaf_placed text trees k each)

  by_readable : (module_name type_name : Option (List ℕ)) → IfSome module_name IsUtf8 → IfSome type_name IsUtf8 → IfSome (external_by module_name type_name) IsExternalReadable
  by_readable (Some module_name) (Some type_name) first second = record { module_name = first; type_name = second }
  by_readable None type_name first second = tt
  by_readable (Some module_name) None first second = tt

  of_readable : (trees : List Tree) → AreTreesPlaced text trees → IfSome (external_of text trees) IsExternalReadable
  of_readable trees each =
      held_if IsExternalReadable (names_external text trees) (external_by (quoted_at text trees 2) (quoted_at text trees 6))
      (by_readable (quoted_at text trees 2) (quoted_at text trees 6) (quoted_at_readable trees 2 each) (quoted_at_readable trees 6 each))

  at_readable : (trees : List Tree) → AreTreesPlaced text trees → IfSome (external_at text trees) IsExternalReadable
  at_readable trees each =
      held_if IsExternalReadable _ (option_and_then (external_of text) (round_at text trees 2))
      (held_then (AreTreesPlaced text) IsExternalReadable (external_of text) (round_at text trees 2) of_readable (round_placed text trees 2 each))

  in_readable : (trees : List Tree) → AreTreesPlaced text trees → IfSome (external_in text trees) IsExternalReadable
  in_readable [] each = tt
  in_readable (tree ∷ trees) each =
      held_or IsExternalReadable (external_at text (tree ∷ trees)) (external_in text trees) (at_readable (tree ∷ trees) each) (in_readable trees each.1)

read_readable : (text : List ℕ) (read : Result Forest ParseFault) → elements_of text ≡ read → IfSome (external_in text (trees_read read)) IsExternalReadable
read_readable text (Ok forest) is = let holds = accepted text forest is in in_readable text holds.utf8 (trees_in forest) (trees_placed text forest holds.placed)
read_readable text (Err fault) is = tt

text_readable : (text : List ℕ) → IfSome (external_of_text text) IsExternalReadable
unfolding external_of_text trees_of
text_readable text = read_readable text (elements_of text) refl

abbrev IsWrittenReadable : MacroWritten → Type 0
IsWrittenReadable written = IfSome written.external IsExternalReadable

head_readable : (outline : ℕ) (text : List ℕ) (head : Head) → IsWrittenReadable (macro_written outline text head)
unfolding macro_written
head_readable outline text head = text_readable (text_at text head.span)

all_mapped : {A B : Type 0} (P : B → Type 0) (f : A → B) → ((x : A) → P (f x)) → (xs : List A) → AllByRecursion P (map f xs)
all_mapped P f each [] = tt
all_mapped P f each (x ∷ xs) = (each x, all_mapped P f each xs)

all_written : (outline : ℕ) (outlines : List OutlineSeen) → AllByRecursion IsWrittenReadable (written_from outline outlines)
all_written outline [] = tt
all_written outline (seen ∷ others) =
    each_append IsWrittenReadable (written_in outline seen) (written_from (suc outline) others)
    (all_mapped IsWrittenReadable (macro_written outline seen.text) (head_readable outline seen.text) (filter (λ head. is_macro head.kind) (outer_heads seen.items)))
    (all_written (suc outline) others)

put_readable : (written : MacroWritten) (o : Option External) (more : List MacroDecl) → IfSome o IsExternalReadable → AllByRecursion IsDeclReadable more
    → AllByRecursion IsDeclReadable (cons_option (option_map (declared_by written) o) more)
put_readable written None more holds rest = rest
put_readable written (Some external) more holds rest = (record { module_name = holds.module_name; type_name = holds.type_name }, rest)

all_declared : (all : List MacroWritten) → AllByRecursion IsWrittenReadable all → AllByRecursion IsDeclReadable (filter_map declared all)
all_declared [] each = tt
all_declared (written ∷ others) each = put_readable written written.external (filter_map declared others) each.0 (all_declared others each.1)

abbrev made : List MacroDecl → Result (List MacroDecl) (List MacroFault)
made declarations = Ok declarations

made_same : (one other : List MacroDecl) → made one ≡ made other → other ≡ one
made_same one other is = cc

by_faults : (faults : List MacroFault) (all : List MacroWritten) (declarations : List MacroDecl) → AllByRecursion IsWrittenReadable all
    → made declarations ≡ macros_by faults all → All IsDeclReadable declarations
by_faults [] all declarations each is =
    subst (All IsDeclReadable) (made_same declarations (filter_map declared all) is) (All-from_recursion IsDeclReadable (filter_map declared all) (all_declared all each))
by_faults (fault ∷ faults) all declarations each is = cc

-- the declarations of a table
pub answers_readable : (outlines : List OutlineSeen) (answer : Result (List MacroDecl) (Refusal (List MacroFault))) → Answers (λ table. table) answer (λ outcome. outcome ≡ macros outlines)
    → IfOk answer (λ table. All IsDeclReadable table)
unfolding macros
answers_readable outlines (Ok declarations) is = by_faults (faults_from [] (written_from 0 outlines)) (written_from 0 outlines) declarations (all_written 0 outlines) is
answers_readable outlines (Err refusal) is = tt
