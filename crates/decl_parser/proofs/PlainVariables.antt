-- The declaration of a variable of one name with an initializer in which nothing begins.
use Rattle.std.proofs.Common.{◌≡◌, ◌⊎◌, inl, inr, refl, ℕ, zero, suc, ◌+◌, ◌-◌, ◌≤◌, ◌==◌, ◌∙◌, ap, ap₂, sym, subst, arith, drop-drop, List, [], ◌∷◌, length, reverse, drop, slice_get, take, take_all, nat_lt, Option, Some, None, Result, Ok, Err, Bool, true, false, ◌||◌, ◌&&◌, not, if◌then◌else◌}
use Rattle.std.specs.List.{list_any}
use Rattle.std.proofs.Math.Dec.{eqb-suc-zero}
use Rattle.std.proofs.lemmas.List.{drop-take, length-drop, length-take}
use Rattle.swift_lexer.specs.declared.element.Element.{Element}
use Rattle.swift_lexer.specs.Trees.{forest_of, tree_of}
use Rattle.swift_tree.specs.declared.item.Kind.{Kind}
use Rattle.swift_tree.specs.declared.item.Kind.TheVariants as kind
use Rattle.swift_tree.specs.Outlines.{ItemSeen, item, item_of, no_block}
use Rattle.element_marks.specs.declared.mark.Mark.{Mark}
use Rattle.element_marks.specs.declared.mark.Sort.{Sort}
use Rattle.element_marks.specs.declared.mark.Sort.TheVariants as sort
use Rattle.element_marks.specs.declared.words.Keyword.TheVariants.{Starts}
use Rattle.element_marks.specs.declared.words.Starter.TheVariants as starters
use Rattle.element_marks.specs.Answers.{and_then}
use Rattle.element_marks.specs.Fronts.{list_behind, mark_before}
use Rattle.element_marks.specs.Heads.{first_is, with_joins}
use Rattle.element_marks.specs.Levels.{level, own_marks}
use Rattle.element_marks.specs.Marks.{joins, mark_of}
use Rattle.element_marks.specs.Runs.{before, binding_length, run_length}
use Rattle.element_marks.specs.Sorts.{is_at, is_braces, is_comma, is_equals, is_name, is_parentheses, is_builtin_pound, is_pattern, is_pound, is_use, is_word}
use Rattle.element_marks.specs.Sorts as sorts
use Rattle.element_marks.specs.Spans.{end_of, name_of, whole}
use Rattle.element_marks.specs.Uses.{use_length}
use Rattle.element_marks.specs.Words.{is_underscore}
use Rattle.element_marks.proofs.Fronts.{level_drop}
use Rattle.element_marks.proofs.Quieter.{Quiet}
use Rattle.decl_parser.specs.declared.inside.Inside.{Inside}
use Rattle.decl_parser.specs.declared.place.Place.{Place}
use Rattle.decl_parser.specs.declared.place.Place.TheVariants as place
use Rattle.decl_parser.specs.declared.bindings.Bound.{Bound}
use Rattle.decl_parser.specs.Attributes.{span_from}
use Rattle.decl_parser.specs.Bindings.{binding_of, bindings_from, tail_of, by_equals, has_observers, with_initializer, pattern_names, type_before}
use Rattle.decl_parser.specs.Levels.{are_silent, held, insides}
use Rattle.decl_parser.specs.Cut.{Begins, after, assembled, beginning, closed, count_of, ends, ends_at, head_of, item_at, one_item, members_at, members_place, nothing_more, placed, use_ends, use_fits, whole_item, without, kind_of}
use Rattle.decl_parser.specs.Found.{found_from, nothing}
use Rattle.decl_parser.specs.declared.fault.ParseFault.{ParseFault}
use Rattle.decl_parser.specs.declared.fault.ParseKind.TheVariants.{BuiltinItem, DanglingJoiner, NotADeclaration}
use Rattle.decl_parser.specs.Faults.{fault}
use Rattle.decl_parser.specs.Held.{Held}
use Rattle.decl_parser.specs.Insides.{AreBlank}
use Rattle.decl_parser.specs.declared.parts.Parts.{Parts}
use Rattle.decl_parser.specs.Parts.{has_members, names_only, of_variable, parts, variable_parts}
use Rattle.decl_parser.specs.Places.{has_place}
use Rattle.decl_parser.specs.declared.plain.Read.{Read}
use Rattle.decl_parser.specs.declared.plain.Run.{Run}
use Rattle.decl_parser.specs.Plain.{BeginsVariable, IsRead, IsVariable, are_plain, is_plain, is_plain_name, is_plain_sort, plain_item, run_from, set_by}
use Rattle.decl_parser.proofs.BindingWalks.{last_binding}
use Rattle.decl_parser.proofs.Prefixes.{prefixed_nothing}
use Rattle.decl_parser.proofs.Grouped.{insides_drop, insides_take}
use Rattle.decl_parser.proofs.PlainRuns.{GoesSo, first_head, goes_so, joined_by, one_head}
use Rattle.decl_parser.proofs.QuietGroups.{length_insides, length_level, nothing_within, quiet_from, quiet_none, silent_insides}

pub both : (a b : Bool) → (a && b) ≡ true → (a ≡ true) × (b ≡ true)
both true b is = (refl, is)
both false b is = cc

-- what a plain element is not
pub record NotMore (s : Sort) : Type 0 where
  pub comma : sorts.is_comma_sort s ≡ false
  pub braces : sorts.is_braces_sort s ≡ false
  pub begins : (sorts.is_use_sort s || sorts.is_at_sort s) ≡ false

not_more : (s : Sort) → is_plain_sort s ≡ true → NotMore s
not_more sort.Comma is = cc
not_more sort.At is = cc
not_more sort.Pound is = cc
not_more sort.Braces is = cc
not_more sort.Word is = record { comma = refl; braces = refl; begins = refl }
not_more sort.Quoted is = record { comma = refl; braces = refl; begins = refl }
not_more sort.Number is = record { comma = refl; braces = refl; begins = refl }
not_more sort.Str is = record { comma = refl; braces = refl; begins = refl }
not_more sort.BuiltinPound is = record { comma = refl; braces = refl; begins = refl }
not_more sort.Colon is = record { comma = refl; braces = refl; begins = refl }
not_more sort.Semicolon is = record { comma = refl; braces = refl; begins = refl }
not_more sort.Dot is = record { comma = refl; braces = refl; begins = refl }
not_more sort.Backslash is = record { comma = refl; braces = refl; begins = refl }
not_more sort.Equals is = record { comma = refl; braces = refl; begins = refl }
not_more sort.Arrow is = record { comma = refl; braces = refl; begins = refl }
not_more sort.Operator is = record { comma = refl; braces = refl; begins = refl }
not_more sort.Parentheses is = record { comma = refl; braces = refl; begins = refl }
not_more sort.Brackets is = record { comma = refl; braces = refl; begins = refl }

-- no comma ends a binding there
plain_length : (initialized : Bool) (opened closed : ℕ) (marks : List Mark) → are_plain marks ≡ true → binding_length initialized opened closed marks ≡ length marks
plain_length initialized opened closed [] is = refl
plain_length initialized opened closed (mark ∷ marks) is =
    let parts = both (is_plain mark) (are_plain marks) is in
    rw (not_more mark.sort parts.0).comma
    (ap suc (plain_length (initialized || is_equals mark) (opened + mark.opens) (closed + mark.closes) marks parts.1))

-- no block stands there
no_braces : (n : ℕ) (marks : List Mark) → are_plain marks ≡ true → first_is is_braces (drop n marks) ≡ false
no_braces zero [] is = refl
no_braces (suc n) [] is = refl
no_braces zero (mark ∷ marks) is = (not_more mark.sort (both (is_plain mark) (are_plain marks) is).0).braces
no_braces (suc n) (mark ∷ marks) is = no_braces n marks (both (is_plain mark) (are_plain marks) is).1

none_of : (a b c : Bool) → b ≡ false → (a && b && c) ≡ false
none_of true false c is = refl
none_of true true c is = cc
none_of false b c is = refl

no_observers : (marks : List Mark) (insides : List Inside) → are_plain marks ≡ true → has_observers marks insides ≡ false
no_observers marks insides is = none_of (nat_lt 1 (length marks)) _ _ (no_braces (length marks - 1) marks is)

-- no use and no attribute begins there
nothing_begins : (marks : List Mark) → are_plain marks ≡ true → list_any (λ mark. is_use mark || is_at mark) marks ≡ false
nothing_begins [] is = refl
nothing_begins (mark ∷ marks) is =
    let parts = both (is_plain mark) (are_plain marks) is in
    rw (not_more mark.sort parts.0).begins (nothing_begins marks parts.1)

negated : (b : Bool) → not b ≡ true → b ≡ false
negated true is = cc
negated false is = refl

-- a binding of a name by its initializer
plain_initializer : (equals : ℕ) (first : Mark) (init : List Mark) (insides : List Inside) → are_plain (first ∷ init) ≡ true
    → with_initializer None equals (first ∷ init) insides ≡ Ok (record { type_span = None; equals = Some equals; init = whole (first ∷ init); block = None })
plain_initializer equals first init insides plain =
    rw (eqb-suc-zero (length init), no_observers (first ∷ init) insides plain)

plain_tail : (equals first : Mark) (init : List Mark) (insides : List Inside) → is_equals equals ≡ true → are_plain (first ∷ init) ≡ true
    → tail_of (equals ∷ first ∷ init) insides ≡ Ok (record { type_span = None; equals = Some equals.start; init = whole (first ∷ init); block = None })
plain_tail equals first init insides is plain =
    let marks = equals ∷ first ∷ init in
    let here : before is_equals marks ≡ 0 = ap (λ b. if b then 0 else suc (before is_equals (first ∷ init))) is in
    ap (λ n. by_equals marks insides (drop n marks) (drop n insides)) here
    ∙ ap (λ n. and_then (type_before (take n marks)) (λ type_span. with_initializer type_span equals.start (first ∷ init) (drop 1 insides))) here
    ∙ plain_initializer equals.start first init (drop 1 insides) plain

name_alone : (name : Mark) (held : List Held) → is_plain_name name ≡ true → pattern_names name held ≡ name_of name ∷ []
name_alone name held is =
    let parts = both (is_pattern name && not (is_parentheses name)) (not (is_underscore name.keyword)) is in
    let first = both (is_pattern name) (not (is_parentheses name)) parts.0 in
    rw (negated (is_parentheses name) first.1, negated (is_underscore name.keyword) parts.1)

-- the parts of a variable of one name with an initializer
abbrev plain_parts : Mark → ℕ → List Mark → ℕ → Parts
plain_parts name equals init end =
    record (names_only (name_of name ∷ [])) { bindings = record { names = name_of name ∷ []; type_span = None; equals = Some equals; init = whole init; end = end } ∷ [] }

-- its declaration, by all its elements, its name, the place of its `=`, its initializer and what stands behind it
abbrev read_item : Kind → List Mark → Mark → ℕ → List Mark → List Mark → ItemSeen
read_item which own name equals init next = assembled (span_from own) next which (plain_parts name equals init (span_from own).end) nothing []

abbrev plain_bound : Mark → Mark → List Mark → Bound
plain_bound name equals init = record { binding = record { names = name_of name ∷ []; type_span = None; equals = Some equals.start; init = whole init; end = end_of equals.end init }; block = None }

plain_binding : (name equals first : Mark) (init : List Mark) (insides : List Inside) (held : List Held) → is_plain_name name ≡ true → is_equals equals ≡ true → are_plain (first ∷ init) ≡ true
    → Ok (plain_bound name equals (first ∷ init)) ≡ binding_of (name ∷ equals ∷ first ∷ init) insides held
plain_binding name equals first init insides held named is plain =
    let pattern = both (is_pattern name) (not (is_parentheses name)) (both (is_pattern name && not (is_parentheses name)) (not (is_underscore name.keyword)) named).0 in
    sym (rw (pattern.0, plain_tail equals first init (drop 1 insides) is plain, name_alone name held named))

plain_bindings : (anchor : ℕ) (name equals first : Mark) (init : List Mark) (insides : List Inside) (held : List Held) → is_plain_name name ≡ true → is_equals equals ≡ true → are_plain (equals ∷ first ∷ init) ≡ true
    → Ok (plain_bound name equals (first ∷ init) ∷ []) ≡ bindings_from (Some anchor) 0 (name ∷ equals ∷ first ∷ init) insides held
plain_bindings anchor name equals first init insides held named is plain =
    let rest = name ∷ equals ∷ first ∷ init in
    let counted : length rest ≡ 1 + binding_length false 0 0 (equals ∷ first ∷ init) = omega (arith, plain_length false 0 0 (equals ∷ first ∷ init) plain) in
    last_binding [] anchor (length rest) rest insides held (plain_bound name equals (first ∷ init)) (omega arith) counted
    (plain_binding name equals first init insides held named is (both (is_plain equals) (are_plain (first ∷ init)) plain).1
    ∙ ap (λ l. binding_of l insides held) (sym (take_all (length rest) rest (omega arith))))
    (length-drop (length rest) rest ∙ omega arith)
    ∙ prefixed_nothing (bindings_from (Some anchor) 0 rest insides held)

variable_place : (place : Place) (which : Kind) → IsVariable which → has_place place which ≡ true
variable_place place.File which (inl is) = ap (has_place place.File) is
variable_place place.Members which (inl is) = ap (has_place place.Members) is
variable_place place.Anywhere which (inl is) = ap (has_place place.Anywhere) is
variable_place place.Anywhere which (inr is) = ap (has_place place.Anywhere) is
variable_place place.File which (inr is) = ap (has_place place.File) is
variable_place place.Members which (inr is) = ap (has_place place.Members) is

variable_parts_of : (which : Kind) (starter : Mark) (marks : List Mark) (insides : List Inside) (held : List Held) → IsVariable which → parts which starter marks insides held ≡ of_variable starter marks insides held
variable_parts_of which starter marks insides held (inl is) = ap (λ k. parts k starter marks insides held) is
variable_parts_of which starter marks insides held (inr is) = ap (λ k. parts k starter marks insides held) is

no_members : (which : Kind) → IsVariable which → has_members which ≡ false
no_members which (inl is) = ap has_members is
no_members which (inr is) = ap has_members is

kind_by : (starter : Mark) (which : Kind) → is_pound starter ≡ false → ((starter.keyword ≡ Starts starters.Let) × (which ≡ kind.Let)) ⊎ ((starter.keyword ≡ Starts starters.Var) × (which ≡ kind.Var)) → (kind_of starter ≡ which) × IsVariable which
kind_by starter which none (inl word) = (rw (none, word.0) (sym word.1), inl word.1)
kind_by starter which none (inr word) = (rw (none, word.0) (sym word.1), inr word.1)

-- the declaration is read as its elements say, where these are known
abbrev read_by : List Mark → ℕ → List Mark → List Mark → List Inside → List Held → Mark → ℕ → Kind → Option ℕ → Result ItemSeen ParseFault
read_by list from own next insides held starter head which members =
    and_then (parts which starter (drop head own) (drop head (without members insides)) (drop head held)) (λ parts.
    and_then (members_at members held) (λ inner.
    and_then (and_then (closed parts.body (drop head own)) (λ closes. and_then (use_ends starter list from) (λ alone. ends own))) (λ ended.
    Ok (assembled (span_from own) next which parts (found_from parts.blocks (from + head) list from 0 (length list - from) (without members insides)) inner))))

abbrev read_own : Place → List Mark → ℕ → List Mark → List Inside → List Held → List Mark → Result ItemSeen ParseFault
read_own place list from next insides held own =
    and_then (beginning place own) (λ starter. read_by list from own next insides held starter (head_of own) (kind_of starter) (members_place starter (head_of own) own))

begins_here : (place : Place) (starter : Mark) (rest : List Mark) (which : Kind) → starter.head ≡ 1 → is_pound starter ≡ false → kind_of starter ≡ which → IsVariable which → beginning place (starter ∷ rest) ≡ Ok starter
begins_here place starter rest which alone none is variable =
    let head : head_of (starter ∷ rest) ≡ 1 = omega (arith, alone) in
    ap (λ n. and_then (placed place starter.start (drop (n - 1) (starter ∷ rest))) (λ s. and_then (use_fits n s) (λ fits. Ok s))) head
    ∙ ap (λ b. and_then (if b then Ok starter else Err (fault starter.start NotADeclaration)) (λ s. and_then (use_fits 1 s) (λ fits. Ok s))) (ap (has_place place) is ∙ variable_place place which variable)
    ∙ ap (λ b. and_then (if not b then Ok tt else (if is_builtin_pound starter then Err (fault starter.start BuiltinItem) else Ok tt)) (λ fits. Ok starter)) none

module _ (list next : List Mark) (from : ℕ) (insides : List Inside) (held : List Held) (starter name equals first : Mark) (init : List Mark) (which : Kind) where
  abbrev own : List Mark
  own = starter ∷ name ∷ equals ∷ first ∷ init

  found_nothing : drop from list ≡ own → are_plain own ≡ true → AreBlank insides → length insides ≤ length own → found_from [] (from + 1) list from 0 (length list - from) insides ≡ nothing
  found_nothing here plain blank few =
      let quiet : Quiet (drop from list) = subst Quiet (sym here) (quiet_none own (nothing_begins own plain)) in
      let fits : length insides ≤ length list - from = omega (arith, few, ap length here, length-drop from list) in
      quiet_from [] (from + 1) list from (length list - from) insides quiet fits ∙ sym (nothing_within insides blank)

  parts_are : IsVariable which → is_plain_name name ≡ true → is_equals equals ≡ true → are_plain (equals ∷ first ∷ init) ≡ true
      → parts which starter (drop 1 own) (drop 1 insides) (drop 1 held) ≡ Ok (plain_parts name equals.start (first ∷ init) (span_from own).end)
  parts_are variable named is plain =
      variable_parts_of which starter (drop 1 own) (drop 1 insides) (drop 1 held) variable
      ∙ ap (λ r. and_then r (λ bounds. Ok (variable_parts bounds))) (sym (plain_bindings starter.start name equals first init (drop 1 insides) (drop 1 held) named is plain))

  plain_is : (place : Place) → drop from list ≡ own → AreBlank insides → length insides ≤ length own → starter.head ≡ 1 → is_pound starter ≡ false → kind_of starter ≡ which → IsVariable which → is_plain_name name ≡ true → is_equals equals ≡ true → are_plain own ≡ true → ends own ≡ Ok tt
      → Ok (read_item which own name equals.start (first ∷ init) next) ≡ item_at place list from next insides held
  unfolding item_at whole_item
  plain_is place here blank few alone no_use kind variable named is plain ended =
      let head : head_of own ≡ 1 = omega (arith, alone) in
      let behind_starter = both (is_plain starter) (are_plain (name ∷ equals ∷ first ∷ init)) plain in
      let behind_name = both (is_plain name) (are_plain (equals ∷ first ∷ init)) behind_starter.1 in
      let members : members_place starter 1 own ≡ None = ap (λ b. if b then Some (1 + before is_braces (drop 1 own)) else None) (ap has_members kind ∙ no_members which variable) in
      sym (ap (read_own place list from next insides held) here
      ∙ ap (λ b. and_then b (λ s. read_by list from own next insides held s (head_of own) (kind_of s) (members_place s (head_of own) own))) (begins_here place starter (name ∷ equals ∷ first ∷ init) which alone no_use kind variable)
      ∙ ap (λ n. read_by list from own next insides held starter n (kind_of starter) (members_place starter n own)) head
      ∙ (λ i. read_by list from own next insides held starter 1 (kind i) (members i))
      ∙ ap (λ r. and_then r (λ parts.
      and_then (and_then (closed parts.body (drop 1 own)) (λ closes. and_then (use_ends starter list from) (λ alone. ends own))) (λ ended.
      Ok (assembled (span_from own) next which parts (found_from parts.blocks (from + 1) list from 0 (length list - from) insides) [])))) (parts_are variable named is behind_name.1)
      ∙ ap (λ b. and_then (and_then (if b then nothing_more (drop (use_length [] (reverse (take from list)) (drop from list)) (drop from list)) else Ok tt) (λ alone. ends own)) (λ ended.
      Ok (assembled (span_from own) next which (plain_parts name equals.start (first ∷ init) (span_from own).end) (found_from [] (from + 1) list from 0 (length list - from) insides) []))) no_use
      ∙ ap (λ e. and_then e (λ ended.
      Ok (assembled (span_from own) next which (plain_parts name equals.start (first ∷ init) (span_from own).end) (found_from [] (from + 1) list from 0 (length list - from) insides) []))) ended
      ∙ ap (λ f. Ok (assembled (span_from own) next which (plain_parts name equals.start (first ∷ init) (span_from own).end) f [])) (found_nothing here plain blank few))

-- the last element does not join
last_ends : (mark : Mark) (marks : List Mark) → joined_by mark.joins marks ≡ false → ends (mark ∷ marks) ≡ Ok tt
last_ends mark [] is = ap (λ b. if b then Err (fault mark.start DanglingJoiner) else Ok tt) is
last_ends mark (next ∷ marks) is =
    let last : suc (suc (length marks)) - 1 ≡ suc (suc (length marks) - 1) = omega arith in
    ap (λ n. ends_at (slice_get (mark ∷ next ∷ marks) n)) last ∙ last_ends next marks is

no_semicolon : (s : Sort) → sorts.is_word_sort s ≡ true → sorts.is_semicolon_sort s ≡ false
no_semicolon sort.Word is = refl
no_semicolon _ is = cc

no_pound : (s : Sort) → sorts.is_word_sort s ≡ true → sorts.is_pound_sort s ≡ false
no_pound sort.Word is = refl
no_pound _ is = cc

word_is_plain : (s : Sort) → sorts.is_word_sort s ≡ true → is_plain_sort s ≡ true
word_is_plain sort.Word is = refl
word_is_plain _ is = cc

module _ (place : Place) (list : List Mark) (all_insides : List Inside) (all_held : List Held) (at m : ℕ) (starter name equals value : Mark) (rest : List Mark) (which : Kind) (run : Run) where
  abbrev behind : List Mark
  behind = name ∷ equals ∷ value ∷ rest

  abbrev whole_own : List Mark
  whole_own = starter ∷ name ∷ equals ∷ value ∷ take m rest

  abbrev count : ℕ
  count = suc (suc (suc (suc m)))

  counted_here : drop at list ≡ starter ∷ behind → starter.head ≡ 1 → run_length false behind ≡ suc (suc (suc m)) → count ≡ count_of (drop at list)
  counted_here here alone goes =
      let head : head_of (starter ∷ behind) ≡ 1 = omega (arith, alone) in
      let total : 1 + run_length false behind ≡ count = omega (arith, goes) in
      sym (ap count_of here ∙ ap (λ h. h + run_length false (drop h (starter ∷ behind))) head ∙ total)

  begins_at : drop at list ≡ starter ∷ behind → starter.head ≡ 1 → is_word starter ≡ true → run_length false behind ≡ suc (suc (suc m)) → Begins list at count
  begins_at here alone word goes =
      let head : head_of (starter ∷ behind) ≡ 1 = omega (arith, alone) in
      record {
        within = omega (arith, ap length here, length-drop at list);
        no_semicolon = ap (first_is sorts.is_semicolon) here ∙ no_semicolon starter.sort word;
        some_head = ap (λ l. head_of l == 0) here ∙ ap (λ h. h == 0) head;
        counted = counted_here here alone goes;
        some = omega arith;
      }

  own_here : drop at list ≡ starter ∷ behind → drop at (take (at + count) list) ≡ whole_own
  own_here here = drop-take at count list ∙ ap (take count) here

  item_here : drop at list ≡ starter ∷ behind → starter.head ≡ 1 → BeginsVariable starter which → is_plain_name name ≡ true → is_equals equals ≡ true
      → run_length false behind ≡ suc (suc (suc m)) → GoesSo (suc (suc (suc m))) 0 starter.end false behind run → run.joins ≡ false
      → AreBlank (take count (drop at all_insides)) → length all_insides ≡ length list
      → Ok (plain_item which starter.start name equals.start value.start run) ≡ one_item place list all_insides all_held at
  item_here here alone begins named is goes so ended blank beside =
      let own = whole_own in
      let no_use : is_pound starter ≡ false = no_pound starter.sort begins.a_word in
      let kind = kind_by starter which no_use begins.word in
      let next : drop (at + count) list ≡ drop (suc (suc (suc m))) behind = sym (drop-drop count at list) ∙ ap (drop count) here in
      let few : length (take count (drop at all_insides)) ≤ length own =
      omega (arith, length-take count (drop at all_insides), length-drop at all_insides, beside, ap length here, length-drop at list, length-take m rest) in
      let after_own : run.after ≡ after (span_from own).end (drop (at + count) list) = so.behind ∙ ap₂ after so.ends (sym next) in
      let plain : are_plain own ≡ true = ap (λ b. b && are_plain (take (suc (suc (suc m))) behind)) (word_is_plain starter.sort begins.a_word) ∙ so.plain in
      let read : Ok (read_item which own name equals.start (value ∷ take m rest) (drop (at + count) list)) ≡ item_at place (take (at + count) list) at (drop (at + count) list) (take count (drop at all_insides)) (take count (drop at all_held)) =
      plain_is (take (at + count) list) (drop (at + count) list) at (take count (drop at all_insides)) (take count (drop at all_held)) starter name equals value (take m rest) which place (own_here here) blank few alone no_use kind.0 kind.1 named is plain (last_ends starter (name ∷ equals ∷ value ∷ take m rest) (sym so.joins ∙ ended)) in
      ap Ok (λ i. item (record { span = record { start = starter.start; end = so.ends i }; after = after_own i; kind = which; attrs = []; names = name_of name ∷ []; bindings = record { names = name_of name ∷ []; type_span = None; equals = Some equals.start; init = Some (record { start = value.start; end = so.ends i }); end = so.ends i } ∷ []; inherits = []; extended = None; uses = []; locals = [] }) no_block)
      ∙ read
      ∙ ap (λ k. item_at place (take (at + k) list) at (drop (at + k) list) (take k (drop at all_insides)) (take k (drop at all_held))) (counted_here here alone goes)

-- the declaration that begins a list's elements from a place on
pub variable_read : (place : Place) (text : List ℕ) (list : List Element) (at : ℕ) (first second third fourth : Element) (init : List Element) (which : Kind) (run : Run) (read : Read)
    → drop at list ≡ first ∷ second ∷ third ∷ fourth ∷ init
    → BeginsVariable (mark_of text (tree_of first)) which → is_plain_name (mark_of text (tree_of second)) ≡ true → is_equals (mark_of text (tree_of third)) ≡ true
    → Some run ≡ run_from 0 (mark_of text (tree_of first)).end false (list_behind (Some (mark_of text (tree_of first))) (own_marks text (forest_of (second ∷ third ∷ fourth ∷ init))))
    → 3 ≤ run.count → run.joins ≡ false → are_silent text (forest_of (take (run.count + 1) (first ∷ second ∷ third ∷ fourth ∷ init))) ≡ true
    → read.count ≡ run.count + 1
    → item_of read.item ≡ plain_item which (mark_of text (tree_of first)).start (mark_of text (tree_of second)) (mark_of text (tree_of third)).start (mark_of text (tree_of fourth)).start run
    → IsRead place text (forest_of list) at read
variable_read place text list at first second third fourth init which run read here begins named is runs some ended silent counted are =
    let own = own_marks text (forest_of list) in
    let before = mark_before at own in
    let marks = level text (forest_of list) in
    let others = second ∷ third ∷ fourth ∷ init in
    let s = mark_of text (tree_of first) in
    let begun : Mark = record s { joins = joins before s s.sort } in
    let left = list_behind (Some s) (own_marks text (forest_of others)) in
    let all : drop at marks ≡ list_behind before (own_marks text (forest_of (first ∷ others))) = level_drop text at list (first ∷ others) before refl (sym here) in
    let alone : first_head (set_by (begun ∷ with_joins (Some s) (own_marks text (forest_of others)))) ≡ 1 = one_head begun (with_joins (Some s) (own_marks text (forest_of others))) begins.alone in
    let m = run.count - 3 in
    let so : GoesSo (run_length false left) 0 s.end false left run = goes_so 0 s.end false left run runs in
    let goes : run_length false left ≡ suc (suc (suc m)) = omega (arith, so.counted, some) in
    let count : suc (suc (suc (suc m))) ≡ run.count + 1 = omega (arith, some) in
    let blank : AreBlank (take (suc (suc (suc (suc m)))) (drop at (insides text (forest_of list)))) =
    subst AreBlank
    (insides_take text (run.count + 1) (first ∷ others) ∙ ap₂ take (sym count) (ap (λ es. insides text (forest_of es)) (sym here) ∙ insides_drop text at list))
    (silent_insides text (forest_of (take (run.count + 1) (first ∷ others))) silent) in
    let beside : length (insides text (forest_of list)) ≡ length marks = length_insides text list ∙ sym (length_level text list) in
    record {
      begins = subst (Begins marks at) (count ∙ sym counted)
          (begins_at place marks (insides text (forest_of list)) (held text (forest_of list)) at m _ _ _ _ _ which run all alone begins.a_word goes);
      item = ap Ok are
          ∙ item_here place marks (insides text (forest_of list)) (held text (forest_of list)) at m _ _ _ _ _ which run all alone (record { a_word = begins.a_word; alone = begins.alone; word = begins.word }) named is goes (subst (λ n. GoesSo n 0 s.end false left run) goes so) ended blank beside;
    }
