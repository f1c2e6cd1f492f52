-- The names, the bindings and the types of a declaration, one behind the other.
use Rattle.std.proofs.Common.{◌≡◌, refl, ap, subst, arith, ◌∙◌, ℕ, zero, suc, ◌+◌, ◌-◌, ◌==◌, ◌<◌, ◌≤◌, List, [], ◌∷◌, length, map, take, drop, Option, Some, None, Bool, true, false, ◌&&◌, not, if◌then◌else◌}
use Rattle.std.proofs.lemmas.List.{drop-drop}
use Rattle.swift_base.specs.declared.place.Span.{Span}
use Rattle.swift_tree.specs.declared.item.Kind.{Kind}
use Rattle.swift_tree.specs.declared.item.Kind.TheVariants as kind
use Rattle.element_marks.specs.declared.mark.Mark.{Mark}
use Rattle.element_marks.specs.declared.inherits.Stop.TheVariants as stop
use Rattle.element_marks.specs.Words.{is_underscore}
use Rattle.element_marks.specs.Sorts.{is_name, is_operator, is_word, is_colon, is_equals, is_braces, is_pattern, is_parentheses}
use Rattle.element_marks.specs.Spans.{span_of, name_of, end_of, whole}
use Rattle.element_marks.specs.Heads.{by_length, attribute_length, first_is}
use Rattle.element_marks.specs.Inherits.{length_before, named_type, with_piece, pieces, clause, inherited}
use Rattle.element_marks.specs.Runs.{before, binding_length}
use Rattle.decl_parser.specs.declared.inside.Inside.{Inside}
use Rattle.decl_parser.specs.declared.parts.Parts.{Parts}
use Rattle.decl_parser.specs.declared.bindings.Bound.{Bound}
use Rattle.decl_parser.specs.declared.bindings.Tail.{Tail}
use Rattle.decl_parser.specs.Held.{Held}
use Rattle.decl_parser.specs.Bindings.{names_here, pattern_names, has_observers, with_initializer, blocked, without_initializer, by_equals, tail_of, binding_of, bindings_from, type_before}
use Rattle.decl_parser.specs.Parts.{names_only, operator_name, with_members, of_type, extending, of_extension, with_body, code, of_function, of_case, first_name, function_name, case_names, comma_start, all_names, named, of_variable, parts}
use Rattle.decl_parser.specs.Nesting.{Between, MayLie, PartsLie, SidesLie, BindingLies, BindingsLie}
use Rattle.decl_parser.proofs.ElementBytes.{both_left}
use Rattle.decl_parser.proofs.Wider.{between_wider, may_wider, parts_wider, parts_join, parts_if}
use Rattle.decl_parser.proofs.Outcomes.{OkHolds, ok_then, ok_if, ok_at}
use Rattle.decl_parser.proofs.Ordered.{InOrder, Beside, bounds, earlier, mark_lies, name_lies, whole_lies, end_grows, lies_take, lies_drop, lies_behind, lies_closely, beside_drop}
use Rattle.decl_parser.proofs.HeldInOrder.{HeldLies, held_names}

-- an operator's name
operator_lies : (from to : ℕ) (name : Mark) (marks : List Mark) → InOrder from (name ∷ marks) to → Between from to (operator_name name marks)
operator_lies from to name marks lies =
    let next = first_is (λ next. is_word next && not next.spaced) marks in
    elim (name.ends_angle && next) as (λ b. (name.ends_angle && next) ≡ b → Between from to (if b then record { start = name.start; end = name.end - 1 } else span_of name)) [
      | true ↦ λ is. record { begins = lies.0; some = omega (arith, lies.1.operator (both_left name.ends_angle next is)); ends = omega (arith, bounds name.end to marks lies.2) }
      | false ↦ λ is. mark_lies from to name marks lies
    ] refl

name_within : (from to : ℕ) (name : Mark) (marks : List Mark) → InOrder from (name ∷ marks) to → Between from to (name_of name)
name_within from to name marks lies = between_wider from from name.end to (name_of name) (omega arith) (bounds name.end to marks lies.2) (name_lies from to name marks lies)

module _ (from to : ℕ) where
  first_name_lies : (starter : Mark) (marks : List Mark) → InOrder from marks to → OkHolds (Between from to) (first_name starter marks)
  first_name_lies starter [] lies = tt
  first_name_lies starter (name ∷ marks) lies = ok_if (Between from to) (is_name name) _ _ (λ is. name_within from to name marks lies) (λ is. tt)

  function_name_lies : (starter : Mark) (marks : List Mark) → InOrder from marks to → OkHolds (Between from to) (function_name starter marks)
  function_name_lies starter [] lies = tt
  function_name_lies starter (name ∷ marks) lies =
      ok_if (Between from to) (is_name name) _ _ (λ is. name_within from to name marks lies) (λ is. ok_if (Between from to) (is_operator name) _ _ (λ is. operator_lies from to name marks lies) (λ is. tt))

-- the names of a `case`
cases_lie : (to : ℕ) (anchor : Option ℕ) (marks : List Mark) (from : ℕ) → InOrder from marks to → OkHolds (λ names. PartsLie from names to) (case_names anchor marks)
cases_lie to None [] from lies = tt
cases_lie to (Some anchor) [] from lies = tt
cases_lie to None (mark ∷ marks) from lies = cases_lie to (comma_start mark) marks from (lies_drop 1 from to (mark ∷ marks) lies)
cases_lie to (Some anchor) (mark ∷ marks) from lies =
    ok_if (λ names. PartsLie from names to) (is_name mark) _ _
    (λ is. ok_then (λ names. PartsLie from names to) (case_names None marks) _ (λ others are.
    let name = name_lies from to mark marks lies in
    (name_within from to mark marks lies, parts_wider (name_of mark).end mark.end to to others name.ends (omega arith) (ok_at (λ names. PartsLie mark.end names to) (case_names None marks) others are (cases_lie to None marks mark.end lies.2)))))
    (λ is. tt)

-- what a type inherits
named_lies : (inside from to : ℕ) (marks : List Mark) → InOrder from (drop inside marks) to → MayLie from (named_type inside marks) to
named_lies inside from to [] lies = tt
named_lies (suc inside) from to (mark ∷ marks) lies = named_lies inside from to marks lies
named_lies zero from to (mark ∷ marks) lies =
    elim (attribute_length (mark ∷ marks)) as (λ n. MayLie from (by_length n (whole (mark ∷ marks)) (λ more. named_type more marks)) to) [
      | zero ↦ whole_lies from to (mark ∷ marks) lies
      | suc more ↦ named_lies more from to marks (lies_drop (suc more) from to (mark ∷ marks) lies)
    ]

piece_first : (from middle to : ℕ) (piece : Option Span) (others : List Span) → from ≤ middle → middle ≤ to → MayLie from piece middle → PartsLie middle others to → PartsLie from (with_piece piece others) to
piece_first from middle to None others first last lies further = parts_wider from middle to to others first (omega arith) further
piece_first from middle to (Some piece) others first last lies further = (between_wider from from middle to piece (omega arith) last lies, parts_wider piece.end middle to to others lies.ends (omega arith) further)

pieces_lie : (to inside : ℕ) (marks : List Mark) (from : ℕ) → InOrder from (drop inside marks) to → PartsLie from (pieces inside marks) to
pieces_lie to inside [] from lies = tt
pieces_lie to (suc inside) (mark ∷ marks) from lies = pieces_lie to inside marks from lies
pieces_lie to zero (mark ∷ marks) from lies =
    let list : List Mark = mark ∷ marks in
    let piece = length_before stop.Comma 0 0 list in
    let middle = end_of from (take piece list) in
    let first = lies_take piece from to list lies in
    let one_more : piece + 1 ≡ suc piece = omega arith in
    let behind = lies_behind piece from to list lies in
    let rest : InOrder middle (drop piece marks) to = subst (λ l. InOrder middle l to) (drop-drop 1 piece list ∙ ap (λ n. drop n list) one_more) (lies_drop 1 middle to (drop piece list) behind) in
    piece_first from middle to (named_type 0 (take piece list)) (pieces piece marks) (end_grows from to (take piece list) first) (bounds middle to (drop piece list) behind)
    (named_lies 0 from middle (take piece list) (lies_closely from to (take piece list) first)) (pieces_lie to piece marks middle rest)

clause_lies : (from to : ℕ) (marks : List Mark) → InOrder from marks to → PartsLie from (clause marks) to
clause_lies from to [] lies = tt
clause_lies from to (mark ∷ marks) lies =
    let n = length_before stop.Where 0 0 marks in
    parts_if from to (is_colon mark) _ _ (pieces_lie to 0 (take n marks) from (lies_take n from to marks (lies_drop 1 from to (mark ∷ marks) lies))) tt

inherited_lies : (from to : ℕ) (marks : List Mark) → InOrder from marks to → PartsLie from (inherited marks) to
inherited_lies from to marks lies = let n = length_before stop.Clause 0 0 marks in clause_lies from to (drop n marks) (lies_drop n from to marks lies)

-- the names of a pattern, of which each element has those that it holds
pub names_here_lie : (from to : ℕ) (mark : Mark) (marks others : List Mark) (inner : List Span) → InOrder from (mark ∷ marks) to → PartsLie (mark.start + 1) inner (mark.end - 1) → PartsLie from (names_here mark others inner) mark.end
names_here_lie from to mark marks others inner lies holds =
    parts_if from mark.end (is_parentheses mark) _ _ (parts_wider from (mark.start + 1) (mark.end - 1) mark.end inner (omega (arith, lies.0)) (omega arith) holds)
    (parts_if from mark.end (is_name mark && not (is_underscore mark.keyword) && not (first_is is_colon others)) _ _ (name_lies from to mark marks lies, tt) tt)

pattern_lies : (from to : ℕ) (mark : Mark) (marks others : List Mark) (held : List Held) → InOrder from (mark ∷ marks) to → Beside HeldLies (mark ∷ others) held → PartsLie from (pattern_names mark held) mark.end
pattern_lies from to mark marks others held lies holds =
    parts_if from mark.end (is_parentheses mark) _ _ (held_names from mark others held lies.0 holds) (parts_if from mark.end (is_underscore mark.keyword) _ _ tt (name_lies from to mark marks lies, tt))

-- what a binding has behind its pattern
module _ (from to : ℕ) where
  abbrev TailLies : Tail → Type 0
  TailLies tail = SidesLie from tail.type_span tail.equals tail.init to

  initialized : (type_span : Option Span) (equals : ℕ) (marks : List Mark) (insides : List Inside) → from ≤ equals → equals < to → MayLie from type_span equals → InOrder (equals + 1) marks to → OkHolds TailLies (with_initializer type_span equals marks insides)
  initialized type_span equals marks insides first last typed lies =
      ok_if TailLies (length marks == 0) _ _ (λ is. tt) (λ is. ok_if TailLies (has_observers marks insides) _ _
      (λ observed. (first, last, typed, whole_lies (equals + 1) to (take (length marks - 1) marks) (lies_take (length marks - 1) (equals + 1) to marks lies))) (λ plain. (first, last, typed, whole_lies (equals + 1) to marks lies)))

  blocked_lies : (type_span : Option Span) (marks : List Mark) (insides : List Inside) → MayLie from type_span to → OkHolds TailLies (blocked type_span marks insides)
  blocked_lies type_span [] insides typed = (typed, refl)
  blocked_lies type_span (block ∷ marks) insides typed = ok_if TailLies (is_braces block && length marks == 0) _ _ (λ is. (typed, refl)) (λ is. tt)

  uninitialized : (marks : List Mark) (insides : List Inside) → InOrder from marks to → OkHolds TailLies (without_initializer marks insides)
  uninitialized [] insides lies = (tt, refl)
  uninitialized (colon ∷ marks) insides lies =
      let n = before is_braces marks in
      ok_if TailLies (is_colon colon) _ _
      (λ is. blocked_lies (whole (take n marks)) (drop n marks) (drop n (drop 1 insides)) (whole_lies from to (take n marks) (lies_take n from to marks (lies_drop 1 from to (colon ∷ marks) lies))))
      (λ is. blocked_lies None (colon ∷ marks) insides tt)

  typed_lies : (marks : List Mark) → InOrder from marks to → OkHolds (λ typed. MayLie from typed to) (type_before marks)
  typed_lies [] lies = tt
  typed_lies (colon ∷ marks) lies = ok_if (λ typed. MayLie from typed to) (is_colon colon) _ _ (λ is. whole_lies from to marks (lies_drop 1 from to (colon ∷ marks) lies)) (λ is. tt)

by_equals_lies : (from middle to : ℕ) (marks : List Mark) (insides : List Inside) (init : List Mark) (from_equals : List Inside) → InOrder from marks to → InOrder from (take (before is_equals marks) marks) middle → InOrder middle init to
    → OkHolds (TailLies from to) (by_equals marks insides init from_equals)
by_equals_lies from middle to marks insides [] from_equals lies front rest = uninitialized from to marks insides lies
by_equals_lies from middle to marks insides (equals ∷ init) from_equals lies front rest =
    let typed = take (before is_equals marks) marks in
    let first = bounds from middle typed front in
    ok_then (TailLies from to) (type_before typed) _ (λ type_span is.
    initialized from to type_span equals.start init (drop 1 from_equals) (omega (arith, first, rest.0)) (omega (arith, rest.1.some, bounds equals.end to init rest.2))
    (may_wider from from middle equals.start type_span (omega arith) rest.0 (ok_at (λ typed. MayLie from typed middle) (type_before typed) type_span is (typed_lies from middle typed front)))
    (earlier (equals.start + 1) equals.end to init (omega (arith, rest.1.some)) rest.2))

-- a binding ends with its elements
abbrev BoundLies : ℕ → ℕ → Bound → Type 0
BoundLies from end bound = BindingLies from bound.binding × (end ≡ bound.binding.end)

bound_lies : (from to : ℕ) (mark : Mark) (marks others : List Mark) (insides : List Inside) (held : List Held) → InOrder from (mark ∷ marks) to → Beside HeldLies (mark ∷ others) held → OkHolds (BoundLies from (end_of mark.end marks)) (binding_of (mark ∷ marks) insides held)
bound_lies from to mark marks others insides held lies holds =
    let end = end_of mark.end marks in
    let P : Bound → Type 0 = BoundLies from end in
    let n = before is_equals marks in
    let closely = lies_closely mark.end to marks lies.2 in
    let grows = end_grows mark.end to marks lies.2 in
    let behind : InOrder from marks end = earlier from mark.end end marks (omega (arith, lies.0, lies.1.some)) closely in
    ok_if P (is_pattern mark) _ _
    (λ is. ok_then P (tail_of marks (drop 1 insides)) _ (λ tail found. (
      record {
        some = omega (arith, lies.0, lies.1.some, grows);
        names = parts_wider from from mark.end end (pattern_names mark held) (omega arith) grows (pattern_lies from to mark marks others held lies holds);
        sides = ok_at (TailLies from end) (tail_of marks (drop 1 insides)) tail found
            (by_equals_lies from (end_of from (take n marks)) end marks (drop 1 insides) (drop n marks) (drop n (drop 1 insides)) behind (lies_closely from end (take n marks) (lies_take n from end marks behind)) (lies_behind n from end marks behind));
      },
      refl,
    )))
    (λ is. tt)

-- bindings, and their names
abbrev BoundsLie : ℕ → ℕ → List Bound → Type 0
BoundsLie to from bounds = BindingsLie from (map (λ bound. bound.binding) bounds) to × PartsLie from (all_names bounds) to

-- the elements that are left
abbrev left_of : Option ℕ → ℕ → List Mark → List Mark
left_of None inside marks = drop inside marks
left_of (Some anchor) inside marks = marks

bindings_lie : (to : ℕ) (anchor : Option ℕ) (inside : ℕ) (marks : List Mark) (insides : List Inside) (held : List Held) (from : ℕ) → InOrder from (left_of anchor inside marks) to → Beside HeldLies marks held → OkHolds (BoundsLie to from) (bindings_from anchor inside marks insides held)
bindings_lie to None inside [] insides held from lies holds = (tt, tt)
bindings_lie to (Some anchor) inside [] insides held from lies holds = tt
bindings_lie to None (suc inside) (mark ∷ marks) insides held from lies holds = bindings_lie to None inside marks (drop 1 insides) (drop 1 held) from lies (beside_drop HeldLies 1 (mark ∷ marks) held holds)
bindings_lie to None zero (comma ∷ marks) insides held from lies holds = bindings_lie to (Some comma.start) 0 marks (drop 1 insides) (drop 1 held) from (lies_drop 1 from to (comma ∷ marks) lies) (beside_drop HeldLies 1 (comma ∷ marks) held holds)
bindings_lie to (Some anchor) inside (mark ∷ marks) insides held from lies holds =
    let n = binding_length false 0 0 marks in
    let end = end_of mark.end (take n marks) in
    let behind = lies_behind n mark.end to marks lies.2 in
    let last = bounds end to (drop n marks) behind in
    ok_then (BoundsLie to from) (binding_of (mark ∷ take n marks) insides held) _ (λ one is.
    ok_then (BoundsLie to from) (bindings_from None n marks (drop 1 insides) (drop 1 held)) _ (λ others are.
    let first = ok_at (BoundLies from end) (binding_of (mark ∷ take n marks) insides held) one is (bound_lies from to mark (take n marks) marks insides held (lies_take (suc n) from to (mark ∷ marks) lies) holds) in
    let rest : BoundsLie to end others = ok_at (BoundsLie to end) (bindings_from None n marks (drop 1 insides) (drop 1 held)) others are (bindings_lie to None n marks (drop 1 insides) (drop 1 held) end behind (beside_drop HeldLies 1 (mark ∷ marks) held holds)) in
    let further : BoundsLie to one.binding.end others = subst (λ e. BoundsLie to e others) first.1 rest in
    ((first.0, omega (arith, last, first.1), further.0), parts_join from one.binding.end to one.binding.names (all_names others) (omega (arith, first.0.some)) (omega (arith, last, first.1)) first.0.names further.1)))

-- the parts of a declaration but for its block
pub record PartsFit (from to : ℕ) (parts_ : Parts) : Type 0 where
  pub names : PartsLie from parts_.names to
  pub bindings : BindingsLie from parts_.bindings to
  pub inherits : PartsLie from parts_.inherits to
  pub extended : MayLie from parts_.extended to

module _ (from to : ℕ) where
  abbrev Fit : Parts → Type 0
  Fit = PartsFit from to

  only_names : (names : List Span) → PartsLie from names to → Fit (names_only names)
  only_names names lies = record { names = lies; bindings = tt; inherits = tt; extended = tt }

  body_lies : (may_list : Bool) (name : Span) (place : ℕ) (marks : List Mark) (insides : List Inside) → Between from to name → Fit (with_body may_list name place marks insides)
  body_lies may_list name place [] insides lies = only_names (name ∷ []) (lies, tt)
  body_lies may_list name place (braces ∷ marks) insides lies = record { names = (lies, tt); bindings = tt; inherits = tt; extended = tt }

  code_lies : (may_list : Bool) (name : Span) (marks : List Mark) (insides : List Inside) → Between from to name → Fit (code may_list name marks insides)
  code_lies may_list name marks insides lies = let place = before is_braces marks in body_lies may_list name place (drop place marks) (drop place insides) lies

  members_lie : (starter : Mark) (names : List Span) (extended : Option Span) (clause_ : List Mark) (place : ℕ) (rest : List Mark) → PartsLie from names to → MayLie from extended to → InOrder from clause_ to → OkHolds Fit (with_members starter names extended clause_ place rest)
  members_lie starter names extended clause_ place [] named_ extends lies = tt
  members_lie starter names extended clause_ place (braces ∷ marks) named_ extends lies = record { names = named_; bindings = tt; inherits = inherited_lies from to clause_ lies; extended = extends }

  type_lies : (starter : Mark) (marks : List Mark) → InOrder from marks to → OkHolds Fit (of_type starter marks)
  type_lies starter marks lies =
      let place = before is_braces marks in
      ok_then Fit (first_name starter marks) _ (λ name is. members_lie starter (name ∷ []) None (drop 1 (take place marks)) place (drop place marks) (ok_at (Between from to) (first_name starter marks) name is (first_name_lies from to starter marks lies), tt) tt (lies_drop 1 from to (take place marks) (lies_take place from to marks lies)))

  extending_lies : (starter : Mark) (extended : Option Span) (marks : List Mark) → MayLie from extended to → InOrder from marks to → OkHolds Fit (extending starter extended marks)
  extending_lies starter None marks extends lies = tt
  extending_lies starter (Some extended) marks extends lies = let place = before is_braces marks in members_lie starter [] (Some extended) (take place marks) place (drop place marks) tt extends (lies_take place from to marks lies)

  extension_lies : (starter : Mark) (marks : List Mark) → InOrder from marks to → OkHolds Fit (of_extension starter marks)
  extension_lies starter marks lies = let n = length_before stop.Extended 0 0 marks in extending_lies starter (whole (take n marks)) marks (whole_lies from to (take n marks) (lies_take n from to marks lies)) lies

  named_fits : (starter : Mark) (marks : List Mark) → InOrder from marks to → OkHolds Fit (named starter marks)
  named_fits starter marks lies = ok_then Fit (first_name starter marks) _ (λ name is. only_names (name ∷ []) (ok_at (Between from to) (first_name starter marks) name is (first_name_lies from to starter marks lies), tt))

  variable_lies : (starter : Mark) (marks : List Mark) (insides : List Inside) (held : List Held) → InOrder from marks to → Beside HeldLies marks held → OkHolds Fit (of_variable starter marks insides held)
  variable_lies starter marks insides held lies holds =
      ok_then Fit (bindings_from (Some starter.start) 0 marks insides held) _ (λ bounds are.
      let both = ok_at (BoundsLie to from) (bindings_from (Some starter.start) 0 marks insides held) bounds are (bindings_lie to (Some starter.start) 0 marks insides held from lies holds) in
      record { names = both.1; bindings = both.0; inherits = tt; extended = tt })

  cases_fit : (starter : Mark) (marks : List Mark) → InOrder from marks to → OkHolds Fit (of_case starter marks)
  cases_fit starter marks lies =
      ok_then Fit (case_names (Some starter.start) marks) _ (λ names are. only_names names (ok_at (λ names. PartsLie from names to) (case_names (Some starter.start) marks) names are (cases_lie to (Some starter.start) marks from lies)))

  function_lies : (starter : Mark) (marks : List Mark) (insides : List Inside) → InOrder from marks to → OkHolds Fit (of_function starter marks insides)
  function_lies starter marks insides lies = ok_then Fit (function_name starter marks) _ (λ name is. code_lies false name marks insides (ok_at (Between from to) (function_name starter marks) name is (function_name_lies from to starter marks lies)))

  -- one row a kind
  pub parts_lie : (of_kind : Kind) (starter : Mark) (marks : List Mark) (insides : List Inside) (held : List Held) → Between from to (span_of starter) → InOrder from marks to → Beside HeldLies marks held → OkHolds Fit (parts of_kind starter marks insides held)
  parts_lie kind.Import starter marks insides held begins lies holds = only_names [] tt
  parts_lie kind.Typealias starter marks insides held begins lies holds = named_fits starter marks lies
  parts_lie kind.Associatedtype starter marks insides held begins lies holds = named_fits starter marks lies
  parts_lie kind.Struct starter marks insides held begins lies holds = type_lies starter marks lies
  parts_lie kind.Class starter marks insides held begins lies holds = type_lies starter marks lies
  parts_lie kind.Enum starter marks insides held begins lies holds = type_lies starter marks lies
  parts_lie kind.Protocol starter marks insides held begins lies holds = type_lies starter marks lies
  parts_lie kind.Extension starter marks insides held begins lies holds = extension_lies starter marks lies
  parts_lie kind.Func starter marks insides held begins lies holds = function_lies starter marks insides lies
  parts_lie kind.Var starter marks insides held begins lies holds = variable_lies starter marks insides held lies holds
  parts_lie kind.Let starter marks insides held begins lies holds = variable_lies starter marks insides held lies holds
  parts_lie kind.Init starter marks insides held begins lies holds = code_lies false (span_of starter) marks insides begins
  parts_lie kind.Deinit starter marks insides held begins lies holds = code_lies false (span_of starter) marks insides begins
  parts_lie kind.Subscript starter marks insides held begins lies holds = code_lies true (span_of starter) marks insides begins
  parts_lie kind.Case starter marks insides held begins lies holds = cases_fit starter marks lies
  parts_lie kind.Operator starter marks insides held begins lies holds = only_names [] tt
  parts_lie kind.Precedencegroup starter marks insides held begins lies holds = only_names [] tt
  parts_lie kind.Actor starter marks insides held begins lies holds = type_lies starter marks lies
  parts_lie kind.Macro starter marks insides held begins lies holds = named_fits starter marks lies
  parts_lie kind.UseItem starter marks insides held begins lies holds = only_names [] tt
