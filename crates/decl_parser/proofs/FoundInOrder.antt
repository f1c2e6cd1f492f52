-- The macro uses and the attributes in elements, one behind the other.
use Rattle.std.proofs.Common.{◌≡◌, ◌⊎◌, inl, inr, refl, sym, ap, subst, arith, ◌∙◌, ℕ, zero, suc, ◌+◌, ◌-◌, ◌≤◌, ◌==◌, List, [], ◌∷◌, ◌++◌, length, take, drop, append_assoc, Option, Some, None, Bool, true, false, ◌&&◌, if◌then◌else◌}
use Rattle.std.specs.Prelude.{nat_lt, reverse}
use Rattle.std.specs.List.{All}
use Rattle.std.proofs.lemmas.List.{drop-drop}
use Rattle.std.proofs.lemmas.List.Elements.{All-append, All-cons, All-head, All-nil, All-tail}
use Rattle.swift_base.specs.declared.place.Span.{Span}
use Rattle.swift_tree.specs.declared.item.MacroUse.{MacroUse}
use Rattle.swift_tree.specs.declared.item.Attr.{Attr}
use Rattle.element_marks.specs.declared.mark.Mark.{Mark}
use Rattle.element_marks.specs.Sorts.{is_use, is_at, is_name, is_parentheses}
use Rattle.element_marks.specs.Spans.{span_of, name_of, end_of}
use Rattle.element_marks.specs.Heads.{by_length, first_is, first_angles, attribute_length, dots_length, name_tail}
use Rattle.element_marks.specs.Uses.{use_length, call_length, closures_length}
use Rattle.decl_parser.specs.declared.inside.Inside.{Inside}
use Rattle.decl_parser.specs.Insides.{first_inside}
use Rattle.decl_parser.specs.Attributes.{span_from, use_of, attr_of, attribute_name, args_place, args_span, args_uses}
use Rattle.decl_parser.specs.Found.{Found, Step, local_attributes, found_step, found_from, found_in}
use Rattle.decl_parser.specs.Nesting.{Between, MayLie, UseLies, UsesLie, AttrLies, AttrsLie, LocalsLie, Apart, AllApart}
use Rattle.decl_parser.proofs.Wider.{between_wider, may_wider, uses_wider, uses_join, attrs_join, locals_wider, locals_join}
use Rattle.decl_parser.proofs.Ordered.{InOrder, Beside, HasAt, has_at, bounds, name_lies, end_grows, end_more, end_at, lies_take, lies_behind, beside_drop}

-- what stands inside an element lies between its brackets
pub record InsideLies (start : ℕ) (inside : Inside) (end : ℕ) : Type 0 where
  pub uses : UsesLie (start + 1) inside.uses (end - 1)
  pub locals : LocalsLie (start + 1) inside.locals (end - 1)

-- the same of what stands inside the first element, where there is one
pub first_lies : (mark : Mark) (marks : List Mark) (insides : List Inside) → Beside InsideLies (mark ∷ marks) insides → InsideLies mark.start (first_inside insides) mark.end
first_lies mark marks [] holds = record { uses = tt; locals = tt }
first_lies mark marks (inside ∷ insides) holds = holds.0

inside_uses : (from : ℕ) (mark : Mark) (marks : List Mark) (insides : List Inside) → from ≤ mark.start → Beside InsideLies (mark ∷ marks) insides → UsesLie from (first_inside insides).uses mark.end
inside_uses from mark marks insides less holds =
    uses_wider from (mark.start + 1) (mark.end - 1) mark.end (first_inside insides).uses (omega arith) (omega arith) (first_lies mark marks insides holds).uses

-- a length that is not 0 comes from a test that passed
pub passed : (test : Bool) (n more : ℕ) → (if test then suc n else 0) ≡ suc more → (test ≡ true) × (n ≡ more)
passed true n more is = (refl, omega (arith, is))
passed false n more is = absurd (omega (arith, is))

use_begins : (blocks : List ℕ) (before : List Mark) (mark : Mark) (marks : List Mark) (more : ℕ) → use_length blocks before (mark ∷ marks) ≡ suc more → is_use mark ≡ true
unfolding use_length
use_begins blocks before mark marks more is = (passed (is_use mark) (call_length marks + closures_length blocks before (drop (call_length marks) marks)) more is).0

use_lies : (from to more : ℕ) (mark : Mark) (marks : List Mark) → is_use mark ≡ true → InOrder from (mark ∷ marks) to → UseLies from (end_of mark.end (take more marks)) (use_of (mark ∷ take more marks))
use_lies from to more mark marks is lies =
    let grows = end_grows mark.end to (take more marks) (lies_take more mark.end to marks lies.2) in
    record {
      between = record { begins = lies.0; some = omega (arith, lies.1.some, grows); ends = omega arith };
      name = record { begins = omega (arith, lies.1.some); some = omega (arith, lies.1.word is); ends = grows };
    }

-- an attribute has its `@`, a name, and what may follow the name
attribute_more : (at name : Mark) (marks : List Mark) (more : ℕ) → attribute_length (at ∷ name ∷ marks) ≡ suc more → suc (name_tail marks) ≡ more
unfolding attribute_length
attribute_more at name marks more is = (passed (is_at at && is_name name) (suc (name_tail marks)) more is).1

no_attribute : {A : Type 0} (at : Mark) (more : ℕ) → attribute_length (at ∷ []) ≡ suc more → A
unfolding attribute_length
no_attribute at more is = absurd (omega (arith, is))

dotted_name : (at_end to : ℕ) (name : Mark) (marks : List Mark) → InOrder at_end (name ∷ marks) to → Between at_end (end_of name.end (take (dots_length marks) marks)) (attribute_name (name ∷ marks))
dotted_name at_end to name marks lies =
    let dots = dots_length marks in
    let grows = end_grows name.end to (take dots marks) (lies_take dots name.end to marks lies.2) in
    elim (dots == 0) as (λ b. Between at_end (end_of name.end (take dots marks)) (if b then name_of name else span_from (name ∷ take dots marks))) [
      | true ↦ between_wider at_end at_end name.end (end_of name.end (take dots marks)) (name_of name) (omega arith) grows (name_lies at_end to name marks lies)
      | false ↦ record { begins = lies.0; some = omega (arith, lies.1.some, grows); ends = omega arith }
    ]

-- arguments, where they stand behind the first so many elements, and the uses in them
abbrev ArgsLie : ℕ → ℕ → List Mark → List Inside → Bool → Option Span → List MacroUse → Type 0
ArgsLie from n marks insides has args uses =
    MayLie (end_of from (take n marks)) args (end_of from (take (if has then suc n else n) marks)) × UsesLie from uses (end_of from (take (if has then suc n else n) marks))

args_lie : (from to n : ℕ) (marks rest : List Mark) (insides : List Inside) → drop n marks ≡ rest → InOrder from marks to → Beside InsideLies rest insides → ArgsLie from n marks insides (first_is is_parentheses rest) (args_span rest) (args_uses rest insides)
args_lie from to n marks [] insides is lies holds = (tt, tt)
args_lie from to n marks (mark ∷ others) insides is lies holds =
    let end = end_at n from marks others mark is in
    let behind : InOrder (end_of from (take n marks)) (mark ∷ others) to = subst (λ l. InOrder (end_of from (take n marks)) l to) is (lies_behind n from to marks lies) in
    let before = end_grows from to (take n marks) (lies_take n from to marks lies) in
    elim (is_parentheses mark) as (λ b. ArgsLie from n marks insides b (if b then Some (span_of mark) else None) (if b then (first_inside insides).uses else [])) [
      | true ↦ (record { begins = behind.0; some = behind.1.some; ends = omega (arith, end) }, subst (λ e. UsesLie from (first_inside insides).uses e) (sym end) (inside_uses from mark others insides (omega (arith, before, behind.0)) holds))
      | false ↦ (tt, tt)
    ]

-- the place of the arguments, behind the `@` and the name
args_at : (at name : Mark) (marks : List Mark) → args_place (at ∷ name ∷ marks) ≡ suc (suc (dots_length marks + first_angles (drop (dots_length marks) marks)))
args_at at name marks =
    let dots = dots_length marks in
    let named : 2 + dots ≡ suc (suc dots) = omega arith in
    let list : List Mark = at ∷ name ∷ marks in
    ap (λ n. n + first_angles (drop n list)) named ∙ omega arith

tail_longer : (n : ℕ) (b : Bool) → n ≤ (if b then suc n else n)
tail_longer n true = omega arith
tail_longer n false = omega arith

-- an attribute lies among its elements
abbrev AttrFits : ℕ → ℕ → ℕ → Attr → Type 0
AttrFits from start end attr = AttrLies from end attr × (attr.span.start ≡ start)

pub attr_lies : (from to more : ℕ) (mark : Mark) (marks : List Mark) (insides : List Inside) → attribute_length (mark ∷ marks) ≡ suc more → InOrder from (mark ∷ marks) to → Beside InsideLies (mark ∷ marks) insides → AttrFits from mark.start (end_of mark.end (take more marks)) (attr_of (mark ∷ marks) insides)
attr_lies from to more mark [] insides is lies holds = no_attribute mark more is
attr_lies from to more mark (name ∷ marks) insides is lies holds =
    let tail = name_tail marks in
    let list : List Mark = mark ∷ name ∷ marks in
    let length_is : suc tail ≡ more = attribute_more mark name marks more is in
    let dots = dots_length marks in
    let named = dots + first_angles (drop dots marks) in
    let behind : drop (args_place list) list ≡ drop named marks = ap (λ n. drop n list) (args_at mark name marks) in
    let there : Beside InsideLies (drop named marks) (drop (args_place list) insides) = subst (λ l. Beside InsideLies l (drop (args_place list) insides)) behind (beside_drop InsideLies (args_place list) list insides holds) in
    let longer = tail_longer named (first_is is_parentheses (drop named marks)) in
    let end = end_of name.end (take tail marks) in
    let name_between = dotted_name mark.end to name marks lies.2 in
    let dots_end = end_more dots tail name.end to marks (omega (arith, longer)) lies.2.2 in
    let named_end = end_more dots named name.end to marks (omega arith) lies.2.2 in
    let args = args_lie name.end to named marks (drop named marks) (drop (args_place list) insides) refl lies.2.2 there in
    let grows = end_grows name.end to (take tail marks) (lies_take tail name.end to marks lies.2.2) in
    let own_args : MayLie (attribute_name (name ∷ marks)).end (args_span (drop (args_place list) list)) end =
    subst (λ l. MayLie (attribute_name (name ∷ marks)).end (args_span l) end) (sym behind) (may_wider (attribute_name (name ∷ marks)).end (end_of name.end (take named marks)) end end (args_span (drop named marks)) (omega (arith, name_between.ends, named_end)) (omega arith) args.0) in
    let own_uses : UsesLie mark.start (args_uses (drop (args_place list) list) (drop (args_place list) insides)) end =
    subst (λ l. UsesLie mark.start (args_uses l (drop (args_place list) insides)) end) (sym behind) (uses_wider mark.start name.end end end (args_uses (drop named marks) (drop (args_place list) insides)) (omega (arith, lies.1.some, lies.2.0, lies.2.1.some)) (omega arith) args.1) in
    let own_name : Between mark.start end (attribute_name (name ∷ marks)) = between_wider mark.start mark.end (end_of name.end (take dots marks)) end (attribute_name (name ∷ marks)) (omega (arith, lies.1.some)) dots_end name_between in
    let spanned : (span : Span) → span ≡ record { start = mark.start; end = end } → AttrFits from mark.start end (record (attr_of list insides) { span = span }) =
    λ span same. subst (λ s. AttrFits from mark.start end (record (attr_of list insides) { span = s })) (sym same) (
      record {
        between = record { begins = lies.0; some = omega (arith, lies.1.some, lies.2.0, lies.2.1.some, grows); ends = omega arith };
        name = own_name;
        args = own_args;
        uses = own_uses;
      },
      refl,
    ) in
    subst (λ n. AttrFits from mark.start (end_of mark.end (take n (name ∷ marks))) (attr_of list insides)) length_is
    (spanned (span_from (take (attribute_length list) list)) (ap (λ n. span_from (take n list)) (is ∙ ap suc (sym length_is))))

-- what begins with the first element, and the elements behind it
pub record StepLies (from to : ℕ) (rest : List Mark) (step : Step) : Type 0 where
  pub middle : ℕ
  pub first : from ≤ middle
  pub uses : UsesLie from step.found.uses middle
  pub attrs : AttrsLie from step.found.attrs middle
  pub locals : (others : List Attr) → LocalsLie middle others to → LocalsLie from (step.found.locals ++ others) to
  pub one_kind : (step.found.attrs ≡ []) ⊎ (step.found.uses ≡ [])
  pub behind : InOrder middle (drop step.more rest) to

-- by how many elements a use has, and an attribute of the declaration's own
abbrev pub step_by : ℕ → ℕ → List Mark → List Inside → Step
step_by use_ attribute marks insides =
    by_length use_
    (by_length attribute
    (record { more = 0; found = record { attrs = []; uses = (first_inside insides).uses; locals = local_attributes marks insides ++ (first_inside insides).locals } })
    (λ more. record { more = more; found = record { attrs = attr_of marks insides ∷ []; uses = []; locals = [] } }))
    (λ more. record { more = more; found = record { attrs = []; uses = use_of (take (suc more) marks) ∷ []; locals = [] } })

-- an attribute that may begin here, and those behind its `@`
local_first : (from to : ℕ) (mark : Mark) (marks : List Mark) (insides : List Inside) (inner : List Attr) (n : ℕ) → attribute_length (mark ∷ marks) ≡ n → InOrder from (mark ∷ marks) to → Beside InsideLies (mark ∷ marks) insides
    → LocalsLie (mark.start + 1) inner to → LocalsLie from (by_length n [] (λ more. attr_of (mark ∷ marks) insides ∷ []) ++ inner) to
local_first from to mark marks insides inner zero is lies holds further = locals_wider from (mark.start + 1) to to inner (omega (arith, lies.0)) (omega arith) further
local_first from to mark marks insides inner (suc more) is lies holds further =
    let end = end_of mark.end (take more marks) in
    let within = bounds end to (drop more marks) (lies_behind more mark.end to marks lies.2) in
    let fits = attr_lies from to more mark marks insides is lies holds in
    let one : LocalsLie from (attr_of (mark ∷ marks) insides ∷ []) to = locals_wider from from end to (attr_of (mark ∷ marks) insides ∷ []) (omega arith) within (fits.0, tt) in
    (one.0, subst (λ n. LocalsLie (n + 1) inner to) (sym fits.1) further)

locals_here : (from to : ℕ) (mark : Mark) (marks : List Mark) (insides : List Inside) → InOrder from (mark ∷ marks) to → Beside InsideLies (mark ∷ marks) insides
    → (others : List Attr) → LocalsLie mark.end others to → LocalsLie from ((local_attributes (mark ∷ marks) insides ++ (first_inside insides).locals) ++ others) to
locals_here from to mark marks insides lies holds others further =
    let inner = (first_inside insides).locals in
    let closely = locals_wider (mark.start + 1) (mark.start + 1) (mark.end - 1) mark.end inner (omega arith) (omega arith) (first_lies mark marks insides holds).locals in
    let both : LocalsLie (mark.start + 1) (inner ++ others) to = locals_join (mark.start + 1) mark.end to inner others (omega (arith, lies.1.some)) (bounds mark.end to marks lies.2) closely further in
    subst (λ l. LocalsLie from l to) (sym (append_assoc (local_attributes (mark ∷ marks) insides) inner others)) (local_first from to mark marks insides (inner ++ others) (attribute_length (mark ∷ marks)) refl lies holds both)

step_lies : (use_ attribute from to : ℕ) (mark : Mark) (marks : List Mark) (insides : List Inside) → ((more : ℕ) → use_ ≡ suc more → is_use mark ≡ true) → ((more : ℕ) → attribute ≡ suc more → attribute_length (mark ∷ marks) ≡ suc more)
    → InOrder from (mark ∷ marks) to → Beside InsideLies (mark ∷ marks) insides → StepLies from to marks (step_by use_ attribute (mark ∷ marks) insides)
step_lies zero zero from to mark marks insides uses attributes lies holds = record {
  middle = mark.end;
  first = omega (arith, lies.0, lies.1.some);
  uses = inside_uses from mark marks insides lies.0 holds;
  attrs = tt;
  locals = locals_here from to mark marks insides lies holds;
  one_kind = inl refl;
  behind = lies.2;
}
step_lies zero (suc more) from to mark marks insides uses attributes lies holds =
    let middle = end_of mark.end (take more marks) in
    let first : from ≤ middle = omega (arith, lies.0, lies.1.some, end_grows mark.end to (take more marks) (lies_take more mark.end to marks lies.2)) in
    record {
      middle = middle;
      first = first;
      uses = tt;
      attrs = ((attr_lies from to more mark marks insides (attributes more refl) lies holds).0, tt);
      one_kind = inr refl;
      locals = λ others further. locals_wider from middle to to others first (omega arith) further;
      behind = lies_behind more mark.end to marks lies.2;
    }
step_lies (suc more) attribute from to mark marks insides uses attributes lies holds =
    let middle = end_of mark.end (take more marks) in
    let first : from ≤ middle = omega (arith, lies.0, lies.1.some, end_grows mark.end to (take more marks) (lies_take more mark.end to marks lies.2)) in
    record {
      middle = middle;
      first = first;
      uses = (use_lies from to more mark marks (uses more refl) lies, tt);
      attrs = tt;
      one_kind = inl refl;
      locals = λ others further. locals_wider from middle to to others first (omega arith) further;
      behind = lies_behind more mark.end to marks lies.2;
    }

-- only the declaration's own attributes are such a step
own_only : (own : Bool) (n more : ℕ) → (if own then n else 0) ≡ suc more → n ≡ suc more
own_only true n more is = is
own_only false n more is = absurd (omega (arith, is))

pub record FoundLies (from to : ℕ) (found : Found) : Type 0 where
  pub attrs : AttrsLie from found.attrs to
  pub uses : UsesLie from found.uses to
  pub locals : LocalsLie from found.locals to
  pub apart : AllApart found.attrs found.uses

-- what ends before uses begin is apart from them
uses_behind : (from to : ℕ) (part : Span) (uses : List MacroUse) → part.end ≤ from → UsesLie from uses to → All (λ use_. Apart part use_.span) uses
uses_behind from to part [] less lies = All-nil (λ use_. Apart part use_.span)
uses_behind from to part (first ∷ others) less lies =
    let between = lies.0.between in
    All-cons (λ use_. Apart part use_.span) first others (inl (omega (arith, less, between.begins))) (uses_behind first.span.end to part others (omega (arith, less, between.begins, between.some)) lies.1)

uses_before : (from to : ℕ) (part : Span) (uses : List MacroUse) → to ≤ part.start → UsesLie from uses to → All (λ use_. Apart part use_.span) uses
uses_before from to part [] less lies = All-nil (λ use_. Apart part use_.span)
uses_before from to part (first ∷ others) less lies =
    All-cons (λ use_. Apart part use_.span) first others (inr (omega (arith, less, lies.0.between.ends))) (uses_before first.span.end to part others less lies.1)

attrs_before : (from middle to : ℕ) (attrs : List Attr) (uses : List MacroUse) → AttrsLie from attrs middle → UsesLie middle uses to → AllApart attrs uses
attrs_before from middle to [] uses lies further = All-nil (λ attr. All (λ use_. Apart attr.span use_.span) uses)
attrs_before from middle to (first ∷ others) uses lies further =
    All-cons (λ attr. All (λ use_. Apart attr.span use_.span) uses) first others (uses_behind middle to first.span uses lies.0.between.ends further) (attrs_before first.span.end middle to others uses lies.1 further)

attrs_behind : (from middle at to : ℕ) (attrs : List Attr) (uses : List MacroUse) → middle ≤ at → UsesLie from uses middle → AttrsLie at attrs to → AllApart attrs uses
attrs_behind from middle at to [] uses less lies further = All-nil (λ attr. All (λ use_. Apart attr.span use_.span) uses)
attrs_behind from middle at to (first ∷ others) uses less lies further =
    let between = further.0.between in
    All-cons (λ attr. All (λ use_. Apart attr.span use_.span) uses) first others (uses_before from middle first.span uses (omega (arith, less, between.begins)) lies) (attrs_behind from middle first.span.end to others uses (omega (arith, less, between.begins, between.some)) lies further.1)

more_uses : (attrs : List Attr) (uses others : List MacroUse) → AllApart attrs uses → AllApart attrs others → AllApart attrs (uses ++ others)
more_uses [] uses others first second = All-nil (λ attr. All (λ use_. Apart attr.span use_.span) (uses ++ others))
more_uses (attr ∷ attrs) uses others first second =
    let P : List MacroUse → Attr → Type 0 = λ uses attr. All (λ use_. Apart attr.span use_.span) uses in
    All-cons (P (uses ++ others)) attr attrs (All-append (λ use_. Apart attr.span use_.span) uses others (All-head (P uses) attr attrs first) (All-head (P others) attr attrs second))
    (more_uses attrs uses others (All-tail (P uses) attr attrs first) (All-tail (P others) attr attrs second))

-- attributes or uses, and then others of both
apart_join : (from middle to : ℕ) (attrs more_attrs : List Attr) (uses others : List MacroUse) → (attrs ≡ []) ⊎ (uses ≡ []) → AttrsLie from attrs middle → UsesLie from uses middle → AttrsLie middle more_attrs to → UsesLie middle others to → AllApart more_attrs others → AllApart (attrs ++ more_attrs) (uses ++ others)
apart_join from middle to attrs more_attrs uses others (inl none) attrs_lie uses_lie more_lie others_lie apart =
    subst (λ l. AllApart (l ++ more_attrs) (uses ++ others)) (sym none) (more_uses more_attrs uses others (attrs_behind from middle middle to more_attrs uses (omega arith) uses_lie more_lie) apart)
apart_join from middle to attrs more_attrs uses others (inr none) attrs_lie uses_lie more_lie others_lie apart =
    subst (λ l. AllApart (attrs ++ more_attrs) (l ++ others)) (sym none) (All-append (λ attr. All (λ use_. Apart attr.span use_.span) others) attrs more_attrs (attrs_before from middle to attrs others attrs_lie others_lie) apart)

-- at a place in the list
pub step_here : (blocks : List ℕ) (own : ℕ) (list : List Mark) (to at : ℕ) (insides : List Inside) (from : ℕ) (here : HasAt list at) → InOrder from (drop at list) to → Beside InsideLies (drop at list) insides → StepLies from to here.marks (found_step blocks own list at insides)
step_here blocks own list to at insides from here lies holds =
    let before = reverse (take at list) in
    let use_ = use_length blocks before (drop at list) in
    let attribute = if nat_lt at own then attribute_length (drop at list) else 0 in
    let begins : (more : ℕ) → use_ ≡ suc more → is_use here.mark ≡ true = λ more is. use_begins blocks before here.mark here.marks more (ap (use_length blocks before) (sym here.here) ∙ is) in
    let belongs : (more : ℕ) → attribute ≡ suc more → attribute_length (here.mark ∷ here.marks) ≡ suc more = λ more is. ap attribute_length (sym here.here) ∙ own_only (nat_lt at own) (attribute_length (drop at list)) more is in
    subst (λ l. StepLies from to here.marks (step_by use_ attribute l insides)) (sym here.here)
    (step_lies use_ attribute from to here.mark here.marks insides begins belongs (subst (λ l. InOrder from l to) here.here lies) (subst (λ l. Beside InsideLies l insides) here.here holds))

pub found_lies : (blocks : List ℕ) (own : ℕ) (list : List Mark) (to at inside left : ℕ) (insides : List Inside) (from : ℕ) → at + left ≤ length list → InOrder from (drop (at + inside) list) to → Beside InsideLies (drop at list) insides → FoundLies from to (found_from blocks own list at inside left insides)
found_lies blocks own list to at inside zero insides from within lies holds = record { attrs = tt; uses = tt; locals = tt; apart = All-nil (λ attr. All (λ use_. Apart attr.span use_.span) []) }
found_lies blocks own list to at (suc inside) (suc left) insides from within lies holds =
    let here = has_at list at (omega (arith, within)) in
    let same : at + suc inside ≡ suc at + inside = omega arith in
    found_lies blocks own list to (suc at) inside left (drop 1 insides) from (omega (arith, within))
    (subst (λ n. InOrder from (drop n list) to) same lies)
    (subst (λ l. Beside InsideLies l (drop 1 insides)) (sym here.behind) (beside_drop InsideLies 1 (here.mark ∷ here.marks) insides (subst (λ l. Beside InsideLies l insides) here.here holds)))
found_lies blocks own list to at zero (suc left) insides from within lies holds =
    let here = has_at list at (omega (arith, within)) in
    let at_once : at + 0 ≡ at = omega arith in
    let first_holds : Beside InsideLies (here.mark ∷ here.marks) insides = subst (λ l. Beside InsideLies l insides) here.here holds in
    let step = step_here blocks own list to at insides from here (subst (λ n. InOrder from (drop n list) to) at_once lies) holds in
    let now = (found_step blocks own list at insides).found in
    let more = (found_step blocks own list at insides).more in
    let behind : InOrder step.middle (drop (suc at + more) list) to = subst (λ l. InOrder step.middle l to) (ap (drop more) (sym here.behind) ∙ drop-drop more (suc at) list) step.behind in
    let last = bounds step.middle to (drop (suc at + more) list) behind in
    let rest = found_from blocks own list (suc at) more left (drop 1 insides) in
    let further = found_lies blocks own list to (suc at) more left (drop 1 insides) step.middle (omega (arith, within)) behind
    (subst (λ l. Beside InsideLies l (drop 1 insides)) (sym here.behind) (beside_drop InsideLies 1 (here.mark ∷ here.marks) insides first_holds)) in
    record {
      attrs = attrs_join from step.middle to now.attrs rest.attrs step.first last step.attrs further.attrs;
      uses = uses_join from step.middle to now.uses rest.uses step.first last step.uses further.uses;
      locals = step.locals rest.locals further.locals;
      apart = apart_join from step.middle to now.attrs rest.attrs now.uses rest.uses step.one_kind step.attrs step.uses further.attrs further.uses further.apart;
    }

pub found_in_lies : (from to : ℕ) (marks : List Mark) (insides : List Inside) → InOrder from marks to → Beside InsideLies marks insides → FoundLies from to (found_in marks insides)
unfolding found_in
found_in_lies from to marks insides lies holds = found_lies [] 0 marks to 0 0 (length marks) insides from (omega arith) lies holds
