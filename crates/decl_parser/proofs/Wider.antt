-- Parts that lie between two places lie between places further apart, and follow each other.
use Rattle.std.proofs.Common.{arith, ℕ, ◌+◌, ◌≤◌, List, [], ◌∷◌, ◌++◌, Option, None, Some, Bool, true, false, if◌then◌else◌}
use Rattle.swift_base.specs.declared.place.Span.{Span}
use Rattle.swift_tree.specs.declared.item.MacroUse.{MacroUse}
use Rattle.swift_tree.specs.declared.item.Attr.{Attr}
use Rattle.decl_parser.specs.Nesting.{Between, MayLie, PartsLie, UseLies, UsesLie, AttrLies, AttrsLie, LocalsLie}

pub between_wider : (before from to behind : ℕ) (part : Span) → before ≤ from → to ≤ behind → Between from to part → Between before behind part
between_wider before from to behind part less more lies = record { begins = omega (arith, lies.begins); some = lies.some; ends = omega (arith, lies.ends) }

pub may_wider : (before from to behind : ℕ) (part : Option Span) → before ≤ from → to ≤ behind → MayLie from part to → MayLie before part behind
may_wider before from to behind None less more lies = tt
may_wider before from to behind (Some part) less more lies = between_wider before from to behind part less more lies

pub parts_wider : (before from to behind : ℕ) (parts : List Span) → before ≤ from → to ≤ behind → PartsLie from parts to → PartsLie before parts behind
parts_wider before from to behind [] less more lies = tt
parts_wider before from to behind (first ∷ others) less more lies =
    (between_wider before from to behind first less more lies.0, parts_wider first.end first.end to behind others (omega arith) more lies.1)

pub parts_join : (from middle to : ℕ) (parts others : List Span) → from ≤ middle → middle ≤ to → PartsLie from parts middle → PartsLie middle others to → PartsLie from (parts ++ others) to
parts_join from middle to [] others first last lies further = parts_wider from middle to to others first (omega arith) further
parts_join from middle to (part ∷ parts) others first last lies further =
    (between_wider from from middle to part (omega arith) last lies.0, parts_join part.end middle to parts others lies.0.ends last lies.1 further)

pub parts_if : (from to : ℕ) (which : Bool) (one other : List Span) → PartsLie from one to → PartsLie from other to → PartsLie from (if which then one else other) to
parts_if from to true one other first second = first
parts_if from to false one other first second = second

use_wider : (before from to behind : ℕ) (use_ : MacroUse) → before ≤ from → to ≤ behind → UseLies from to use_ → UseLies before behind use_
use_wider before from to behind use_ less more lies = record { between = between_wider before from to behind use_.span less more lies.between; name = lies.name }

pub uses_wider : (before from to behind : ℕ) (uses : List MacroUse) → before ≤ from → to ≤ behind → UsesLie from uses to → UsesLie before uses behind
uses_wider before from to behind [] less more lies = tt
uses_wider before from to behind (first ∷ others) less more lies =
    (use_wider before from to behind first less more lies.0, uses_wider first.span.end first.span.end to behind others (omega arith) more lies.1)

pub uses_join : (from middle to : ℕ) (uses others : List MacroUse) → from ≤ middle → middle ≤ to → UsesLie from uses middle → UsesLie middle others to → UsesLie from (uses ++ others) to
uses_join from middle to [] others first last lies further = uses_wider from middle to to others first (omega arith) further
uses_join from middle to (use_ ∷ uses) others first last lies further =
    (use_wider from from middle to use_ (omega arith) last lies.0, uses_join use_.span.end middle to uses others lies.0.between.ends last lies.1 further)

attr_wider : (before from to behind : ℕ) (attr : Attr) → before ≤ from → to ≤ behind → AttrLies from to attr → AttrLies before behind attr
attr_wider before from to behind attr less more lies = record { between = between_wider before from to behind attr.span less more lies.between; name = lies.name; args = lies.args; uses = lies.uses }

pub attrs_wider : (before from to behind : ℕ) (attrs : List Attr) → before ≤ from → to ≤ behind → AttrsLie from attrs to → AttrsLie before attrs behind
attrs_wider before from to behind [] less more lies = tt
attrs_wider before from to behind (first ∷ others) less more lies =
    (attr_wider before from to behind first less more lies.0, attrs_wider first.span.end first.span.end to behind others (omega arith) more lies.1)

pub attrs_join : (from middle to : ℕ) (attrs others : List Attr) → from ≤ middle → middle ≤ to → AttrsLie from attrs middle → AttrsLie middle others to → AttrsLie from (attrs ++ others) to
attrs_join from middle to [] others first last lies further = attrs_wider from middle to to others first (omega arith) further
attrs_join from middle to (attr ∷ attrs) others first last lies further =
    (attr_wider from from middle to attr (omega arith) last lies.0, attrs_join attr.span.end middle to attrs others lies.0.between.ends last lies.1 further)

pub locals_wider : (before from to behind : ℕ) (attrs : List Attr) → before ≤ from → to ≤ behind → LocalsLie from attrs to → LocalsLie before attrs behind
locals_wider before from to behind [] less more lies = tt
locals_wider before from to behind (first ∷ others) less more lies =
    (attr_wider before from to behind first less more lies.0, locals_wider (first.span.start + 1) (first.span.start + 1) to behind others (omega arith) more lies.1)

pub locals_join : (from middle to : ℕ) (attrs others : List Attr) → from ≤ middle → middle ≤ to → LocalsLie from attrs middle → LocalsLie middle others to → LocalsLie from (attrs ++ others) to
locals_join from middle to [] others first last lies further = locals_wider from middle to to others first (omega arith) further
locals_join from middle to (attr ∷ attrs) others first last lies further =
    let between = lies.0.between in
    (attr_wider from from middle to attr (omega arith) last lies.0, locals_join (attr.span.start + 1) middle to attrs others (omega (arith, between.some, between.ends)) last lies.1 further)
