-- How declarations, and the parts of each, lie in their text: this project's own words.
use Rattle.std.specs.Prelude.{◌≡◌, ℕ, ◌+◌, ◌-◌, ◌<◌, ◌≤◌, ◌⊎◌, List, [], ◌∷◌, All, Option, None, Some}
use Rattle.swift_base.specs.declared.place.Span.{Span}
use Rattle.swift_tree.specs.declared.item.MacroUse.{MacroUse}
use Rattle.swift_tree.specs.declared.item.Attr.{Attr}
use Rattle.swift_tree.specs.declared.item.Binding.{Binding}
use Rattle.swift_tree.specs.declared.item.BlockShape.{BlockShape}
use Rattle.swift_tree.specs.declared.item.BlockShape.TheVariants.{Members}
use Rattle.swift_tree.specs.Outlines.{Head, ItemSeen, item, BlockSeen, no_block, block, ItemsSeen, none, cons, OutlineSeen}

-- the part holds a byte, and lies between the two places
pub record Between (from to : ℕ) (part : Span) : Type 0 where
  pub begins : from ≤ part.start
  pub some : part.start < part.end
  pub ends : part.end ≤ to

-- so it does where there is one
abbrev pub MayLie : ℕ → Option Span → ℕ → Type 0
MayLie from None to = Unit {0}
MayLie from (Some part) to = Between from to part

-- parts lie between the two places, each behind the one before
abbrev pub PartsLie : ℕ → List Span → ℕ → Type 0
PartsLie from [] to = Unit {0}
PartsLie from (first ∷ others) to = Between from to first × PartsLie first.end others to

pub record UseLies (from to : ℕ) (use_ : MacroUse) : Type 0 where
  pub between : Between from to use_.span
  pub name : Between use_.span.start use_.span.end use_.name

-- macro uses, each behind the one before
abbrev pub UsesLie : ℕ → List MacroUse → ℕ → Type 0
UsesLie from [] to = Unit {0}
UsesLie from (first ∷ others) to = UseLies from to first × UsesLie first.span.end others to

-- the arguments of an attribute stand behind its name
pub record AttrLies (from to : ℕ) (attr : Attr) : Type 0 where
  pub between : Between from to attr.span
  pub name : Between attr.span.start attr.span.end attr.name
  pub args : MayLie attr.name.end attr.args attr.span.end
  pub uses : UsesLie attr.span.start attr.uses attr.span.end

-- attributes, each behind the one before
abbrev pub AttrsLie : ℕ → List Attr → ℕ → Type 0
AttrsLie from [] to = Unit {0}
AttrsLie from (first ∷ others) to = AttrLies from to first × AttrsLie first.span.end others to

-- attributes, each of which begins behind where the one before begins
abbrev pub LocalsLie : ℕ → List Attr → ℕ → Type 0
LocalsLie from [] to = Unit {0}
LocalsLie from (first ∷ others) to = AttrLies from to first × LocalsLie (first.span.start + 1) others to

-- a type and an initializer, on both sides of the `=`; without one there is no initializer
abbrev pub SidesLie : ℕ → Option Span → Option ℕ → Option Span → ℕ → Type 0
SidesLie from type_span None init to = MayLie from type_span to × (init ≡ None)
SidesLie from type_span (Some equals) init to = (from ≤ equals) × (equals < to) × MayLie from type_span equals × MayLie (equals + 1) init to

pub record BindingLies (from : ℕ) (binding : Binding) : Type 0 where
  pub some : from < binding.end
  pub names : PartsLie from binding.names binding.end
  pub sides : SidesLie from binding.type_span binding.equals binding.init binding.end

-- bindings, each behind the one before
abbrev pub BindingsLie : ℕ → List Binding → ℕ → Type 0
BindingsLie from [] to = Unit {0}
BindingsLie from (first ∷ others) to = BindingLies from first × (first.end ≤ to) × BindingsLie first.end others to

-- one of the two ends before the other begins
abbrev pub Apart : Span → Span → Type 0
Apart one other = (one.end ≤ other.start) ⊎ (other.end ≤ one.start)

-- no use stands in one of the attributes, and none of these in a use
abbrev pub AllApart : List Attr → List MacroUse → Type 0
AllApart attrs uses = All (λ attr. All (λ use_. Apart attr.span use_.span) uses) attrs

-- the declaration begins and ends between the two places, the `;` behind it included; its parts lie in it
pub record HeadLies (from to : ℕ) (head : Head) : Type 0 where
  pub begins : from ≤ head.span.start
  pub some : head.span.start < head.span.end
  pub behind : head.span.end ≤ head.after
  pub ends : head.after ≤ to
  pub attrs : AttrsLie head.span.start head.attrs head.span.end
  pub names : PartsLie head.span.start head.names head.span.end
  pub bindings : BindingsLie head.span.start head.bindings head.span.end
  pub inherits : PartsLie head.span.start head.inherits head.span.end
  pub extended : MayLie head.span.start head.extended head.span.end
  pub uses : UsesLie head.span.start head.uses head.span.end
  pub locals : LocalsLie head.span.start head.locals head.span.end
  pub apart : AllApart head.attrs head.uses

abbrev pub after_of : ItemSeen → ℕ
after_of (item head braces) = head.after

-- the braces of members begin behind the macro uses
abbrev pub StandsBehind : BlockShape → ℕ → List MacroUse → ℕ → Type 0
StandsBehind Members from uses to = UsesLie from uses to
StandsBehind _ from uses to = Unit {0}

-- declarations lie between the two places, each behind the one before; the block of each lies in it, behind its own attributes, and its members between the braces
abbrev mutual
  pub ItemLies : ℕ → ItemSeen → ℕ → Type 0
  ItemLies from (item head braces) to = HeadLies from to head × BlockLies head.span head.attrs head.uses braces

  pub BlockLies : Span → List Attr → List MacroUse → BlockSeen → Type 0
  BlockLies whole attrs uses no_block = Unit {0}
  BlockLies whole attrs uses (block span shape members) =
      Between whole.start whole.end span × AttrsLie whole.start attrs span.start × StandsBehind shape whole.start uses span.start × ItemsLie (span.start + 1) members (span.end - 1)

  pub ItemsLie : ℕ → ItemsSeen → ℕ → Type 0
  ItemsLie from none to = Unit {0}
  ItemsLie from (cons first others) to = ItemLies from first to × ItemsLie (after_of first) others to

-- all that an outline of a text of so many bytes holds lies in the text
pub record OutlineLies (to : ℕ) (seen : OutlineSeen) : Type 0 where
  pub items : ItemsLie 0 seen.items to
  pub attrs : AttrsLie 0 seen.attrs to
  pub accessors : PartsLie 0 seen.accessors to
  pub uses : UsesLie 0 seen.uses to
  pub locals : LocalsLie 0 seen.locals to
  pub inside : (seen.inside.start ≤ seen.inside.end) × (seen.inside.end ≤ to)
