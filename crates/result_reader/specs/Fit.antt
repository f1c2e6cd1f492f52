-- Which declarations of a reply have a place there: after SE-0389 and SE-0397, and this project's own.
use Rattle.std.specs.Prelude.{ℕ, ◌&&◌, ◌||◌, not, if◌then◌else◌, Bool, true, false, Option, Some, None, List, slice_range, codes}
use Rattle.std.specs.List.{list_any}
use Rattle.std.specs.Str.{bytes_eq}
use Rattle.swift_base.specs.declared.place.Span.{Span}
use Rattle.swift_tree.specs.declared.item.Kind.{Kind}
use Rattle.swift_tree.specs.declared.item.Kind.TheVariants as kind
use Rattle.swift_tree.specs.declared.item.Attr.{Attr}
use Rattle.swift_tree.specs.Outlines.{Head, ItemSeen, item, ItemsSeen, none, cons}
use Rattle.unique_names.specs.declared.role.Role.{Role}
use Rattle.unique_names.specs.declared.role.Role.TheVariants as role
use Rattle.role_names.specs.declared.rule.NameRule.{NameRule}
use Rattle.role_names.specs.declared.rule.NameRule.TheVariants as rule

-- a place of the text as bytes
abbrev pub text_at : List ℕ → Span → List ℕ
text_at text span = slice_range text span.start span.end

-- a declaration without its block
abbrev pub outer_head : ItemSeen → Head
outer_head (item head inside) = head

-- no macro makes one of these
abbrev pub is_never_made : Kind → Bool
is_never_made kind.Import = true
is_never_made kind.Operator = true
is_never_made kind.Precedencegroup = true
is_never_made kind.Macro = true
is_never_made kind.Extension = true
is_never_made _ = false

-- these stand in types alone
abbrev pub is_member_alone : Kind → Bool
is_member_alone kind.Init = true
is_member_alone kind.Deinit = true
is_member_alone kind.Subscript = true
is_member_alone kind.Case = true
is_member_alone kind.Associatedtype = true
is_member_alone _ = false

-- a declaration of the kind has no place there
abbrev pub has_no_place : Bool → Kind → Bool
has_no_place file_scope kind = is_never_made kind || (file_scope && is_member_alone kind)

-- the attribute is `@main`
abbrev pub is_main : List ℕ → Attr → Bool
is_main text attr = not attr.dotted && bytes_eq (text_at text attr.name) (codes "main")

abbrev pub is_forbidden : Bool → List ℕ → Head → Bool
is_forbidden file_scope text head = has_no_place file_scope head.kind || list_any (is_main text) head.attrs

abbrev pub is_declaration : Kind → Bool
is_declaration kind.UseItem = false
is_declaration _ = true

-- where the first declaration begins of which this is so; members are not looked at
abbrev pub first_start : (Head → Bool) → ItemsSeen → Option ℕ
first_start test none = None
first_start test (cons first rest) =
    if test (outer_head first) then Some (outer_head first).span.start else first_start test rest

abbrev pub is_arbitrary : NameRule → Bool
is_arbitrary rule.Arbitrary = true
is_arbitrary _ = false

-- a macro of the role that is arbitrary in its names makes no declarations at file scope (SE-0389)
abbrev pub may_not_be_arbitrary : Role → Bool
may_not_be_arbitrary role.Declaration = true
may_not_be_arbitrary role.Peer = true
may_not_be_arbitrary _ = false

-- a reply of the role is declarations
abbrev pub makes_declarations : Role → Bool
makes_declarations role.Declaration = true
makes_declarations role.Member = true
makes_declarations role.Peer = true
makes_declarations _ = false
