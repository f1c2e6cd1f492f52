-- The texts that are given at the sites of an accepted source are UTF-8.
use Rattle.std.proofs.Common.{◌≡◌, sym, ℕ, zero, suc, List, [], ◌∷◌, map, take, drop, replicate, Option, Some, None, Ok, Bool, true, false, cond, if◌then◌else◌}
use Rattle.std.specs.Prelude.{IfSome, find}
use Rattle.std.specs.List.{AllByRecursion, flat_map}
use Rattle.std.specs.Str.{bytes_eq}
use Rattle.std.proofs.lemmas.List.Elements.{All-from_recursion, recursion_from_All}
use Rattle.swift_base.specs.declared.plugins.Plugin.{Plugin}
use Rattle.swift_lexer.specs.Trees.{Forest}
use Rattle.swift_tree.specs.declared.item.Attr.{Attr}
use Rattle.swift_tree.specs.declared.item.BlockShape.TheVariants as block_shape
use Rattle.swift_tree.specs.declared.item.MacroUse.{MacroUse}
use Rattle.swift_tree.specs.declared.outline.Shape.TheVariants as shape
use Rattle.swift_tree.specs.Outlines.{ItemSeen, item, BlockSeen, no_block, block, ItemsSeen, none, cons, OutlineSeen}
use Rattle.unique_names.specs.declared.role.Role.{Role}
use Rattle.unique_names.specs.declared.role.Role.TheVariants as role
use Rattle.expansion_model.specs.declared.site.UseKind.{UseKind}
use Rattle.decl_parser.specs.declared.place.Place.TheVariants as place
use Rattle.decl_parser.specs.Levels.{items_of_list}
use Rattle.element_marks.specs.Answers.{and_then}
use Rattle.element_marks.specs.Accessors.{accessors_from}
use Rattle.element_marks.specs.Levels.{level}
use Rattle.decl_parser.specs.declared.place.Place.{Place}
use Rattle.decl_parser.specs.Levels.{insides}
use Rattle.decl_parser.specs.Fragments.{accessor_marks, attributes_from, by_shape, expression, not_an_accessor, one_group}
use Rattle.decl_parser.specs.Outline.{IsOutline, outline}
use Rattle.swift_tree.specs.declared.outline.Shape.{Shape}
use Rattle.decl_parser.proofs.Outcomes.{OkHolds, ok_then, ok_at}
use Rattle.macro_decls.specs.declared.table.MacroDecl.{MacroDecl}
use Rattle.macro_decls.specs.Macros.{IsDeclReadable, declaration_named}
use Rattle.expansion_model.specs.Macros.{text_at, macro_of, has_plugin, has_role}
use Rattle.expansion_model.specs.Uses.{fault_at, of_expression, request_at, served_use, use_of_macro, use_site}
use Rattle.expansion_model.specs.Attributes.{Carrier, asks_role, attribute_by, attribute_fault, attribute_sites, macro_site, role_requests, role_sites}
use Rattle.expansion_model.specs.Buffers.{is_among, pair_of}
use Rattle.expansion_model.specs.BufferSites.{ask_if, unless_recursive, buffer_sites}
use Rattle.expansion_model.specs.Readable.{IsAskReadable, IsSiteReadable, AsksAreReadable}
use Rattle.expansion_model.specs.declared.buffer.Ancestor.{Ancestor}
use Rattle.expansion_model.specs.declared.site.Ask.{Ask}
use Rattle.expansion_model.proofs.Shapes.{shaped}
use Rattle.expansion_model.specs.Sites.{before_use, block_sites, carrier_of, item_sites, items_sites, local_by, local_sites, members_in, own_sites, use_at, sites_before, sites_behind, sites_of}
use Rattle.expansion_model.specs.declared.site.Site.{Site}
use Rattle.expansion_model.specs.declared.site.Site.TheVariants as site
use Rattle.expansion_model.specs.declared.site.SiteKind.{SiteKind}
use Rattle.expansion_model.specs.declared.site.SiteKind.TheVariants as kind
use Rattle.expansion_model.proofs.Accepted.{IsAccepted, accepted}
use Rattle.expansion_model.proofs.Heads.{IsUseReadable, heads, heads_from, heads_in}
use Rattle.expansion_model.proofs.MarkBoundaries.{each_append, each_first, each_second}
use Rattle.expansion_model.proofs.UsesReadable.{AreHeadsReadable, AreReadable, IsHeadReadable, ItemsReadable, MembersReadable, list_readable, uses_readable}

-- what a look-up finds is one of the list
found_if : {A : Type 0} (P : A → Type 0) (test : Bool) (first : A) (others : Option A) → P first → IfSome others P → IfSome (cond test (Some first) others) P
found_if P true first others holds each = holds
found_if P false first others holds each = each

found : {A : Type 0} (P : A → Type 0) (test : A → Bool) (xs : List A) → AllByRecursion P xs → IfSome (find test xs) P
found P test [] each = tt
found P test (x ∷ xs) each = found_if P (test x) x (find test xs) each.0 (found P test xs each.1)

each_flat : {X A : Type 0} (P : A → Type 0) (f : X → List A) → ((x : X) → AllByRecursion P (f x)) → (xs : List X) → AllByRecursion P (flat_map f xs)
each_flat P f each [] = tt
each_flat P f each (x ∷ xs) = each_append P (f x) (flat_map f xs) (each x) (each_flat P f each xs)

module _ (text : List ℕ) where
  abbrev AreSitesReadable : List Site → Type 0
  AreSitesReadable sites = AllByRecursion (IsSiteReadable text) sites

  site_if : (which : Bool) (one other : Site) → IsSiteReadable text one → IsSiteReadable text other → IsSiteReadable text (if which then one else other)
  site_if true one other first second = first
  site_if false one other first second = second

  sites_if : (which : Bool) (one other : List Site) → AreSitesReadable one → AreSitesReadable other → AreSitesReadable (if which then one else other)
  sites_if true one other first second = first
  sites_if false one other first second = second

  not_built_readable : (count at : ℕ) → AreSitesReadable (replicate count (site.NotBuilt at))
  not_built_readable zero at = tt
  not_built_readable (suc count) at = (tt, not_built_readable count at)

  asked_readable : (wanted : UseKind) (macro_use : MacroUse) (declared : MacroDecl) → IsUseReadable text macro_use → IsDeclReadable declared → IsSiteReadable text (request_at text wanted macro_use declared)
  asked_readable wanted macro_use declared readable names =
      record { span = readable.span; name = readable.name; module_name = names.module_name; type_name = names.type_name }

  use_readable : (plugins : List Plugin) (wanted : UseKind) (macro_use : MacroUse) (of_name : Option MacroDecl) → IsUseReadable text macro_use → IfSome of_name IsDeclReadable → IsSiteReadable text (use_of_macro text plugins wanted macro_use of_name)
  use_readable plugins wanted macro_use None readable names = tt
  use_readable plugins wanted macro_use (Some declared) readable names =
      site_if (has_role wanted.role declared) (served_use text plugins wanted macro_use declared) (fault_at macro_use.span.start kind.WrongRole (text_at text macro_use.name))
      (site_if (has_plugin declared.module_name plugins) (request_at text wanted macro_use declared) (fault_at macro_use.span.start kind.NoPlugin declared.module_name)
      (asked_readable wanted macro_use declared readable names) tt) tt

  macro_readable : (attribute : Attr) (declared : MacroDecl) (fault : Option SiteKind) → IsSiteReadable text (macro_site attribute declared fault)
  macro_readable attribute declared None = tt
  macro_readable attribute declared (Some kind) = tt

  local_readable : (attribute : Attr) (of_name : Option MacroDecl) (name : List ℕ) → AreSitesReadable (local_by attribute of_name name)
  local_readable attribute None name = tt
  local_readable attribute (Some declared) name = (tt, tt)

  module _ (macros : List MacroDecl) (plugins : List Plugin) where
    locals_readable : (locals : List Attr) → AreSitesReadable (flat_map (local_sites text macros) locals)
    locals_readable locals =
        each_flat (IsSiteReadable text) (local_sites text macros) (λ attribute. local_readable attribute (macro_of macros text attribute) (text_at text attribute.name)) locals

    requests_readable : (carrier : Carrier) (wanted : Role) (count : ℕ) (attribute : Attr) → AreSitesReadable (role_requests text macros plugins carrier wanted count attribute)
    requests_readable carrier wanted count attribute =
        sites_if (asks_role plugins carrier wanted (macro_of macros text attribute)) (replicate count (site.NotBuilt attribute.span.start)) [] (not_built_readable count attribute.span.start) tt

    role_readable : (carrier : Carrier) (wanted : Role) (count : ℕ) → AreSitesReadable (role_sites text macros plugins carrier wanted count)
    unfolding role_sites
    role_readable carrier wanted count =
        each_flat (IsSiteReadable text) (role_requests text macros plugins carrier wanted count) (requests_readable carrier wanted count) carrier.head.attrs

    behind_readable : (carrier : Carrier) → AreSitesReadable (sites_behind text macros plugins carrier)
    unfolding sites_behind
    behind_readable carrier =
        let P : Site → Type 0 = IsSiteReadable text in
        each_append P (role_sites text macros plugins carrier role.Member 1) _ (role_readable carrier role.Member 1)
        (each_append P (role_sites text macros plugins carrier role.Peer 1) _ (role_readable carrier role.Peer 1) (role_readable carrier role.Extension 1))

    module _ (names : AllByRecursion IsDeclReadable macros) where
      site_readable : (wanted : UseKind) (macro_use : MacroUse) → IsUseReadable text macro_use → IsSiteReadable text (use_site text macros plugins wanted macro_use)
      unfolding use_site
      site_readable wanted macro_use readable =
          let name = text_at text macro_use.name in
          use_readable plugins wanted macro_use (declaration_named name macros) readable (found IsDeclReadable (λ d. bytes_eq d.name name) macros names)

      arguments_readable : (uses : List MacroUse) → AreReadable text uses → AreSitesReadable (map (use_site text macros plugins of_expression) uses)
      arguments_readable [] each = tt
      arguments_readable (macro_use ∷ uses) each = (site_readable of_expression macro_use each.0, arguments_readable uses each.1)

      attribute_readable : (carrier : Carrier) (attribute : Attr) (of_name : Option MacroDecl) → AreReadable text attribute.uses → AreSitesReadable (attribute_by text macros plugins carrier attribute of_name)
      attribute_readable carrier attribute None each = arguments_readable attribute.uses each
      attribute_readable carrier attribute (Some declared) each = (macro_readable attribute declared (attribute_fault plugins carrier declared), tt)

      attributes_readable : (carrier : Carrier) (attributes : List Attr) → AreReadable text (flat_map (λ attribute. attribute.uses) attributes) → AreSitesReadable (flat_map (attribute_sites text macros plugins carrier) attributes)
      unfolding attribute_sites
      attributes_readable carrier [] each = tt
      attributes_readable carrier (attribute ∷ attributes) each =
          let others = flat_map (λ (attribute : Attr). attribute.uses) attributes in
          each_append (IsSiteReadable text) (attribute_sites text macros plugins carrier attribute) (flat_map (attribute_sites text macros plugins carrier) attributes)
          (attribute_readable carrier attribute (macro_of macros text attribute) (each_first (IsUseReadable text) attribute.uses others each))
          (attributes_readable carrier attributes (each_second (IsUseReadable text) attribute.uses others each))

      own_readable : (wanted : UseKind) (uses : List MacroUse) (locals : List Attr) → AreReadable text uses → AreSitesReadable (own_sites text macros plugins wanted uses locals)
      own_readable wanted [] locals each = locals_readable locals
      own_readable wanted (macro_use ∷ uses) locals each =
          let count = before_use macro_use locals in
          each_append (IsSiteReadable text) (flat_map (local_sites text macros) (take count locals)) _ (locals_readable (take count locals))
          (site_readable wanted macro_use each.0, own_readable wanted uses (drop count locals) each.1)

      before_readable : (file_scope : Bool) (carrier : Carrier) (members : ℕ) → IsHeadReadable text carrier.head → AreSitesReadable (sites_before text macros plugins file_scope carrier members)
      unfolding sites_before
      before_readable file_scope carrier members each =
          let P : Site → Type 0 = IsSiteReadable text in
          let inner = flat_map (λ (attribute : Attr). attribute.uses) carrier.head.attrs in
          each_append P (flat_map (attribute_sites text macros plugins carrier) carrier.head.attrs) _
          (attributes_readable carrier carrier.head.attrs (each_first (IsUseReadable text) inner carrier.head.uses each))
          (each_append P (role_sites text macros plugins carrier role.MemberAttribute members) _ (role_readable carrier role.MemberAttribute members)
          (each_append P (role_sites text macros plugins carrier role.Accessor 1) _ (role_readable carrier role.Accessor 1)
          (own_readable (use_at file_scope carrier.head.kind) carrier.head.uses carrier.head.locals (each_second (IsUseReadable text) inner carrier.head.uses each))))

      mutual
        item_readable : (file_scope : Bool) (seen : ItemSeen) → AreHeadsReadable text (heads_from seen) → AreSitesReadable (item_sites text macros plugins file_scope seen)
        item_readable file_scope (item head braces) each =
            let P : Site → Type 0 = IsSiteReadable text in
            let carrier = carrier_of head braces in
            each_append P (sites_before text macros plugins file_scope carrier (members_in braces)) _ (before_readable file_scope carrier (members_in braces) each.0)
            (each_append P (block_sites text macros plugins braces) (sites_behind text macros plugins carrier) (block_readable braces each.1) (behind_readable carrier))

        block_readable : (seen : BlockSeen) → AreHeadsReadable text (heads_in seen) → AreSitesReadable (block_sites text macros plugins seen)
        block_readable no_block each = tt
        block_readable (block span block_shape.Members items) each = items_readable false items each
        block_readable (block span block_shape.Body items) each = tt
        block_readable (block span block_shape.Accessors items) each = tt

        items_readable : (file_scope : Bool) (seen : ItemsSeen) → AreHeadsReadable text (heads seen) → AreSitesReadable (items_sites text macros plugins file_scope seen)
        items_readable file_scope none each = tt
        items_readable file_scope (cons first rest) each =
            each_append (IsSiteReadable text) (item_sites text macros plugins file_scope first) (items_sites text macros plugins file_scope rest)
            (item_readable file_scope first (each_first (IsHeadReadable text) (heads_from first) (heads rest) each))
            (items_readable file_scope rest (each_second (IsHeadReadable text) (heads_from first) (heads rest) each))

  abbrev IsOutlineReadable : OutlineSeen → Type 0
  IsOutlineReadable seen = AreHeadsReadable text (heads seen.items) × AreReadable text seen.uses

  items_readable_by : (of_place : Place) (forest : Forest) (make : List ItemSeen → OutlineSeen) → ((items : List ItemSeen) → ItemsReadable text items → IsOutlineReadable (make items))
      → MembersReadable text (items_of_list of_place text forest) → OkHolds IsOutlineReadable (and_then (items_of_list of_place text forest) (λ items. Ok (make items)))
  items_readable_by of_place forest make makes each =
      ok_then IsOutlineReadable (items_of_list of_place text forest) _ (λ items are. makes items (ok_at (ItemsReadable text) (items_of_list of_place text forest) items are each))

  shape_readable : (shape : Shape) (forest : Forest) → IsAccepted text forest → OkHolds IsOutlineReadable (by_shape text shape forest)
  shape_readable shape.File forest holds = items_readable_by place.File forest _ (λ items each. (each, tt)) (list_readable text holds.utf8 place.File forest holds.placed)
  shape_readable shape.Items forest holds = items_readable_by place.Anywhere forest _ (λ items each. (each, tt)) (list_readable text holds.utf8 place.Anywhere forest holds.placed)
  shape_readable shape.Attributes forest holds = ok_then IsOutlineReadable (attributes_from 0 (level text forest) (insides text forest)) _ (λ attrs are. (tt, tt))
  shape_readable shape.Accessors forest holds =
      ok_then IsOutlineReadable (not_an_accessor (accessors_from true 0 (accessor_marks text (level text forest) (one_group forest)))) _ (λ words are. (tt, (uses_readable text holds.utf8 forest holds.placed)))
  shape_readable shape.Expression forest holds = ok_then IsOutlineReadable (expression (level text forest)) _ (λ fine is. (tt, (uses_readable text holds.utf8 forest holds.placed)))

  seen_readable : (shape : Shape) (seen : OutlineSeen) → outline text shape ≡ Ok seen → IsOutlineReadable seen
  seen_readable shape seen is =
      let made = shaped text shape seen is in
      ok_at IsOutlineReadable (by_shape text shape made.forest) seen made.by (shape_readable shape made.forest (accepted text made.forest made.elements))

  -- a use that would expand into itself isn't asked
  ask_readable : (recursive : Bool) (ask : Ask) → IsAskReadable text ask → IsSiteReadable text (ask_if recursive ask)
  ask_readable true ask readable = tt
  ask_readable false ask readable = readable

  kept_readable : (ancestors : List Ancestor) (sites : List Site) → AreSitesReadable sites → AreSitesReadable (map (unless_recursive ancestors) sites)
  kept_readable ancestors [] each = tt
  kept_readable ancestors (site.Asks ask ∷ sites) each = (ask_readable (is_among (pair_of ask) ancestors) ask each.0, kept_readable ancestors sites each.1)
  kept_readable ancestors (site.Fault fault ∷ sites) each = (tt, kept_readable ancestors sites each.1)
  kept_readable ancestors (site.NotBuilt at ∷ sites) each = (tt, kept_readable ancestors sites each.1)
  kept_readable ancestors (site.Attribute span ∷ sites) each = (tt, kept_readable ancestors sites each.1)

outline_readable : (macros : List MacroDecl) (plugins : List Plugin) (file_scope : Bool) (seen : OutlineSeen) → IsOutline seen.text seen.shape (Ok seen) → AllByRecursion IsDeclReadable macros
    → AreSitesReadable seen.text (sites_of macros plugins file_scope seen)
unfolding sites_of
outline_readable macros plugins file_scope seen is names =
    let text = seen.text in
    let readable = seen_readable text seen.shape seen (sym is) in
    each_append (IsSiteReadable text) (items_sites text macros plugins file_scope seen.items) (own_sites text macros plugins of_expression seen.uses seen.locals)
    (items_readable text macros plugins names file_scope seen.items readable.0) (own_readable text macros plugins names of_expression seen.uses seen.locals readable.1)

pub sites_readable : AsksAreReadable
unfolding buffer_sites
sites_readable macros plugins buffer is names =
    let sites = sites_of macros plugins buffer.file_scope buffer.outline in
    All-from_recursion (IsSiteReadable buffer.outline.text) (map (unless_recursive buffer.ancestors) sites)
    (kept_readable buffer.outline.text buffer.ancestors sites (outline_readable macros plugins buffer.file_scope buffer.outline is (recursion_from_All IsDeclReadable macros names)))
