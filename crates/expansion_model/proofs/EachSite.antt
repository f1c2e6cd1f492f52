-- What holds of faults, of attributes, of what isn't built and of each use holds of all sites of an outline.
use Rattle.std.proofs.Common.{ℕ, zero, suc, List, [], ◌∷◌, map, take, drop, replicate, Option, Some, None, Bool, true, false, if◌then◌else◌}
use Rattle.std.specs.List.{AllByRecursion, flat_map}
use Rattle.swift_base.specs.declared.place.Span.{Span}
use Rattle.swift_base.specs.declared.plugins.Plugin.{Plugin}
use Rattle.swift_tree.specs.declared.item.Attr.{Attr}
use Rattle.swift_tree.specs.declared.item.BlockShape.TheVariants as block_shape
use Rattle.swift_tree.specs.declared.item.MacroUse.{MacroUse}
use Rattle.swift_tree.specs.Outlines.{ItemSeen, item, BlockSeen, no_block, block, ItemsSeen, none, cons, OutlineSeen}
use Rattle.unique_names.specs.declared.role.Role.{Role}
use Rattle.unique_names.specs.declared.role.Role.TheVariants as role
use Rattle.macro_decls.specs.declared.table.MacroDecl.{MacroDecl}
use Rattle.expansion_model.specs.Macros.{text_at, macro_of}
use Rattle.expansion_model.specs.Uses.{of_expression, use_site}
use Rattle.expansion_model.specs.Attributes.{Carrier, asks_role, attribute_by, attribute_fault, attribute_sites, macro_site, role_requests, role_sites}
use Rattle.expansion_model.specs.Sites.{before_use, block_sites, carrier_of, item_sites, items_sites, local_by, local_sites, members_in, own_sites, use_at, sites_before, sites_behind, sites_of}
use Rattle.expansion_model.specs.declared.site.Site.{Site}
use Rattle.expansion_model.specs.declared.site.Site.TheVariants as site
use Rattle.expansion_model.specs.declared.site.SiteFault.{SiteFault}
use Rattle.expansion_model.specs.declared.site.SiteKind.{SiteKind}
use Rattle.expansion_model.specs.declared.site.UseKind.{UseKind}
use Rattle.expansion_model.proofs.MarkBoundaries.{each_append}

-- what the walk over an outline has to know
pub record HoldsOfSites (P : Site → Type 0) (text : List ℕ) (macros : List MacroDecl) (plugins : List Plugin) : Type 0 where
  pub faults : (fault : SiteFault) → P (site.Fault fault)
  pub not_built : (at : ℕ) → P (site.NotBuilt at)
  pub attributes : (span : Span) → P (site.Attribute span)
  pub uses : (wanted : UseKind) (macro_use : MacroUse) → P (use_site text macros plugins wanted macro_use)

module _ (P : Site → Type 0) (text : List ℕ) (macros : List MacroDecl) (plugins : List Plugin) (holds : HoldsOfSites P text macros plugins) where
  abbrev Each : List Site → Type 0
  Each sites = AllByRecursion P sites

  each_flat : {X : Type 0} (f : X → List Site) → ((x : X) → Each (f x)) → (xs : List X) → Each (flat_map f xs)
  each_flat f each [] = tt
  each_flat f each (x ∷ xs) = each_append P (f x) (flat_map f xs) (each x) (each_flat f each xs)

  each_not_built : (count at : ℕ) → Each (replicate count (site.NotBuilt at))
  each_not_built zero at = tt
  each_not_built (suc count) at = (holds.not_built at, each_not_built count at)

  each_if : (which : Bool) (one other : List Site) → Each one → Each other → Each (if which then one else other)
  each_if true one other first second = first
  each_if false one other first second = second

  each_local : (attribute : Attr) (of_name : Option MacroDecl) (name : List ℕ) → Each (local_by attribute of_name name)
  each_local attribute None name = tt
  each_local attribute (Some declared) name = (holds.faults _, tt)

  each_locals : (locals : List Attr) → Each (flat_map (local_sites text macros) locals)
  each_locals locals = each_flat (local_sites text macros) (λ attribute. each_local attribute (macro_of macros text attribute) (text_at text attribute.name)) locals

  each_role : (carrier : Carrier) (wanted : Role) (count : ℕ) → Each (role_sites text macros plugins carrier wanted count)
  unfolding role_sites
  each_role carrier wanted count =
      each_flat (role_requests text macros plugins carrier wanted count)
      (λ attribute. each_if (asks_role plugins carrier wanted (macro_of macros text attribute)) (replicate count (site.NotBuilt attribute.span.start)) [] (each_not_built count attribute.span.start) tt) carrier.head.attrs

  each_behind : (carrier : Carrier) → Each (sites_behind text macros plugins carrier)
  unfolding sites_behind
  each_behind carrier =
      each_append P (role_sites text macros plugins carrier role.Member 1) _ (each_role carrier role.Member 1)
      (each_append P (role_sites text macros plugins carrier role.Peer 1) _ (each_role carrier role.Peer 1) (each_role carrier role.Extension 1))

  each_argument : (uses : List MacroUse) → Each (map (use_site text macros plugins of_expression) uses)
  each_argument [] = tt
  each_argument (macro_use ∷ uses) = (holds.uses of_expression macro_use, each_argument uses)

  of_macro : (attribute : Attr) (declared : MacroDecl) (fault : Option SiteKind) → P (macro_site attribute declared fault)
  of_macro attribute declared None = holds.attributes attribute.span
  of_macro attribute declared (Some kind) = holds.faults _

  each_by : (carrier : Carrier) (attribute : Attr) (of_name : Option MacroDecl) → Each (attribute_by text macros plugins carrier attribute of_name)
  each_by carrier attribute None = each_argument attribute.uses
  each_by carrier attribute (Some declared) = (of_macro attribute declared (attribute_fault plugins carrier declared), tt)

  each_attribute : (carrier : Carrier) (attribute : Attr) → Each (attribute_sites text macros plugins carrier attribute)
  unfolding attribute_sites
  each_attribute carrier attribute = each_by carrier attribute (macro_of macros text attribute)

  each_own : (wanted : UseKind) (uses : List MacroUse) (locals : List Attr) → Each (own_sites text macros plugins wanted uses locals)
  each_own wanted [] locals = each_locals locals
  each_own wanted (macro_use ∷ uses) locals =
      let count = before_use macro_use locals in
      each_append P (flat_map (local_sites text macros) (take count locals)) _ (each_locals (take count locals)) (holds.uses wanted macro_use, each_own wanted uses (drop count locals))

  each_before : (file_scope : Bool) (carrier : Carrier) (members : ℕ) → Each (sites_before text macros plugins file_scope carrier members)
  unfolding sites_before
  each_before file_scope carrier members =
      each_append P (flat_map (attribute_sites text macros plugins carrier) carrier.head.attrs) _ (each_flat (attribute_sites text macros plugins carrier) (each_attribute carrier) carrier.head.attrs)
      (each_append P (role_sites text macros plugins carrier role.MemberAttribute members) _ (each_role carrier role.MemberAttribute members)
      (each_append P (role_sites text macros plugins carrier role.Accessor 1) _ (each_role carrier role.Accessor 1)
      (each_own (use_at file_scope carrier.head.kind) carrier.head.uses carrier.head.locals)))

  mutual
    each_item : (file_scope : Bool) (seen : ItemSeen) → Each (item_sites text macros plugins file_scope seen)
    each_item file_scope (item head braces) =
        let carrier = carrier_of head braces in
        each_append P (sites_before text macros plugins file_scope carrier (members_in braces)) _ (each_before file_scope carrier (members_in braces))
        (each_append P (block_sites text macros plugins braces) (sites_behind text macros plugins carrier) (each_in_block braces) (each_behind carrier))

    each_in_block : (seen : BlockSeen) → Each (block_sites text macros plugins seen)
    each_in_block no_block = tt
    each_in_block (block span block_shape.Members items) = each_of_items false items
    each_in_block (block span block_shape.Body items) = tt
    each_in_block (block span block_shape.Accessors items) = tt

    each_of_items : (file_scope : Bool) (seen : ItemsSeen) → Each (items_sites text macros plugins file_scope seen)
    each_of_items file_scope none = tt
    each_of_items file_scope (cons first rest) =
        each_append P (item_sites text macros plugins file_scope first) (items_sites text macros plugins file_scope rest) (each_item file_scope first) (each_of_items file_scope rest)

pub each_site : (P : Site → Type 0) (macros : List MacroDecl) (plugins : List Plugin) (file_scope : Bool) (seen : OutlineSeen) → HoldsOfSites P seen.text macros plugins
    → AllByRecursion P (sites_of macros plugins file_scope seen)
unfolding sites_of
each_site P macros plugins file_scope seen holds =
    each_append P (items_sites seen.text macros plugins file_scope seen.items) (own_sites seen.text macros plugins of_expression seen.uses seen.locals)
    (each_of_items P seen.text macros plugins holds file_scope seen.items) (each_own P seen.text macros plugins holds of_expression seen.uses seen.locals)
