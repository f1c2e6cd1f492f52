-- What is replaced at the sites of an accepted source lies in its text, and apart.
use Rattle.std.proofs.Common.{◌≡◌, ◌∙◌, ap, refl, sym, subst, arith, ℕ, zero, suc, ◌+◌, ◌-◌, ◌<◌, ◌≤◌, ◌⊎◌, inl, inr, List, [], ◌∷◌, ◌++◌, append-nil, length, map, take, drop, replicate, Option, Some, None, Ok, Bool, true, false, if◌then◌else◌}
use Rattle.std.specs.List.{All, AllByRecursion, flat_map}
use Rattle.std.proofs.lemmas.Grind.{flat_map-append}
use Rattle.std.proofs.lemmas.List.Elements.{All-from_recursion, recursion_from_All}
use Rattle.swift_base.specs.declared.place.Span.{Span}
use Rattle.swift_base.specs.declared.plugins.Plugin.{Plugin}
use Rattle.swift_tree.specs.declared.item.Attr.{Attr}
use Rattle.swift_tree.specs.declared.item.BlockShape.TheVariants as block_shape
use Rattle.swift_tree.specs.declared.item.MacroUse.{MacroUse}
use Rattle.swift_tree.specs.Outlines.{Head, ItemSeen, item, BlockSeen, no_block, block, ItemsSeen, none, cons, OutlineSeen}
use Rattle.decl_parser.specs.Outline.{IsOutline}
use Rattle.expansion_model.specs.Buffers.{is_among, pair_of}
use Rattle.expansion_model.specs.BufferSites.{ask_if, unless_recursive, buffer_sites}
use Rattle.expansion_model.specs.declared.buffer.Ancestor.{Ancestor}
use Rattle.expansion_model.specs.declared.site.Ask.{Ask}
use Rattle.expansion_model.proofs.Shapes.{one_kind}
use Rattle.unique_names.specs.declared.role.Role.{Role}
use Rattle.unique_names.specs.declared.role.Role.TheVariants as role
use Rattle.expansion_model.specs.declared.site.UseKind.{UseKind}
use Rattle.decl_parser.specs.Nesting.{AllApart, Apart, AttrLies, AttrsLie, Between, BlockLies, HeadLies, ItemLies, ItemsLie, UsesLie, after_of}
use Rattle.decl_parser.proofs.LevelsInOrder.{spans_in_order}
use Rattle.macro_decls.specs.declared.table.MacroDecl.{MacroDecl}
use Rattle.macro_decls.specs.Macros.{declaration_named}
use Rattle.expansion_model.specs.Macros.{text_at, macro_of, has_plugin, has_role}
use Rattle.expansion_model.specs.Uses.{fault_at, of_expression, request_at, served_use, use_of_macro, use_site}
use Rattle.expansion_model.specs.Attributes.{Carrier, asks_role, attribute_by, attribute_fault, attribute_sites, macro_site, role_requests, role_sites}
use Rattle.expansion_model.specs.Sites.{before_use, block_sites, carrier_of, item_sites, items_sites, local_by, local_sites, members_in, own_sites, use_at, sites_before, sites_behind, sites_of}
use Rattle.expansion_model.specs.Spans.{AreApart, SitesLieApart, span_of, spans_of}
use Rattle.expansion_model.specs.declared.site.Site.{Site}
use Rattle.expansion_model.specs.declared.site.Site.TheVariants as site
use Rattle.expansion_model.specs.declared.site.SiteKind.{SiteKind}
use Rattle.expansion_model.specs.declared.site.SiteKind.TheVariants as kind
use Rattle.expansion_model.proofs.MarkBoundaries.{each_append}

each_weaker : {A : Type 0} (P Q : A → Type 0) → ((x : A) → P x → Q x) → (xs : List A) → AllByRecursion P xs → AllByRecursion Q xs
each_weaker P Q weaker [] each = tt
each_weaker P Q weaker (x ∷ xs) each = (weaker x each.0, each_weaker P Q weaker xs each.1)

-- each of the first is apart from each of the others
abbrev Across : List Span → List Span → Type 0
Across spans others = AllByRecursion (λ span. AllByRecursion (Apart span) others) spans

-- pairwise apart
abbrev Pairwise : List Span → Type 0
Pairwise [] = Unit {0}
Pairwise (span ∷ spans) = AllByRecursion (Apart span) spans × Pairwise spans

-- between the two places, and apart
abbrev Lie : ℕ → ℕ → List Span → Type 0
Lie from to spans = AllByRecursion (Between from to) spans × Pairwise spans

pairwise_append : (spans others : List Span) → Across spans others → Pairwise spans → Pairwise others → Pairwise (spans ++ others)
pairwise_append [] others across first second = second
pairwise_append (span ∷ spans) others across first second =
    (each_append (Apart span) spans others first.0 across.0, pairwise_append spans others across.1 first.1 second)

lie_append : (from to : ℕ) (spans others : List Span) → Across spans others → Lie from to spans → Lie from to others → Lie from to (spans ++ others)
lie_append from to spans others across first second =
    (each_append (Between from to) spans others first.0 second.0, pairwise_append spans others across first.1 second.1)

between_wider : (before from to behind : ℕ) → before ≤ from → to ≤ behind → (span : Span) → Between from to span → Between before behind span
between_wider before from to behind less more span between =
    record { begins = omega (arith, between.begins, less); some = between.some; ends = omega (arith, between.ends, more) }

lie_wider : (before from to behind : ℕ) (spans : List Span) → before ≤ from → to ≤ behind → Lie from to spans → Lie before behind spans
lie_wider before from to behind spans less more lies =
    (each_weaker (Between from to) (Between before behind) (between_wider before from to behind less more) spans lies.0, lies.1)

-- what ends before a place is apart from what begins behind it
across_place : (from middle next to : ℕ) (spans others : List Span) → middle ≤ next → AllByRecursion (Between from middle) spans → AllByRecursion (Between next to) others → Across spans others
across_place from middle next to spans others less first second =
    each_weaker (Between from middle) (λ span. AllByRecursion (Apart span) others)
    (λ span ends. each_weaker (Between next to) (Apart span) (λ other begins. inl (omega (arith, ends.ends, begins.begins, less))) others second) spans first

lie_join : (from middle next to : ℕ) (spans others : List Span) → from ≤ next → middle ≤ next → middle ≤ to → Lie from middle spans → Lie next to others → Lie from to (spans ++ others)
lie_join from middle next to spans others begins less ends first second =
    lie_append from to spans others (across_place from middle next to spans others less first.0 second.0)
    (lie_wider from from middle to spans (omega arith) ends first) (lie_wider from next to to others begins (omega arith) second)

-- the same of what is replaced at sites
abbrev SitesLie : ℕ → ℕ → List Site → Type 0
SitesLie from to sites = Lie from to (spans_of sites)

spans_append : (sites others : List Site) → spans_of (sites ++ others) ≡ spans_of sites ++ spans_of others
spans_append sites others = flat_map-append span_of sites others

sites_join : (from middle next to : ℕ) (sites others : List Site) → from ≤ next → middle ≤ next → middle ≤ to → SitesLie from middle sites → SitesLie next to others → SitesLie from to (sites ++ others)
sites_join from middle next to sites others begins less ends first second =
    subst (Lie from to) (sym (spans_append sites others)) (lie_join from middle next to (spans_of sites) (spans_of others) begins less ends first second)

sites_append : (from to : ℕ) (sites others : List Site) → Across (spans_of sites) (spans_of others) → SitesLie from to sites → SitesLie from to others → SitesLie from to (sites ++ others)
sites_append from to sites others across first second =
    subst (Lie from to) (sym (spans_append sites others)) (lie_append from to (spans_of sites) (spans_of others) across first second)

-- nothing is replaced
abbrev IsSilent : List Site → Type 0
IsSilent sites = spans_of sites ≡ []

past_silent : (sites others : List Site) → IsSilent sites → spans_of (sites ++ others) ≡ spans_of others
past_silent sites others none_ = spans_append sites others ∙ ap (λ (spans : List Span). spans ++ spans_of others) none_

silent_append : (sites others : List Site) → IsSilent sites → IsSilent others → IsSilent (sites ++ others)
silent_append sites others first second = past_silent sites others first ∙ second

silent_flat : {X : Type 0} (f : X → List Site) → ((x : X) → IsSilent (f x)) → (xs : List X) → IsSilent (flat_map f xs)
silent_flat f each [] = refl
silent_flat f each (x ∷ xs) = silent_append (f x) (flat_map f xs) (each x) (silent_flat f each xs)

silent_if : (which : Bool) (sites others : List Site) → IsSilent sites → IsSilent others → IsSilent (if which then sites else others)
silent_if true sites others first second = first
silent_if false sites others first second = second

silent_not_built : (count at : ℕ) → IsSilent (replicate count (site.NotBuilt at))
silent_not_built zero at = refl
silent_not_built (suc count) at = silent_not_built count at

silent_local : (attribute : Attr) (of_name : Option MacroDecl) (name : List ℕ) → IsSilent (local_by attribute of_name name)
silent_local attribute None name = refl
silent_local attribute (Some declared) name = refl

-- a part is replaced, or nothing
abbrev Replaces : Span → Site → Type 0
Replaces span site = (span_of site ≡ []) ⊎ (span_of site ≡ span ∷ [])

replaces_if : (span : Span) (which : Bool) (one other : Site) → Replaces span one → Replaces span other → Replaces span (if which then one else other)
replaces_if span true one other first second = first
replaces_if span false one other first second = second

replaces_asked : (text : List ℕ) (wanted : UseKind) (macro_use : MacroUse) (declared : MacroDecl) → Replaces macro_use.span (request_at text wanted macro_use declared)
replaces_asked text wanted macro_use declared = inr refl

replaces_by : (text : List ℕ) (plugins : List Plugin) (wanted : UseKind) (macro_use : MacroUse) (of_name : Option MacroDecl) → Replaces macro_use.span (use_of_macro text plugins wanted macro_use of_name)
replaces_by text plugins wanted macro_use None = inl refl
replaces_by text plugins wanted macro_use (Some declared) =
    replaces_if macro_use.span (has_role wanted.role declared) (served_use text plugins wanted macro_use declared) (fault_at macro_use.span.start kind.WrongRole (text_at text macro_use.name))
    (replaces_if macro_use.span (has_plugin declared.module_name plugins) (request_at text wanted macro_use declared) (fault_at macro_use.span.start kind.NoPlugin declared.module_name)
    (replaces_asked text wanted macro_use declared) (inl refl)) (inl refl)

replaces_attribute : (attribute : Attr) (declared : MacroDecl) (fault : Option SiteKind) → Replaces attribute.span (macro_site attribute declared fault)
replaces_attribute attribute declared None = inr refl
replaces_attribute attribute declared (Some kind) = inl refl

-- one more part, in front of others
holds_first : (P : Span → Type 0) (span : Span) (site : Site) (others : List Span) → Replaces span site → P span → AllByRecursion P others → AllByRecursion P (span_of site ++ others)
holds_first P span site others replaces holds each =
    elim replaces [
      | inl is ↦ subst (λ (spans : List Span). AllByRecursion P (spans ++ others)) (sym is) each
      | inr is ↦ subst (λ (spans : List Span). AllByRecursion P (spans ++ others)) (sym is) (holds, each)
    ]

lies_one : (from to : ℕ) (span : Span) (site : Site) → Replaces span site → Between from to span → Lie from to (span_of site)
lies_one from to span site replaces between =
    elim replaces [
      | inl is ↦ subst (Lie from to) (sym is) (tt, tt)
      | inr is ↦ subst (Lie from to) (sym is) ((between, tt), (tt, tt))
    ]

lies_first : (from to : ℕ) (span : Span) (site : Site) (others : List Span) → Replaces span site → Between from to span → Lie span.end to others → Lie from to (span_of site ++ others)
lies_first from to span site others replaces between lies =
    lie_join from span.end span.end to (span_of site) others (omega (arith, between.begins, between.some)) (omega arith) between.ends
    (lies_one from span.end span site replaces (record { begins = between.begins; some = between.some; ends = omega arith })) lies

module _ (text : List ℕ) (macros : List MacroDecl) (plugins : List Plugin) where
  replaces_use : (wanted : UseKind) (macro_use : MacroUse) → Replaces macro_use.span (use_site text macros plugins wanted macro_use)
  unfolding use_site
  replaces_use wanted macro_use = replaces_by text plugins wanted macro_use (declaration_named (text_at text macro_use.name) macros)

  silent_locals : (locals : List Attr) → IsSilent (flat_map (local_sites text macros) locals)
  silent_locals locals =
      silent_flat (local_sites text macros) (λ attribute. silent_local attribute (macro_of macros text attribute) (text_at text attribute.name)) locals

  silent_role : (carrier : Carrier) (wanted : Role) (count : ℕ) → IsSilent (role_sites text macros plugins carrier wanted count)
  unfolding role_sites
  silent_role carrier wanted count =
      silent_flat (role_requests text macros plugins carrier wanted count)
      (λ attribute. silent_if (asks_role plugins carrier wanted (macro_of macros text attribute)) (replicate count (site.NotBuilt attribute.span.start)) [] (silent_not_built count attribute.span.start) refl) carrier.head.attrs

  silent_behind : (carrier : Carrier) → IsSilent (sites_behind text macros plugins carrier)
  unfolding sites_behind
  silent_behind carrier =
      silent_append (role_sites text macros plugins carrier role.Member 1) _ (silent_role carrier role.Member 1)
      (silent_append (role_sites text macros plugins carrier role.Peer 1) _ (silent_role carrier role.Peer 1) (silent_role carrier role.Extension 1))

  -- the uses in an attribute's arguments
  abbrev inner_sites : List MacroUse → List Site
  inner_sites uses = map (use_site text macros plugins of_expression) uses

  inner_each : (P : Span → Type 0) (uses : List MacroUse) → AllByRecursion (λ macro_use. P macro_use.span) uses → AllByRecursion P (spans_of (inner_sites uses))
  inner_each P [] each = tt
  inner_each P (macro_use ∷ uses) each =
      holds_first P macro_use.span (use_site text macros plugins of_expression macro_use) (spans_of (inner_sites uses)) (replaces_use of_expression macro_use) each.0 (inner_each P uses each.1)

  inner_lie : (from to : ℕ) (uses : List MacroUse) → UsesLie from uses to → SitesLie from to (inner_sites uses)
  inner_lie from to [] lies = (tt, tt)
  inner_lie from to (macro_use ∷ uses) lies =
      lies_first from to macro_use.span (use_site text macros plugins of_expression macro_use) (spans_of (inner_sites uses)) (replaces_use of_expression macro_use) lies.0.between
      (inner_lie macro_use.span.end to uses lies.1)

  -- a declaration's own uses; local attributes are kept
  own_spans : (wanted : UseKind) (macro_use : MacroUse) (uses : List MacroUse) (locals : List Attr)
      → spans_of (own_sites text macros plugins wanted (macro_use ∷ uses) locals)
      ≡ span_of (use_site text macros plugins wanted macro_use) ++ spans_of (own_sites text macros plugins wanted uses (drop (before_use macro_use locals) locals))
  own_spans wanted macro_use uses locals =
      past_silent (flat_map (local_sites text macros) (take (before_use macro_use locals) locals)) _ (silent_locals (take (before_use macro_use locals) locals))

  own_each : (P : Span → Type 0) (wanted : UseKind) (uses : List MacroUse) (locals : List Attr) → AllByRecursion (λ macro_use. P macro_use.span) uses → AllByRecursion P (spans_of (own_sites text macros plugins wanted uses locals))
  own_each P wanted [] locals each = subst (AllByRecursion P) (sym (silent_locals locals)) tt
  own_each P wanted (macro_use ∷ uses) locals each =
      let behind = drop (before_use macro_use locals) locals in
      subst (AllByRecursion P) (sym (own_spans wanted macro_use uses locals))
      (holds_first P macro_use.span (use_site text macros plugins wanted macro_use) (spans_of (own_sites text macros plugins wanted uses behind)) (replaces_use wanted macro_use) each.0 (own_each P wanted uses behind each.1))

  own_lie : (from to : ℕ) (wanted : UseKind) (uses : List MacroUse) (locals : List Attr) → UsesLie from uses to → SitesLie from to (own_sites text macros plugins wanted uses locals)
  own_lie from to wanted [] locals lies = subst (Lie from to) (sym (silent_locals locals)) (tt, tt)
  own_lie from to wanted (macro_use ∷ uses) locals lies =
      let behind = drop (before_use macro_use locals) locals in
      subst (Lie from to) (sym (own_spans wanted macro_use uses locals))
      (lies_first from to macro_use.span (use_site text macros plugins wanted macro_use) (spans_of (own_sites text macros plugins wanted uses behind)) (replaces_use wanted macro_use) lies.0.between
      (own_lie macro_use.span.end to wanted uses behind lies.1))

  -- what is replaced at an attribute lies in it
  attribute_lies : (carrier : Carrier) (attribute : Attr) (of_name : Option MacroDecl) → attribute.span.start < attribute.span.end → UsesLie attribute.span.start attribute.uses attribute.span.end
      → SitesLie attribute.span.start attribute.span.end (attribute_by text macros plugins carrier attribute of_name)
  attribute_lies carrier attribute None some lies = inner_lie attribute.span.start attribute.span.end attribute.uses lies
  attribute_lies carrier attribute (Some declared) some lies =
      lies_first attribute.span.start attribute.span.end attribute.span (macro_site attribute declared (attribute_fault plugins carrier declared)) [] (replaces_attribute attribute declared (attribute_fault plugins carrier declared))
      (record { begins = omega arith; some = some; ends = omega arith }) (tt, tt)

  module _ (carrier : Carrier) where
    abbrev at_attributes : List Attr → List Site
    at_attributes attributes = flat_map (attribute_sites text macros plugins carrier) attributes

    one_lies : (from to : ℕ) (attribute : Attr) → AttrLies from to attribute → SitesLie attribute.span.start attribute.span.end (attribute_sites text macros plugins carrier attribute)
    unfolding attribute_sites
    one_lies from to attribute lies = attribute_lies carrier attribute (macro_of macros text attribute) lies.between.some lies.uses

    attributes_lie : (from to : ℕ) (attributes : List Attr) → AttrsLie from attributes to → SitesLie from to (at_attributes attributes)
    attributes_lie from to [] lies = (tt, tt)
    attributes_lie from to (attribute ∷ attributes) lies =
        let between = lies.0.between in
        let one = attribute_sites text macros plugins carrier attribute in
        sites_join from attribute.span.end attribute.span.end to one (at_attributes attributes) (omega (arith, between.begins, between.some)) (omega arith) between.ends
        (lie_wider from attribute.span.start attribute.span.end attribute.span.end (spans_of one) between.begins (omega arith) (one_lies from to attribute lies.0))
        (attributes_lie attribute.span.end to attributes lies.1)

    -- what is apart from an attribute is so from all that lies in it
    apart_within : (whole span other : Span) → Between whole.start whole.end span → Apart whole other → Apart span other
    apart_within whole span other within apart =
        elim apart [
          | inl before ↦ inl (omega (arith, within.ends, before))
          | inr behind ↦ inr (omega (arith, within.begins, behind))
        ]

    across_attribute : (whole : Span) (spans others : List Span) → AllByRecursion (Between whole.start whole.end) spans → AllByRecursion (Apart whole) others → Across spans others
    across_attribute whole spans others within apart =
        each_weaker (Between whole.start whole.end) (λ span. AllByRecursion (Apart span) others)
        (λ span lies. each_weaker (Apart whole) (Apart span) (λ other beside. apart_within whole span other lies beside) others apart) spans within

    across_own : (from to : ℕ) (wanted : UseKind) (attributes : List Attr) (uses : List MacroUse) (locals : List Attr) → AttrsLie from attributes to
        → AllByRecursion (λ (attribute : Attr). All (λ (macro_use : MacroUse). Apart attribute.span macro_use.span) uses) attributes → Across (spans_of (at_attributes attributes)) (spans_of (own_sites text macros plugins wanted uses locals))
    across_own from to wanted [] uses locals lies apart = tt
    across_own from to wanted (attribute ∷ attributes) uses locals lies apart =
        let own = spans_of (own_sites text macros plugins wanted uses locals) in
        let P : Span → Type 0 = λ span. AllByRecursion (Apart span) own in
        let one = attribute_sites text macros plugins carrier attribute in
        subst (AllByRecursion P) (sym (spans_append one (at_attributes attributes)))
        (each_append P (spans_of one) (spans_of (at_attributes attributes))
        (across_attribute attribute.span (spans_of one) own (one_lies from to attribute lies.0).0
        (own_each (Apart attribute.span) wanted uses locals (recursion_from_All (λ (macro_use : MacroUse). Apart attribute.span macro_use.span) uses apart.0)))
        (across_own attribute.span.end to wanted attributes uses locals lies.1 apart.1))

  -- what stands before the members
  before_lie : (from to : ℕ) (file_scope : Bool) (carrier : Carrier) (members : ℕ) → AttrsLie from carrier.head.attrs to → UsesLie from carrier.head.uses to → AllApart carrier.head.attrs carrier.head.uses → SitesLie from to (sites_before text macros plugins file_scope carrier members)
  unfolding sites_before
  before_lie from to file_scope carrier members attributes uses apart =
      let head = carrier.head in
      let own = own_sites text macros plugins (use_at file_scope head.kind) head.uses head.locals in
      let accessor = role_sites text macros plugins carrier role.Accessor 1 in
      let given = role_sites text macros plugins carrier role.MemberAttribute members in
      let same : spans_of (given ++ (accessor ++ own)) ≡ spans_of own =
      past_silent given (accessor ++ own) (silent_role carrier role.MemberAttribute members) ∙ past_silent accessor own (silent_role carrier role.Accessor 1) in
      let across = across_own carrier from to (use_at file_scope head.kind) head.attrs head.uses head.locals attributes (recursion_from_All (λ (attribute : Attr). All (λ (macro_use : MacroUse). Apart attribute.span macro_use.span) head.uses) head.attrs apart) in
      sites_append from to (at_attributes carrier head.attrs) (given ++ (accessor ++ own)) (subst (Across (spans_of (at_attributes carrier head.attrs))) (sym same) across)
      (attributes_lie carrier from to head.attrs attributes) (subst (Lie from to) (sym same) (own_lie from to (use_at file_scope head.kind) head.uses head.locals uses))

  -- with nothing behind
  closed : (from to : ℕ) (sites inner : List Site) (carrier : Carrier) → SitesLie from to (sites ++ inner) → SitesLie from to (sites ++ (inner ++ sites_behind text macros plugins carrier))
  closed from to sites inner carrier lies =
      let behind = sites_behind text macros plugins carrier in
      let same : spans_of (sites ++ (inner ++ behind)) ≡ spans_of (sites ++ inner) =
      spans_append sites (inner ++ behind) ∙ ap (λ (spans : List Span). spans_of sites ++ spans) (spans_append inner behind ∙ ap (λ (spans : List Span). spans_of inner ++ spans) (silent_behind carrier) ∙ append-nil (spans_of inner)) ∙ sym (spans_append sites inner) in
      subst (Lie from to) (sym same) lies

  -- a declaration without members
  alone : (from to : ℕ) (file_scope : Bool) (head : Head) (braces : BlockSeen) → HeadLies from to head → SitesLie head.span.start head.span.end (sites_before text macros plugins file_scope (carrier_of head braces) (members_in braces) ++ [])
  alone from to file_scope head braces lies =
      subst (SitesLie head.span.start head.span.end) (sym (append-nil (sites_before text macros plugins file_scope (carrier_of head braces) (members_in braces))))
      (before_lie head.span.start head.span.end file_scope (carrier_of head braces) (members_in braces) lies.attrs lies.uses lies.apart)

  mutual
    item_lies : (from to : ℕ) (file_scope : Bool) (seen : ItemSeen) → ItemLies from seen to → (from ≤ after_of seen) × (after_of seen ≤ to) × SitesLie from (after_of seen) (item_sites text macros plugins file_scope seen)
    item_lies from to file_scope (item head braces) lies =
        let own = lies.0 in
        let carrier = carrier_of head braces in
        let fore = sites_before text macros plugins file_scope carrier (members_in braces) in
        let inner = block_sites text macros plugins braces in (
          omega (arith, own.begins, own.some, own.behind),
          own.ends,
          lie_wider from head.span.start head.span.end head.after (spans_of (fore ++ (inner ++ sites_behind text macros plugins carrier))) own.begins own.behind
              (closed head.span.start head.span.end fore inner carrier (block_lies from to file_scope head braces own lies.1)),
        )

    block_lies : (from to : ℕ) (file_scope : Bool) (head : Head) (braces : BlockSeen) → HeadLies from to head → BlockLies head.span head.attrs head.uses braces
        → SitesLie head.span.start head.span.end (sites_before text macros plugins file_scope (carrier_of head braces) (members_in braces) ++ block_sites text macros plugins braces)
    block_lies from to file_scope head no_block own lies = alone from to file_scope head no_block own
    block_lies from to file_scope head (block span block_shape.Members items) own lies =
        let braces : BlockSeen = block span block_shape.Members items in
        let fore = sites_before text macros plugins file_scope (carrier_of head braces) (members_in braces) in
        let members = items_sites text macros plugins false items in
        let between = lies.0 in
        sites_join head.span.start span.start (span.start + 1) head.span.end fore members (omega (arith, between.begins)) (omega arith) (omega (arith, between.some, between.ends))
        (before_lie head.span.start span.start file_scope (carrier_of head braces) (members_in braces) lies.1 lies.2 own.apart)
        (lie_wider (span.start + 1) (span.start + 1) (span.end - 1) head.span.end (spans_of members) (omega arith) (omega (arith, between.some, between.ends)) (items_lie (span.start + 1) (span.end - 1) false items lies.3))
    block_lies from to file_scope head (block span block_shape.Body items) own lies = alone from to file_scope head (block span block_shape.Body items) own
    block_lies from to file_scope head (block span block_shape.Accessors items) own lies = alone from to file_scope head (block span block_shape.Accessors items) own

    items_lie : (from to : ℕ) (file_scope : Bool) (seen : ItemsSeen) → ItemsLie from seen to → SitesLie from to (items_sites text macros plugins file_scope seen)
    items_lie from to file_scope none lies = (tt, tt)
    items_lie from to file_scope (cons first rest) lies =
        let one = item_lies from to file_scope first lies.0 in
        let after = after_of first in
        sites_join from after after to (item_sites text macros plugins file_scope first) (items_sites text macros plugins file_scope rest) one.0 (omega arith) one.1 one.2 (items_lie after to file_scope rest lies.1)

are_apart : (spans : List Span) → Pairwise spans → AreApart spans
are_apart [] apart = tt
are_apart (span ∷ spans) apart = (All-from_recursion (Apart span) spans apart.0, are_apart spans apart.1)

-- with no uses of its own
no_own_uses : (macros : List MacroDecl) (plugins : List Plugin) (from to : ℕ) (text : List ℕ) (items : List Site) (locals : List Attr) → SitesLie from to items
    → SitesLie from to (items ++ own_sites text macros plugins of_expression [] locals)
no_own_uses macros plugins from to text items locals lies =
    let own = own_sites text macros plugins of_expression [] locals in
    let same : spans_of (items ++ own) ≡ spans_of items = spans_append items own ∙ ap (λ (spans : List Span). spans_of items ++ spans) (silent_locals text macros plugins locals) ∙ append-nil (spans_of items) in
    subst (Lie from to) (sym same) lies

-- a file's declarations or an expression's uses: an outline doesn't have both
outline_lies : (macros : List MacroDecl) (plugins : List Plugin) (file_scope : Bool) (seen : OutlineSeen) → IsOutline seen.text seen.shape (Ok seen)
    → SitesLie 0 (length seen.text) (sites_of macros plugins file_scope seen)
unfolding sites_of
outline_lies macros plugins file_scope seen is =
    let text = seen.text in
    let size = length text in
    let items = items_sites text macros plugins file_scope seen.items in
    let lies = spans_in_order text seen.shape seen is in
    elim (one_kind text seen.shape seen (sym is)) [
      | inl no_items ↦
          subst (λ (i : ItemsSeen). SitesLie 0 size (items_sites text macros plugins file_scope i ++ own_sites text macros plugins of_expression seen.uses seen.locals)) (sym no_items)
          (own_lie text macros plugins 0 size of_expression seen.uses seen.locals lies.uses)
      | inr no_uses ↦
          subst (λ (u : List MacroUse). SitesLie 0 size (items ++ own_sites text macros plugins of_expression u seen.locals)) (sym no_uses)
          (no_own_uses macros plugins 0 size text items seen.locals (items_lie text macros plugins 0 size file_scope seen.items lies.items))
    ]

-- a use that would expand into itself isn't replaced, and all else as before
each_ask : (P : Span → Type 0) (recursive : Bool) (ask : Ask) (before after : List Span) → (AllByRecursion P before → AllByRecursion P after)
    → AllByRecursion P (ask.macro_use.span ∷ before) → AllByRecursion P (span_of (ask_if recursive ask) ++ after)
each_ask P true ask before after others each = others each.1
each_ask P false ask before after others each = (each.0, others each.1)

each_kept : (P : Span → Type 0) (ancestors : List Ancestor) (sites : List Site) → AllByRecursion P (spans_of sites) → AllByRecursion P (spans_of (map (unless_recursive ancestors) sites))
each_kept P ancestors [] each = tt
each_kept P ancestors (site.Asks ask ∷ sites) each =
    each_ask P (is_among (pair_of ask) ancestors) ask (spans_of sites) (spans_of (map (unless_recursive ancestors) sites)) (each_kept P ancestors sites) each
each_kept P ancestors (site.Fault fault ∷ sites) each = each_kept P ancestors sites each
each_kept P ancestors (site.NotBuilt at ∷ sites) each = each_kept P ancestors sites each
each_kept P ancestors (site.Attribute span ∷ sites) each = (each.0, each_kept P ancestors sites each.1)

pairwise_ask : (recursive : Bool) (ask : Ask) (after : List Span) → AllByRecursion (Apart ask.macro_use.span) after → Pairwise after → Pairwise (span_of (ask_if recursive ask) ++ after)
pairwise_ask true ask after apart others = others
pairwise_ask false ask after apart others = (apart, others)

pairwise_kept : (ancestors : List Ancestor) (sites : List Site) → Pairwise (spans_of sites) → Pairwise (spans_of (map (unless_recursive ancestors) sites))
pairwise_kept ancestors [] apart = tt
pairwise_kept ancestors (site.Asks ask ∷ sites) apart =
    pairwise_ask (is_among (pair_of ask) ancestors) ask (spans_of (map (unless_recursive ancestors) sites)) (each_kept (Apart ask.macro_use.span) ancestors sites apart.0) (pairwise_kept ancestors sites apart.1)
pairwise_kept ancestors (site.Fault fault ∷ sites) apart = pairwise_kept ancestors sites apart
pairwise_kept ancestors (site.NotBuilt at ∷ sites) apart = pairwise_kept ancestors sites apart
pairwise_kept ancestors (site.Attribute span ∷ sites) apart = (each_kept (Apart span) ancestors sites apart.0, pairwise_kept ancestors sites apart.1)

pub sites_apart : SitesLieApart
unfolding buffer_sites
sites_apart macros plugins buffer is =
    let size = length buffer.outline.text in
    let sites = sites_of macros plugins buffer.file_scope buffer.outline in
    let spans = spans_of (map (unless_recursive buffer.ancestors) sites) in
    let lies = outline_lies macros plugins buffer.file_scope buffer.outline is in
    record {
      each = All-from_recursion (Between 0 size) spans (each_kept (Between 0 size) buffer.ancestors sites lies.0);
      apart = are_apart spans (pairwise_kept buffer.ancestors sites lies.1);
    }
