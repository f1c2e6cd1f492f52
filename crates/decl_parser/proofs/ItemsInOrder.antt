-- Declarations, one behind the other.
use Rattle.std.proofs.Common.{◌≡◌, refl, sym, ap, subst, arith, ◌∙◌, ℕ, zero, suc, ◌+◌, ◌-◌, ◌<◌, ◌≤◌, ◌==◌, List, [], ◌∷◌, ◌++◌, length, take, drop, Option, Some, None, Ok, Bool, true, false, if◌then◌else◌, ◌||◌}
use Rattle.std.proofs.lemmas.List.{drop-drop, drop-take, length-drop, length-take}
use Rattle.swift_base.specs.declared.place.Span.{Span}
use Rattle.swift_tree.specs.declared.item.BlockShape.{BlockShape}
use Rattle.swift_tree.specs.declared.item.BlockShape.TheVariants as shape
use Rattle.swift_tree.specs.declared.item.MacroUse.{MacroUse}
use Rattle.element_marks.specs.Answers.{and_then}
use Rattle.std.specs.List.{list_any}
use Rattle.std.proofs.Math.Seq.{drop-nil}
use Rattle.std.proofs.lemmas.Bool.{eqb-false, true_from_ne_false}
use Rattle.swift_tree.specs.declared.item.Kind.{Kind}
use Rattle.swift_tree.specs.Outlines.{ItemSeen, items_from}
use Rattle.element_marks.specs.declared.mark.Mark.{Mark}
use Rattle.element_marks.specs.Sorts.{is_semicolon, is_braces}
use Rattle.element_marks.specs.Spans.{span_of, end_of}
use Rattle.element_marks.specs.Heads.{first_is}
use Rattle.element_marks.specs.Runs.{before}
use Rattle.decl_parser.specs.declared.place.Place.{Place}
use Rattle.decl_parser.specs.declared.inside.Inside.{Inside}
use Rattle.decl_parser.specs.declared.inside.BlockAt.{BlockAt}
use Rattle.decl_parser.specs.declared.parts.Parts.{Parts}
use Rattle.decl_parser.specs.Held.{Held, first_held}
use Rattle.decl_parser.specs.Insides.{nothing_inside, first_inside}
use Rattle.decl_parser.specs.Attributes.{span_from}
use Rattle.decl_parser.specs.Found.{Found, found_from}
use Rattle.decl_parser.specs.Parts.{parts, has_members}
use Rattle.decl_parser.specs.Places.{has_place}
use Rattle.decl_parser.specs.Cut.{after, all_ends, assembled, beginning, block_of, count_of, cut_from, head_of, item_at, items_in, kind_of, members_at, members_place, one_item, whole_item, without, placed, starter_of, start_of, use_fits, closed, ends, nothing_more, use_ends}
use Rattle.decl_parser.specs.Nesting.{Between, UsesLie, AttrsLie, StandsBehind, ItemLies, BlockLies, ItemsLie, after_of}
use Rattle.decl_parser.proofs.Outcomes.{OkHolds, ok_then, ok_if, ok_at}
use Rattle.decl_parser.proofs.Ordered.{InOrder, Beside, mark_lies, bounds, earlier, lies_take, lies_drop, lies_closely, lies_behind, lies_past, past_semicolon, has_at, beside_none, beside_take, beside_drop, end_grows}
use Rattle.decl_parser.proofs.FoundInOrder.{InsideLies, FoundLies, found_lies}
use Rattle.decl_parser.proofs.HeldInOrder.{HeldLies, first_held_lies}
use Rattle.decl_parser.proofs.PartsInOrder.{PartsFit, parts_lie}
use Rattle.decl_parser.proofs.BlocksInOrder.{BlockBetween, BlockFits, NotMembers, TypeBlock, parts_fit}
use Rattle.decl_parser.proofs.Accepting.{then_ok}
use Rattle.swift_tree.specs.declared.item.Attr.{Attr}
use Rattle.element_marks.specs.Passes.{HeadsKnown}
use Rattle.element_marks.specs.Heads.{head, head_from}
use Rattle.element_marks.proofs.Starting.{head_within, known_drop}
use Rattle.decl_parser.proofs.Wider.{between_wider, attrs_wider}
use Rattle.decl_parser.proofs.AttributesBefore.{NoModifiers, early}
use Rattle.decl_parser.proofs.UsesBefore.{AnglesEnd, AreLast, angles_take, uses_end}

not_behind : (of_shape : BlockShape) (from to : ℕ) (uses : List MacroUse) → NotMembers of_shape → StandsBehind of_shape from uses to
not_behind shape.Members from to uses not_ = absurd not_
not_behind shape.Body from to uses not_ = tt
not_behind shape.Accessors from to uses not_ = tt

plain_block : (whole : Span) (low : ℕ) (attrs : List Attr) (uses : List MacroUse) (at : Option BlockAt) (inner : List ItemSeen) → [] ≡ inner → whole.start ≤ low → AttrsLie whole.start attrs low → BlockBetween low whole.end at → BlockLies whole attrs uses (block_of at inner)
plain_block whole low attrs uses None inner same less lie fits = tt
plain_block whole low attrs uses (Some at) inner same less lie fits = (
  between_wider whole.start low whole.end whole.end at.span less (omega arith) fits.0,
  attrs_wider whole.start whole.start low at.span.start attrs (omega arith) fits.0.begins lie,
  not_behind at.shape whole.start at.span.start uses fits.1,
  subst (λ l. ItemsLie (at.span.start + 1) (items_from l) (at.span.end - 1)) same tt,
)

-- the uses end before the braces of the members
abbrev UsesEnd : Bool → ℕ → List MacroUse → List Mark → Parts → Type 0
UsesEnd true from uses marks parts = (fits : TypeBlock marks parts) → UsesLie from uses fits.braces.start
UsesEnd false from uses marks parts = Unit {0}

block_lies : (has : Bool) (whole : Span) (low : ℕ) (attrs : List Attr) (uses : List MacroUse) (head : ℕ) (own : List Mark) (parts : Parts) (held : List Held) (inner : List ItemSeen) → whole.start ≤ low → AttrsLie whole.start attrs low → InOrder low (drop head own) whole.end → Beside HeldLies own held → BlockFits has low whole.end (drop head own) parts
    → UsesEnd has whole.start uses (drop head own) parts → members_at (if has then Some (head + before is_braces (drop head own)) else None) held ≡ Ok inner → BlockLies whole attrs uses (block_of parts.block inner)
block_lies false whole low attrs uses head own parts held inner less lie lies holds fits ends found = let same : [] ≡ inner = cc in plain_block whole low attrs uses parts.block inner same less lie fits
block_lies true whole low attrs uses head own parts held inner less lie lies holds fits ends found =
    let behind = before is_braces (drop head own) in
    let place = head + behind in
    let here : drop place own ≡ fits.braces ∷ fits.others = sym (drop-drop behind head own) ∙ fits.here in
    let first : InOrder low (fits.braces ∷ fits.others) whole.end = subst (λ l. InOrder low l whole.end) fits.here (lies_drop behind low whole.end (drop head own) lies) in
    let beside : Beside HeldLies (fits.braces ∷ fits.others) (drop place held) = subst (λ l. Beside HeldLies l (drop place held)) here (beside_drop HeldLies place own held holds) in
    let braced : BlockLies whole attrs uses (block_of (Some (record { span = record { start = fits.braces.start; end = fits.braces.end }; shape = shape.Members })) inner) = (
      between_wider whole.start low whole.end whole.end (span_of fits.braces) less (omega arith) (mark_lies low whole.end fits.braces fits.others first),
      attrs_wider whole.start whole.start low fits.braces.start attrs (omega arith) first.0 lie,
      ends fits,
      ok_at (λ items. ItemsLie (fits.braces.start + 1) (items_from items) (fits.braces.end - 1)) (first_held (drop place held)).members inner found (first_held_lies fits.braces fits.others (drop place held) beside).members,
    ) in
    subst (λ b. BlockLies whole attrs uses (block_of b inner)) (sym fits.block) braced

-- what is inside the members' braces is bare
bare : (place : ℕ) (insides : List Inside) → (first_inside (drop place (take place insides ++ (nothing_inside ∷ drop 1 (drop place insides))))).uses ≡ []
bare zero insides = refl
bare (suc place) [] = ap (λ l. (first_inside l).uses) (drop-nil place)
bare (suc place) (inside ∷ insides) = bare place insides

-- the braces stand where the test passes
braces_pass : (test : Mark → Bool) (marks others : List Mark) (mark : Mark) → drop (before test marks) marks ≡ mark ∷ others → test mark ≡ true
braces_pass test [] others mark is = cc
braces_pass test (first ∷ marks) others mark is =
    elim (test first) as (λ b. test first ≡ b → drop (if b then 0 else suc (before test marks)) (first ∷ marks) ≡ mark ∷ others → test mark ≡ true) [
      | true ↦ λ passes here. let same : first ≡ mark = cc in ap test (sym same) ∙ passes
      | false ↦ λ fails later. braces_pass test marks others mark later
    ] refl is

nothing_left : (marks : List Mark) (done : Unit {0}) → nothing_more marks ≡ Ok done → marks ≡ []
nothing_left [] done is = refl
nothing_left (mark ∷ marks) done is = cc

-- nothing stands behind the members
closed_behind : (body : Option ℕ) (place : ℕ) (marks : List Mark) (done : Unit {0}) → body ≡ Some place → closed body marks ≡ Ok done → drop 1 (drop place marks) ≡ []
closed_behind body place marks done is closes = nothing_left (drop 1 (drop place marks)) done (ap (λ b. closed b marks) (sym is) ∙ closes)

known_block : (start : ℕ) → list_any (λ block. block == start) (start ∷ []) ≡ true
known_block start = let same : (start == start) ≡ true = true_from_ne_false (start == start) (λ is. eqb-false start start is refl) in ap (λ b. b || false) same

-- what stands inside the members' braces is left out
replaced : (place : ℕ) (marks : List Mark) (insides : List Inside) → Beside InsideLies marks insides → Beside InsideLies marks (take place insides ++ (nothing_inside ∷ drop 1 (drop place insides)))
replaced place [] insides holds = tt
replaced zero (mark ∷ marks) [] holds = (record { uses = tt; locals = tt }, beside_none InsideLies marks)
replaced zero (mark ∷ marks) (inside ∷ insides) holds = (record { uses = tt; locals = tt }, holds.1)
replaced (suc place) (mark ∷ marks) [] holds = (record { uses = tt; locals = tt }, beside_none InsideLies marks)
replaced (suc place) (mark ∷ marks) (inside ∷ insides) holds = (holds.0, replaced place marks insides holds.1)

beside_without : (place : Option ℕ) (marks : List Mark) (insides : List Inside) → Beside InsideLies marks insides → Beside InsideLies marks (without place insides)
beside_without None marks insides holds = holds
beside_without (Some place) marks insides holds = replaced place marks insides holds

-- a declaration's span, from its first element to its last
own_lies : (from to : ℕ) (own : List Mark) → 0 < length own → InOrder from own to → InOrder (span_from own).start own (span_from own).end
own_lies from to [] some lies = absurd (omega (arith, some))
own_lies from to (mark ∷ marks) some lies = (omega arith, lies.1, lies_closely mark.end to marks lies.2)

has_beginning : (place : Place) (own : List Mark) (starter : Mark) → beginning place own ≡ Ok starter → 0 < length own
has_beginning place [] starter is = cc
has_beginning place (mark ∷ marks) starter is = omega arith

-- the starter is one of its elements
placed_lies : (place : Place) (start from to : ℕ) (marks : List Mark) → InOrder from marks to → OkHolds (λ starter. Between from to (span_of starter)) (placed place start marks)
placed_lies place start from to [] lies = tt
placed_lies place start from to (starter ∷ marks) lies = ok_if (λ starter. Between from to (span_of starter)) (has_place place (kind_of starter)) _ _ (λ is. mark_lies from to starter marks lies) (λ is. tt)

starter_lies : (place : Place) (from to : ℕ) (own : List Mark) → InOrder from own to → OkHolds (λ starter. Between from to (span_of starter)) (beginning place own)
starter_lies place from to own lies =
    let P : Mark → Type 0 = λ starter. Between from to (span_of starter) in
    let n = head_of own - 1 in
    ok_then P (starter_of place own) _ (λ starter is. ok_then P (use_fits (head_of own) starter) _ (λ fits_ fit. ok_at P (starter_of place own) starter is (placed_lies place (start_of own) from to (drop n own) (lies_drop n from to own lies))))

-- a declaration lies between the two places, and ends where it should
abbrev pub ItemFits : ℕ → ℕ → List Mark → List Mark → ItemSeen → Type 0
ItemFits from to own next seen = ItemLies from seen to × (after_of seen ≡ after (end_of from own) next)

assembled_fits : (from to : ℕ) (own next : List Mark) (kind : Kind) (parts : Parts) (found : Found) (inner : List ItemSeen) → 0 < length own → InOrder from own (end_of from own) → InOrder (end_of from own) next to
    → PartsFit (span_from own).start (span_from own).end parts → FoundLies (span_from own).start (span_from own).end found → BlockLies (span_from own) found.attrs found.uses (block_of parts.block inner) → ItemFits from to own next (assembled (span_from own) next kind parts found inner)
assembled_fits from to [] next kind parts found inner some lies behind named found_ block = absurd (omega (arith, some))
assembled_fits from to (mark ∷ marks) next kind parts found inner some lies behind named found_ block =
    let end = end_of mark.end marks in
    let passed = lies_past end to next behind in (
      (
        record {
          begins = lies.0;
          some = omega (arith, lies.1.some, bounds mark.end end marks lies.2);
          behind = passed.0;
          ends = passed.1;
          attrs = found_.attrs;
          names = named.names;
          bindings = named.bindings;
          inherits = named.inherits;
          extended = named.extended;
          uses = found_.uses;
          locals = found_.locals;
          apart = found_.apart;
        },
        block,
      ),
      refl,
    )

-- the uses of a declaration with members end before these
uses_end_before : (list : List Mark) (at head place : ℕ) (parts : Parts) (insides : List Inside) (whole : Span) (body_done : Unit {0}) (fits : TypeBlock (drop head (drop at list)) parts) → place ≡ head + before is_braces (drop head (drop at list)) → 0 < length (drop at list) → AnglesEnd list
    → InOrder whole.start (drop at list) whole.end → Beside InsideLies (drop at list) insides → (first_inside (drop place insides)).uses ≡ [] → closed parts.body (drop head (drop at list)) ≡ Ok body_done
    → UsesLie whole.start (found_from parts.blocks (at + head) list at 0 (length list - at) insides).uses fits.braces.start
uses_end_before list at head place parts insides whole body_done fits placed_ some angled lies holds nothing closes =
    let own = drop at list in
    let inner = before is_braces (drop head own) in
    let braces = fits.braces in
    let no_others : fits.others ≡ [] = ap (drop 1) (sym fits.here) ∙ closed_behind parts.body inner (drop head own) body_done fits.body closes in
    let here : drop inner (drop head own) ≡ braces ∷ [] = fits.here ∙ ap (λ l. braces ∷ l) no_others in
    let own_end : drop place own ≡ braces ∷ [] = ap (λ n. drop n own) placed_ ∙ sym (drop-drop inner head own) ∙ here in
    let list_end : drop (at + place) list ≡ braces ∷ [] = sym (drop-drop place at list) ∙ own_end in
    let long : suc (at + place) ≡ length list = omega (arith, ap length list_end, length-drop (at + place) list) in
    let braced : is_braces braces ≡ true = braces_pass is_braces (drop head own) fits.others braces fits.here in
    let last_lies : InOrder whole.start (braces ∷ []) whole.end = subst (λ l. InOrder whole.start l whole.end) own_end (lies_drop place whole.start whole.end own lies) in
    let known : list_any (λ block. block == braces.start) parts.blocks ≡ true = ap (list_any (λ block. block == braces.start)) fits.blocks ∙ known_block braces.start in
    let last : AreLast parts.blocks braces = record { braced = braced; plain = last_lies.1.plain braced; known = known } in
    let at_once : at ≡ at + 0 = omega arith in
    let all : at + (length list - at) ≡ length list = omega (arith, some, length-drop at list) in
    let room : (at + place) - at ≡ place = omega arith in
    uses_end parts.blocks (at + head) list whole.end braces last (at + place) long list_end angled at 0 (length list - at) insides whole.start all (subst (λ n. InOrder whole.start (drop n list) whole.end) at_once lies) holds (λ within. ap (λ n. (first_inside (drop n insides)).uses) room ∙ nothing)

-- by whether there are members
ends_by : (has : Bool) (list : List Mark) (at head : ℕ) (whole : Span) (parts : Parts) (insides : List Inside) → (done : Unit {0}) → closed parts.body (drop head (drop at list)) ≡ Ok done → 0 < length (drop at list) → AnglesEnd list → InOrder whole.start (drop at list) whole.end → Beside InsideLies (drop at list) insides
    → UsesEnd has whole.start (found_from parts.blocks (at + head) list at 0 (length list - at) (without (if has then Some (head + before is_braces (drop head (drop at list))) else None) insides)).uses (drop head (drop at list)) parts
ends_by false list at head whole parts insides done closes some angled lies holds = tt
ends_by true list at head whole parts insides done closes some angled lies holds =
    let place = head + before is_braces (drop head (drop at list)) in
    λ fits. uses_end_before list at head place parts (without (Some place) insides) whole done fits refl some angled lies (beside_without (Some place) (drop at list) insides holds) (bare place insides) closes

-- its own attributes end with its head
abbrev OwnEarly : List Mark → ℕ → Type 0
OwnEarly list at =
    (blocks : List ℕ) (insides : List Inside) (from to : ℕ) → InOrder from (drop at list) to → Beside InsideLies (drop at list) insides → AttrsLie from (found_from blocks (at + head_of (drop at list)) list at 0 (length list - at) insides).attrs (end_of from (take (head_of (drop at list)) (drop at list)))

module _ (place : Place) (list : List Mark) (at : ℕ) (next : List Mark) (insides : List Inside) (held : List Held) (from to : ℕ) where
  pub item_fits : AnglesEnd list → OwnEarly list at → InOrder from (drop at list) (end_of from (drop at list)) → InOrder (end_of from (drop at list)) next to → Beside InsideLies (drop at list) insides → Beside HeldLies (drop at list) held
      → OkHolds (ItemFits from to (drop at list) next) (item_at place list at next insides held)
  unfolding item_at whole_item
  item_fits angled own_early lies behind inside_holds held_holds =
      let own = drop at list in
      let head = head_of own in
      let P : ItemSeen → Type 0 = ItemFits from to (drop at list) next in
      ok_then P (beginning place own) _ (λ starter begun.
      let some = has_beginning place own starter begun in
      let braces = members_place starter head own in
      let outside = without braces insides in
      let whole = span_from own in
      let closely = own_lies from (end_of from own) own some lies in
      let low = end_of whole.start (take head own) in
      ok_then P (parts (kind_of starter) starter (drop head own) (drop head outside) (drop head held)) _ (λ read is.
      ok_then P (members_at braces held) _ (λ inner found.
      ok_then P (all_ends read.body starter list at) _ (λ ended ends_.
      let shut = then_ok (closed read.body (drop head own)) (λ closes. and_then (use_ends starter list at) (λ alone. ends own)) ended ends_ in
      assembled_fits from to own next (kind_of starter) read (found_from read.blocks (at + head) list at 0 (length list - at) outside) inner some lies behind
      (ok_at (PartsFit whole.start whole.end) (parts (kind_of starter) starter (drop head own) (drop head outside) (drop head held)) read is (parts_lie whole.start whole.end (kind_of starter) starter (drop head own) (drop head outside) (drop head held) (ok_at (λ one. Between whole.start whole.end (span_of one)) (beginning place own) starter begun (starter_lies place whole.start whole.end own closely)) (lies_drop head whole.start whole.end own closely) (beside_drop HeldLies head own held held_holds)))
      (found_lies read.blocks (at + head) list whole.end at 0 (length list - at) outside whole.start (omega (arith, some, length-drop at list)) (let here : at ≡ at + 0 = omega arith in subst (λ n. InOrder whole.start (drop n list) whole.end) here closely) (beside_without braces own insides inside_holds))
      (block_lies (has_members (kind_of starter)) whole low (found_from read.blocks (at + head) list at 0 (length list - at) outside).attrs (found_from read.blocks (at + head) list at 0 (length list - at) outside).uses head own read held inner
      (end_grows whole.start whole.end (take head own) (lies_take head whole.start whole.end own closely)) (own_early read.blocks outside whole.start whole.end closely (beside_without braces own insides inside_holds)) (lies_behind head whole.start whole.end own closely) held_holds
      (ok_at (BlockFits (has_members (kind_of starter)) low whole.end (drop head own)) (parts (kind_of starter) starter (drop head own) (drop head outside) (drop head held)) read is (parts_fit low whole.end (kind_of starter) starter (drop head own) (drop head outside) (drop head held) (lies_behind head whole.start whole.end own closely)))
      (ends_by (has_members (kind_of starter)) list at head whole read insides shut.0 shut.1 some angled closely inside_holds)
      found)))))

not_zero : (n : ℕ) → (n == 0) ≡ false → 0 < n
not_zero zero is = cc
not_zero (suc n) is = omega arith

head_short : (marks : List Mark) → head_of marks ≤ length marks
head_short [] = omega arith
head_short (mark ∷ marks) = omega arith

head_cut : (n : ℕ) (marks : List Mark) → head_of marks ≤ n → head_of (take n marks) ≡ head_of marks
head_cut zero marks less = omega (arith, less)
head_cut (suc n) [] less = refl
head_cut (suc n) (mark ∷ marks) less = omega (arith, less, length-take n marks)

head_known : (marks : List Mark) → HeadsKnown marks → 0 < head_of marks → head_from 0 0 marks ≡ head_of marks
unfolding head
head_known [] known some = absurd (omega (arith, some))
head_known (mark ∷ marks) known some = omega (arith, known.0, head_within (mark ∷ marks))

own_early : (marks : List Mark) (at : ℕ) → NoModifiers marks → HeadsKnown marks → 0 < head_of (drop at marks) → OwnEarly (take (at + count_of (drop at marks)) marks) at
own_early marks at plain known some blocks insides from to lies holds =
    let rest = drop at marks in
    let count = count_of rest in
    let end = at + count in
    let list : List Mark = take end marks in
    let h = head_of rest in
    let own : drop at list ≡ take count rest = drop-take at count marks in
    let same : head_of (drop at list) ≡ h = ap head_of own ∙ head_cut count rest (omega arith) in
    let long : at + h ≤ length list = omega (arith, some, head_short (drop at list), same, length-drop at list) in
    let ends : AttrsLie from (found_from blocks (at + h) list at 0 (length list - at) insides).attrs (end_of from (take h (drop at list))) =
    early marks at h end some (omega arith) plain blocks insides from to long (head_known rest (known_drop at marks known) some) lies holds in
    subst (λ n. AttrsLie from (found_from blocks (at + n) list at 0 (length list - at) insides).attrs (end_of from (take n (drop at list)))) (sym same) ends

module _ (place : Place) (marks : List Mark) (insides : List Inside) (held : List Held) (inside_holds : Beside InsideLies marks insides) (held_holds : Beside HeldLies marks held) (angled : AnglesEnd marks) (plain : NoModifiers marks) (known : HeadsKnown marks) (to : ℕ) where
  abbrev OneFits : ℕ → List Mark → ItemSeen → Type 0
  OneFits from rest seen = ItemFits from to (take (count_of rest) rest) (drop (count_of rest) rest) seen

  one_fits : (from at : ℕ) → 0 < head_of (drop at marks) → InOrder from (drop at marks) to → OkHolds (OneFits from (drop at marks)) (one_item place marks insides held at)
  one_fits from at some lies =
      let rest = drop at marks in
      let count = count_of rest in
      let list = take (at + count) marks in
      let own : drop at list ≡ take count rest = drop-take at count marks in
      let next : drop (at + count) marks ≡ drop count rest = sym (drop-drop count at marks) in
      let own_insides : Beside InsideLies (drop at list) (take count (drop at insides)) = subst (λ l. Beside InsideLies l (take count (drop at insides))) (sym own) (beside_take InsideLies count rest (drop at insides) (beside_drop InsideLies at marks insides inside_holds)) in
      let own_held : Beside HeldLies (drop at list) (take count (drop at held)) = subst (λ l. Beside HeldLies l (take count (drop at held))) (sym own) (beside_take HeldLies count rest (drop at held) (beside_drop HeldLies at marks held held_holds)) in
      let closely : InOrder from (drop at list) (end_of from (drop at list)) = subst (λ l. InOrder from l (end_of from l)) (sym own) (lies_closely from to (take count rest) (lies_take count from to rest lies)) in
      let behind : InOrder (end_of from (drop at list)) (drop (at + count) marks) to = subst (λ l. InOrder (end_of from (drop at list)) l to) (sym next) (subst (λ l. InOrder (end_of from l) (drop count rest) to) (sym own) (lies_behind count from to rest lies)) in
      let fits = item_fits place list at (drop (at + count) marks) (take count (drop at insides)) (take count (drop at held)) from to (angles_take (at + count) marks angled) (own_early marks at plain known some) closely behind own_insides own_held in
      subst (λ l. OkHolds (ItemFits from to l (drop count rest)) (one_item place marks insides held at)) own (subst (λ l. OkHolds (ItemFits from to (drop at list) l) (one_item place marks insides held at)) next fits)

  abbrev AllLie : ℕ → List ItemSeen → Type 0
  AllLie from items = ItemsLie from (items_from items) to

  first_passed : (from at : ℕ) (b : Bool) (mark : Mark) (rest : List Mark) → is_semicolon mark ≡ b → drop at marks ≡ mark ∷ rest → InOrder from (past_semicolon (drop (at + 0) marks)) to → InOrder from (if b then rest else mark ∷ rest) to
  first_passed from at b mark rest is here lies =
      let at_once : at + 0 ≡ at = omega arith in
      let first : InOrder from (if is_semicolon mark then rest else mark ∷ rest) to = subst (λ l. InOrder from (past_semicolon l) to) (ap (λ n. drop n marks) at_once ∙ here) lies in
      subst (λ b. InOrder from (if b then rest else mark ∷ rest) to) is first

  cut_lies : (at inside left from : ℕ) → at + left ≤ length marks → InOrder from (past_semicolon (drop (at + inside) marks)) to → OkHolds (AllLie from) (cut_from place marks insides held at inside left)
  cut_lies at inside zero from within lies = tt
  cut_lies at (suc inside) (suc left) from within lies =
      let same : at + suc inside ≡ suc at + inside = omega arith in
      cut_lies (suc at) inside left from (omega (arith, within)) (subst (λ n. InOrder from (past_semicolon (drop n marks)) to) same lies)
  cut_lies at zero (suc left) from within lies =
      let here = has_at marks at (omega (arith, within)) in
      let count = count_of (drop at marks) in
      ok_if (AllLie from) (first_is is_semicolon (drop at marks)) _ _
      (λ is.
      let rest : InOrder from here.marks to = first_passed from at true here.mark here.marks (ap (first_is is_semicolon) (sym here.here) ∙ is) here.here lies in
      let passed = lies_past from to here.marks rest in
      let behind : suc at ≡ suc at + 0 = omega arith in
      cut_lies (suc at) 0 left from (omega (arith, within)) (subst (λ l. InOrder from (past_semicolon l) to) (sym here.behind ∙ ap (λ n. drop n marks) behind) (earlier from (after from here.marks) to (past_semicolon here.marks) passed.0 passed.2)))
      (λ is.
      let first : InOrder from (drop at marks) to = subst (λ l. InOrder from l to) (sym here.here) (first_passed from at false here.mark here.marks (ap (first_is is_semicolon) (sym here.here) ∙ is) here.here lies) in
      ok_if (AllLie from) (head_of (drop at marks) == 0) _ _ (λ no_head. tt) (λ some_head.
      ok_then (AllLie from) (one_item place marks insides held at) _ (λ one read.
      let fits : OneFits from (drop at marks) one = ok_at (OneFits from (drop at marks)) (one_item place marks insides held at) one read (one_fits from at (not_zero (head_of (drop at marks)) some_head) first) in
      let end = end_of from (take count (drop at marks)) in
      let passed = lies_past end to (drop count (drop at marks)) (lies_behind count from to (drop at marks) first) in
      let there : at + count ≡ suc at + (count - 1) = omega (arith, not_zero (head_of (drop at marks)) some_head) in
      let behind : InOrder (after_of one) (past_semicolon (drop (suc at + (count - 1)) marks)) to =
      subst (λ l. InOrder (after_of one) (past_semicolon l) to) (drop-drop count at marks ∙ ap (λ n. drop n marks) there) (subst (λ n. InOrder n (past_semicolon (drop count (drop at marks))) to) (sym fits.1) passed.2) in
      ok_then (AllLie from) (cut_from place marks insides held (suc at) (count - 1) left) _ (λ others are.
      (fits.0, ok_at (AllLie (after_of one)) (cut_from place marks insides held (suc at) (count - 1) left) others are (cut_lies (suc at) (count - 1) left (after_of one) (omega (arith, within)) behind))))))

  pub items_lie : (from : ℕ) → InOrder from marks to → OkHolds (λ items. ItemsLie from (items_from items) to) (items_in place marks insides held)
  unfolding items_in
  items_lie from lies = let passed = lies_past from to marks lies in cut_lies 0 0 (length marks) from (omega arith) (earlier from (after from marks) to (past_semicolon marks) passed.0 passed.2)
