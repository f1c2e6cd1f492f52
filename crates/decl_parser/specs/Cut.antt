-- A list of elements cut into declarations: this project's own, after The Swift Programming Language, Declarations.
use Rattle.std.specs.Prelude.{◌≡◌, ◌<◌, ℕ, zero, suc, ◌+◌, ◌-◌, ◌==◌, min, slice_get, List, [], ◌∷◌, ◌++◌, reverse, take, drop, length, Option, Some, None, Box, option_map, Result, Ok, Err, false, not, if◌then◌else◌}
use Rattle.swift_base.specs.declared.place.Span.{Span}
use Rattle.std.specs.declared.alloc.Global.{Global}
use Rattle.swift_tree.specs.declared.item.Kind.{Kind}
use Rattle.swift_tree.specs.declared.item.Kind.TheVariants as kind
use Rattle.swift_tree.specs.Outlines.{ItemSeen, item, BlockSeen, block, no_block, block_from, items_from, unboxed}
use Rattle.swift_tree.specs.Outlines as outlines
use Rattle.swift_tree.specs.declared.item.Block.{Block}
use Rattle.element_marks.specs.declared.mark.Mark.{Mark}
use Rattle.element_marks.specs.declared.words.Keyword.{Keyword}
use Rattle.element_marks.specs.declared.words.Keyword.TheVariants.{Starts}
use Rattle.element_marks.specs.declared.words.Starter.{Starter}
use Rattle.element_marks.specs.declared.words.Starter.TheVariants as starter
use Rattle.element_marks.specs.Answers.{and_then}
use Rattle.element_marks.specs.Sorts.{is_pound, is_builtin_pound, is_semicolon, is_braces}
use Rattle.element_marks.specs.Heads.{first_is}
use Rattle.element_marks.specs.Runs.{before, item_length}
use Rattle.element_marks.specs.Uses.{use_length}
use Rattle.decl_parser.specs.declared.fault.ParseFault.{ParseFault}
use Rattle.decl_parser.specs.declared.fault.ParseKind.TheVariants.{NotADeclaration, BuiltinItem, AttributedUse, DanglingJoiner}
use Rattle.decl_parser.specs.declared.place.Place.{Place}
use Rattle.decl_parser.specs.declared.inside.Inside.{Inside}
use Rattle.decl_parser.specs.declared.inside.BlockAt.{BlockAt}
use Rattle.decl_parser.specs.declared.parts.Parts.{Parts}
use Rattle.decl_parser.specs.Faults.{fault}
use Rattle.decl_parser.specs.Held.{MembersRead, Held, first_held}
use Rattle.decl_parser.specs.Places.{has_place}
use Rattle.decl_parser.specs.Insides.{nothing_inside}
use Rattle.decl_parser.specs.Attributes.{span_from}
use Rattle.decl_parser.specs.Found.{Found, found_from}
use Rattle.decl_parser.specs.Parts.{parts, has_members}

-- the kind of declaration that a word begins
abbrev pub word_kind : Starter → Kind
word_kind starter.Import = kind.Import
word_kind starter.Typealias = kind.Typealias
word_kind starter.Associatedtype = kind.Associatedtype
word_kind starter.Struct = kind.Struct
word_kind starter.Class = kind.Class
word_kind starter.Enum = kind.Enum
word_kind starter.Protocol = kind.Protocol
word_kind starter.Extension = kind.Extension
word_kind starter.Func = kind.Func
word_kind starter.Var = kind.Var
word_kind starter.Let = kind.Let
word_kind starter.Init = kind.Init
word_kind starter.Deinit = kind.Deinit
word_kind starter.Subscript = kind.Subscript
word_kind starter.Case = kind.Case
word_kind starter.Operator = kind.Operator
word_kind starter.Precedencegroup = kind.Precedencegroup
word_kind starter.Actor = kind.Actor
word_kind starter.Macro = kind.Macro

abbrev pub keyword_kind : Keyword → Kind
keyword_kind (Starts word) = word_kind word
keyword_kind _ = kind.UseItem

abbrev pub kind_of : Mark → Kind
kind_of starter = if is_pound starter then kind.UseItem else keyword_kind starter.keyword

abbrev pub start_of : List Mark → ℕ
start_of [] = 0
start_of (mark ∷ marks) = mark.start

-- how many elements the head is that begins here, as far as the list goes
abbrev pub head_of : List Mark → ℕ
head_of [] = 0
head_of (mark ∷ marks) = min mark.head (suc (length marks))

-- the starter, which stands first, of a declaration that begins at `start` and has to have a place there
abbrev pub placed : Place → ℕ → List Mark → Result Mark ParseFault
placed place start [] = Err (fault start NotADeclaration)
placed place start (starter ∷ marks) = if has_place place (kind_of starter) then Ok starter else Err (fault start NotADeclaration)

abbrev pub starter_of : Place → List Mark → Result Mark ParseFault
starter_of place own = placed place (start_of own) (drop (head_of own - 1) own)

-- a macro use in a declaration's place has no attributes, no modifiers, and nothing behind it
abbrev pub use_fits : ℕ → Mark → Result (Unit {0}) ParseFault
use_fits head starter =
    if not (is_pound starter) then Ok tt
    else (if not (head == 1) then Err (fault starter.start AttributedUse)
    else (if is_builtin_pound starter then Err (fault starter.start BuiltinItem) else Ok tt))

abbrev pub nothing_more : List Mark → Result (Unit {0}) ParseFault
nothing_more [] = Ok tt
nothing_more (mark ∷ marks) = Err (fault mark.start NotADeclaration)

abbrev pub use_ends : Mark → List Mark → ℕ → Result (Unit {0}) ParseFault
use_ends starter list from =
    if is_pound starter then nothing_more (drop (use_length [] (reverse (take from list)) (drop from list)) (drop from list)) else Ok tt

-- nothing stands behind the braces at the place
abbrev pub closed : Option ℕ → List Mark → Result (Unit {0}) ParseFault
closed None marks = Ok tt
closed (Some place) marks = nothing_more (drop 1 (drop place marks))

-- the last element doesn't join
abbrev pub ends_at : Option Mark → Result (Unit {0}) ParseFault
ends_at None = Ok tt
ends_at (Some mark) = if mark.joins then Err (fault mark.start DanglingJoiner) else Ok tt

abbrev pub ends : List Mark → Result (Unit {0}) ParseFault
ends own = ends_at (slice_get own (length own - 1))

-- where the braces of the members are among a declaration's elements
abbrev pub members_place : Mark → ℕ → List Mark → Option ℕ
members_place starter head own = if has_members (kind_of starter) then Some (head + before is_braces (drop head own)) else None

-- the declarations in the braces at the place
abbrev pub members_at : Option ℕ → List Held → MembersRead
members_at None held = Ok []
members_at (Some place) held = (first_held (drop place held)).members

-- what stands inside the braces at the place is not looked at
abbrev pub without : Option ℕ → List Inside → List Inside
without None insides = insides
without (Some place) insides = take place insides ++ (nothing_inside ∷ drop 1 (drop place insides))

abbrev pub block_of : Option BlockAt → List ItemSeen → BlockSeen
block_of None members = no_block
block_of (Some at) members = block at.span at.shape (items_from members)

-- the code's block, apart from where it lies in memory
abbrev pub braces_seen : Option (Box Block Global) → BlockSeen
braces_seen braces = block_from (option_map outlines.block_of (unboxed braces))

-- the end of a `;` that stands first, else this one
abbrev pub after : ℕ → List Mark → ℕ
after end [] = end
after end (mark ∷ marks) = if is_semicolon mark then mark.end else end

-- the declaration by its span, its parts and what was found in it
abbrev pub assembled : Span → List Mark → Kind → Parts → Found → List ItemSeen → ItemSeen
assembled span next kind parts found members =
    item (record {
      span = span;
      after = after span.end next;
      kind = kind;
      attrs = found.attrs;
      names = parts.names;
      bindings = parts.bindings;
      inherits = parts.inherits;
      extended = parts.extended;
      uses = found.uses;
      locals = found.locals;
    }) (block_of parts.block members)

-- the declaration from the place `from` to the end of `list`, by its parts, what stands inside its elements, and its members
unfoldable pub whole_item : List Mark → ℕ → List Mark → Kind → Parts → List Inside → List ItemSeen → ItemSeen
whole_item list from next kind parts insides members =
    let own = drop from list in
    assembled (span_from own) next kind parts (found_from parts.blocks (from + head_of own) list from 0 (length list - from) insides) members

-- the starter of a declaration that may stand there
abbrev pub beginning : Place → List Mark → Result Mark ParseFault
beginning place own = and_then (starter_of place own) (λ starter. and_then (use_fits (head_of own) starter) (λ fits. Ok starter))

-- the declaration ends as it should
abbrev pub all_ends : Option ℕ → Mark → List Mark → ℕ → Result (Unit {0}) ParseFault
all_ends body starter list from =
    and_then (closed body (drop (head_of (drop from list)) (drop from list))) (λ closes. and_then (use_ends starter list from) (λ alone. ends (drop from list)))

-- the declaration by its starter, or its first fault
abbrev pub item_by : List Mark → ℕ → List Mark → List Inside → List Held → Mark → Result ItemSeen ParseFault
item_by list from next insides held starter =
    let own = drop from list in
    let head = head_of own in
    let place = members_place starter head own in
    let outside = without place insides in
    and_then (parts (kind_of starter) starter (drop head own) (drop head outside) (drop head held)) (λ parts.
    and_then (members_at place held) (λ inner.
    and_then (all_ends parts.body starter list from) (λ ended. Ok (whole_item list from next (kind_of starter) parts outside inner))))

-- the declaration from the place `from` to the end of `list`, or its first fault; `next` stands behind it.
-- `insides` and `held` are those of its elements
unfoldable pub item_at : Place → List Mark → ℕ → List Mark → List Inside → List Held → Result ItemSeen ParseFault
item_at place list from next insides held = and_then (beginning place (drop from list)) (item_by list from next insides held)

-- how many elements the declaration is that begins here
abbrev pub count_of : List Mark → ℕ
count_of marks = item_length (head_of marks) marks

-- a declaration of so many elements begins at the place
pub record Begins (marks : List Mark) (at count : ℕ) : Type 0 where
  pub within : at < length marks
  pub no_semicolon : first_is is_semicolon (drop at marks) ≡ false
  pub some_head : (head_of (drop at marks) == 0) ≡ false
  pub counted : count ≡ count_of (drop at marks)
  pub some : 0 < count

-- the declaration that begins at the place
abbrev pub one_item : Place → List Mark → List Inside → List Held → ℕ → Result ItemSeen ParseFault
one_item place marks insides held at =
    let count = count_of (drop at marks) in
    item_at place (take (at + count) marks) at (drop (at + count) marks) (take count (drop at insides)) (take count (drop at held))

-- one declaration more
abbrev pub with_first : Result ItemSeen ParseFault → MembersRead → MembersRead
with_first one others = and_then one (λ first. and_then others (λ items. Ok (first ∷ items)))

-- the declarations of a list from the place `at` on, where `left` elements are left, past `inside` elements of one that began before
abbrev pub cut_from : Place → List Mark → List Inside → List Held → ℕ → ℕ → ℕ → MembersRead
cut_from place marks insides held at inside zero = Ok []
cut_from place marks insides held at (suc inside) (suc left) = cut_from place marks insides held (suc at) inside left
cut_from place marks insides held at zero (suc left) =
    if first_is is_semicolon (drop at marks) then cut_from place marks insides held (suc at) 0 left
    else (if head_of (drop at marks) == 0 then Err (fault (start_of (drop at marks)) NotADeclaration)
    else with_first (one_item place marks insides held at) (cut_from place marks insides held (suc at) (count_of (drop at marks) - 1) left))

-- the declarations of a list, or the first fault
unfoldable pub items_in : Place → List Mark → List Inside → List Held → MembersRead
items_in place marks insides held = cut_from place marks insides held 0 0 (length marks)
