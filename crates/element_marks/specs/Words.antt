-- What words are for in the grammar of declarations: this project's own, after The Swift Programming Language, Declarations and Statements.
use Rattle.std.specs.Prelude.{ℕ, ◌-◌, List, [], ◌∷◌, length, map, slice_index, slice_index_or, Bool, true, false, ◌==◌, nat_eq, if◌then◌else◌}
use Rattle.std.specs.List.{list_any, starts_with}
use Rattle.std.specs.Str.{bytes_eq}
use Rattle.swift_lexer.specs.declared.strings.TheConstants.{BUILTIN_WORDS}
use Rattle.element_marks.specs.declared.words.Starter.{Starter}
use Rattle.element_marks.specs.declared.words.Starter.TheVariants as starter
use Rattle.element_marks.specs.declared.words.Keyword.{Keyword}
use Rattle.element_marks.specs.declared.words.Keyword.TheVariants.{Plain, Modifier, AccessorModifier, Starts, Joining, Where, Condition, Accessor, Observer, Underscore, Async, Throws}
use Rattle.element_marks.specs.declared.words.TheConstants.{BEFORE_LETTERS, FIRST_BYTES, RESERVED, WORDS}

-- by the first row of the word, where there is one
abbrev pub keyword_in : {R : Type 0} → (R → List ℕ) → (R → Keyword) → List R → List ℕ → Keyword
keyword_in spelling keyword [] word = Plain
keyword_in spelling keyword (row ∷ rows) word = if bytes_eq (spelling row) word then keyword row else keyword_in spelling keyword rows word

unfoldable pub keyword_of : List ℕ → Keyword
keyword_of word = keyword_in (λ row. row.0.now) (λ row. row.1) WORDS word

-- true where a word of the table is as long and begins with the same byte
abbrev pub looks_like_keyword : List ℕ → Bool
looks_like_keyword word = slice_index (slice_index_or (map (λ row. row.now) FIRST_BYTES) (length word) []) (slice_index word 0 - BEFORE_LETTERS) == slice_index word 0

-- the word behind a `#` is one of Swift's own
unfoldable pub is_builtin : List ℕ → Bool
is_builtin word = list_any (λ builtin. bytes_eq builtin.now word) BUILTIN_WORDS

-- a name that only macros make
unfoldable pub is_reserved : List ℕ → Bool
is_reserved name = starts_with nat_eq name RESERVED.now

-- a modifier wherever it stands
abbrev pub is_modifier : Keyword → Bool
is_modifier Modifier = true
is_modifier AccessorModifier = true
is_modifier _ = false

-- joins what stands before it to what stands behind it
abbrev pub is_joining : Keyword → Bool
is_joining Joining = true
is_joining Where = true
is_joining _ = false

-- begins an accessor
abbrev pub is_accessor : Keyword → Bool
is_accessor Accessor = true
is_accessor Observer = true
is_accessor (Starts starter.Init) = true
is_accessor _ = false

abbrev pub is_observer : Keyword → Bool
is_observer Observer = true
is_observer _ = false

-- an operator behind one of these is a name
abbrev pub is_operator_name : Keyword → Bool
is_operator_name (Starts starter.Operator) = true
is_operator_name (Starts starter.Func) = true
is_operator_name _ = false

-- before one of these `class` is a modifier
abbrev pub is_class_member : Keyword → Bool
is_class_member (Starts starter.Func) = true
is_class_member (Starts starter.Var) = true
is_class_member (Starts starter.Let) = true
is_class_member (Starts starter.Subscript) = true
is_class_member _ = false

abbrev pub is_class : Keyword → Bool
is_class (Starts starter.Class) = true
is_class _ = false

-- begins a declaration only before a name
abbrev pub wants_name : Starter → Bool
wants_name starter.Actor = true
wants_name starter.Macro = true
wants_name _ = false

abbrev pub is_underscore : Keyword → Bool
is_underscore Underscore = true
is_underscore _ = false

abbrev pub is_where : Keyword → Bool
is_where Where = true
is_where _ = false

abbrev pub is_condition : Keyword → Bool
is_condition Condition = true
is_condition _ = false

abbrev pub is_async : Keyword → Bool
is_async Async = true
is_async _ = false

abbrev pub is_throws : Keyword → Bool
is_throws Throws = true
is_throws _ = false

abbrev pub is_accessor_modifier : Keyword → Bool
is_accessor_modifier AccessorModifier = true
is_accessor_modifier _ = false

-- a modifier, or a starter if only before a name
abbrev pub may_begin : Keyword → Bool
may_begin Modifier = true
may_begin AccessorModifier = true
may_begin (Starts starter) = true
may_begin _ = false

-- begins a declaration whatever follows
abbrev pub starts_anywhere : Keyword → Bool
starts_anywhere (Starts starter.Class) = false
starts_anywhere (Starts starter.Actor) = false
starts_anywhere (Starts starter.Macro) = false
starts_anywhere (Starts _) = true
starts_anywhere _ = false
