-- Lists of elements in which no macro use and no attribute begins: this project's own words.
use Rattle.std.specs.Prelude.{ℕ, List, Bool, true, false, ◌&&◌, ◌||◌}
use Rattle.swift_lexer.specs.declared.token.Class.{Class}
use Rattle.swift_lexer.specs.declared.token.Class.TheVariants as class
use Rattle.swift_lexer.specs.declared.token.Token.{Token}
use Rattle.swift_lexer.specs.Trees.{Tree, leaf, nest, Forest, none, cons}
use Rattle.element_marks.specs.declared.words.Keyword.{Keyword}
use Rattle.element_marks.specs.Words.{is_accessor, is_accessor_modifier, is_class, is_modifier, is_observer}
use Rattle.element_marks.specs.Marks.{mark_of}

-- the token that an element begins with
abbrev pub front : Tree → Token
front (leaf token) = token
front (nest left inner right) = left

abbrev pub is_quiet_class : Class → Bool
is_quiet_class class.Pound = false
is_quiet_class class.At = false
is_quiet_class _ = true

-- no element begins with a `#` word or an `@`
abbrev pub is_quiet : Forest → Bool
is_quiet none = true
is_quiet (cons tree forest) = is_quiet_class (front tree).class && is_quiet forest

-- may stand at an accessor's beginning, attributes aside
abbrev pub leads_accessor : Keyword → Bool
leads_accessor keyword = is_modifier keyword || is_class keyword || is_accessor_modifier keyword || is_accessor keyword || is_observer keyword

-- the first element is such a word
abbrev pub may_list_accessors : List ℕ → Forest → Bool
may_list_accessors text none = false
may_list_accessors text (cons tree forest) = leads_accessor (mark_of text tree).keyword
