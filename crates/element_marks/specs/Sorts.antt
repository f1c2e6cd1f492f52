-- Elements by what they are: this project's own words.
use Rattle.std.specs.Prelude.{Bool, true, false, ◌&&◌, ◌||◌, not}
use Rattle.element_marks.specs.declared.mark.Mark.{Mark}
use Rattle.element_marks.specs.declared.mark.Sort.{Sort}
use Rattle.element_marks.specs.declared.mark.Sort.TheVariants as sort

abbrev pub is_word_sort : Sort → Bool
is_word_sort sort.Word = true
is_word_sort _ = false

abbrev pub is_quoted_sort : Sort → Bool
is_quoted_sort sort.Quoted = true
is_quoted_sort _ = false

abbrev pub is_name_sort : Sort → Bool
is_name_sort sort.Word = true
is_name_sort sort.Quoted = true
is_name_sort _ = false

abbrev pub is_pound_sort : Sort → Bool
is_pound_sort sort.Pound = true
is_pound_sort sort.BuiltinPound = true
is_pound_sort _ = false

abbrev pub is_builtin_pound_sort : Sort → Bool
is_builtin_pound_sort sort.BuiltinPound = true
is_builtin_pound_sort _ = false

abbrev pub is_use_sort : Sort → Bool
is_use_sort sort.Pound = true
is_use_sort _ = false

abbrev pub is_at_sort : Sort → Bool
is_at_sort sort.At = true
is_at_sort _ = false

abbrev pub is_comma_sort : Sort → Bool
is_comma_sort sort.Comma = true
is_comma_sort _ = false

abbrev pub is_colon_sort : Sort → Bool
is_colon_sort sort.Colon = true
is_colon_sort _ = false

abbrev pub is_semicolon_sort : Sort → Bool
is_semicolon_sort sort.Semicolon = true
is_semicolon_sort _ = false

abbrev pub is_dot_sort : Sort → Bool
is_dot_sort sort.Dot = true
is_dot_sort _ = false

abbrev pub is_equals_sort : Sort → Bool
is_equals_sort sort.Equals = true
is_equals_sort _ = false

abbrev pub is_operator_sort : Sort → Bool
is_operator_sort sort.Equals = true
is_operator_sort sort.Arrow = true
is_operator_sort sort.Operator = true
is_operator_sort _ = false

abbrev pub is_parentheses_sort : Sort → Bool
is_parentheses_sort sort.Parentheses = true
is_parentheses_sort _ = false

abbrev pub is_braces_sort : Sort → Bool
is_braces_sort sort.Braces = true
is_braces_sort _ = false

abbrev pub is_pattern_sort : Sort → Bool
is_pattern_sort sort.Word = true
is_pattern_sort sort.Quoted = true
is_pattern_sort sort.Parentheses = true
is_pattern_sort _ = false

-- the same of an element
abbrev pub is_word : Mark → Bool
is_word mark = is_word_sort mark.sort

abbrev pub is_quoted : Mark → Bool
is_quoted mark = is_quoted_sort mark.sort

abbrev pub is_name : Mark → Bool
is_name mark = is_name_sort mark.sort

abbrev pub is_pound : Mark → Bool
is_pound mark = is_pound_sort mark.sort

abbrev pub is_builtin_pound : Mark → Bool
is_builtin_pound mark = is_builtin_pound_sort mark.sort

abbrev pub is_use : Mark → Bool
is_use mark = is_use_sort mark.sort

abbrev pub is_at : Mark → Bool
is_at mark = is_at_sort mark.sort

abbrev pub is_comma : Mark → Bool
is_comma mark = is_comma_sort mark.sort

abbrev pub is_colon : Mark → Bool
is_colon mark = is_colon_sort mark.sort

abbrev pub is_semicolon : Mark → Bool
is_semicolon mark = is_semicolon_sort mark.sort

abbrev pub is_dot : Mark → Bool
is_dot mark = is_dot_sort mark.sort

abbrev pub is_equals : Mark → Bool
is_equals mark = is_equals_sort mark.sort

abbrev pub is_operator : Mark → Bool
is_operator mark = is_operator_sort mark.sort

abbrev pub is_parentheses : Mark → Bool
is_parentheses mark = is_parentheses_sort mark.sort

abbrev pub is_braces : Mark → Bool
is_braces mark = is_braces_sort mark.sort

abbrev pub is_pattern : Mark → Bool
is_pattern mark = is_pattern_sort mark.sort

-- arguments stand on the line of what they belong to
abbrev pub is_arguments : Mark → Bool
is_arguments mark = is_parentheses mark && not mark.first

-- begins with an `@` or a `#`
abbrev pub is_at_or_pound : Mark → Bool
is_at_or_pound mark = is_at mark || is_pound mark
