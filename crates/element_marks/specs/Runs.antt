-- How many elements declarations and bindings are: after The Swift Programming Language, Declarations; where each ends is this project's own.
use Rattle.std.specs.Prelude.{ℕ, suc, ◌+◌, ◌==◌, List, [], ◌∷◌, drop, Bool, false, ◌&&◌, ◌||◌, not, if◌then◌else◌}
use Rattle.element_marks.specs.declared.mark.Mark.{Mark}
use Rattle.element_marks.specs.Sorts.{is_comma, is_colon, is_equals, is_pattern, is_semicolon}
use Rattle.element_marks.specs.Heads.{first_is}

-- how many elements stand before the first that passes
abbrev pub before : (Mark → Bool) → List Mark → ℕ
before test [] = 0
before test (mark ∷ marks) = if test mark then 0 else suc (before test marks)

-- nothing of the declaration before stands here: a `;`, or a head that is first on its line and that nothing joins to the element before
abbrev pub stops : Bool → Mark → Bool
stops joined mark = is_semicolon mark || (mark.first && not (mark.head == 0) && not joined)

-- how many elements stand before the first that stops; `joined` where the element before them joins
abbrev pub run_length : Bool → List Mark → ℕ
run_length joined [] = 0
run_length joined (mark ∷ marks) = if stops joined mark then 0 else suc (run_length mark.joins marks)

-- how many elements the declaration has that begins here with a head of so many elements
abbrev pub item_length : ℕ → List Mark → ℕ
item_length head marks = head + run_length false (drop head marks)

-- what follows a comma begins another binding, though an initializer stands before it
abbrev pub begins_binding : List Mark → Bool
begins_binding [] = false
begins_binding (pattern ∷ marks) = is_pattern pattern && (first_is is_colon marks || first_is is_equals marks)

-- how many elements a binding has behind its pattern: up to a comma that ends it, by whether its `=` has passed and so many `<` and `>`
abbrev pub binding_length : Bool → ℕ → ℕ → List Mark → ℕ
binding_length initialized opened closed [] = 0
binding_length initialized opened closed (mark ∷ marks) =
    if is_comma mark && (if initialized then begins_binding marks else opened == closed) then 0
    else suc (binding_length (initialized || is_equals mark) (opened + mark.opens) (closed + mark.closes) marks)
