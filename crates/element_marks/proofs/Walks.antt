-- Walks over elements: what is left behind those that were skipped.
use Rattle.std.proofs.Common.{◌≡◌, refl, ℕ, zero, suc, ◌+◌, ◌-◌, ◌<◌, ◌≤◌, ◌==◌, ◌∙◌, ap, sym, subst, arith, add-one, add-suc, append-nil, append_assoc, length, length-drop, List, [], ◌∷◌, ◌++◌, take, drop, drop-drop, slice_get, Option, Some, None, Result, Ok, Err, Bool, true, false, ◌||◌, if◌then◌else◌}
use Rattle.swift_base.specs.declared.place.Span.{Span}
use Rattle.element_marks.specs.declared.mark.Mark.{Mark}
use Rattle.element_marks.specs.declared.inherits.Stop.TheVariants as stop
use Rattle.element_marks.specs.Answers.{and_then}
use Rattle.element_marks.specs.Words.{is_accessor, is_accessor_modifier, is_observer}
use Rattle.element_marks.specs.Sorts.{is_colon}
use Rattle.element_marks.specs.Spans.{whole}
use Rattle.element_marks.specs.Heads.{by_length, attribute_length, first_is, prefix_length}
use Rattle.element_marks.specs.Inherits.{clause, length_before, named_type, pieces, with_piece}
use Rattle.element_marks.specs.Accessors.{accessor_length, accessors_from, is_some, observes_from, with_first, word_from}

pub word_from_skip : (count inside : ℕ) (marks : List Mark) → word_from count inside marks ≡ word_from (count + inside) 0 (drop inside marks)
word_from_skip count zero [] = refl
word_from_skip count (suc inside) [] = refl
word_from_skip count zero (mark ∷ marks) = let at : count ≡ count + 0 = omega arith in ap (λ n. word_from n 0 (mark ∷ marks)) at
word_from_skip count (suc inside) (mark ∷ marks) = let at : suc count + inside ≡ count + suc inside = omega arith in word_from_skip (suc count) inside marks ∙ ap (λ n. word_from n 0 (drop inside marks)) at

pub observes_from_skip : (inside : ℕ) (marks : List Mark) → observes_from inside marks ≡ observes_from 0 (drop inside marks)
observes_from_skip zero [] = refl
observes_from_skip (suc inside) [] = refl
observes_from_skip zero (mark ∷ marks) = refl
observes_from_skip (suc inside) (mark ∷ marks) = observes_from_skip inside marks

-- past a prefix, observers are looked for behind it
observes_past : (mark : Mark) (marks : List Mark) (prefix length : ℕ) → suc prefix ≡ length → observes_from 0 (drop prefix marks) ≡ by_length length (is_observer mark.keyword) (λ more. observes_from more marks)
observes_past mark marks prefix length is = subst (λ n. observes_from 0 (drop prefix marks) ≡ by_length n (is_observer mark.keyword) (λ more. observes_from more marks)) is (sym (observes_from_skip prefix marks))

observes_step : (marks : List Mark) (prefix : ℕ) → prefix ≡ prefix_length marks → 0 < prefix → observes_from 0 (drop prefix marks) ≡ observes_from 0 marks
observes_step [] zero is some = refl
observes_step [] (suc prefix) is some = refl
observes_step (mark ∷ marks) zero is some = absurd (omega (arith, some))
observes_step (mark ∷ marks) (suc prefix) is some = observes_past mark marks prefix (prefix_length (mark ∷ marks)) is

pub observes_further : (at prefix : ℕ) (marks : List Mark) → prefix ≡ prefix_length (drop at marks) → 0 < prefix → observes_from 0 (drop (at + prefix) marks) ≡ observes_from 0 (drop at marks)
observes_further at prefix marks is some = ap (observes_from 0) (sym (drop-drop prefix at marks)) ∙ observes_step (drop at marks) prefix is some

-- past an attribute, the word of an accessor is looked for behind it
word_past : (count : ℕ) (mark : Mark) (marks : List Mark) (attribute length : ℕ) (otherwise : ℕ) → suc attribute ≡ length → word_from (count + suc attribute) 0 (drop attribute marks) ≡ by_length length otherwise (λ more. word_from (suc count) more marks)
word_past count mark marks attribute length otherwise is =
    let at : count + suc attribute ≡ suc count + attribute = omega arith in
    subst (λ n. word_from (count + suc attribute) 0 (drop attribute marks) ≡ by_length n otherwise (λ more. word_from (suc count) more marks)) is (ap (λ n. word_from n 0 (drop attribute marks)) at ∙ sym (word_from_skip (suc count) attribute marks))

word_step : (count : ℕ) (marks : List Mark) (attribute : ℕ) → attribute ≡ attribute_length marks → 0 < attribute → word_from (count + attribute) 0 (drop attribute marks) ≡ word_from count 0 marks
word_step count [] zero is some = refl
word_step count [] (suc attribute) is some = refl
word_step count (mark ∷ marks) zero is some = absurd (omega (arith, some))
word_step count (mark ∷ marks) (suc attribute) is some =
    word_past count mark marks attribute (attribute_length (mark ∷ marks)) (if is_accessor_modifier mark.keyword then word_from (suc count) 0 marks else (if is_accessor mark.keyword then suc count else 0)) is

pub word_further : (count attribute : ℕ) (marks : List Mark) → attribute ≡ attribute_length (drop count marks) → 0 < attribute → word_from (count + attribute) 0 (drop (count + attribute) marks) ≡ word_from count 0 (drop count marks)
word_further count attribute marks is some = ap (word_from (count + attribute) 0) (sym (drop-drop attribute count marks)) ∙ word_step count (drop count marks) attribute is some

-- past an attribute, a piece names what stands behind it
named_skip : (inside : ℕ) (marks : List Mark) → named_type inside marks ≡ named_type 0 (drop inside marks)
named_skip zero [] = refl
named_skip (suc inside) [] = refl
named_skip zero (mark ∷ marks) = refl
named_skip (suc inside) (mark ∷ marks) = named_skip inside marks

named_past : (mark : Mark) (marks : List Mark) (attribute length : ℕ) → suc attribute ≡ length → named_type 0 (drop attribute marks) ≡ by_length length (whole (mark ∷ marks)) (λ more. named_type more marks)
named_past mark marks attribute length is = subst (λ n. named_type 0 (drop attribute marks) ≡ by_length n (whole (mark ∷ marks)) (λ more. named_type more marks)) is (sym (named_skip attribute marks))

pub named_step : (marks : List Mark) (attribute : ℕ) → attribute ≡ attribute_length marks → 0 < attribute → named_type 0 (drop attribute marks) ≡ named_type 0 marks
named_step [] zero is some = refl
named_step [] (suc attribute) is some = refl
named_step (mark ∷ marks) zero is some = absurd (omega (arith, some))
named_step (mark ∷ marks) (suc attribute) is some = named_past mark marks attribute (attribute_length (mark ∷ marks)) is

pub named_ends : (marks : List Mark) → 0 ≡ attribute_length marks → whole marks ≡ named_type 0 marks
named_ends [] is = refl
named_ends (mark ∷ marks) is = subst (λ n. whole (mark ∷ marks) ≡ by_length n (whole (mark ∷ marks)) (λ more. named_type more marks)) is refl

-- past a piece and its comma, the pieces behind them
pieces_skip : (inside : ℕ) (marks : List Mark) → pieces inside marks ≡ pieces 0 (drop inside marks)
pieces_skip zero [] = refl
pieces_skip (suc inside) [] = refl
pieces_skip zero (mark ∷ marks) = refl
pieces_skip (suc inside) (mark ∷ marks) = pieces_skip inside marks

pieces_past : (mark : Mark) (marks : List Mark) → with_piece (named_type 0 (take (length_before stop.Comma 0 0 (mark ∷ marks)) (mark ∷ marks))) (pieces 0 (drop (length_before stop.Comma 0 0 (mark ∷ marks)) marks)) ≡ pieces 0 (mark ∷ marks)
pieces_past mark marks = ap (with_piece (named_type 0 (take (length_before stop.Comma 0 0 (mark ∷ marks)) (mark ∷ marks)))) (sym (pieces_skip (length_before stop.Comma 0 0 (mark ∷ marks)) marks))

pieces_cons : (mark : Mark) (marks : List Mark) (piece : ℕ) → length_before stop.Comma 0 0 (mark ∷ marks) ≡ piece → with_piece (named_type 0 (take piece (mark ∷ marks))) (pieces 0 (drop piece marks)) ≡ pieces 0 (mark ∷ marks)
pieces_cons mark marks piece is = subst (λ n. with_piece (named_type 0 (take n (mark ∷ marks))) (pieces 0 (drop n marks)) ≡ pieces 0 (mark ∷ marks)) is (pieces_past mark marks)

pieces_step : (marks : List Mark) (piece : ℕ) → 0 < length marks → piece ≡ length_before stop.Comma 0 0 marks → with_piece (named_type 0 (take piece marks)) (pieces 0 (drop (suc piece) marks)) ≡ pieces 0 marks
pieces_step [] piece some is = absurd (omega (arith, some))
pieces_step (mark ∷ marks) piece some is = pieces_cons mark marks piece (sym is)

pushed_piece : (named : Option Span) (types others : List Span) → (types ++ with_piece named []) ++ others ≡ types ++ with_piece named others
pushed_piece None types others = ap (λ l. l ++ others) (append-nil types)
pushed_piece (Some piece) types others = append_assoc types (piece ∷ []) others

pub pieces_further : (types : List Span) (marks : List Mark) (piece : ℕ) → 0 < length marks → piece ≡ length_before stop.Comma 0 0 marks → (types ++ with_piece (named_type 0 (take piece marks)) []) ++ pieces 0 (drop 1 (drop piece marks)) ≡ types ++ pieces 0 marks
pieces_further types marks piece some is =
    ap (λ l. (types ++ with_piece (named_type 0 (take piece marks)) []) ++ pieces 0 l) (drop-drop 1 piece marks)
    ∙ ap (λ n. (types ++ with_piece (named_type 0 (take piece marks)) []) ++ pieces 0 (drop n marks)) (add-one piece)
    ∙ pushed_piece (named_type 0 (take piece marks)) types (pieces 0 (drop (suc piece) marks))
    ∙ ap (λ l. types ++ l) (pieces_step marks piece some is)

-- a clause is what stands behind its colon, up to `where`
clause_colon : (marks : List Mark) → first_is is_colon marks ≡ true → pieces 0 (take (length_before stop.Where 0 0 (drop 1 marks)) (drop 1 marks)) ≡ clause marks
clause_colon [] is = cc
clause_colon (mark ∷ marks) is = sym (ap (λ b. if b then pieces 0 (take (length_before stop.Where 0 0 marks) marks) else []) is)

pub clause_behind : (n : ℕ) (marks : List Mark) → first_is is_colon (drop n marks) ≡ true → pieces 0 (take (length_before stop.Where 0 0 (drop (n + 1) marks)) (drop (n + 1) marks)) ≡ clause (drop n marks)
clause_behind n marks is =
    ap (λ l. pieces 0 (take (length_before stop.Where 0 0 l) l)) (sym (drop-drop 1 n marks)) ∙ clause_colon (drop n marks) is

clause_plain : (marks : List Mark) → first_is is_colon marks ≡ false → [] ≡ clause marks
clause_plain [] is = refl
clause_plain (mark ∷ marks) is = sym (ap (λ b. if b then pieces 0 (take (length_before stop.Where 0 0 marks) marks) else []) is)

pub no_clause : (n : ℕ) (marks : List Mark) → first_is is_colon (drop n marks) ≡ false → [] ≡ clause (drop n marks)
no_clause n marks is = clause_plain (drop n marks) is

-- an accessor's word is one of the elements
either_within : (b : Bool) (x y n : ℕ) → x ≤ n → y ≤ n → (if b then x else y) ≤ n
either_within true x y n first second = first
either_within false x y n first second = second

word_bound_by : (count : ℕ) (mark : Mark) (marks : List Mark) (attribute : ℕ) → ((more : ℕ) → word_from (suc count) more marks ≤ suc count + length marks) → by_length attribute (if is_accessor_modifier mark.keyword then word_from (suc count) 0 marks else (if is_accessor mark.keyword then suc count else 0)) (λ more. word_from (suc count) more marks) ≤ suc count + length marks
word_bound_by count mark marks zero later =
    let here : suc count ≤ suc count + length marks = omega arith in
    let none : 0 ≤ suc count + length marks = omega arith in
    either_within (is_accessor_modifier mark.keyword) _ _ _ (later 0) (either_within (is_accessor mark.keyword) _ _ _ here none)
word_bound_by count mark marks (suc more) later = later more

pub word_bound : (count inside : ℕ) (marks : List Mark) → word_from count inside marks ≤ count + length marks
word_bound count inside [] = omega arith
word_bound count (suc inside) (mark ∷ marks) =
    let later : word_from (suc count) inside marks ≤ suc count + length marks = word_bound (suc count) inside marks in
    omega (arith, later)
word_bound count zero (mark ∷ marks) =
    let later : word_from count 0 (mark ∷ marks) ≤ suc count + length marks = word_bound_by count mark marks (attribute_length (mark ∷ marks)) (λ more. word_bound (suc count) more marks) in
    omega (arith, later)

-- past an accessor, the accessors behind it
accessors_skip : (braces : Bool) (inside : ℕ) (marks : List Mark) → accessors_from braces inside marks ≡ accessors_from braces 0 (drop inside marks)
accessors_skip braces zero [] = refl
accessors_skip braces (suc inside) [] = refl
accessors_skip braces zero (mark ∷ marks) = refl
accessors_skip braces (suc inside) (mark ∷ marks) = accessors_skip braces inside marks

-- the accessor's word before the others
abbrev pub accessor_then : List Mark → Result (List Span) ℕ → Result (List Span) ℕ
accessor_then word outcome = and_then outcome (λ words. Ok (with_first word words))

abbrev pub word_at : List Mark → List Mark
word_at marks = drop (word_from 0 0 marks - 1) marks

accessors_past : (braces : Bool) (mark : Mark) (marks : List Mark) (more length : ℕ) → suc more ≡ length → by_length length (Err mark.start) (λ n. accessor_then (word_at (mark ∷ marks)) (accessors_from braces n marks)) ≡ accessor_then (word_at (mark ∷ marks)) (accessors_from braces 0 (drop more marks))
accessors_past braces mark marks more length is =
    subst (λ m. by_length m (Err mark.start) (λ n. accessor_then (word_at (mark ∷ marks)) (accessors_from braces n marks)) ≡ accessor_then (word_at (mark ∷ marks)) (accessors_from braces 0 (drop more marks))) is
    (ap (accessor_then (word_at (mark ∷ marks))) (accessors_skip braces more marks))

pub accessors_step : (braces : Bool) (marks : List Mark) (length : ℕ) → length ≡ accessor_length braces marks → 0 < length → accessors_from braces 0 marks ≡ accessor_then (word_at marks) (accessors_from braces 0 (drop length marks))
accessors_step braces [] zero is some = refl
accessors_step braces [] (suc more) is some = refl
accessors_step braces (mark ∷ marks) zero is some = absurd (omega (arith, some))
accessors_step braces (mark ∷ marks) (suc more) is some = accessors_past braces mark marks more (accessor_length braces (mark ∷ marks)) is

accessors_fault : (braces : Bool) (marks : List Mark) (mark : Mark) → slice_get marks 0 ≡ Some mark → 0 ≡ accessor_length braces marks → accessors_from braces 0 marks ≡ Err mark.start
accessors_fault braces [] mark at is = cc
accessors_fault braces (first ∷ marks) mark at is =
    let same : first ≡ mark = cc in
    subst (λ m. by_length m (Err first.start) (λ n. accessor_then (word_at (first ∷ marks)) (accessors_from braces n marks)) ≡ Err first.start) is refl
    ∙ ap (λ m. Err m.start) same

get_behind : {X : Type 0} (n : ℕ) (xs : List X) → slice_get (drop n xs) 0 ≡ slice_get xs n
get_behind zero xs = refl
get_behind (suc n) [] = refl
get_behind (suc n) (x ∷ xs) = get_behind n xs

pub fault_behind : (braces : Bool) (at : ℕ) (marks : List Mark) (mark : Mark) → slice_get marks at ≡ Some mark → 0 ≡ accessor_length braces (drop at marks) → accessors_from braces 0 (drop at marks) ≡ Err mark.start
fault_behind braces at marks mark here is = accessors_fault braces (drop at marks) mark (get_behind at marks ∙ here) is

pub accessors_further : (braces : Bool) (at length : ℕ) (marks : List Mark) → length ≡ accessor_length braces (drop at marks) → 0 < length → accessors_from braces 0 (drop at marks) ≡ accessor_then (word_at (drop at marks)) (accessors_from braces 0 (drop (at + length) marks))
accessors_further braces at length marks is some =
    accessors_step braces (drop at marks) length is some
    ∙ ap (λ l. accessor_then (word_at (drop at marks)) (accessors_from braces 0 l)) (drop-drop length at marks)

-- the words so far before those of what is left
abbrev pub behind_words : List Span → Result (List Span) ℕ → Result (List Span) ℕ
behind_words words outcome = and_then outcome (λ more. Ok (words ++ more))

one_word : (words : List Span) (word : List Mark) (more : List Span) → words ++ with_first word more ≡ (words ++ with_first word []) ++ more
one_word words [] more = ap (λ l. l ++ more) (sym (append-nil words))
one_word words (mark ∷ marks) more = sym (append_assoc words _ more)

word_pushed : (words : List Span) (word : List Mark) (outcome : Result (List Span) ℕ) → behind_words words (accessor_then word outcome) ≡ behind_words (words ++ with_first word []) outcome
word_pushed words word (Ok more) = ap Ok (one_word words word more)
word_pushed words word (Err fault) = refl

pub words_further : (words : List Span) (at length : ℕ) (marks : List Mark) → length ≡ accessor_length true (drop at marks) → 0 < length → behind_words (words ++ with_first (word_at (drop at marks)) []) (accessors_from true 0 (drop (at + length) marks)) ≡ behind_words words (accessors_from true 0 (drop at marks))
words_further words at length marks is some =
    sym (word_pushed words (word_at (drop at marks)) (accessors_from true 0 (drop (at + length) marks)))
    ∙ ap (behind_words words) (sym (accessors_further true at length marks is some))

-- elements before a place were accessors: then some are listed where no fault follows
abbrev pub fine : ℕ → Result (List Span) ℕ → Bool
fine zero outcome = is_some outcome
fine (suc at) (Ok words) = true
fine (suc at) (Err fault) = false

words_some : (words : ℕ) (b : Bool) (n : ℕ) → 0 < (if words == 0 || b then 0 else n) → 0 < words
words_some zero b n some = some
words_some (suc words) b n some = omega arith

has_word : (braces : Bool) (marks : List Mark) → 0 < accessor_length braces marks → 0 < word_from 0 0 marks
unfolding accessor_length
has_word braces marks some = words_some (word_from 0 0 marks) _ _ some

word_there : (braces : Bool) (marks : List Mark) → 0 < accessor_length braces marks → 0 < length (word_at marks)
word_there braces marks some =
    let word : 0 < word_from 0 0 marks = has_word braces marks some in
    let within : word_from 0 0 marks ≤ 0 + length marks = word_bound 0 0 marks in
    omega (arith, word, within, length-drop (word_from 0 0 marks - 1) marks)

fine_then : (at more : ℕ) (word : List Mark) (outcome : Result (List Span) ℕ) → 0 < length word → fine (suc more) outcome ≡ fine at (accessor_then word outcome)
fine_then zero more [] outcome some = absurd (omega (arith, some))
fine_then zero more (mark ∷ marks) (Ok words) some = refl
fine_then zero more (mark ∷ marks) (Err fault) some = refl
fine_then (suc at) more word (Ok words) some = refl
fine_then (suc at) more word (Err fault) some = refl

pub fine_further : (at length : ℕ) (marks : List Mark) → length ≡ accessor_length false (drop at marks) → 0 < length → fine (at + length) (accessors_from false 0 (drop (at + length) marks)) ≡ fine at (accessors_from false 0 (drop at marks))
fine_further at zero marks is some = absurd (omega (arith, some))
fine_further at (suc more) marks is some =
    ap (λ n. fine n (accessors_from false 0 (drop (at + suc more) marks))) (add-suc at more)
    ∙ fine_then at (at + more) (word_at (drop at marks)) (accessors_from false 0 (drop (at + suc more) marks)) (word_there false (drop at marks) (omega (arith, is)))
    ∙ ap (fine at) (sym (accessors_further false at (suc more) marks is some))

fine_err : (at fault : ℕ) → fine at (Err fault) ≡ false
fine_err zero fault = refl
fine_err (suc at) fault = refl

pub fine_no : (at : ℕ) (marks : List Mark) → 0 < length marks → 0 ≡ accessor_length false marks → fine at (accessors_from false 0 marks) ≡ false
fine_no at [] some is = absurd (omega (arith, some))
fine_no at (mark ∷ marks) some is = ap (fine at) (accessors_fault false (mark ∷ marks) mark refl is) ∙ fine_err at mark.start
