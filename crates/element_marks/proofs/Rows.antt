-- The row of a word.
use Rattle.std.proofs.Common.{◌≡◌, refl, ◌∙◌, ap, sym, ℕ, zero, suc, eq-eqb, arith, nat_lt, ◌<◌, ◌≤◌, length, ◌-◌, take, drop, map, slice_index_or, slice_range, not, ◌==◌, List, [], ◌∷◌, find, Some, Bool, true, false, inl, inr, if◌then◌else◌}
use Rattle.std.proofs.lemmas.Bool.{and_parts, cases_Bool, ltb-true, ne_eqb}
use Rattle.std.proofs.lemmas.Slice.Eq.{bytes_eq-Decides}
use Rattle.std.specs.List.{list_all}
use Rattle.std.proofs.lemmas.List.{drop-map, take-map}
use Rattle.std.specs.Option.{option_map_or}
use Rattle.std.specs.Str.{bytes_eq}
use Rattle.element_marks.specs.declared.words.Keyword.{Keyword}
use Rattle.element_marks.specs.declared.words.Keyword.TheVariants.{Plain}
use Rattle.element_marks.specs.declared.words.TheConstants.{ROWS, WORDS}
use Rattle.element_marks.specs.Words.{keyword_in, keyword_of, looks_like_keyword}

keyword_step : {R : Type 0} (spelling : R → List ℕ) (keyword : R → Keyword) (row : R) (rows : List R) (word : List ℕ) (b : Bool) → option_map_or keyword (find (λ r. bytes_eq (spelling r) word) rows) Plain ≡ keyword_in spelling keyword rows word → option_map_or keyword (if b then Some row else find (λ r. bytes_eq (spelling r) word) rows) Plain ≡ (if b then keyword row else keyword_in spelling keyword rows word)
keyword_step spelling keyword row rows word true later = refl
keyword_step spelling keyword row rows word false later = later

pub keyword_in_find : {R : Type 0} (spelling : R → List ℕ) (keyword : R → Keyword) (rows : List R) (word : List ℕ) → option_map_or keyword (find (λ r. bytes_eq (spelling r) word) rows) Plain ≡ keyword_in spelling keyword rows word
keyword_in_find spelling keyword [] word = refl
keyword_in_find spelling keyword (row ∷ rows) word = keyword_step spelling keyword row rows word (bytes_eq (spelling row) word) (keyword_in_find spelling keyword rows word)

true_false : true ≡ false → ⊥
true_false is = cc

other_row : {R : Type 0} (spelling : R → List ℕ) (fits : List ℕ → Bool) (row : R) (word : List ℕ) → fits (spelling row) ≡ true → fits word ≡ false → bytes_eq (spelling row) word ≡ false
other_row spelling fits row word fit unfit = elim (cases_Bool (bytes_eq (spelling row) word)) [
  | inl same ↦ absurd (true_false (sym fit ∙ ap fits ((bytes_eq-Decides (spelling row) word).0 same) ∙ unfit))
  | inr other ↦ other
]

-- a word for which a test fails that each row passes has no row
no_row : {R : Type 0} (spelling : R → List ℕ) (keyword : R → Keyword) (fits : List ℕ → Bool) (rows : List R) (word : List ℕ) → list_all (λ row. fits (spelling row)) rows ≡ true → fits word ≡ false → keyword_in spelling keyword rows word ≡ Plain
no_row spelling keyword fits [] word fit unfit = refl
no_row spelling keyword fits (row ∷ rows) word fit unfit =
    let parts : (fits (spelling row) ≡ true) × (list_all (λ r. fits (spelling r)) rows ≡ true) = and_parts (fits (spelling row)) (list_all (λ r. fits (spelling r)) rows) fit in
    ap (λ b. if b then keyword row else keyword_in spelling keyword rows word) (other_row spelling fits row word parts.0 unfit)
    ∙ no_row spelling keyword fits rows word parts.1 unfit

words_look_so : list_all (λ row. looks_like_keyword row.0.now) WORDS ≡ true
words_look_so = refl

pub no_keyword : (word : List ℕ) → looks_like_keyword word ≡ false → keyword_of word ≡ Plain
unfolding keyword_of
no_keyword word unfit = no_row (λ row. row.0.now) (λ row. row.1) looks_like_keyword WORDS word words_look_so unfit

-- the rows that pass a test
abbrev pub fitting : {R : Type 0} → (R → Bool) → List R → List R
fitting fits [] = []
fitting fits (row ∷ rows) = if fits row then row ∷ fitting fits rows else fitting fits rows

fitting_step : {R : Type 0} (spelling : R → List ℕ) (keyword : R → Keyword) (row : R) (rows : List R) (word : List ℕ) (b : Bool) → (length (spelling row) == length word) ≡ b → keyword_in spelling keyword rows word ≡ keyword_in spelling keyword (fitting (λ r. length (spelling r) == length word) rows) word → keyword_in spelling keyword (row ∷ rows) word ≡ keyword_in spelling keyword (if b then row ∷ fitting (λ r. length (spelling r) == length word) rows else fitting (λ r. length (spelling r) == length word) rows) word
fitting_step spelling keyword row rows word true is later = ap (λ k. if bytes_eq (spelling row) word then keyword row else k) later
fitting_step spelling keyword row rows word false is later =
    let other : bytes_eq (spelling row) word ≡ false = other_row spelling (λ w. not (length w == length word)) row word (ap not is) (ap not (eq-eqb (length word) (length word) refl)) in
    ap (λ b. if b then keyword row else keyword_in spelling keyword rows word) other ∙ later

-- a word's row is as long
pub keyword_fits : {R : Type 0} (spelling : R → List ℕ) (keyword : R → Keyword) (rows : List R) (word : List ℕ) → keyword_in spelling keyword rows word ≡ keyword_in spelling keyword (fitting (λ r. length (spelling r) == length word) rows) word
keyword_fits spelling keyword [] word = refl
keyword_fits spelling keyword (row ∷ rows) word = fitting_step spelling keyword row rows word (length (spelling row) == length word) refl (keyword_fits spelling keyword rows word)

-- the words and what they are for
abbrev pub paired : {R : Type 0} → (R → List ℕ) → (R → Keyword) → List R → List (List ℕ × Keyword)
paired spelling keyword rows = map (λ row. (spelling row, keyword row)) rows

pub paired_range : {R : Type 0} (spelling : R → List ℕ) (keyword : R → Keyword) (rows : List R) (from to : ℕ) → paired spelling keyword (slice_range rows from to) ≡ slice_range (paired spelling keyword rows) from to
paired_range spelling keyword rows from to =
    sym (ap (take (to - from)) (drop-map (λ row. (spelling row, keyword row)) from rows) ∙ take-map (λ row. (spelling row, keyword row)) (to - from) (drop from rows))

pub keyword_paired : {R : Type 0} (spelling : R → List ℕ) (keyword : R → Keyword) (rows : List R) (word : List ℕ) → keyword_in spelling keyword rows word ≡ keyword_in (λ row. row.0) (λ row. row.1) (paired spelling keyword rows) word
keyword_paired spelling keyword [] word = refl
keyword_paired spelling keyword (row ∷ rows) word = ap (λ k. if bytes_eq (spelling row) word then keyword row else k) (keyword_paired spelling keyword rows word)

abbrev pub words : List (List ℕ × Keyword)
words = paired (λ row. row.0.now) (λ row. row.1) WORDS

words_short : list_all (λ row. nat_lt (length row.0) 21) words ≡ true
words_short = refl

-- past the longest word there is no row
no_fitting_by : {R : Type 0} (spelling : R → List ℕ) (n : ℕ) (rows : List R) → list_all (λ row. nat_lt (length (spelling row)) 21) rows ≡ true → 21 ≤ n → fitting (λ row. length (spelling row) == n) rows ≡ []
no_fitting_by spelling n [] short long = refl
no_fitting_by spelling n (row ∷ rows) short long =
    let parts : (nat_lt (length (spelling row)) 21 ≡ true) × (list_all (λ r. nat_lt (length (spelling r)) 21) rows ≡ true) = and_parts (nat_lt (length (spelling row)) 21) (list_all (λ r. nat_lt (length (spelling r)) 21) rows) short in
    let less : length (spelling row) < 21 = ltb-true (length (spelling row)) 21 parts.0 in
    ap (λ b. if b then row ∷ fitting (λ r. length (spelling r) == n) rows else fitting (λ r. length (spelling r) == n) rows) (ne_eqb (length (spelling row)) n (λ same. absurd (omega (arith, same, less, long))))
    ∙ no_fitting_by spelling n rows parts.1 long

fitting_rows : (n : ℕ) → slice_range words (slice_index_or ROWS n (0, 0)).0 (slice_index_or ROWS n (0, 0)).1 ≡ fitting (λ row. length row.0 == n) words
fitting_rows zero = refl
fitting_rows (suc zero) = refl
fitting_rows (suc (suc zero)) = refl
fitting_rows (suc (suc (suc zero))) = refl
fitting_rows (suc (suc (suc (suc zero)))) = refl
fitting_rows (suc (suc (suc (suc (suc zero))))) = refl
fitting_rows (suc (suc (suc (suc (suc (suc zero)))))) = refl
fitting_rows (suc (suc (suc (suc (suc (suc (suc zero))))))) = refl
fitting_rows (suc (suc (suc (suc (suc (suc (suc (suc zero)))))))) = refl
fitting_rows (suc (suc (suc (suc (suc (suc (suc (suc (suc zero))))))))) = refl
fitting_rows (suc (suc (suc (suc (suc (suc (suc (suc (suc (suc zero)))))))))) = refl
fitting_rows (suc (suc (suc (suc (suc (suc (suc (suc (suc (suc (suc zero))))))))))) = refl
fitting_rows (suc (suc (suc (suc (suc (suc (suc (suc (suc (suc (suc (suc zero)))))))))))) = refl
fitting_rows (suc (suc (suc (suc (suc (suc (suc (suc (suc (suc (suc (suc (suc zero))))))))))))) = refl
fitting_rows (suc (suc (suc (suc (suc (suc (suc (suc (suc (suc (suc (suc (suc (suc zero)))))))))))))) = refl
fitting_rows (suc (suc (suc (suc (suc (suc (suc (suc (suc (suc (suc (suc (suc (suc (suc zero))))))))))))))) = refl
fitting_rows (suc (suc (suc (suc (suc (suc (suc (suc (suc (suc (suc (suc (suc (suc (suc (suc zero)))))))))))))))) = refl
fitting_rows (suc (suc (suc (suc (suc (suc (suc (suc (suc (suc (suc (suc (suc (suc (suc (suc (suc zero))))))))))))))))) = refl
fitting_rows (suc (suc (suc (suc (suc (suc (suc (suc (suc (suc (suc (suc (suc (suc (suc (suc (suc (suc zero)))))))))))))))))) = refl
fitting_rows (suc (suc (suc (suc (suc (suc (suc (suc (suc (suc (suc (suc (suc (suc (suc (suc (suc (suc (suc zero))))))))))))))))))) = refl
fitting_rows (suc (suc (suc (suc (suc (suc (suc (suc (suc (suc (suc (suc (suc (suc (suc (suc (suc (suc (suc (suc zero)))))))))))))))))))) = refl
fitting_rows (suc (suc (suc (suc (suc (suc (suc (suc (suc (suc (suc (suc (suc (suc (suc (suc (suc (suc (suc (suc (suc n))))))))))))))))))))) = sym (no_fitting_by (λ row. row.0) (suc (suc (suc (suc (suc (suc (suc (suc (suc (suc (suc (suc (suc (suc (suc (suc (suc (suc (suc (suc (suc n))))))))))))))))))))) words words_short (omega arith))

pub keyword_between : (word : List ℕ) → keyword_in (λ row. row.0) (λ row. row.1) (slice_range words (slice_index_or ROWS (length word) (0, 0)).0 (slice_index_or ROWS (length word) (0, 0)).1) word ≡ keyword_of word
unfolding keyword_of
keyword_between word =
    ap (λ rows. keyword_in (λ row. row.0) (λ row. row.1) rows word) (fitting_rows (length word))
    ∙ sym (keyword_fits (λ row. row.0) (λ row. row.1) words word)
    ∙ sym (keyword_paired (λ row. row.0.now) (λ row. row.1) WORDS word)
