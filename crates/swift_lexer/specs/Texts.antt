-- Characters at the front of a text, and what stands behind them: this project's own words.
use Rattle.std.specs.Prelude.{ℕ, suc, zero, Bool, false, List, [], ◌∷◌, Option, Some, None, if◌then◌else◌, ◌==◌, ◌&&◌, ◌||◌, not}
use Rattle.swift_lexer.specs.declared.chars.TheConstants.{SLASH, STAR, POUND}

-- the first character passes the test
abbrev pub starts : (ℕ → Bool) → List ℕ → Bool
starts test [] = false
starts test (c ∷ cs) = test c

abbrev pub begins : ℕ → List ℕ → Bool
begins mark = starts (λ c. c == mark)

-- behind the first character
abbrev pub behind : List ℕ → List ℕ
behind [] = []
behind (c ∷ cs) = cs

-- behind the longest run of characters that pass the test
abbrev pub after_run : (ℕ → Bool) → List ℕ → List ℕ
after_run test [] = []
after_run test (c ∷ cs) = if test c then after_run test cs else c ∷ cs

-- a comment begins here, of one of the two kinds
abbrev pub begins_comment : List ℕ → Bool
begins_comment text = begins SLASH text && (begins SLASH (behind text) || begins STAR (behind text))

-- behind the longest run of characters that pass the test, with which no comment begins
abbrev pub after_operator : (ℕ → Bool) → List ℕ → List ℕ
after_operator test [] = []
after_operator test (c ∷ cs) = if test c && not (begins_comment (c ∷ cs)) then after_operator test cs else c ∷ cs

-- behind a number of times one mark, where the text begins so
abbrev pub after_marks : ℕ → ℕ → List ℕ → Option (List ℕ)
after_marks mark zero text = Some text
after_marks mark (suc n) [] = None
after_marks mark (suc n) (c ∷ cs) = if c == mark then after_marks mark n cs else None

-- so many times the mark, and then the text
abbrev pub times : ℕ → ℕ → List ℕ → List ℕ
times zero mark text = text
times (suc n) mark text = mark ∷ times n mark text

-- how many pound signs begin the text
abbrev pub pounds : List ℕ → ℕ
pounds [] = 0
pounds (c ∷ cs) = if c == POUND then suc (pounds cs) else 0

unfoldable pub ends_comment : ℕ → ℕ → Bool
ends_comment c d = c == STAR && d == SLASH

unfoldable pub opens_comment : ℕ → ℕ → Bool
opens_comment c d = c == SLASH && d == STAR

-- behind the end of a comment, for a text inside as many comments, one in another
abbrev pub after_comment : ℕ → List ℕ → Option (List ℕ)
after_comment zero text = Some text
after_comment (suc depth) [] = None
after_comment (suc depth) (c ∷ []) = None
after_comment (suc depth) (c ∷ d ∷ cs) =
    if ends_comment c d then after_comment depth cs
    else (if opens_comment c d then after_comment (suc (suc depth)) cs
    else after_comment (suc depth) (d ∷ cs))
