-- What stands at a front is spelled as its class says.
use Rattle.std.proofs.Common.{◌≡◌, inl, inr, ℕ, zero, suc, ◌<◌, Bool, true, false, List, [], ◌∷◌, ◌++◌, length, Some, None, if◌then◌else◌, ◌==◌, ◌&&◌, ◌||◌, not, sym, refl, ap, subst, arith, ◌∙◌, append_assoc}
use Rattle.std.specs.List.{AllPass}
use Rattle.std.specs.Char.{is_ascii_digit}
use Rattle.std.specs.Prelude.{Option}
use Rattle.std.proofs.lemmas.List.Elements.{All-nil, All-cons}
use Rattle.std.proofs.lemmas.Bool.{and_parts, eqb-true, false≢true}
use Rattle.swift_lexer.specs.declared.chars.Front.{Front}
use Rattle.swift_lexer.specs.declared.chars.Front.TheVariants as front
use Rattle.swift_lexer.specs.declared.chars.TheConstants.{QUOTE, BACKQUOTE, POUND, AT, DOT, SLASH, STAR}
use Rattle.swift_lexer.specs.declared.token.Class.{Class}
use Rattle.swift_lexer.specs.declared.token.Class.TheVariants.{Word, Quoted, Number, Pound, At, Punct, Oper, LeftBracket, RightBracket}
use Rattle.swift_lexer.specs.declared.token.LexKind.TheVariants.{BadCharacter, ExtendedRegex}
use Rattle.swift_lexer.specs.declared.found.Found.{Found}
use Rattle.swift_lexer.specs.declared.found.Found.TheVariants.{Trivia, Token, Opens, Fails}
use Rattle.swift_lexer.specs.declared.found.Quotes.{Quotes}
use Rattle.swift_lexer.specs.Chars.{is_blank, is_word_part, is_name_start, is_number_part, is_operator, operator_part, is_quoted_part, front_of}
use Rattle.swift_lexer.specs.Texts.{ends_comment, opens_comment, starts, begins, behind, after_run, begins_comment, after_operator, after_marks, after_comment, times, pounds}
use Rattle.swift_lexer.specs.Fronts.{Finding, after_fraction, opening_by, opening, comment_by, slash, quoted, pound, dot, by_front, at_front}
use Rattle.swift_lexer.specs.Spellings.{SpellsWith, StopsBefore}
use Rattle.swift_lexer.specs.Trivia.{in_line, IsPiece, blanks, line, nested}
use Rattle.swift_lexer.proofs.Comments.{comment_goes_on}
use Rattle.swift_lexer.proofs.StringSpelled.{start_of, marks_cut}
use Rattle.swift_lexer.proofs.FrontKinds.{IsOfKind, front_of-kind}

-- the characters that a run passes
record RunOf (test : ℕ → Bool) (text rest : List ℕ) : Type 0 where
  run : List ℕ
  split : text ≡ run ++ rest
  pass : AllPass test run

after_run-stops : (test : ℕ → Bool) (text : List ℕ) → starts test (after_run test text) ≡ false
after_run-stops test [] = refl
after_run-stops test (c ∷ cs) =
    elim (test c) as (λ b. test c ≡ b → starts test (if b then after_run test cs else c ∷ cs) ≡ false) [
      | true ↦ λ passes. after_run-stops test cs
      | false ↦ λ fails. fails
    ] refl

-- an operator goes on here
abbrev operator_goes_on : (ℕ → Bool) → List ℕ → Bool
operator_goes_on test text = starts test text && not (begins_comment text)

after_operator-stops : (test : ℕ → Bool) (text : List ℕ) → operator_goes_on test (after_operator test text) ≡ false
after_operator-stops test [] = refl
after_operator-stops test (c ∷ cs) =
    elim (test c && not (begins_comment (c ∷ cs))) as (λ b. (test c && not (begins_comment (c ∷ cs))) ≡ b → operator_goes_on test (if b then after_operator test cs else c ∷ cs) ≡ false) [
      | true ↦ λ passes. after_operator-stops test cs
      | false ↦ λ fails. fails
    ] refl

-- where dots go on too, characters without dots don't
without_dots : (text : List ℕ) → operator_goes_on (operator_part true) text ≡ false → operator_goes_on (operator_part false) text ≡ false
unfolding operator_part
without_dots [] stops = refl
without_dots (c ∷ cs) stops =
    elim (c == DOT) as (λ b. ((b || is_operator c) && not (begins_comment (c ∷ cs))) ≡ false → (is_operator c && not (begins_comment (c ∷ cs))) ≡ false) [
      | true ↦ λ dotted. absent (is_operator c) (not (begins_comment (c ∷ cs))) dotted
      | false ↦ λ plain. plain
    ] stops
  where
    absent : (one other : Bool) → other ≡ false → (one && other) ≡ false
    absent true other is = is
    absent false other is = refl

no_run : (test : ℕ → Bool) (text : List ℕ) → RunOf test text text
no_run test text = record { run = []; split = refl; pass = All-nil (λ c. test c ≡ true) }

more_run : (test : ℕ → Bool) (c : ℕ) (text rest : List ℕ) → test c ≡ true → RunOf test text rest → RunOf test (c ∷ text) rest
more_run test c text rest passes run = record { run = c ∷ run.run; split = ap (λ l. c ∷ l) run.split; pass = All-cons (λ d. test d ≡ true) c run.run passes run.pass }

after_run-run : (test : ℕ → Bool) (text : List ℕ) → RunOf test text (after_run test text)
after_run-run test [] = no_run test []
after_run-run test (c ∷ cs) =
    elim (test c) as (λ b. test c ≡ b → RunOf test (c ∷ cs) (if b then after_run test cs else c ∷ cs)) [
      | true ↦ λ passes. more_run test c cs (after_run test cs) passes (after_run-run test cs)
      | false ↦ λ fails. no_run test (c ∷ cs)
    ] refl

after_operator-run : (test : ℕ → Bool) (text : List ℕ) → RunOf test text (after_operator test text)
after_operator-run test [] = no_run test []
after_operator-run test (c ∷ cs) =
    elim (test c && not (begins_comment (c ∷ cs))) as (λ b. (test c && not (begins_comment (c ∷ cs))) ≡ b → RunOf test (c ∷ cs) (if b then after_operator test cs else c ∷ cs)) [
      | true ↦ λ passes. more_run test c cs (after_operator test cs) (and_parts (test c) (not (begins_comment (c ∷ cs))) passes).0 (after_operator-run test cs)
      | false ↦ λ fails. no_run test (c ∷ cs)
    ] refl

-- a text that begins with a character that passes
record BeginsSo (test : ℕ → Bool) (text : List ℕ) : Type 0 where
  first : ℕ
  passes : test first ≡ true
  split : text ≡ first ∷ behind text

starts_so : (test : ℕ → Bool) (text : List ℕ) → starts test text ≡ true → BeginsSo test text
starts_so test [] is = absurd (false≢true is)
starts_so test (c ∷ cs) is = record { first = c; passes = is; split = refl }

pub begins_so : (mark : ℕ) (text : List ℕ) → begins mark text ≡ true → text ≡ mark ∷ behind text
begins_so mark [] is = absurd (false≢true is)
begins_so mark (c ∷ cs) is = ap (λ d. d ∷ cs) (eqb-true c mark is)

-- a run that begins
record SomeRun (test : ℕ → Bool) (text rest : List ℕ) : Type 0 where
  first : ℕ
  others : List ℕ
  passes : test first ≡ true
  pass : AllPass test others
  split : text ≡ first ∷ (others ++ rest)

some_run : (test : ℕ → Bool) (text : List ℕ) → starts test text ≡ true → SomeRun test text (after_run test text)
some_run test [] is = absurd (false≢true is)
some_run test (c ∷ cs) is =
    let run = after_run-run test cs in
    subst (λ b. SomeRun test (c ∷ cs) (if b then after_run test cs else c ∷ cs)) (sym is) (record { first = c; others = run.run; passes = is; pass = run.pass; split = ap (λ l. c ∷ l) run.split })

-- what is found behind a first character, spelled by it and the others
record Spelled (class : Class) (c : ℕ) (rest after : List ℕ) : Type 0 where
  others : List ℕ
  split : rest ≡ others ++ after
  spelled : SpellsWith class c others
  stops : StopsBefore class after

-- trivia behind a first character
record Passed (c : ℕ) (rest after : List ℕ) : Type 0 where
  others : List ℕ
  split : rest ≡ others ++ after
  piece : IsPiece (c ∷ others)

abbrev FoundSpells : Found → ℕ → List ℕ → List ℕ → Type 0
FoundSpells Trivia c rest after = Passed c rest after
FoundSpells (Token class) c rest after = Spelled class c rest after
FoundSpells (Opens quotes) c rest after = c ∷ rest ≡ start_of quotes after
FoundSpells (Fails kind) c rest after = Unit {0}

abbrev FindingSpells : ℕ → List ℕ → Finding → Type 0
FindingSpells c rest finding = FoundSpells finding.0 c rest finding.1

alone : (class : Class) (c : ℕ) (rest : List ℕ) → SpellsWith class c [] → StopsBefore class rest → Spelled class c rest rest
alone class c rest spelled stops = record { others = []; split = refl; spelled = spelled; stops = stops }

word-spells : (c : ℕ) (rest : List ℕ) → IsOfKind front.Word c → Spelled Word c rest (after_run is_word_part rest)
word-spells c rest is = let run = after_run-run is_word_part rest in record { others = run.run; split = run.split; spelled = (is, run.pass); stops = after_run-stops is_word_part rest }

digit_is_part : (c : ℕ) → is_ascii_digit c ≡ true → is_number_part c ≡ true
unfolding is_number_part
digit_is_part c is = rw is refl

number-spells : (c : ℕ) (rest : List ℕ) → is_ascii_digit c ≡ true → Spelled Number c rest (after_fraction (after_run is_number_part rest))
unfolding after_fraction
number-spells c rest is =
    let whole = after_run-run is_number_part rest in
    let text : List ℕ = after_run is_number_part rest in
    elim (begins DOT text && starts is_ascii_digit (behind text)) as (λ b. (begins DOT text && starts is_ascii_digit (behind text)) ≡ b → Spelled Number c rest (if b then after_run is_number_part (behind text) else text)) [
      | true ↦ λ has.
          let parts = and_parts (begins DOT text) (starts is_ascii_digit (behind text)) has in
          let dotted = begins_so DOT text parts.0 in
          let digit = starts_so is_ascii_digit (behind text) parts.1 in
          let part : starts is_number_part (behind text) ≡ true = subst (λ l. starts is_number_part l ≡ true) (sym digit.split) (digit_is_part digit.first digit.passes) in
          let run = some_run is_number_part (behind text) part in
          let same : digit.first ≡ run.first = cc in
          let split : rest ≡ whole.run ++ (DOT ∷ run.first ∷ (run.others ++ after_run is_number_part (behind text))) = whole.split ∙ ap (λ l. whole.run ++ l) (dotted ∙ ap (λ l. DOT ∷ l) run.split) in
          record {
            others = whole.run ++ (DOT ∷ run.first ∷ run.others);
            split = split ∙ sym (append_assoc whole.run (DOT ∷ run.first ∷ run.others) (after_run is_number_part (behind text)));
            spelled = (is, inr (record { whole = whole.run; digit = run.first; fraction = run.others; whole_parts = whole.pass; is_digit = subst (λ d. is_ascii_digit d ≡ true) same digit.passes; fraction_parts = run.pass; split = refl }));
            stops = after_run-stops is_number_part (behind text);
          }
      | false ↦ λ has_not. record { others = whole.run; split = whole.split; spelled = (is, inl whole.pass); stops = after_run-stops is_number_part rest }
    ] refl

-- an operator without dots
operator-spells : (c : ℕ) (rest : List ℕ) → operator_part false c ≡ true → Spelled Oper c rest (after_operator (operator_part false) rest)
operator-spells c rest is =
    let run = after_operator-run (operator_part false) rest in
    record { others = run.run; split = run.split; spelled = inl (All-cons (λ d. operator_part false d ≡ true) c run.run is run.pass); stops = after_operator-stops (operator_part false) rest }

dots-spell : (c : ℕ) (rest : List ℕ) → c ≡ DOT → Spelled Oper c (DOT ∷ rest) (after_operator (operator_part true) (DOT ∷ rest))
unfolding operator_part
dots-spell c rest is =
    let run = after_operator-run (operator_part true) rest in
    record { others = DOT ∷ run.run; split = ap (λ l. DOT ∷ l) run.split; spelled = inr (is, (refl, run.pass)); stops = without_dots (after_operator (operator_part true) rest) (after_operator-stops (operator_part true) rest) }

dot-spells : (c : ℕ) (rest : List ℕ) → c ≡ DOT → FindingSpells c rest (dot rest)
unfolding dot
dot-spells c rest is =
    elim (begins DOT rest) as (λ b. begins DOT rest ≡ b → FindingSpells c rest (if b then (Token Oper, after_operator (operator_part true) rest) else (Token Punct, rest))) [
      | true ↦ λ dotted. subst (λ l. Spelled Oper c l (after_operator (operator_part true) l)) (sym (begins_so DOT rest dotted)) (dots-spell c (behind rest) is)
      | false ↦ λ single. alone Punct c rest (inr is, refl) tt
    ] refl

slash_part : operator_part false SLASH ≡ true
unfolding operator_part is_operator
slash_part = refl

-- a comment is cut off where it ends
record Cut (depth : ℕ) (text rest : List ℕ) : Type 0 where
  inside : List ℕ
  split : text ≡ inside ++ rest
  ends : after_comment depth inside ≡ Some []

cut_goes_on : (depth c d : ℕ) (cs rest : List ℕ) → ends_comment c d ≡ false → opens_comment c d ≡ false → Cut (suc depth) (d ∷ cs) rest → Cut (suc depth) (c ∷ d ∷ cs) rest
cut_goes_on depth c d cs rest not_end not_open cut = longer cut.inside cut.split cut.ends
  where
    longer : (inside : List ℕ) → d ∷ cs ≡ inside ++ rest → after_comment (suc depth) inside ≡ Some [] → Cut (suc depth) (c ∷ d ∷ cs) rest
    longer [] split ends = cc
    longer (e ∷ es) split ends =
        let same : d ≡ e = cc in
        record {
          inside = c ∷ e ∷ es;
          split = ap (λ l. c ∷ l) split;
          ends = comment_goes_on (suc depth) c e es (omega arith) (subst (λ f. ends_comment c f ≡ false) same not_end) (subst (λ f. opens_comment c f ≡ false) same not_open) ∙ ends;
        }

cut_marks : (depth inner c d : ℕ) (cs rest : List ℕ) → ((inside : List ℕ) → after_comment depth (c ∷ d ∷ inside) ≡ after_comment inner inside) → Cut inner cs rest → Cut depth (c ∷ d ∷ cs) rest
cut_marks depth inner c d cs rest marks cut = record {
  inside = c ∷ d ∷ cut.inside;
  split = ap (λ l. c ∷ d ∷ l) cut.split;
  ends = marks cut.inside ∙ cut.ends;
}

comment_cut : (depth : ℕ) (text rest : List ℕ) → after_comment depth text ≡ Some rest → Cut depth text rest
comment_cut zero text rest is = let same : text ≡ rest = cc in record { inside = []; split = same; ends = refl }
comment_cut (suc depth) [] rest is = cc
comment_cut (suc depth) (c ∷ []) rest is = cc
comment_cut (suc depth) (c ∷ d ∷ cs) rest is =
    elim (ends_comment c d) as (λ b. ends_comment c d ≡ b → (if b then after_comment depth cs else (if opens_comment c d then after_comment (suc (suc depth)) cs else after_comment (suc depth) (d ∷ cs))) ≡ Some rest → Cut (suc depth) (c ∷ d ∷ cs) rest) [
      | true ↦ λ ends found. cut_marks (suc depth) depth c d cs rest (λ inside. rw ends refl) (comment_cut depth cs rest found)
      | false ↦ λ not_end. elim (opens_comment c d) as (λ b. opens_comment c d ≡ b → (if b then after_comment (suc (suc depth)) cs else after_comment (suc depth) (d ∷ cs)) ≡ Some rest → Cut (suc depth) (c ∷ d ∷ cs) rest) [
        | true ↦ λ opens found. cut_marks (suc depth) (suc (suc depth)) c d cs rest (λ inside. rw (not_end, opens) refl) (comment_cut (suc (suc depth)) cs rest found)
        | false ↦ λ not_open found. cut_goes_on depth c d cs rest not_end not_open (comment_cut (suc depth) (d ∷ cs) rest found)
      ] refl
    ] refl is

comment_by-spells : (c : ℕ) (text inside : List ℕ) (after : Option (List ℕ)) → c ≡ SLASH → after_comment 1 inside ≡ after → FindingSpells c (STAR ∷ inside) (comment_by text after)
comment_by-spells c text inside None is found = tt
comment_by-spells c text inside (Some after) is found =
    let cut = comment_cut 1 inside after found in
    record { others = STAR ∷ cut.inside; split = ap (λ l. STAR ∷ l) cut.split; piece = nested (c ∷ STAR ∷ cut.inside) cut.inside (ap (λ d. d ∷ STAR ∷ cut.inside) is) cut.ends }

line-spells : (c : ℕ) (rest : List ℕ) → c ≡ SLASH → Passed c (SLASH ∷ rest) (after_run in_line rest)
line-spells c rest is =
    let run = after_run-run in_line rest in
    record { others = SLASH ∷ run.run; split = ap (λ l. SLASH ∷ l) run.split; piece = line (c ∷ SLASH ∷ run.run) run.run (ap (λ d. d ∷ SLASH ∷ run.run) is) run.pass }

slash-spells : (c : ℕ) (rest : List ℕ) → c ≡ SLASH → FindingSpells c rest (slash (c ∷ rest) rest)
unfolding slash
slash-spells c rest is =
    elim (begins SLASH rest) as (λ b. begins SLASH rest ≡ b → FindingSpells c rest (if b then (Trivia, after_run in_line (behind rest)) else (if begins STAR rest then comment_by (c ∷ rest) (after_comment 1 (behind rest)) else (Token Oper, after_operator (operator_part false) rest)))) [
      | true ↦ λ lined. subst (λ l. Passed c l (after_run in_line (behind rest))) (sym (begins_so SLASH rest lined)) (line-spells c (behind rest) is)
      | false ↦ λ not_lined. elim (begins STAR rest) as (λ b. begins STAR rest ≡ b → FindingSpells c rest (if b then comment_by (c ∷ rest) (after_comment 1 (behind rest)) else (Token Oper, after_operator (operator_part false) rest))) [
        | true ↦ λ starred. subst (λ l. FindingSpells c l (comment_by (c ∷ rest) (after_comment 1 (behind rest)))) (sym (begins_so STAR rest starred)) (comment_by-spells c (c ∷ rest) (behind rest) (after_comment 1 (behind rest)) is refl)
        | false ↦ λ not_starred. operator-spells c rest (subst (λ d. operator_part false d ≡ true) (sym is) slash_part)
      ] refl
    ] refl

opening_by-spells : (c n : ℕ) (text rest : List ℕ) (inside : Option (List ℕ)) → c ∷ rest ≡ times n POUND (QUOTE ∷ text) → after_marks QUOTE 2 text ≡ inside → FindingSpells c rest (opening_by n text inside)
opening_by-spells c n text rest None is found = is
opening_by-spells c n text rest (Some inside) is found = is ∙ ap (λ l. times n POUND (QUOTE ∷ l)) (marks_cut QUOTE 2 text inside found)

opening-spells : (c n : ℕ) (text rest : List ℕ) → c ∷ rest ≡ times n POUND (QUOTE ∷ text) → FindingSpells c rest (opening n text)
unfolding opening
opening-spells c n text rest is = opening_by-spells c n text rest (after_marks QUOTE 2 text) is refl

pounds_cut : (text : List ℕ) → text ≡ times (pounds text) POUND (after_run (λ d. d == POUND) text)
pounds_cut [] = refl
pounds_cut (c ∷ cs) =
    elim (c == POUND) as (λ b. (c == POUND) ≡ b → c ∷ cs ≡ times (if b then suc (pounds cs) else 0) POUND (if b then after_run (λ d. d == POUND) cs else c ∷ cs)) [
      | true ↦ λ same. (λ i. eqb-true c POUND same i ∷ pounds_cut cs i)
      | false ↦ λ differs. refl
    ] refl

quoted-spells : (c : ℕ) (rest : List ℕ) → c ≡ BACKQUOTE → FindingSpells c rest (quoted (c ∷ rest) rest)
unfolding quoted
quoted-spells c rest is =
    let end : List ℕ = after_run is_quoted_part rest in
    elim (starts is_quoted_part rest && begins BACKQUOTE end) as (λ b. (starts is_quoted_part rest && begins BACKQUOTE end) ≡ b → FindingSpells c rest (if b then (Token Quoted, behind end) else (Fails BadCharacter, c ∷ rest))) [
      | true ↦ λ has.
          let parts = and_parts (starts is_quoted_part rest) (begins BACKQUOTE end) has in
          let run = some_run is_quoted_part rest parts.0 in
          let name : List ℕ = run.first ∷ run.others in
          let closed : rest ≡ name ++ (BACKQUOTE ∷ behind end) = run.split ∙ ap (λ l. name ++ l) (begins_so BACKQUOTE end parts.1) in
          let some : 0 < length name = omega arith in
          record {
            others = name ++ BACKQUOTE ∷ [];
            split = closed ∙ sym (append_assoc name (BACKQUOTE ∷ []) (behind end));
            spelled = (is, record { name = name; some = some; parts = All-cons (λ d. is_quoted_part d ≡ true) run.first run.others run.passes run.pass; closed = refl });
            stops = tt;
          }
      | false ↦ λ has_not. tt
    ] refl

-- behind one pound sign alone
no_pounds : (rest : List ℕ) → pounds rest ≡ 0 → after_run (λ d. d == POUND) rest ≡ rest
no_pounds [] none = refl
no_pounds (d ∷ ds) none =
    elim (d == POUND) as (λ b. (if b then suc (pounds ds) else 0) ≡ 0 → (if b then after_run (λ e. e == POUND) ds else d ∷ ds) ≡ d ∷ ds) [
      | true ↦ λ nothing. absurd (omega arith)
      | false ↦ λ nothing. refl
    ] none

one_pound : (rest : List ℕ) → pounds (POUND ∷ rest) ≡ 1 → after_run (λ d. d == POUND) (POUND ∷ rest) ≡ rest
one_pound rest one = let none : pounds rest ≡ 0 = omega arith in no_pounds rest none

name-spells : (c : ℕ) (rest : List ℕ) → c ≡ POUND → starts is_name_start rest ≡ true → Spelled Pound c rest (after_run is_word_part (behind rest))
name-spells c [] is begun = absurd (false≢true begun)
name-spells c (d ∷ ds) is begun =
    let run = after_run-run is_word_part ds in
    record { others = d ∷ run.run; split = ap (λ l. d ∷ l) run.split; spelled = (is, (begun, run.pass)); stops = after_run-stops is_word_part ds }

pound-spells : (c : ℕ) (rest : List ℕ) → c ≡ POUND → FindingSpells c rest (pound (c ∷ rest) (pounds (c ∷ rest)) (after_run (λ d. d == POUND) (c ∷ rest)))
unfolding pound
pound-spells c rest is =
    let after : List ℕ = after_run (λ d. d == POUND) (c ∷ rest) in
    let n : ℕ = pounds (c ∷ rest) in
    elim (begins QUOTE after) as (λ b. begins QUOTE after ≡ b → FindingSpells c rest (if b then opening n (behind after) else (if begins SLASH after then (Fails ExtendedRegex, c ∷ rest) else (if n == 1 && starts is_name_start after then (Token Pound, after_run is_word_part (behind after)) else (Fails BadCharacter, c ∷ rest))))) [
      | true ↦ λ quoted. opening-spells c n (behind after) rest (pounds_cut (c ∷ rest) ∙ ap (times n POUND) (begins_so QUOTE after quoted))
      | false ↦ λ unquoted. elim (begins SLASH after) as (λ b. FindingSpells c rest (if b then (Fails ExtendedRegex, c ∷ rest) else (if n == 1 && starts is_name_start after then (Token Pound, after_run is_word_part (behind after)) else (Fails BadCharacter, c ∷ rest)))) [
        | true ↦ tt
        | false ↦ elim (n == 1 && starts is_name_start after) as (λ b. (n == 1 && starts is_name_start after) ≡ b → FindingSpells c rest (if b then (Token Pound, after_run is_word_part (behind after)) else (Fails BadCharacter, c ∷ rest))) [
          | true ↦ λ has.
              let parts = and_parts (n == 1) (starts is_name_start after) has in
              let one : pounds (POUND ∷ rest) ≡ 1 = subst (λ d. pounds (d ∷ rest) ≡ 1) is (eqb-true n 1 parts.0) in
              let same : after ≡ rest = subst (λ d. after_run (λ e. e == POUND) (d ∷ rest) ≡ rest) (sym is) (one_pound rest one) in
              subst (λ l. Spelled Pound c rest (after_run is_word_part (behind l))) (sym same) (name-spells c rest is (subst (λ l. starts is_name_start l ≡ true) same parts.1))
          | false ↦ λ has_not. tt
        ] refl
      ]
    ] refl

operator_kind : (c : ℕ) → is_operator c ≡ true → operator_part false c ≡ true
unfolding operator_part
operator_kind c is = is

by_front-spells : (kind : Front) (c : ℕ) (rest : List ℕ) → IsOfKind kind c → FindingSpells c rest (by_front kind (c ∷ rest) rest)
by_front-spells front.Word c rest is = word-spells c rest is
by_front-spells front.Blank c rest is =
    let run = after_run-run is_blank rest in
    record { others = run.run; split = run.split; piece = blanks (c ∷ run.run) (All-cons (λ d. is_blank d ≡ true) c run.run is run.pass) }
by_front-spells front.Digit c rest is = number-spells c rest is
by_front-spells front.Mark c rest is = alone Punct c rest (inl is, refl) tt
by_front-spells front.Dot c rest is = dot-spells c rest (eqb-true c DOT is)
by_front-spells front.Left c rest is = alone LeftBracket c rest (is, refl) tt
by_front-spells front.Right c rest is = alone RightBracket c rest (is, refl) tt
by_front-spells front.Slash c rest is = slash-spells c rest (eqb-true c SLASH is)
by_front-spells front.Quote c rest is = opening-spells c 0 rest rest (ap (λ d. d ∷ rest) (eqb-true c QUOTE is))
by_front-spells front.Pound c rest is = pound-spells c rest (eqb-true c POUND is)
by_front-spells front.At c rest is = alone At c rest (eqb-true c AT is, refl) tt
by_front-spells front.Backquote c rest is = quoted-spells c rest (eqb-true c BACKQUOTE is)
by_front-spells front.Operator c rest is = operator-spells c rest (operator_kind c is)
by_front-spells front.Other c rest is = tt

-- the characters of a token, and what stands behind them
pub record TokenAt (class : Class) (text rest : List ℕ) : Type 0 where
  pub first : ℕ
  pub others : List ℕ
  pub split : text ≡ (first ∷ others) ++ rest
  pub spelled : SpellsWith class first others
  pub stops : StopsBefore class rest

pub token_at_front : (text : List ℕ) (class : Class) (rest : List ℕ) → at_front text ≡ Some (Token class, rest) → TokenAt class text rest
unfolding at_front
token_at_front [] class rest is = cc
token_at_front (c ∷ cs) class rest is =
    let finding : by_front (front_of c) (c ∷ cs) cs ≡ (Token class, rest) = cc in
    let spelled : FindingSpells c cs (Token class, rest) = subst (FindingSpells c cs) finding (by_front-spells (front_of c) c cs (front_of-kind c)) in
    record { first = c; others = spelled.others; split = ap (λ l. c ∷ l) spelled.split; spelled = spelled.spelled; stops = spelled.stops }

-- the characters of trivia, and what stands behind them
pub record TriviaAt (text rest : List ℕ) : Type 0 where
  pub piece : List ℕ
  pub split : text ≡ piece ++ rest
  pub spelled : IsPiece piece

pub trivia_at_front : (text rest : List ℕ) → at_front text ≡ Some (Trivia, rest) → TriviaAt text rest
unfolding at_front
trivia_at_front [] rest is = cc
trivia_at_front (c ∷ cs) rest is =
    let finding : by_front (front_of c) (c ∷ cs) cs ≡ (Trivia, rest) = cc in
    let passed : FindingSpells c cs (Trivia, rest) = subst (FindingSpells c cs) finding (by_front-spells (front_of c) c cs (front_of-kind c)) in
    record { piece = c ∷ passed.others; split = ap (λ l. c ∷ l) passed.split; spelled = passed.piece }

pub string_at_front : (text : List ℕ) (marks : Quotes) (inside : List ℕ) → at_front text ≡ Some (Opens marks, inside) → text ≡ start_of marks inside
unfolding at_front
string_at_front [] marks inside is = cc
string_at_front (c ∷ cs) marks inside is =
    let finding : by_front (front_of c) (c ∷ cs) cs ≡ (Opens marks, inside) = cc in
    subst (FindingSpells c cs) finding (by_front-spells (front_of c) c cs (front_of-kind c))
