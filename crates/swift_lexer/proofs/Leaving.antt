-- What stands behind something in a text is a last part of the text.
use Rattle.std.proofs.Common.{◌≡◌, ℕ, zero, suc, ◌<◌, Bool, true, false, List, [], ◌∷◌, ◌++◌, length, Option, Some, None, if◌then◌else◌, ◌==◌, ◌&&◌, not, sym, refl, ap, subst, arith, ◌∙◌, append_assoc}
use Rattle.std.proofs.lemmas.List.{length-append}
use Rattle.std.proofs.lemmas.Bool.{eqb-true}
use Rattle.std.specs.Prelude.{option_map}
use Rattle.std.specs.Char.{is_ascii_digit}
use Rattle.swift_lexer.specs.declared.chars.Front.{Front}
use Rattle.swift_lexer.specs.declared.chars.Front.TheVariants as front
use Rattle.swift_lexer.specs.declared.chars.TheConstants.{QUOTE, BACKQUOTE, BACKSLASH, POUND, DOT, SLASH, STAR, LEFT_PARENTHESIS, RIGHT_PARENTHESIS}
use Rattle.swift_lexer.specs.declared.token.Class.TheVariants.{Quoted, Pound, Punct, Oper}
use Rattle.swift_lexer.specs.declared.token.LexKind.TheVariants.{BadCharacter, ExtendedRegex, UseInInterpolation}
use Rattle.swift_lexer.specs.declared.found.Found.{Found}
use Rattle.swift_lexer.specs.declared.found.Found.TheVariants.{Trivia, Token, Opens, Fails}
use Rattle.swift_lexer.specs.declared.found.Quotes.{Quotes}
use Rattle.swift_lexer.specs.declared.strings.Open.{Open}
use Rattle.swift_lexer.specs.declared.strings.Open.TheVariants.{InString, InParentheses}
use Rattle.swift_lexer.specs.declared.strings.Step.{Step}
use Rattle.swift_lexer.specs.declared.strings.Step.TheVariants as step
use Rattle.swift_lexer.specs.Chars.{is_line_end, is_word_part, is_name_start, is_number_part, operator_part, is_quoted_part, is_plain, front_of}
use Rattle.swift_lexer.specs.Texts.{starts, begins, behind, after_run, begins_comment, after_operator, after_marks, ends_comment, opens_comment, after_comment, pounds}
use Rattle.swift_lexer.specs.Fronts.{Finding, after_fraction, opening_by, opening, comment_by, slash, quoted, pound, dot, by_front, at_front}
use Rattle.swift_lexer.specs.Strings.{Stepped, quotes_of, after_signs, closing_by, closing, line_end, escaped, escape_by, escape, in_string, is_builtin, token_inside, inside_found, inside_by, step_in}
use Rattle.swift_lexer.proofs.FrontKinds.{IsOfKind, front_of-kind}

-- the rest is a last part of the text
pub record Leaves (text rest : List ℕ) : Type 0 where
  pub front : List ℕ
  pub split : text ≡ front ++ rest

pub all_left : (text : List ℕ) → Leaves text text
all_left text = record { front = []; split = refl }

pub leaves_behind : (c : ℕ) (text rest : List ℕ) → Leaves text rest → Leaves (c ∷ text) rest
leaves_behind c text rest leaves = record { front = c ∷ leaves.front; split = ap (λ l. c ∷ l) leaves.split }

pub leaves_then : (text middle rest : List ℕ) → Leaves text middle → Leaves middle rest → Leaves text rest
leaves_then text middle rest first second = record {
  front = first.front ++ second.front;
  split = first.split ∙ ap (λ l. first.front ++ l) second.split ∙ sym (append_assoc first.front second.front rest);
}

-- at least the first character is passed
pub record Passes (text rest : List ℕ) : Type 0 where
  pub first : ℕ
  pub others : List ℕ
  pub split : text ≡ first ∷ others
  pub leaves : Leaves others rest

pub Passes-shorter : (text rest : List ℕ) → Passes text rest → length rest < length text
Passes-shorter text rest passes =
    omega (arith, ap length passes.split, ap length passes.leaves.split, length-append passes.leaves.front rest)

pub Passes-leaves : (text rest : List ℕ) → Passes text rest → Leaves text rest
Passes-leaves text rest passes = subst (λ l. Leaves l rest) (sym passes.split) (leaves_behind passes.first passes.others rest passes.leaves)

pub Passes-then : (text middle rest : List ℕ) → Passes text middle → Passes middle rest → Passes text rest
Passes-then text middle rest first second = record {
  first = first.first;
  others = first.others;
  split = first.split;
  leaves = leaves_then first.others middle rest first.leaves (Passes-leaves middle rest second);
}

pub behind-leaves : (text : List ℕ) → Leaves text (behind text)
behind-leaves [] = all_left []
behind-leaves (c ∷ cs) = leaves_behind c cs cs (all_left cs)

after_run-leaves : (test : ℕ → Bool) (text : List ℕ) → Leaves text (after_run test text)
after_run-leaves test [] = all_left []
after_run-leaves test (c ∷ cs) =
    elim (test c) as (λ b. Leaves (c ∷ cs) (if b then after_run test cs else c ∷ cs)) [
      | true ↦ leaves_behind c cs (after_run test cs) (after_run-leaves test cs)
      | false ↦ all_left (c ∷ cs)
    ]

after_operator-leaves : (test : ℕ → Bool) (text : List ℕ) → Leaves text (after_operator test text)
after_operator-leaves test [] = all_left []
after_operator-leaves test (c ∷ cs) =
    elim (test c && not (begins_comment (c ∷ cs))) as (λ b. Leaves (c ∷ cs) (if b then after_operator test cs else c ∷ cs)) [
      | true ↦ leaves_behind c cs (after_operator test cs) (after_operator-leaves test cs)
      | false ↦ all_left (c ∷ cs)
    ]

-- what is left, if anything is found
abbrev LeavesIf : List ℕ → Option (List ℕ) → Type 0
LeavesIf text None = Unit {0}
LeavesIf text (Some rest) = Leaves text rest

behind_if : (c : ℕ) (text : List ℕ) (left : Option (List ℕ)) → LeavesIf text left → LeavesIf (c ∷ text) left
behind_if c text None leaves = tt
behind_if c text (Some rest) leaves = leaves_behind c text rest leaves

after_marks-leaves : (mark n : ℕ) (text : List ℕ) → LeavesIf text (after_marks mark n text)
after_marks-leaves mark zero text = all_left text
after_marks-leaves mark (suc n) [] = tt
after_marks-leaves mark (suc n) (c ∷ cs) =
    elim (c == mark) as (λ b. LeavesIf (c ∷ cs) (if b then after_marks mark n cs else None)) [
      | true ↦ behind_if c cs (after_marks mark n cs) (after_marks-leaves mark n cs)
      | false ↦ tt
    ]

after_comment-leaves : (depth : ℕ) (text : List ℕ) → LeavesIf text (after_comment depth text)
after_comment-leaves zero text = all_left text
after_comment-leaves (suc depth) [] = tt
after_comment-leaves (suc depth) (c ∷ []) = tt
after_comment-leaves (suc depth) (c ∷ d ∷ cs) =
    elim (ends_comment c d) as (λ b. LeavesIf (c ∷ d ∷ cs) (if b then after_comment depth cs else (if opens_comment c d then after_comment (suc (suc depth)) cs else after_comment (suc depth) (d ∷ cs)))) [
      | true ↦ behind_if c (d ∷ cs) (after_comment depth cs) (behind_if d cs (after_comment depth cs) (after_comment-leaves depth cs))
      | false ↦ elim (opens_comment c d) as (λ b. LeavesIf (c ∷ d ∷ cs) (if b then after_comment (suc (suc depth)) cs else after_comment (suc depth) (d ∷ cs))) [
        | true ↦ behind_if c (d ∷ cs) (after_comment (suc (suc depth)) cs) (behind_if d cs (after_comment (suc (suc depth)) cs) (after_comment-leaves (suc (suc depth)) cs))
        | false ↦ behind_if c (d ∷ cs) (after_comment (suc depth) (d ∷ cs)) (after_comment-leaves (suc depth) (d ∷ cs))
      ]
    ]

-- what is found leaves a last part, unless it is a fault
abbrev FoundLeaves : Found → List ℕ → List ℕ → Type 0
FoundLeaves Trivia text rest = Leaves text rest
FoundLeaves (Token class) text rest = Leaves text rest
FoundLeaves (Opens quotes) text rest = Leaves text rest
FoundLeaves (Fails kind) text rest = Unit {0}

abbrev FindingLeaves : List ℕ → Finding → Type 0
FindingLeaves text finding = FoundLeaves finding.0 text finding.1

after_fraction-leaves : (text : List ℕ) → Leaves text (after_fraction text)
unfolding after_fraction
after_fraction-leaves text =
    elim (begins DOT text && starts is_ascii_digit (behind text)) as (λ b. Leaves text (if b then after_run is_number_part (behind text) else text)) [
      | true ↦ leaves_then text (behind text) (after_run is_number_part (behind text)) (behind-leaves text) (after_run-leaves is_number_part (behind text))
      | false ↦ all_left text
    ]

opening_by-leaves : (n : ℕ) (text : List ℕ) (inside : Option (List ℕ)) → LeavesIf text inside → FindingLeaves text (opening_by n text inside)
opening_by-leaves n text None leaves = all_left text
opening_by-leaves n text (Some inside) leaves = leaves

opening-leaves : (n : ℕ) (text : List ℕ) → FindingLeaves text (opening n text)
unfolding opening
opening-leaves n text = opening_by-leaves n text (after_marks QUOTE 2 text) (after_marks-leaves QUOTE 2 text)

finding_behind : (text middle : List ℕ) (finding : Finding) → Leaves text middle → FindingLeaves middle finding → FindingLeaves text finding
finding_behind text middle (Trivia, rest) first second = leaves_then text middle rest first second
finding_behind text middle (Token class, rest) first second = leaves_then text middle rest first second
finding_behind text middle (Opens quotes, rest) first second = leaves_then text middle rest first second
finding_behind text middle (Fails kind, rest) first second = tt

comment_by-leaves : (text middle : List ℕ) (rest : Option (List ℕ)) → LeavesIf middle rest → FindingLeaves middle (comment_by text rest)
comment_by-leaves text middle None leaves = tt
comment_by-leaves text middle (Some rest) leaves = leaves

slash-leaves : (text rest : List ℕ) → FindingLeaves rest (slash text rest)
unfolding slash
slash-leaves text rest =
    elim (begins SLASH rest) as (λ b. FindingLeaves rest (if b then (Trivia, after_run (λ c. not (is_line_end c)) (behind rest)) else (if begins STAR rest then comment_by text (after_comment 1 (behind rest)) else (Token Oper, after_operator (operator_part false) rest)))) [
      | true ↦ leaves_then rest (behind rest) (after_run (λ c. not (is_line_end c)) (behind rest)) (behind-leaves rest) (after_run-leaves (λ c. not (is_line_end c)) (behind rest))
      | false ↦ elim (begins STAR rest) as (λ b. FindingLeaves rest (if b then comment_by text (after_comment 1 (behind rest)) else (Token Oper, after_operator (operator_part false) rest))) [
        | true ↦ finding_behind rest (behind rest) (comment_by text (after_comment 1 (behind rest))) (behind-leaves rest) (comment_by-leaves text (behind rest) (after_comment 1 (behind rest)) (after_comment-leaves 1 (behind rest)))
        | false ↦ after_operator-leaves (operator_part false) rest
      ]
    ]

quoted-leaves : (text rest : List ℕ) → FindingLeaves rest (quoted text rest)
unfolding quoted
quoted-leaves text rest =
    let end : List ℕ = after_run is_quoted_part rest in
    elim (starts is_quoted_part rest && begins BACKQUOTE (after_run is_quoted_part rest)) as (λ b. FindingLeaves rest (if b then (Token Quoted, behind (after_run is_quoted_part rest)) else (Fails BadCharacter, text))) [
      | true ↦ leaves_then rest (after_run is_quoted_part rest) (behind (after_run is_quoted_part rest)) (after_run-leaves is_quoted_part rest) (behind-leaves (after_run is_quoted_part rest))
      | false ↦ tt
    ]

pound-leaves : (text : List ℕ) (n : ℕ) (rest : List ℕ) → FindingLeaves rest (pound text n rest)
unfolding pound
pound-leaves text n rest =
    elim (begins QUOTE rest) as (λ b. FindingLeaves rest (if b then opening n (behind rest) else (if begins SLASH rest then (Fails ExtendedRegex, text) else (if n == 1 && starts is_name_start rest then (Token Pound, after_run is_word_part (behind rest)) else (Fails BadCharacter, text))))) [
      | true ↦ finding_behind rest (behind rest) (opening n (behind rest)) (behind-leaves rest) (opening-leaves n (behind rest))
      | false ↦ elim (begins SLASH rest) as (λ b. FindingLeaves rest (if b then (Fails ExtendedRegex, text) else (if n == 1 && starts is_name_start rest then (Token Pound, after_run is_word_part (behind rest)) else (Fails BadCharacter, text)))) [
        | true ↦ tt
        | false ↦ elim (n == 1 && starts is_name_start rest) as (λ b. FindingLeaves rest (if b then (Token Pound, after_run is_word_part (behind rest)) else (Fails BadCharacter, text))) [
          | true ↦ leaves_then rest (behind rest) (after_run is_word_part (behind rest)) (behind-leaves rest) (after_run-leaves is_word_part (behind rest))
          | false ↦ tt
        ]
      ]
    ]

dot-leaves : (rest : List ℕ) → FindingLeaves rest (dot rest)
unfolding dot
dot-leaves rest =
    elim (begins DOT rest) as (λ b. FindingLeaves rest (if b then (Token Oper, after_operator (operator_part true) rest) else (Token Punct, rest))) [
      | true ↦ after_operator-leaves (operator_part true) rest
      | false ↦ all_left rest
    ]

-- behind a first pound sign, what stands behind them all
pounds-leave : (c : ℕ) (rest : List ℕ) → c ≡ POUND → Leaves rest (after_run (λ d. d == POUND) (c ∷ rest))
pounds-leave c rest is = subst (λ d. Leaves rest (after_run (λ e. e == POUND) (d ∷ rest))) (sym is) (after_run-leaves (λ e. e == POUND) rest)

by_front-leaves : (kind : Front) (c : ℕ) (rest : List ℕ) → (kind ≡ front.Pound → c ≡ POUND) → FindingLeaves rest (by_front kind (c ∷ rest) rest)
by_front-leaves front.Word c rest is = after_run-leaves is_word_part rest
by_front-leaves front.Blank c rest is = after_run-leaves _ rest
by_front-leaves front.Digit c rest is = leaves_then rest (after_run is_number_part rest) (after_fraction (after_run is_number_part rest)) (after_run-leaves is_number_part rest) (after_fraction-leaves (after_run is_number_part rest))
by_front-leaves front.Mark c rest is = all_left rest
by_front-leaves front.Dot c rest is = dot-leaves rest
by_front-leaves front.Left c rest is = all_left rest
by_front-leaves front.Right c rest is = all_left rest
by_front-leaves front.Slash c rest is = slash-leaves (c ∷ rest) rest
by_front-leaves front.Quote c rest is = opening-leaves 0 rest
by_front-leaves front.Pound c rest is =
    let after : List ℕ = after_run (λ d. d == POUND) (c ∷ rest) in
    finding_behind rest after (pound (c ∷ rest) (pounds (c ∷ rest)) after) (pounds-leave c rest (is refl)) (pound-leaves (c ∷ rest) (pounds (c ∷ rest)) after)
by_front-leaves front.At c rest is = all_left rest
by_front-leaves front.Backquote c rest is = quoted-leaves (c ∷ rest) rest
by_front-leaves front.Operator c rest is = after_operator-leaves (operator_part false) rest
by_front-leaves front.Other c rest is = tt

front_pound : (c : ℕ) → front_of c ≡ front.Pound → c ≡ POUND
front_pound c is = eqb-true c POUND (subst (λ kind. IsOfKind kind c) is (front_of-kind c))

abbrev pub NoFault : Found → Type 0
NoFault Trivia = Unit {0}
NoFault (Token class) = Unit {0}
NoFault (Opens quotes) = Unit {0}
NoFault (Fails kind) = ⊥

found_leaves : (what : Found) (text rest : List ℕ) → NoFault what → FoundLeaves what text rest → Leaves text rest
found_leaves Trivia text rest no_fault leaves = leaves
found_leaves (Token class) text rest no_fault leaves = leaves
found_leaves (Opens quotes) text rest no_fault leaves = leaves
found_leaves (Fails kind) text rest no_fault leaves = absurd no_fault

pub at_front-passes : (text : List ℕ) (what : Found) (rest : List ℕ) → at_front text ≡ Some (what, rest) → NoFault what → Passes text rest
unfolding at_front
at_front-passes [] what rest is no_fault = cc
at_front-passes (c ∷ cs) what rest is no_fault =
    let finding : by_front (front_of c) (c ∷ cs) cs ≡ (what, rest) = cc in
    let leaves : FindingLeaves cs (what, rest) = subst (FindingLeaves cs) finding (by_front-leaves (front_of c) c cs (front_pound c)) in
    record { first = c; others = cs; split = refl; leaves = found_leaves what cs rest no_fault leaves }

-- a step leaves a last part, unless it is a fault
abbrev StepLeaves : Step → List ℕ → List ℕ → Type 0
StepLeaves step.Ends text rest = Leaves text rest
StepLeaves step.GoesOn text rest = Leaves text rest
StepLeaves (step.Opens inner) text rest = Leaves text rest
StepLeaves (step.Fails kind) text rest = Unit {0}

abbrev SteppedIf : List ℕ → Option Stepped → Type 0
SteppedIf text None = Unit {0}
SteppedIf text (Some stepped) = StepLeaves stepped.0 text stepped.1

abbrev pub IsStep : Step → Type 0
IsStep step.Ends = Unit {0}
IsStep step.GoesOn = Unit {0}
IsStep (step.Opens inner) = Unit {0}
IsStep (step.Fails kind) = ⊥

step_leaves : (what : Step) (text rest : List ℕ) → IsStep what → StepLeaves what text rest → Leaves text rest
step_leaves step.Ends text rest no_fault leaves = leaves
step_leaves step.GoesOn text rest no_fault leaves = leaves
step_leaves (step.Opens inner) text rest no_fault leaves = leaves
step_leaves (step.Fails kind) text rest no_fault leaves = absurd no_fault

left_then : (text middle : List ℕ) (rest : Option (List ℕ)) → Leaves text middle → LeavesIf middle rest → LeavesIf text rest
left_then text middle None first second = tt
left_then text middle (Some rest) first second = leaves_then text middle rest first second

after_signs-leaves : (quotes : Quotes) (text : List ℕ) (left : Option (List ℕ)) → LeavesIf text left → LeavesIf text (after_signs quotes left)
after_signs-leaves quotes text None leaves = tt
after_signs-leaves quotes text (Some middle) leaves = left_then text middle (after_marks POUND quotes.pounds middle) leaves (after_marks-leaves POUND quotes.pounds middle)

-- behind one mark at least
marks_past : (mark n c : ℕ) (cs : List ℕ) → LeavesIf cs (after_marks mark (suc n) (c ∷ cs))
marks_past mark n c cs =
    elim (c == mark) as (λ b. LeavesIf cs (if b then after_marks mark n cs else None)) [
      | true ↦ after_marks-leaves mark n cs
      | false ↦ tt
    ]

quotes_past : (quotes : Quotes) (c : ℕ) (cs : List ℕ) → LeavesIf cs (after_marks QUOTE (quotes_of quotes) (c ∷ cs))
quotes_past quotes c cs =
    elim (quotes.triple) as (λ b. LeavesIf cs (after_marks QUOTE (if b then 3 else 1) (c ∷ cs))) [
      | true ↦ marks_past QUOTE 2 c cs
      | false ↦ marks_past QUOTE 0 c cs
    ]

closing_by-leaves : (rest : List ℕ) (left : Option (List ℕ)) → LeavesIf rest left → SteppedIf rest (Some (closing_by rest left))
closing_by-leaves rest None leaves = all_left rest
closing_by-leaves rest (Some after) leaves = leaves

closing-leaves : (quotes : Quotes) (c : ℕ) (cs : List ℕ) → SteppedIf cs (Some (closing quotes (c ∷ cs) cs))
unfolding closing
closing-leaves quotes c cs =
    closing_by-leaves cs (after_signs quotes (after_marks QUOTE (quotes_of quotes) (c ∷ cs))) (after_signs-leaves quotes cs (after_marks QUOTE (quotes_of quotes) (c ∷ cs)) (quotes_past quotes c cs))

line_end-leaves : (quotes : Quotes) (rest : List ℕ) → SteppedIf rest (line_end quotes rest)
unfolding line_end
line_end-leaves quotes rest =
    elim (quotes.triple) as (λ b. SteppedIf rest (if b then Some (step.GoesOn, rest) else None)) [
      | true ↦ all_left rest
      | false ↦ tt
    ]

stepped_behind : (text middle : List ℕ) (stepped : Option Stepped) → Leaves text middle → SteppedIf middle stepped → SteppedIf text stepped
stepped_behind text middle None first second = tt
stepped_behind text middle (Some (step.Ends, rest)) first second = leaves_then text middle rest first second
stepped_behind text middle (Some (step.GoesOn, rest)) first second = leaves_then text middle rest first second
stepped_behind text middle (Some (step.Opens inner, rest)) first second = leaves_then text middle rest first second
stepped_behind text middle (Some (step.Fails kind, rest)) first second = tt

escaped-leaves : (quotes : Quotes) (text : List ℕ) → SteppedIf text (escaped quotes text)
escaped-leaves quotes [] = tt
escaped-leaves quotes (c ∷ cs) =
    let past : Leaves (c ∷ cs) cs = leaves_behind c cs cs (all_left cs) in
    elim (c == LEFT_PARENTHESIS) as (λ b. SteppedIf (c ∷ cs) (if b then Some (step.Opens InParentheses, cs) else (if is_line_end c then line_end quotes cs else Some (step.GoesOn, cs)))) [
      | true ↦ past
      | false ↦ elim (is_line_end c) as (λ b. SteppedIf (c ∷ cs) (if b then line_end quotes cs else Some (step.GoesOn, cs))) [
        | true ↦ stepped_behind (c ∷ cs) cs (line_end quotes cs) past (line_end-leaves quotes cs)
        | false ↦ past
      ]
    ]

escape_by-leaves : (quotes : Quotes) (rest : List ℕ) (text : Option (List ℕ)) → LeavesIf rest text → SteppedIf rest (escape_by quotes rest text)
escape_by-leaves quotes rest None leaves = all_left rest
escape_by-leaves quotes rest (Some text) leaves = stepped_behind rest text (escaped quotes text) leaves (escaped-leaves quotes text)

escape-leaves : (quotes : Quotes) (rest : List ℕ) → SteppedIf rest (escape quotes rest)
unfolding escape
escape-leaves quotes rest = escape_by-leaves quotes rest (after_marks POUND quotes.pounds rest) (after_marks-leaves POUND quotes.pounds rest)

in_string-leaves : (quotes : Quotes) (c : ℕ) (cs : List ℕ) → SteppedIf cs (in_string quotes (c ∷ cs))
unfolding in_string
in_string-leaves quotes c cs =
    elim (c == QUOTE) as (λ b. SteppedIf cs (if b then Some (closing quotes (c ∷ cs) cs) else (if c == BACKSLASH then escape quotes cs else (if is_line_end c then line_end quotes cs else Some (step.GoesOn, after_run is_plain cs))))) [
      | true ↦ closing-leaves quotes c cs
      | false ↦ elim (c == BACKSLASH) as (λ b. SteppedIf cs (if b then escape quotes cs else (if is_line_end c then line_end quotes cs else Some (step.GoesOn, after_run is_plain cs)))) [
        | true ↦ escape-leaves quotes cs
        | false ↦ elim (is_line_end c) as (λ b. SteppedIf cs (if b then line_end quotes cs else Some (step.GoesOn, after_run is_plain cs))) [
          | true ↦ line_end-leaves quotes cs
          | false ↦ after_run-leaves is_plain cs
        ]
      ]
    ]

no_step : (quotes : Quotes) (what : Step) (rest : List ℕ) → in_string quotes [] ≡ Some (what, rest) → Passes [] rest
unfolding in_string
no_step quotes what rest is = cc

in_string-passes : (quotes : Quotes) (text : List ℕ) (what : Step) (rest : List ℕ) → in_string quotes text ≡ Some (what, rest) → IsStep what → Passes text rest
in_string-passes quotes [] what rest is no_fault = no_step quotes what rest is
in_string-passes quotes (c ∷ cs) what rest is no_fault =
    let leaves : SteppedIf cs (Some (what, rest)) = subst (SteppedIf cs) is (in_string-leaves quotes c cs) in
    record { first = c; others = cs; split = refl; leaves = step_leaves what cs rest no_fault leaves }

-- a token inside parentheses leaves what stands behind it
module _ (text rest : List ℕ) where
  abbrev given_use : Bool → Stepped
  given_use b = if b then (step.Fails UseInInterpolation, text) else (step.GoesOn, rest)

  abbrev given_right : Bool → Stepped
  given_right b = if b then (step.Ends, rest) else given_use (begins POUND text && not (is_builtin (behind text)))

  abbrev given_left : Bool → Stepped
  given_left b = if b then (step.Opens InParentheses, rest) else given_right (begins RIGHT_PARENTHESIS text)

  token_inside-rest : IsStep (token_inside text rest).0 → (token_inside text rest).1 ≡ rest
  unfolding token_inside
  token_inside-rest =
      elim (begins LEFT_PARENTHESIS text) as (λ b. IsStep (given_left b).0 → (given_left b).1 ≡ rest) [
        | true ↦ λ no_fault. refl
        | false ↦ elim (begins RIGHT_PARENTHESIS text) as (λ b. IsStep (given_right b).0 → (given_right b).1 ≡ rest) [
          | true ↦ λ no_fault. refl
          | false ↦ elim (begins POUND text && not (is_builtin (behind text))) as (λ b. IsStep (given_use b).0 → (given_use b).1 ≡ rest) [
            | true ↦ λ no_fault. absurd no_fault
            | false ↦ λ no_fault. refl
          ]
        ]
      ]

inside_found-passes : (found : Found) (text rest : List ℕ) → at_front text ≡ Some (found, rest) → IsStep (inside_found found text rest).0 → Passes text (inside_found found text rest).1
inside_found-passes Trivia text rest is no_fault = at_front-passes text Trivia rest is tt
inside_found-passes (Token class) text rest is no_fault = subst (Passes text) (sym (token_inside-rest text rest no_fault)) (at_front-passes text (Token class) rest is tt)
inside_found-passes (Opens quotes) text rest is no_fault = at_front-passes text (Opens quotes) rest is tt
inside_found-passes (Fails kind) text rest is no_fault = absurd no_fault

inside-passes : (text : List ℕ) (finding : Option Finding) (what : Step) (rest : List ℕ) → at_front text ≡ finding → option_map (inside_by text) finding ≡ Some (what, rest) → IsStep what → Passes text rest
inside-passes text None what rest is same no_fault = cc
inside-passes text (Some finding) what rest is same no_fault =
    let stepped : inside_found finding.0 text finding.1 ≡ (what, rest) = cc in
    subst (λ (s : Stepped). Passes text s.1) stepped (inside_found-passes finding.0 text finding.1 is (subst (λ (s : Stepped). IsStep s.0) (sym stepped) no_fault))

pub step_in-passes : (around : Open) (text : List ℕ) (what : Step) (rest : List ℕ) → step_in around text ≡ Some (what, rest) → IsStep what → Passes text rest
unfolding step_in
step_in-passes (InString quotes) text what rest is no_fault = in_string-passes quotes text what rest is no_fault
step_in-passes InParentheses text what rest is no_fault = inside-passes text (at_front text) what rest refl is no_fault
