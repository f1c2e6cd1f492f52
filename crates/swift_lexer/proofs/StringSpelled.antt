-- A string is spelled with the same quotes and pound signs at both ends.
use Rattle.std.proofs.Common.{◌≡◌, ℕ, zero, suc, true, false, List, [], ◌∷◌, ◌++◌, Some, None, Ok, Err, if◌then◌else◌, ◌==◌, sym, refl, ap, subst, ◌∙◌, append_assoc}
use Rattle.std.specs.Prelude.{Option}
use Rattle.std.proofs.lemmas.Bool.{eqb-true}
use Rattle.swift_lexer.specs.declared.chars.TheConstants.{QUOTE, BACKSLASH, POUND, LEFT_PARENTHESIS}
use Rattle.swift_lexer.specs.declared.token.LexFault.{LexFault}
use Rattle.swift_lexer.specs.declared.found.Quotes.{Quotes}
use Rattle.swift_lexer.specs.declared.strings.Open.{Open}
use Rattle.swift_lexer.specs.declared.strings.Open.TheVariants.{InString, InParentheses}
use Rattle.swift_lexer.specs.declared.strings.Step.{Step}
use Rattle.swift_lexer.specs.declared.strings.Step.TheVariants as step
use Rattle.swift_lexer.specs.Chars.{is_line_end, is_plain}
use Rattle.swift_lexer.specs.Texts.{after_run, after_marks, times}
use Rattle.swift_lexer.specs.Strings.{Stepped, quotes_of, after_signs, closing_by, closing, line_end, escaped, escape_by, escape, in_string, step_in}
use Rattle.swift_lexer.specs.Tokens.{Ending, Closes, ends, goes_on, opens, breaks, fails, stays_open}
use Rattle.swift_lexer.proofs.Leaving.{Leaves, leaves_then, Passes-leaves, step_in-passes}
use Rattle.swift_lexer.proofs.Endings.{Closes-passes}

-- what is cut off is the marks
pub marks_cut : (mark n : ℕ) (text rest : List ℕ) → after_marks mark n text ≡ Some rest → text ≡ times n mark rest
marks_cut mark zero text rest is = let same : text ≡ rest = cc in same
marks_cut mark (suc n) [] rest is = cc
marks_cut mark (suc n) (c ∷ cs) rest is =
    elim (c == mark) as (λ b. (c == mark) ≡ b → (if b then after_marks mark n cs else None) ≡ Some rest → c ∷ cs ≡ mark ∷ times n mark rest) [
      | true ↦ λ same found. (λ i. eqb-true c mark same i ∷ marks_cut mark n cs rest found i)
      | false ↦ λ differs found. cc
    ] refl is

pub times_append : (n mark : ℕ) (text rest : List ℕ) → times n mark text ++ rest ≡ times n mark (text ++ rest)
times_append zero mark text rest = refl
times_append (suc n) mark text rest = ap (λ l. mark ∷ l) (times_append n mark text rest)

-- the beginning of a string, and then its inside
abbrev pub start_of : Quotes → List ℕ → List ℕ
start_of quotes inside = times quotes.pounds POUND (times (quotes_of quotes) QUOTE inside)

-- the end of a string, and then the rest
abbrev pub end_of : Quotes → List ℕ → List ℕ
end_of quotes rest = times (quotes_of quotes) QUOTE (times quotes.pounds POUND rest)

signs_cut : (quotes : Quotes) (text : List ℕ) (left : Option (List ℕ)) (rest : List ℕ) → after_marks QUOTE (quotes_of quotes) text ≡ left → after_signs quotes left ≡ Some rest → text ≡ end_of quotes rest
signs_cut quotes text None rest found is = cc
signs_cut quotes text (Some signs) rest found is =
    marks_cut QUOTE (quotes_of quotes) text signs found ∙ ap (times (quotes_of quotes) QUOTE) (marks_cut POUND quotes.pounds signs rest is)

abbrev IsEnd : Step → Type 0
IsEnd step.Ends = Unit {0}
IsEnd _ = ⊥

closing_cut : (quotes : Quotes) (text others : List ℕ) (left : Option (List ℕ)) (rest : List ℕ) → after_signs quotes (after_marks QUOTE (quotes_of quotes) text) ≡ left → closing_by others left ≡ (step.Ends, rest) → text ≡ end_of quotes rest
closing_cut quotes text others None rest found is = absurd (subst (λ (s : Stepped). IsEnd s.0) (sym is) tt)
closing_cut quotes text others (Some after) rest found is =
    let same : after ≡ rest = ap (λ (s : Stepped). s.1) is in
    signs_cut quotes text (after_marks QUOTE (quotes_of quotes) text) rest refl (found ∙ ap (λ r. Some r) same)

-- a step that does not end the string
abbrev NoEnd : Option Stepped → Type 0
NoEnd None = Unit {0}
NoEnd (Some (step.Ends, rest)) = ⊥
NoEnd (Some (step.GoesOn, rest)) = Unit {0}
NoEnd (Some (step.Opens inner, rest)) = Unit {0}
NoEnd (Some (step.Fails kind, rest)) = Unit {0}

line_end-no_end : (quotes : Quotes) (rest : List ℕ) → NoEnd (line_end quotes rest)
unfolding line_end
line_end-no_end quotes rest = elim (quotes.triple) as (λ b. NoEnd (if b then Some (step.GoesOn, rest) else None)) [ true ↦ tt | false ↦ tt ]

escaped-no_end : (quotes : Quotes) (text : List ℕ) → NoEnd (escaped quotes text)
escaped-no_end quotes [] = tt
escaped-no_end quotes (c ∷ cs) =
    elim (c == LEFT_PARENTHESIS) as (λ b. NoEnd (if b then Some (step.Opens InParentheses, cs) else (if is_line_end c then line_end quotes cs else Some (step.GoesOn, cs)))) [
      | true ↦ tt
      | false ↦ elim (is_line_end c) as (λ b. NoEnd (if b then line_end quotes cs else Some (step.GoesOn, cs))) [ true ↦ line_end-no_end quotes cs | false ↦ tt ]
    ]

escape_by-no_end : (quotes : Quotes) (rest : List ℕ) (text : Option (List ℕ)) → NoEnd (escape_by quotes rest text)
escape_by-no_end quotes rest None = tt
escape_by-no_end quotes rest (Some text) = escaped-no_end quotes text

escape-no_end : (quotes : Quotes) (rest : List ℕ) → NoEnd (escape quotes rest)
unfolding escape
escape-no_end quotes rest = escape_by-no_end quotes rest (after_marks POUND quotes.pounds rest)

-- a step that ends the string cuts off its end
string_cut : (quotes : Quotes) (text rest : List ℕ) → in_string quotes text ≡ Some (step.Ends, rest) → text ≡ end_of quotes rest
unfolding in_string closing
string_cut quotes [] rest is = cc
string_cut quotes (c ∷ cs) rest is =
    elim (c == QUOTE) as (λ b. (if b then Some (closing quotes (c ∷ cs) cs) else (if c == BACKSLASH then escape quotes cs else (if is_line_end c then line_end quotes cs else Some (step.GoesOn, after_run is_plain cs)))) ≡ Some (step.Ends, rest) → c ∷ cs ≡ end_of quotes rest) [
      | true ↦ λ found.
          let ended : closing quotes (c ∷ cs) cs ≡ (step.Ends, rest) = cc in
          closing_cut quotes (c ∷ cs) cs (after_signs quotes (after_marks QUOTE (quotes_of quotes) (c ∷ cs))) rest refl ended
      | false ↦ elim (c == BACKSLASH) as (λ b. (if b then escape quotes cs else (if is_line_end c then line_end quotes cs else Some (step.GoesOn, after_run is_plain cs))) ≡ Some (step.Ends, rest) → c ∷ cs ≡ end_of quotes rest) [
        | true ↦ λ found. absurd (subst NoEnd found (escape-no_end quotes cs))
        | false ↦ elim (is_line_end c) as (λ b. (if b then line_end quotes cs else Some (step.GoesOn, after_run is_plain cs)) ≡ Some (step.Ends, rest) → c ∷ cs ≡ end_of quotes rest) [
          | true ↦ λ found. absurd (subst NoEnd found (line_end-no_end quotes cs))
          | false ↦ λ found. absurd (subst NoEnd found tt)
        ]
      ]
    ] is

-- the inside of a string, and then its end
pub record EndsString (quotes : Quotes) (text rest : List ℕ) : Type 0 where
  pub inside : List ℕ
  pub split : text ≡ inside ++ end_of quotes rest

abbrev EndsSo : Open → List ℕ → Ending → Type 0
EndsSo (InString quotes) text (Ok rest) = EndsString quotes text rest
EndsSo (InString quotes) text (Err fault) = Unit {0}
EndsSo InParentheses text ending = Unit {0}

ends_so : (around : Open) (text rest : List ℕ) → step_in around text ≡ Some (step.Ends, rest) → EndsSo around text (Ok rest)
unfolding step_in
ends_so (InString quotes) text rest is = record { inside = []; split = string_cut quotes text rest is }
ends_so InParentheses text rest is = tt

behind_so : (around : Open) (text rest : List ℕ) (ending : Ending) → Leaves text rest → EndsSo around rest ending → EndsSo around text ending
behind_so (InString quotes) text rest (Ok after) leaves so = record {
  inside = leaves.front ++ so.inside;
  split = leaves.split ∙ ap (λ l. leaves.front ++ l) so.split ∙ sym (append_assoc leaves.front so.inside (end_of quotes after));
}
behind_so (InString quotes) text rest (Err fault) leaves so = tt
behind_so InParentheses text rest ending leaves so = tt

fault_so : (around : Open) (text : List ℕ) (fault : LexFault) → EndsSo around text (Err fault)
fault_so (InString quotes) text fault = tt
fault_so InParentheses text fault = tt

closes_so : (total : ℕ) {around : Open} {start : ℕ} {text : List ℕ} {ending : Ending} → Closes total around start text ending → EndsSo around text ending
closes_so total {around} {start} {text} {ending} (ends rest is) = ends_so around text rest is
closes_so total {around} {start} {text} {ending} (goes_on rest is closes) =
    behind_so around text rest ending (Passes-leaves text rest (step_in-passes around text step.GoesOn rest is tt)) (closes_so total closes)
closes_so total {around} {start} {text} {ending} (opens inner rest after is closes others) =
    behind_so around text after ending (leaves_then text rest after (Passes-leaves text rest (step_in-passes around text (step.Opens inner) rest is tt)) (Passes-leaves rest after (Closes-passes total inner _ rest after closes))) (closes_so total others)
closes_so total {around} {start} {text} {ending} (breaks inner rest fault is closes) = fault_so around text fault
closes_so total {around} {start} {text} {ending} (fails kind here is) = fault_so around text _
closes_so total {around} {start} {text} {ending} (stays_open is) = fault_so around text _

pub string_ends : (total : ℕ) (quotes : Quotes) (start : ℕ) (text rest : List ℕ) → Closes total (InString quotes) start text (Ok rest) → EndsString quotes text rest
string_ends total quotes start text rest closes = closes_so total closes

end_append : (quotes : Quotes) (rest : List ℕ) → end_of quotes [] ++ rest ≡ end_of quotes rest
end_append quotes rest =
    times_append (quotes_of quotes) QUOTE (times quotes.pounds POUND []) rest ∙ ap (times (quotes_of quotes) QUOTE) (times_append quotes.pounds POUND [] rest)

-- a whole string, and then the rest
pub whole_string : (quotes : Quotes) (body rest : List ℕ) → start_of quotes (body ++ end_of quotes []) ++ rest ≡ start_of quotes (body ++ end_of quotes rest)
whole_string quotes body rest =
    times_append quotes.pounds POUND (times (quotes_of quotes) QUOTE (body ++ end_of quotes [])) rest
    ∙ ap (times quotes.pounds POUND) (times_append (quotes_of quotes) QUOTE (body ++ end_of quotes []) rest ∙ ap (times (quotes_of quotes) QUOTE) (append_assoc body (end_of quotes []) rest ∙ ap (λ l. body ++ l) (end_append quotes rest)))
