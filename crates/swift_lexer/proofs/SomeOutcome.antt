-- A text has an outcome.
use Rattle.std.proofs.Common.{◌≡◌, ◌⊎◌, inl, inr, ℕ, zero, suc, ◌<◌, ◌≤◌, true, false, List, [], length, take, Option, Some, None, Ok, Err, sym, refl, subst, arith, ◌∙◌}
use Rattle.std.proofs.lemmas.List.{take_all}
use Rattle.std.proofs.lemmas.Bool.{cases_lt, false≢true}
use Rattle.std.proofs.lemmas.Str.{IsUtf8-from_is_utf8, is_utf8-from_IsUtf8, IsUtf8-nil}
use Rattle.std.specs.Str.{IsUtf8, IsValidUpTo, is_utf8, chars}
use Rattle.swift_lexer.specs.declared.token.Class.TheVariants.{Str}
use Rattle.swift_lexer.specs.declared.token.LexKind.TheVariants.{NotUtf8, OpenString}
use Rattle.swift_lexer.specs.declared.found.Found.{Found}
use Rattle.swift_lexer.specs.declared.found.Found.TheVariants as found
use Rattle.swift_lexer.specs.declared.found.Quotes.{Quotes}
use Rattle.swift_lexer.specs.declared.strings.Open.{Open}
use Rattle.swift_lexer.specs.declared.strings.Open.TheVariants.{InString}
use Rattle.swift_lexer.specs.declared.strings.Step.{Step}
use Rattle.swift_lexer.specs.declared.strings.Step.TheVariants as step
use Rattle.swift_lexer.specs.Fronts.{Finding, at_front}
use Rattle.swift_lexer.specs.Strings.{Stepped, step_in}
use Rattle.swift_lexer.specs.Tokens as of
use Rattle.swift_lexer.specs.Tokens.{place, fault_at, string_start, String, Ending, Closes, Outcome, after_token, token_between, after_mark, IsLexedFrom, IsLexed, ill_formed, well_formed}
use Rattle.swift_lexer.specs.Laws.{SomeTokenOutcome}
use Rattle.swift_lexer.proofs.Leaving.{Passes-shorter, Passes-then, at_front-passes, step_in-passes}
use Rattle.swift_lexer.proofs.Endings.{Closes-passes}

-- shorter texts have endings
abbrev Shorter : ℕ → List ℕ → Type 0
Shorter total text = (around : Open) (start : ℕ) (next : List ℕ) → length next < length text → (ending : Ending) × Closes total around start next ending

closes_inner : (total : ℕ) (around : Open) (start : ℕ) (text : List ℕ) → Shorter total text → (inner : Open) (rest : List ℕ) → step_in around text ≡ Some (step.Opens inner, rest) → (inside : Ending) → Closes total inner (string_start inner start (place total text)) rest inside → (ending : Ending) × Closes total around start text ending
closes_inner total around start text shorter inner rest is (Err fault) closes = (Err fault, of.breaks inner rest fault is closes)
closes_inner total around start text shorter inner rest is (Ok after) closes =
    let passes = Passes-then text rest after (step_in-passes around text (step.Opens inner) rest is tt) (Closes-passes total inner (string_start inner start (place total text)) rest after closes) in
    let others = shorter around start after (Passes-shorter text after passes) in
    (others.0, of.opens inner rest after is closes others.1)

closes_step : (total : ℕ) (around : Open) (start : ℕ) (text : List ℕ) → Shorter total text → (what : Step) (rest : List ℕ) → step_in around text ≡ Some (what, rest) → (ending : Ending) × Closes total around start text ending
closes_step total around start text shorter step.Ends rest is = (Ok rest, of.ends rest is)
closes_step total around start text shorter step.GoesOn rest is =
    let others = shorter around start rest (Passes-shorter text rest (step_in-passes around text step.GoesOn rest is tt)) in
    (others.0, of.goes_on rest is others.1)
closes_step total around start text shorter (step.Opens inner) rest is =
    let inside = shorter inner (string_start inner start (place total text)) rest (Passes-shorter text rest (step_in-passes around text (step.Opens inner) rest is tt)) in
    closes_inner total around start text shorter inner rest is inside.0 inside.1
closes_step total around start text shorter (step.Fails kind) rest is = (Err (fault_at total rest kind), of.fails kind rest is)

closes_stepped : (total : ℕ) (around : Open) (start : ℕ) (text : List ℕ) → Shorter total text → (stepped : Option Stepped) → step_in around text ≡ stepped → (ending : Ending) × Closes total around start text ending
closes_stepped total around start text shorter None is = (Err (record { at = start; kind = OpenString }), of.stays_open is)
closes_stepped total around start text shorter (Some stepped) is = closes_step total around start text shorter stepped.0 stepped.1 is

closes_some : (total fuel : ℕ) (around : Open) (start : ℕ) (text : List ℕ) → length text < fuel → (ending : Ending) × Closes total around start text ending
closes_some total zero around start text short = absurd (omega arith)
closes_some total (suc fuel) around start text short =
    closes_stepped total around start text (λ inner begun next less. closes_some total fuel inner begun next (omega arith)) (step_in around text) refl

-- shorter texts have outcomes
abbrev LexedShorter : ℕ → List ℕ → Type 0
LexedShorter total text = (trivia : ℕ) (next : List ℕ) → length next < length text → (outcome : Outcome) × IsLexedFrom total trivia next outcome

lexed_string : (total trivia : ℕ) (text : List ℕ) → LexedShorter total text → (marks : Quotes) (inside : List ℕ) → at_front text ≡ Some (found.Opens marks, inside) → (ending : Ending) → String total marks text inside ending → (outcome : Outcome) × IsLexedFrom total trivia text outcome
lexed_string total trivia text shorter marks inside is (Err fault) closes = (Err fault, of.breaks marks inside fault is closes)
lexed_string total trivia text shorter marks inside is (Ok rest) closes =
    let passes = Passes-then text inside rest (at_front-passes text (found.Opens marks) inside is tt) (Closes-passes total (InString marks) (place total text) inside rest closes) in
    let later = shorter (place total rest) rest (Passes-shorter text rest passes) in
    (after_token (token_between total trivia Str text rest) later.0, of.quotes marks inside rest later.0 is closes later.1 refl)

lexed_step : (total trivia : ℕ) (text : List ℕ) → LexedShorter total text → (what : Found) (rest : List ℕ) → at_front text ≡ Some (what, rest) → (outcome : Outcome) × IsLexedFrom total trivia text outcome
lexed_step total trivia text shorter found.Trivia rest is =
    let later = shorter trivia rest (Passes-shorter text rest (at_front-passes text found.Trivia rest is tt)) in
    (later.0, of.passes rest is later.1)
lexed_step total trivia text shorter (found.Token class) rest is =
    let later = shorter (place total rest) rest (Passes-shorter text rest (at_front-passes text (found.Token class) rest is tt)) in
    (after_token (token_between total trivia class text rest) later.0, of.reads class rest later.0 is later.1 refl)
lexed_step total trivia text shorter (found.Opens marks) inside is =
    let ending = closes_some total (suc (length inside)) (InString marks) (place total text) inside (omega arith) in
    lexed_string total trivia text shorter marks inside is ending.0 ending.1
lexed_step total trivia text shorter (found.Fails kind) here is = (Err (fault_at total here kind), of.fails kind here is)

lexed_finding : (total trivia : ℕ) (text : List ℕ) → LexedShorter total text → (finding : Option Finding) → at_front text ≡ finding → (outcome : Outcome) × IsLexedFrom total trivia text outcome
lexed_finding total trivia text shorter None is = (Ok [], of.ends is)
lexed_finding total trivia text shorter (Some finding) is = lexed_step total trivia text shorter finding.0 finding.1 is

lexed_some : (total fuel trivia : ℕ) (text : List ℕ) → length text < fuel → (outcome : Outcome) × IsLexedFrom total trivia text outcome
lexed_some total zero trivia text short = absurd (omega arith)
lexed_some total (suc fuel) trivia text short =
    lexed_finding total trivia text (λ begun next less. lexed_some total fuel begun next (omega arith)) (at_front text) refl

-- the longest front of at most so many bytes that is UTF-8
record IsLongest (text : List ℕ) (most size : ℕ) : Type 0 where
  within : size ≤ most
  utf8 : IsUtf8 (take size text)
  longest : (longer : ℕ) → size < longer → longer ≤ most → IsUtf8 (take longer text) → ⊥

longest_front : (text : List ℕ) (most : ℕ) → (size : ℕ) × IsLongest text most size
longest_front text zero = (0, record { within = omega arith; utf8 = IsUtf8-nil; longest = λ longer more at_most utf8. absurd (omega arith) })
longest_front text (suc most) =
    elim (is_utf8 (take (suc most) text)) as (λ b. is_utf8 (take (suc most) text) ≡ b → (size : ℕ) × IsLongest text (suc most) size) [
      | true ↦ λ is. (suc most, record { within = omega arith; utf8 = IsUtf8-from_is_utf8 (take (suc most) text) is; longest = λ longer more at_most utf8. absurd (omega arith) })
      | false ↦ λ is_not.
          let shorter = longest_front text most in (
            shorter.0,
            record {
              within = omega (arith, shorter.1.within);
              utf8 = shorter.1.utf8;
              longest = λ longer more at_most utf8. elim (cases_lt most longer) [
                | inl above ↦
                    let whole : longer ≡ suc most = omega arith in
                    false≢true (sym is_not ∙ is_utf8-from_IsUtf8 (take (suc most) text) (subst (λ n. IsUtf8 (take n text)) whole utf8))
                | inr below ↦ shorter.1.longest longer more below utf8
              ];
            },
          )
    ] refl

-- a text is UTF-8, or it has a first ill-formed sequence
utf8_or_not : (text : List ℕ) → IsUtf8 text ⊎ ((valid : ℕ) × IsValidUpTo text valid)
utf8_or_not text =
    let front = longest_front text (length text) in
    elim (cases_lt front.0 (length text)) [
      | inl short ↦ inr (
        front.0,
        record {
          short = short;
          front = front.1.utf8;
          longest = λ longer more utf8. elim (cases_lt (length text) longer) [
            | inl past ↦ front.1.longest (length text) short (omega arith) (subst IsUtf8 (take_all longer text (omega arith) ∙ sym (take_all (length text) text (omega arith))) utf8)
            | inr within ↦ front.1.longest longer more within utf8
          ];
        },
      )
      | inr whole ↦ inl (subst IsUtf8 (take_all front.0 text whole) front.1.utf8)
    ]

pub some_token_outcome : SomeTokenOutcome
some_token_outcome text =
    elim (utf8_or_not text) [
      | inl utf8 ↦
          let lexed = lexed_some (length text) (suc (length (after_mark (chars text)))) 0 (after_mark (chars text)) (omega arith) in
          (lexed.0, well_formed utf8 lexed.1)
      | inr ill ↦ (Err (record { at = ill.0; kind = NotUtf8 }), ill_formed ill.0 ill.1)
    ]
