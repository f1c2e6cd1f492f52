-- The tokens of a text: this project's own grammar, after the lexical structure of Swift.
use Rattle.std.specs.Prelude.{◌≡◌, ℕ, ◌-◌, List, [], ◌∷◌, length, Some, None, Result, Ok, Err, if◌then◌else◌}
use Rattle.std.specs.Str.{IsUtf8, IsValidUpTo, chars, encode_utf8_all}
use Rattle.swift_lexer.specs.declared.chars.TheConstants.{BYTE_ORDER_MARK}
use Rattle.swift_lexer.specs.declared.token.Class.{Class}
use Rattle.swift_lexer.specs.declared.token.Class.TheVariants.{Str}
use Rattle.swift_lexer.specs.declared.token.Token.{Token}
use Rattle.swift_lexer.specs.declared.token.LexFault.{LexFault}
use Rattle.swift_lexer.specs.declared.token.LexKind.{LexKind}
use Rattle.swift_lexer.specs.declared.token.LexKind.TheVariants.{NotUtf8, OpenString}
use Rattle.swift_lexer.specs.declared.found.Found.TheVariants as found
use Rattle.swift_lexer.specs.declared.found.Quotes.{Quotes}
use Rattle.swift_lexer.specs.declared.strings.Open.{Open}
use Rattle.swift_lexer.specs.declared.strings.Open.TheVariants.{InString, InParentheses}
use Rattle.swift_lexer.specs.declared.strings.Step.TheVariants as step
use Rattle.swift_lexer.specs.Texts.{begins, behind}
use Rattle.swift_lexer.specs.Fronts.{at_front}
use Rattle.swift_lexer.specs.Strings.{step_in}

-- the place, in a text of so many bytes, at which these last characters begin
unfoldable pub place : ℕ → List ℕ → ℕ
place total rest = total - length (encode_utf8_all rest)

abbrev pub fault_at : ℕ → List ℕ → LexKind → LexFault
fault_at total here kind = record { at = place total here; kind = kind }

-- where the innermost string begins: one that opens here, or the one around parentheses
abbrev pub string_start : Open → ℕ → ℕ → ℕ
string_start (InString quotes) around here = here
string_start InParentheses around here = around

-- what stands behind the end of a string or of parentheses, or the first fault inside
abbrev pub Ending : Type 0
Ending = Result (List ℕ) LexFault

-- the text, inside a string or inside parentheses, goes on to this ending; `start` is where the innermost string begins
pub data Closes (total : ℕ) : Open → ℕ → List ℕ → Ending → Type 0 where
  ends : {opened : Open} {start : ℕ} {text : List ℕ} (rest : List ℕ) → step_in opened text ≡ Some (step.Ends, rest) → Closes total opened start text (Ok rest)
  goes_on : {opened : Open} {start : ℕ} {text : List ℕ} (rest : List ℕ) {ending : Ending} → step_in opened text ≡ Some (step.GoesOn, rest) → Closes total opened start rest ending → Closes total opened start text ending
  opens : {opened : Open} {start : ℕ} {text : List ℕ} (inner : Open) (rest after : List ℕ) {ending : Ending} → step_in opened text ≡ Some (step.Opens inner, rest) → Closes total inner (string_start inner start (place total text)) rest (Ok after) → Closes total opened start after ending → Closes total opened start text ending
  breaks : {opened : Open} {start : ℕ} {text : List ℕ} (inner : Open) (rest : List ℕ) (fault : LexFault) → step_in opened text ≡ Some (step.Opens inner, rest) → Closes total inner (string_start inner start (place total text)) rest (Err fault) → Closes total opened start text (Err fault)
  fails : {opened : Open} {start : ℕ} {text : List ℕ} (kind : LexKind) (here : List ℕ) → step_in opened text ≡ Some (step.Fails kind, here) → Closes total opened start text (Err (fault_at total here kind))
  stays_open : {opened : Open} {start : ℕ} {text : List ℕ} → step_in opened text ≡ None → Closes total opened start text (Err (record { at = start; kind = OpenString }))

-- a string whose quotes stand between the text and its inside
abbrev pub String : ℕ → Quotes → List ℕ → List ℕ → Ending → Type 0
String total quotes text inside ending = Closes total (InString quotes) (place total text) inside ending

abbrev pub Outcome : Type 0
Outcome = Result (List Token) LexFault

-- the outcome of a text, by that of what stands behind its first token
abbrev pub after_token : Token → Outcome → Outcome
after_token token (Ok tokens) = Ok (token ∷ tokens)
after_token token (Err fault) = Err fault

abbrev pub token_between : ℕ → ℕ → Class → List ℕ → List ℕ → Token
token_between total trivia class text rest = record { class = class; start = place total text; end = place total rest; trivia = trivia }

-- the outcome of the last characters of a text of so many bytes; `trivia` is where the trivia before them begin
pub data IsLexedFrom (total : ℕ) : ℕ → List ℕ → Outcome → Type 0 where
  ends : {trivia : ℕ} {text : List ℕ} → at_front text ≡ None → IsLexedFrom total trivia text (Ok [])
  passes : {trivia : ℕ} {text : List ℕ} (rest : List ℕ) {outcome : Outcome} → at_front text ≡ Some (found.Trivia, rest) → IsLexedFrom total trivia rest outcome → IsLexedFrom total trivia text outcome
  reads : {trivia : ℕ} {text : List ℕ} (class : Class) (rest : List ℕ) (outcome : Outcome) {whole : Outcome} → at_front text ≡ Some (found.Token class, rest) → IsLexedFrom total (place total rest) rest outcome → whole ≡ after_token (token_between total trivia class text rest) outcome → IsLexedFrom total trivia text whole
  quotes : {trivia : ℕ} {text : List ℕ} (quotes : Quotes) (inside rest : List ℕ) (outcome : Outcome) {whole : Outcome} → at_front text ≡ Some (found.Opens quotes, inside) → String total quotes text inside (Ok rest) → IsLexedFrom total (place total rest) rest outcome → whole ≡ after_token (token_between total trivia Str text rest) outcome → IsLexedFrom total trivia text whole
  breaks : {trivia : ℕ} {text : List ℕ} (quotes : Quotes) (inside : List ℕ) (fault : LexFault) → at_front text ≡ Some (found.Opens quotes, inside) → String total quotes text inside (Err fault) → IsLexedFrom total trivia text (Err fault)
  fails : {trivia : ℕ} {text : List ℕ} (kind : LexKind) (here : List ℕ) → at_front text ≡ Some (found.Fails kind, here) → IsLexedFrom total trivia text (Err (fault_at total here kind))

-- behind a byte order mark at the very beginning, which is trivia
abbrev pub after_mark : List ℕ → List ℕ
after_mark text = if begins BYTE_ORDER_MARK text then behind text else text

-- the outcome of a text: all its tokens, or its first fault; that it is no UTF-8 comes before every other
pub data IsLexed (text : List ℕ) : Outcome → Type 0 where
  ill_formed : (valid : ℕ) → IsValidUpTo text valid → IsLexed text (Err (record { at = valid; kind = NotUtf8 }))
  well_formed : {outcome : Outcome} → IsUtf8 text → IsLexedFrom (length text) 0 (after_mark (chars text)) outcome → IsLexed text outcome
