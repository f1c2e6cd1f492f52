-- A text has at most one outcome.
use Rattle.std.proofs.Common.{◌≡◌, ℕ, List, [], length, Option, Some, None, Ok, Err, sym, refl, ap, subst, ◌∙◌}
use Rattle.std.proofs.Math.Seq.{take-length}
use Rattle.std.proofs.lemmas.Str.{utf8_valid_len-IsValidUpTo}
use Rattle.std.specs.Str.{IsUtf8, IsValidUpTo}
use Rattle.swift_lexer.specs.declared.token.Class.TheVariants.{Str}
use Rattle.swift_lexer.specs.declared.token.LexKind.TheVariants.{NotUtf8}
use Rattle.swift_lexer.specs.declared.found.Found.{Found}
use Rattle.swift_lexer.specs.declared.found.Found.TheVariants as found
use Rattle.swift_lexer.specs.Fronts.{Finding, at_front}
use Rattle.swift_lexer.specs.Tokens.{place, fault_at, String, Ending, Outcome, after_token, token_between, IsLexedFrom, ends, passes, reads, quotes, breaks, fails, ill_formed, well_formed}
use Rattle.swift_lexer.specs.Laws.{OneTokenOutcome}
use Rattle.swift_lexer.proofs.Closing.{closes_one}

-- the outcome behind a string, by its ending
abbrev AfterString : ℕ → ℕ → List ℕ → Ending → Outcome → Type 0
AfterString total trivia text (Ok rest) outcome = (later : Outcome) × IsLexedFrom total (place total rest) rest later × (outcome ≡ after_token (token_between total trivia Str text rest) later)
AfterString total trivia text (Err fault) outcome = outcome ≡ Err fault

-- the outcome of a text, by what stands at its front
abbrev ByFound : ℕ → ℕ → List ℕ → Found → List ℕ → Outcome → Type 0
ByFound total trivia text found.Trivia rest outcome = IsLexedFrom total trivia rest outcome
ByFound total trivia text (found.Token class) rest outcome = (later : Outcome) × IsLexedFrom total (place total rest) rest later × (outcome ≡ after_token (token_between total trivia class text rest) later)
ByFound total trivia text (found.Opens marks) inside outcome = (ending : Ending) × String total marks text inside ending × AfterString total trivia text ending outcome
ByFound total trivia text (found.Fails kind) here outcome = outcome ≡ Err (fault_at total here kind)

abbrev ByFinding : ℕ → ℕ → List ℕ → Option Finding → Outcome → Type 0
ByFinding total trivia text None outcome = outcome ≡ Ok []
ByFinding total trivia text (Some finding) outcome = ByFound total trivia text finding.0 finding.1 outcome

lexed_by : (total trivia : ℕ) (text : List ℕ) (outcome : Outcome) → IsLexedFrom total trivia text outcome → ByFinding total trivia text (at_front text) outcome
lexed_by total trivia text outcome (ends is) = subst (λ f. ByFinding total trivia text f (Ok [])) (sym is) refl
lexed_by total trivia text outcome (passes rest is lexed) = subst (λ f. ByFinding total trivia text f outcome) (sym is) lexed
lexed_by total trivia text outcome (reads class rest later is lexed same) = subst (λ f. ByFinding total trivia text f outcome) (sym is) (later, lexed, same)
lexed_by total trivia text outcome (quotes marks inside rest later is closes lexed same) = subst (λ f. ByFinding total trivia text f outcome) (sym is) (Ok rest, closes, (later, lexed, same))
lexed_by total trivia text outcome (breaks marks inside fault is closes) = subst (λ f. ByFinding total trivia text f (Err fault)) (sym is) (Err fault, closes, refl)
lexed_by total trivia text outcome (fails kind here is) = subst (λ f. ByFinding total trivia text f (Err (fault_at total here kind))) (sym is) refl

lexed_one : (total : ℕ) {trivia : ℕ} {text : List ℕ} {one : Outcome} (other : Outcome) → IsLexedFrom total trivia text one → IsLexedFrom total trivia text other → one ≡ other
lexed_one total {trivia} {text} other (ends is) again =
    sym (subst (λ f. ByFinding total trivia text f other) is (lexed_by total trivia text other again))
lexed_one total {trivia} {text} other (passes rest is lexed) again =
    lexed_one total other lexed (subst (λ f. ByFinding total trivia text f other) is (lexed_by total trivia text other again))
lexed_one total {trivia} {text} other (reads class rest later is lexed same) again =
    let by = subst (λ f. ByFinding total trivia text f other) is (lexed_by total trivia text other again) in
    same ∙ ap (after_token (token_between total trivia class text rest)) (lexed_one total by.0 lexed by.1) ∙ sym by.2
lexed_one total {trivia} {text} other (quotes marks inside rest later is closes lexed same) again =
    let by = subst (λ f. ByFinding total trivia text f other) is (lexed_by total trivia text other again) in
    let ending : Ok rest ≡ by.0 = closes_one total by.0 closes by.1 in
    let after = subst (λ e. AfterString total trivia text e other) (sym ending) by.2 in
    same ∙ ap (after_token (token_between total trivia Str text rest)) (lexed_one total after.0 lexed after.1) ∙ sym after.2
lexed_one total {trivia} {text} other (breaks marks inside fault is closes) again =
    let by = subst (λ f. ByFinding total trivia text f other) is (lexed_by total trivia text other again) in
    let ending : Err fault ≡ by.0 = closes_one total by.0 closes by.1 in
    sym (subst (λ e. AfterString total trivia text e other) (sym ending) by.2)
lexed_one total {trivia} {text} other (fails kind here is) again =
    sym (subst (λ f. ByFinding total trivia text f other) is (lexed_by total trivia text other again))

-- a text that is UTF-8 has no first ill-formed sequence
never_both : (text : List ℕ) (valid : ℕ) → IsUtf8 text → IsValidUpTo text valid → ⊥
never_both text valid utf8 upto = upto.longest (length text) upto.short (subst IsUtf8 (sym (take-length text)) utf8)

pub one_token_outcome : OneTokenOutcome
one_token_outcome text one other (ill_formed valid upto) (ill_formed valid' upto') =
    ap (λ at. Err (record { at = at; kind = NotUtf8 })) (sym (utf8_valid_len-IsValidUpTo text valid upto) ∙ utf8_valid_len-IsValidUpTo text valid' upto')
one_token_outcome text one other (ill_formed valid upto) (well_formed utf8 lexed) = absurd (never_both text valid utf8 upto)
one_token_outcome text one other (well_formed utf8 lexed) (ill_formed valid upto) = absurd (never_both text valid utf8 upto)
one_token_outcome text one other (well_formed utf8 lexed) (well_formed utf8' lexed') = lexed_one (length text) other lexed lexed'
