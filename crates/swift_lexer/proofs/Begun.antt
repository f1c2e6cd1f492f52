-- The tokens so far, and what is still to be read: its outcomes complete that of the text.
use Rattle.std.proofs.Common.{◌≡◌, ℕ, List, [], ◌∷◌, ◌++◌, Some, None, Ok, Err, sym, refl, ap, subst, ◌∙◌, append-nil, append_assoc}
use Rattle.swift_lexer.specs.declared.token.Class.{Class}
use Rattle.swift_lexer.specs.declared.token.Class.TheVariants.{Str}
use Rattle.swift_lexer.specs.declared.token.Token.{Token}
use Rattle.swift_lexer.specs.declared.token.LexFault.{LexFault}
use Rattle.swift_lexer.specs.declared.token.LexKind.{LexKind}
use Rattle.swift_lexer.specs.declared.found.Found.TheVariants as found
use Rattle.swift_lexer.specs.declared.found.Quotes.{Quotes}
use Rattle.swift_lexer.specs.declared.refusal.Refusal.{Refusal}
use Rattle.swift_lexer.specs.declared.refusal.Refusal.TheVariants.{Memory, Fault}
use Rattle.swift_lexer.specs.Answers.{Refuses}
use Rattle.swift_lexer.specs.Fronts.{at_front}
use Rattle.swift_lexer.specs.Tokens.{fault_at, String, Outcome, after_token, token_between, IsLexedFrom, ends, passes, reads, quotes, breaks, fails}

-- the outcome of a text, by that of what stands behind its first tokens
abbrev after_tokens : List Token → Outcome → Outcome
after_tokens tokens (Ok others) = Ok (tokens ++ others)
after_tokens tokens (Err fault) = Err fault

after_tokens-push : (tokens : List Token) (token : Token) (outcome : Outcome) → after_tokens tokens (after_token token outcome) ≡ after_tokens (tokens ++ token ∷ []) outcome
after_tokens-push tokens token (Ok others) = ap (λ l. Ok l) (sym (append_assoc tokens (token ∷ []) others))
after_tokens-push tokens token (Err fault) = refl

after_no_tokens : (outcome : Outcome) → after_tokens [] outcome ≡ outcome
after_no_tokens (Ok tokens) = refl
after_no_tokens (Err fault) = refl

pub record Begun (total : ℕ) (text : List ℕ) (tokens : List Token) (trivia : ℕ) (rest : List ℕ) : Type 0 where
  pub whole : (outcome : Outcome) → IsLexedFrom total trivia rest outcome → IsLexedFrom total 0 text (after_tokens tokens outcome)

pub Begun-start : (total : ℕ) (text : List ℕ) (tokens : List Token) → tokens ≡ [] → Begun total text tokens 0 text
Begun-start total text tokens none = record {
  whole = λ outcome lexed. subst (IsLexedFrom total 0 text) (sym (after_no_tokens outcome) ∙ ap (λ l. after_tokens l outcome) (sym none)) lexed;
}

module _ {total : ℕ} {text : List ℕ} {tokens : List Token} {trivia : ℕ} {rest : List ℕ} (begun : Begun total text tokens trivia rest) where
  pub Begun-passes : (after : List ℕ) → at_front rest ≡ Some (found.Trivia, after) → Begun total text tokens trivia after
  Begun-passes after is = record { whole = λ outcome lexed. begun.whole outcome (passes after is lexed) }

  pub Begun-reads : (class : Class) (after : List ℕ) (token : Token) (longer : List Token) → at_front rest ≡ Some (found.Token class, after) → token ≡ token_between total trivia class rest after → longer ≡ tokens ++ token ∷ [] → Begun total text longer token.end after
  Begun-reads class after token longer is same pushed = record {
    whole = λ outcome lexed.
        let whole = begun.whole (after_token token outcome) (reads class after outcome is (subst (λ t. IsLexedFrom total t.end after outcome) same lexed) (ap (λ t. after_token t outcome) same)) in
        subst (IsLexedFrom total 0 text) (after_tokens-push tokens token outcome ∙ ap (λ l. after_tokens l outcome) (sym pushed)) whole;
  }

  pub Begun-quotes : (marks : Quotes) (inside after : List ℕ) (token : Token) (longer : List Token) → at_front rest ≡ Some (found.Opens marks, inside) → String total marks rest inside (Ok after) → token ≡ token_between total trivia Str rest after → longer ≡ tokens ++ token ∷ [] → Begun total text longer token.end after
  Begun-quotes marks inside after token longer is closes same pushed = record {
    whole = λ outcome lexed.
        let whole = begun.whole (after_token token outcome) (quotes marks inside after outcome is closes (subst (λ t. IsLexedFrom total t.end after outcome) same lexed) (ap (λ t. after_token t outcome) same)) in
        subst (IsLexedFrom total 0 text) (after_tokens-push tokens token outcome ∙ ap (λ l. after_tokens l outcome) (sym pushed)) whole;
  }

  pub Begun-ends : at_front rest ≡ None → IsLexedFrom total 0 text (Ok tokens)
  Begun-ends is = subst (λ l. IsLexedFrom total 0 text (Ok l)) (append-nil tokens) (begun.whole (Ok []) (ends is))

  pub Begun-fails : (kind : LexKind) (here : List ℕ) → at_front rest ≡ Some (found.Fails kind, here) → IsLexedFrom total 0 text (Err (fault_at total here kind))
  Begun-fails kind here is = begun.whole (Err (fault_at total here kind)) (fails kind here is)

  pub Begun-breaks : (marks : Quotes) (inside : List ℕ) (refusal : Refusal LexFault) → at_front rest ≡ Some (found.Opens marks, inside) → Refuses refusal (String total marks rest inside) → Refuses refusal (IsLexedFrom total 0 text)
  Begun-breaks marks inside Memory is closes = tt
  Begun-breaks marks inside (Fault fault) is closes = begun.whole (Err fault) (breaks marks inside fault is closes)
