-- The tokens so far and the groups of them, while a text is read.
use Rattle.std.proofs.Common.{◌≡◌, ℕ, List, [], ◌∷◌, ◌++◌, Option, Some, None, IfSome, Ok, sym, refl, subst, append-nil, append_assoc}
use Rattle.swift_lexer.specs.declared.token.Class.{Class}
use Rattle.swift_lexer.specs.declared.token.Class.TheVariants.{Str}
use Rattle.swift_lexer.specs.declared.token.Token.{Token}
use Rattle.swift_lexer.specs.declared.found.Found.TheVariants as found
use Rattle.swift_lexer.specs.declared.found.Quotes.{Quotes}
use Rattle.swift_lexer.specs.declared.grouping.Grouping.{Grouping}
use Rattle.swift_lexer.specs.Fronts.{at_front}
use Rattle.swift_lexer.specs.Groups.{IsGrouped}
use Rattle.swift_lexer.specs.Openings.{Passes, Stands}
use Rattle.swift_lexer.specs.Reads.{ReadsFrom}
use Rattle.swift_lexer.specs.Tokens.{IsLexedFrom, String, token_between}
use Rattle.swift_lexer.specs.Trees.{Forest, forest_tokens}
use Rattle.swift_lexer.proofs.Begun.{Begun, Begun-ends, Begun-passes, Begun-quotes, Begun-reads, Begun-start}
use Rattle.swift_lexer.proofs.Reaching.{groups_hold_the_tokens}
use Rattle.swift_lexer.proofs.Standing.{Stands-start}

-- some tokens were read, and the state stands behind them, whatever follows
pub record Underway (bytes : List ℕ) (total : ℕ) (text : List ℕ) (grouping : Grouping) (trivia : ℕ) (rest : List ℕ) : Type 0 where
  pub tokens : List Token
  pub begun : Begun total text tokens trivia rest
  pub stands : (more : List Token) → Stands bytes (tokens ++ more) grouping more

pub Underway-start : (bytes : List ℕ) (total : ℕ) (text : List ℕ) (grouping : Grouping) → grouping.levels.items ≡ [] → grouping.here.items ≡ [] → Underway bytes total text grouping 0 text
Underway-start bytes total text grouping no_levels nothing = record {
  tokens = [];
  begun = Begun-start total text [] refl;
  stands = λ more. Stands-start bytes more grouping no_levels nothing;
}

module _ {bytes : List ℕ} {total : ℕ} {text : List ℕ} {grouping : Grouping} {trivia : ℕ} {rest : List ℕ} (underway : Underway bytes total text grouping trivia rest) where
  pub Underway-passes : (after : List ℕ) → at_front rest ≡ Some (found.Trivia, after) → Underway bytes total text grouping trivia after
  Underway-passes after is = record { tokens = underway.tokens; begun = Begun-passes underway.begun after is; stands = underway.stands }

  stands_further : (token : Token) (next : Grouping) → Passes bytes token grouping next → (more : List Token) → Stands bytes ((underway.tokens ++ token ∷ []) ++ more) next more
  stands_further token next passes more =
      passes ((underway.tokens ++ token ∷ []) ++ more) more
      (subst (λ l. Stands bytes l grouping (token ∷ more)) (sym (append_assoc underway.tokens (token ∷ []) more)) (underway.stands (token ∷ more)))

  pub Underway-reads : (class : Class) (after : List ℕ) (token : Token) (next : Grouping) → at_front rest ≡ Some (found.Token class, after) → token ≡ token_between total trivia class rest after → Passes bytes token grouping next → Underway bytes total text next token.end after
  Underway-reads class after token next is same passes = record {
    tokens = underway.tokens ++ token ∷ [];
    begun = Begun-reads underway.begun class after token (underway.tokens ++ token ∷ []) is same refl;
    stands = stands_further token next passes;
  }

  pub Underway-quotes : (marks : Quotes) (inside after : List ℕ) (token : Token) (next : Grouping) → at_front rest ≡ Some (found.Opens marks, inside) → String total marks rest inside (Ok after) → token ≡ token_between total trivia Str rest after → Passes bytes token grouping next → Underway bytes total text next token.end after
  Underway-quotes marks inside after token next is closes same passes = record {
    tokens = underway.tokens ++ token ∷ [];
    begun = Begun-quotes underway.begun marks inside after token (underway.tokens ++ token ∷ []) is closes same refl;
    stands = stands_further token next passes;
  }

  pub Underway-ends : (forest : Forest) → at_front rest ≡ None → ((tokens : List Token) → Stands bytes tokens grouping [] → IsGrouped bytes tokens (Ok forest)) → ReadsFrom bytes total text forest
  Underway-ends forest is ends =
      let grouped = ends underway.tokens (subst (λ l. Stands bytes l grouping []) (append-nil underway.tokens) (underway.stands [])) in
      let held : forest_tokens forest ≡ underway.tokens = (groups_hold_the_tokens bytes underway.tokens forest grouped).0 in
      record {
        lexed = subst (λ l. IsLexedFrom total 0 text (Ok l)) (sym held) (Begun-ends underway.begun is);
        grouped = subst (λ l. IsGrouped bytes l (Ok forest)) (sym held) grouped;
      }

pub if_some_weaker : {V : Type 0} {P Q : V → Type 0} (found : Option V) → ((value : V) → P value → Q value) → IfSome found P → IfSome found Q
if_some_weaker None weaker holds = tt
if_some_weaker (Some value) weaker holds = weaker value holds
