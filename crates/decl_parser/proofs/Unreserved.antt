-- No word of tokens in a row is one that only macros make.
use Rattle.std.proofs.Common.{◌≡◌, ◌∙◌, ap, sym, refl, ℕ, List, [], ◌∷◌, ◌++◌, Result, Ok, Err, Bool, true, false, if◌then◌else◌}
use Rattle.swift_lexer.specs.declared.token.Token.{Token}
use Rattle.element_marks.specs.Answers.{and_then}
use Rattle.element_marks.specs.Words.{is_reserved}
use Rattle.decl_parser.specs.declared.fault.ParseFault.{ParseFault}
use Rattle.decl_parser.specs.declared.fault.ParseKind.TheVariants.{ReservedWord}
use Rattle.decl_parser.specs.Faults.{fault}
use Rattle.decl_parser.specs.Outline.{name_bytes, unreserved}

either : (reserved : Bool) (found : ParseFault) (whole front : Result (Unit {0}) ParseFault) (next : Unit {0} → Result (Unit {0}) ParseFault) → whole ≡ and_then front next → (if reserved then Err found else whole) ≡ and_then (if reserved then Err found else front) next
either true found whole front next is = refl
either false found whole front next is = is

unreserved_join : (text : List ℕ) (front back : List Token) → unreserved text (front ++ back) ≡ and_then (unreserved text front) (λ fine. unreserved text back)
unreserved_join text [] back = refl
unreserved_join text (token ∷ front) back =
    either (is_reserved (name_bytes text token.class token)) (fault token.start ReservedWord) (unreserved text (front ++ back)) (unreserved text front) (λ fine. unreserved text back) (unreserved_join text front back)

pub front_passes : (text : List ℕ) (front back : List Token) → Ok tt ≡ unreserved text front → unreserved text (front ++ back) ≡ unreserved text back
front_passes text front back fine = unreserved_join text front back ∙ ap (λ r. and_then r (λ fine. unreserved text back)) (sym fine)

pub front_stops : (text : List ℕ) (front back : List Token) (found : ParseFault) → Err found ≡ unreserved text front → Err found ≡ unreserved text (front ++ back)
front_stops text front back found is = ap (λ r. and_then r (λ fine. unreserved text back)) is ∙ sym (unreserved_join text front back)
