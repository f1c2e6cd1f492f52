-- Blanks at the front of a text are trivia.
use Rattle.std.proofs.Common.{◌≡◌, ◌∙◌, refl, ap, sym, subst, arith, ℕ, ◌<◌, ◌≤◌, ◌==◌, ◌||◌, ◌⊎◌, inl, inr, List, [], ◌∷◌, length, Some, true, false, eqb-true, if◌then◌else◌}
use Rattle.std.specs.Char.{is_ascii_alphabetic}
use Rattle.std.specs.List.{AllByRecursion, list_any}
use Rattle.unicode_ident.proofs.IdentLemmas.{is_xid_start-ascii}
use Rattle.swift_lexer.specs.declared.chars.Front.TheVariants as front
use Rattle.swift_lexer.specs.declared.chars.TheConstants.{BLANKS, UNDERSCORE, DOLLAR}
use Rattle.swift_lexer.specs.declared.found.Found.TheVariants.{Trivia}
use Rattle.swift_lexer.specs.declared.grouping.Grouping.{Grouping}
use Rattle.swift_lexer.specs.Chars.{front_of, is_blank, is_word_start}
use Rattle.swift_lexer.specs.Fronts.{at_front, by_front}
use Rattle.swift_lexer.specs.Texts.{after_run}
use Rattle.swift_lexer.proofs.FrontKinds.{from_Blank, from_Digit}
use Rattle.swift_lexer.proofs.Underway.{Underway, Underway-passes}

no_word : (c : ℕ) → c < 128 → (is_ascii_alphabetic c || c == UNDERSCORE || c == DOLLAR) ≡ false → is_word_start c ≡ false
unfolding is_word_start
no_word c small is = ap (λ b. b || c == UNDERSCORE || c == DOLLAR) (is_xid_start-ascii c small) ∙ is

abbrev BeginsNoWord : ℕ → Type 0
BeginsNoWord c = is_word_start c ≡ false

each_blank : AllByRecursion BeginsNoWord BLANKS
each_blank = (no_word 32 (omega arith) refl, (no_word 10 (omega arith) refl, (no_word 9 (omega arith) refl, (no_word 13 (omega arith) refl, (no_word 11 (omega arith) refl, (no_word 12 (omega arith) refl, tt))))))

any_of : (P : ℕ → Type 0) (c : ℕ) (marks : List ℕ) → AllByRecursion P marks → list_any (λ mark. mark == c) marks ≡ true → P c
any_of P c [] each is = cc
any_of P c (mark ∷ marks) each is =
    elim (mark == c) as (λ b. (mark == c) ≡ b → (b || list_any (λ m. m == c) marks) ≡ true → P c) [
      | true ↦ λ same later. subst P (eqb-true mark c same) each.0
      | false ↦ λ other later. any_of P c marks each.1 later
    ] refl is

blank_front : (c : ℕ) → is_blank c ≡ true → front_of c ≡ front.Blank
unfolding front_of
blank_front c is =
    ap (λ b. if b then front.Word else from_Blank c) (any_of BeginsNoWord c BLANKS each_blank is)
    ∙ ap (λ b. if b then front.Blank else from_Digit c) is

by_blanks : (rest : List ℕ) → (after_run is_blank rest ≡ rest) ⊎ (at_front rest ≡ Some (Trivia, after_run is_blank rest))
unfolding at_front
by_blanks [] = inl refl
by_blanks (c ∷ cs) =
    elim (is_blank c) as (λ b. is_blank c ≡ b → ((if b then after_run is_blank cs else c ∷ cs) ≡ c ∷ cs) ⊎ (Some (by_front (front_of c) (c ∷ cs) cs) ≡ Some (Trivia, if b then after_run is_blank cs else c ∷ cs))) [
      | true ↦ λ is. inr (ap (λ f. Some (by_front f (c ∷ cs) cs)) (blank_front c is))
      | false ↦ λ is. inl refl
    ] refl

pub Underway-blanks : {bytes : List ℕ} {total : ℕ} {text : List ℕ} {grouping : Grouping} {trivia : ℕ} {rest : List ℕ} → Underway bytes total text grouping trivia rest → Underway bytes total text grouping trivia (after_run is_blank rest)
Underway-blanks {bytes = bytes} {total = total} {text = text} {grouping = grouping} {trivia = trivia} {rest = rest} underway =
    elim (by_blanks rest) [
      | inl same ↦ subst (Underway bytes total text grouping trivia) (sym same) underway
      | inr is ↦ Underway-passes underway (after_run is_blank rest) is
    ]

pub blanks_shorten : (rest : List ℕ) → length (after_run is_blank rest) ≤ length rest
blanks_shorten [] = omega arith
blanks_shorten (c ∷ cs) =
    elim (is_blank c) as (λ b. length (if b then after_run is_blank cs else c ∷ cs) ≤ length (c ∷ cs)) [
      | true ↦ omega (arith, blanks_shorten cs)
      | false ↦ omega arith
    ]
