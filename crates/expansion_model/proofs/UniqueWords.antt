-- No word of an accepted file is a unique name.
use Rattle.std.proofs.Common.{◌≡◌, ◌∙◌, inl, inr, refl, sym, ap, subst, arith, ℕ, Bool, true, false, if◌then◌else◌, Result, Ok, Err, List, [], ◌∷◌, ◌++◌}
use Rattle.std.specs.List.{Contains}
use Rattle.std.proofs.lemmas.List.Elements.{Contains-append_cases, Contains-push_cases}
use Rattle.swift_lexer.specs.Bracketing.{groups_of}
use Rattle.swift_lexer.specs.Groups.{GroupOutcome, IsGrouped}
use Rattle.swift_lexer.specs.Trees.{Forest, forest_tokens}
use Rattle.swift_lexer.specs.declared.token.Token.{Token}
use Rattle.swift_lexer.proofs.Reaching.{groups_hold_the_tokens}
use Rattle.swift_lexer.proofs.SomeGrouping.{some_group_outcome}
use Rattle.swift_tree.specs.Outlines.{OutlineSeen}
use Rattle.swift_tree.specs.declared.outline.Shape.TheVariants.{File}
use Rattle.element_marks.specs.Words.{is_reserved}
use Rattle.decl_parser.specs.Faults.{fault}
use Rattle.decl_parser.specs.Fragments.{by_shape}
use Rattle.decl_parser.specs.declared.fault.ParseFault.{ParseFault}
use Rattle.decl_parser.specs.declared.fault.ParseKind.TheVariants.{ReservedWord}
use Rattle.decl_parser.specs.Outline.{IsOutline, allowed, elements_of, grouped, name_bytes, outline, outline_by, read_groups, read_tokens, unreserved}
use Rattle.decl_parser.proofs.Accepting.{ok_same, then_ok}
use Rattle.unique_names.specs.Names.{discriminator_of}
use Rattle.unique_names.specs.Unique.{IsUnique}
use Rattle.unique_names.specs.declared.step.KeyStep.{KeyStep}
use Rattle.expansion_model.specs.Laws.{WordsAreNotUnique}

-- a unique name is a reserved one
begins_so : (key : List KeyStep) (rest : List ℕ) → is_reserved (discriminator_of key ++ rest) ≡ true
unfolding is_reserved discriminator_of
begins_so key rest = refl

is_named_so : (key : List KeyStep) (name : List ℕ) → IsUnique (discriminator_of key) name → is_reserved name ≡ true
is_named_so key name unique = ap is_reserved unique.begins ∙ begins_so key unique.rest

one_allowed : (b : Bool) (found : ParseFault) (rest : Result (Unit {0}) ParseFault) → (if b then Err found else rest) ≡ Ok tt → (b ≡ false) × (rest ≡ Ok tt)
one_allowed true found rest is = absurd (cc)
one_allowed false found rest is = (refl, is)

none_reserved : (text : List ℕ) (tokens : List Token) → unreserved text tokens ≡ Ok tt → (token : Token) → Contains tokens token → is_reserved (name_bytes text token.class token) ≡ false
none_reserved text [] is token has = absurd (omega (arith, has.1))
none_reserved text (first ∷ tokens) is token has =
    let both = one_allowed (is_reserved (name_bytes text first.class first)) (fault first.start ReservedWord) (unreserved text tokens) is in
    elim (Contains-append_cases (first ∷ []) tokens token has) [
      | inl here ↦
          elim (Contains-push_cases [] first token here) [
            | inl none_ ↦ absurd (omega (arith, none_.1))
            | inr same ↦ subst (λ (t : Token). is_reserved (name_bytes text t.class t) ≡ false) same both.0
          ]
      | inr later ↦ none_reserved text tokens both.1 token later
    ]

groups_ok : (outcome : GroupOutcome) (forest : Forest) → grouped outcome ≡ Ok forest → outcome ≡ Ok forest
groups_ok (Ok other) forest is = cc
groups_ok (Err found) forest is = cc

groups_same : (text : List ℕ) (tokens : List Token) (forest : Forest) → read_groups text tokens ≡ Ok forest → forest_tokens forest ≡ tokens
unfolding read_groups
groups_same text tokens forest is =
    (groups_hold_the_tokens text tokens forest (subst (IsGrouped text tokens) (groups_ok (groups_of text tokens) forest is) (some_group_outcome text tokens))).0

words_pass : (text : List ℕ) (seen : OutlineSeen) (tokens : List Token) → IsOutline text File (Ok seen) → read_tokens text ≡ Ok tokens → unreserved text tokens ≡ Ok tt
unfolding outline elements_of
words_pass text seen tokens is read =
    let outer = then_ok (elements_of text) (outline_by text File) seen (sym is) in
    let inner = then_ok (read_tokens text) (read_groups text) outer.0 outer.1 in
    let words = then_ok (allowed text File (forest_tokens outer.0)) (λ fine. by_shape text File outer.0) seen outer.2 in
    let same : inner.0 ≡ tokens = ok_same inner.0 tokens (sym inner.1 ∙ read) in
    subst (λ (l : List Token). unreserved text l ≡ Ok tt) (groups_same text inner.0 outer.0 inner.2 ∙ same) words.1

pub words_are_not_unique : WordsAreNotUnique
words_are_not_unique text seen tokens is read token has key unique =
    let free = none_reserved text tokens (words_pass text seen tokens is read) token has in
    let bound = is_named_so key (name_bytes text token.class token) unique in
    absurd (cc)
