-- What a reply that is read has.
use Rattle.std.proofs.Common.{◌≡◌, ℕ, Bool, true, false, not, All, List, [], ◌∷◌, Option, Some, None, Ok, Err, find, option_map, inl, inr, refl, ap, ◌∙◌, sym}
use Rattle.std.proofs.lemmas.Bool.{cond-true, cond-false, cases_Bool}
use Rattle.std.proofs.lemmas.List.Elements.{All-nil, All-cons, All-weaker}
use Rattle.std.specs.Option.{option_or}
use Rattle.swift_base.specs.declared.place.Span.{Span}
use Rattle.unique_names.specs.declared.role.Role.{Role}
use Rattle.unique_names.specs.declared.role.Role.TheVariants.{Expression, Declaration, Accessor, MemberAttribute, Member, Peer, Extension}
use Rattle.swift_tree.specs.Outlines.{ItemsSeen, OutlineSeen}
use Rattle.decl_parser.specs.Outline.{OutlineOutcome, outline}
use Rattle.element_marks.specs.Answers.{and_then}
use Rattle.result_reader.specs.declared.reading.Reading.{Reading}
use Rattle.result_reader.specs.declared.fault.ResultFault.{ResultFault}
use Rattle.result_reader.specs.Reading.{shape_of, items_fault, forbidden, arbitrary, uncovered_at, fault_by, unless_fault, parsed, reading_of}
use Rattle.result_reader.specs.Laws.{KeepsTheOutline, DeclaresItsNames}
use Rattle.result_reader.specs.Fit.{text_at, makes_declarations}
use Rattle.result_reader.specs.Names.{may_make, names_of, is_uncovered}

no_fault : (found : Option ResultFault) (one seen : OutlineSeen) → unless_fault one found ≡ Ok seen → (one ≡ seen) × (found ≡ None)
no_fault None one seen is = ((cc), refl)
no_fault (Some found) one seen is = absurd (cc)

kept : (find : OutlineSeen → Option ResultFault) (outcome : OutlineOutcome) (seen : OutlineSeen) → and_then (parsed outcome) (λ one. unless_fault one (find one)) ≡ Ok seen
    → (outcome ≡ Ok seen) × (find seen ≡ None)
kept find (Ok one) seen is = let both = no_fault (find one) one seen is in (ap Ok both.0, ap find (sym both.0) ∙ both.1)
kept find (Err found) seen is = absurd (cc)

pub keeps_the_outline : KeepsTheOutline
unfolding reading_of
keeps_the_outline reading text seen is = kept (fault_by reading.role reading text) (outline text (shape_of reading.role)) seen is

find-none : {X : Type 0} (test : X → Bool) (xs : List X) → find test xs ≡ None → All (λ x. test x ≡ false) xs
find-none test [] none = All-nil (λ x. test x ≡ false)
find-none test (x ∷ xs) none =
    elim (cases_Bool (test x)) [
      | inl with ↦ let found = sym (cond-true (test x) (Some x) (find test xs) with) ∙ none in absurd (cc)
      | inr without ↦ All-cons (λ x. test x ≡ false) x xs without (find-none test xs (sym (cond-false (test x) (Some x) (find test xs) without) ∙ none))
    ]

or-none : {X : Type 0} (one other : Option X) → option_or one other ≡ None → other ≡ None
or-none None other none = none
or-none (Some x) other none = absurd (cc)

map-none : {X Y : Type 0} (f : X → Y) (one : Option X) → option_map f one ≡ None → one ≡ None
map-none f None none = refl
map-none f (Some x) none = absurd (cc)

not-false : (b : Bool) → not b ≡ false → b ≡ true
not-false true is = refl
not-false false is = sym is

by_declarations : (role : Role) (reading : Reading) (text : List ℕ) (seen : OutlineSeen) → makes_declarations role ≡ true → fault_by role reading text seen ≡ None
    → items_fault reading text seen.items ≡ None
by_declarations Expression reading text seen makes none = absurd (cc)
by_declarations Declaration reading text seen makes none = none
by_declarations Accessor reading text seen makes none = absurd (cc)
by_declarations MemberAttribute reading text seen makes none = absurd (cc)
by_declarations Member reading text seen makes none = none
by_declarations Peer reading text seen makes none = none
by_declarations Extension reading text seen makes none = absurd (cc)

names_covered : (reading : Reading) (text : List ℕ) (items : ItemsSeen) → items_fault reading text items ≡ None → find (is_uncovered reading text) (names_of items) ≡ None
names_covered reading text items none =
    let names = option_map (uncovered_at text) (find (is_uncovered reading text) (names_of items)) in
    let later = or-none (forbidden reading text items) (option_or (arbitrary reading items) names) none in
    map-none (uncovered_at text) (find (is_uncovered reading text) (names_of items)) (or-none (arbitrary reading items) names later)

pub declares_its_names : DeclaresItsNames
declares_its_names reading text seen makes is =
    let none = by_declarations reading.role reading text seen makes (keeps_the_outline reading text seen is).1 in
    let made : Span → Bool = λ name. may_make reading (text_at text name) in
    All-weaker (λ name. not (made name) ≡ false) (λ name. made name ≡ true) (λ name not_false. not-false (made name) not_false) (names_of seen.items)
    (find-none (λ name. not (made name)) (names_of seen.items) (names_covered reading text seen.items none))
