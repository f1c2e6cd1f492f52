-- Walks over attributes: what is left behind those that were read.
use Rattle.std.proofs.Common.{◌≡◌, refl, ℕ, zero, suc, ◌+◌, ◌<◌, ◌∙◌, ap, sym, subst, arith, List, [], ◌∷◌, ◌++◌, drop, drop-drop, Ok, Err}
use Rattle.swift_tree.specs.declared.item.Attr.{Attr}
use Rattle.element_marks.specs.declared.mark.Mark.{Mark}
use Rattle.element_marks.specs.Answers.{and_then}
use Rattle.element_marks.specs.Heads.{by_length, attribute_length}
use Rattle.decl_parser.specs.declared.fault.ParseKind.TheVariants.{NotAnAttribute}
use Rattle.decl_parser.specs.declared.inside.Inside.{Inside}
use Rattle.decl_parser.specs.Faults.{fault}
use Rattle.decl_parser.specs.Attributes.{attr_of}
use Rattle.decl_parser.specs.Parts.{prefixed}
use Rattle.decl_parser.specs.Fragments.{attributes_from}
use Rattle.decl_parser.proofs.Prefixes.{prefixed_more}

drop_more : (inside : ℕ) (insides : List Inside) → drop inside (drop 1 insides) ≡ drop (suc inside) insides
drop_more inside insides = let at : 1 + inside ≡ suc inside = omega arith in drop-drop inside 1 insides ∙ ap (λ n. drop n insides) at

attributes_skip : (inside : ℕ) (marks : List Mark) (insides : List Inside) → attributes_from inside marks insides ≡ attributes_from 0 (drop inside marks) (drop inside insides)
attributes_skip zero [] insides = refl
attributes_skip zero (mark ∷ marks) insides = refl
attributes_skip (suc inside) [] insides = refl
attributes_skip (suc inside) (mark ∷ marks) insides =
    attributes_skip inside marks (drop 1 insides) ∙ ap (attributes_from 0 (drop inside marks)) (drop_more inside insides)

-- past an attribute, what is left stands behind it
attributes_past : (mark : Mark) (marks : List Mark) (insides : List Inside) (more length : ℕ) → suc more ≡ length
    → prefixed (attr_of (mark ∷ marks) insides ∷ []) (attributes_from 0 (drop more marks) (drop (suc more) insides))
    ≡ by_length length (Err (fault mark.start NotAnAttribute)) (λ more. and_then (attributes_from more marks (drop 1 insides)) (λ others. Ok (attr_of (mark ∷ marks) insides ∷ others)))
attributes_past mark marks insides more length is =
    let skipped : attributes_from 0 (drop more marks) (drop (suc more) insides) ≡ attributes_from more marks (drop 1 insides) =
    ap (attributes_from 0 (drop more marks)) (sym (drop_more more insides)) ∙ sym (attributes_skip more marks (drop 1 insides)) in
    subst (λ n. prefixed (attr_of (mark ∷ marks) insides ∷ []) (attributes_from 0 (drop more marks) (drop (suc more) insides)) ≡ by_length n (Err (fault mark.start NotAnAttribute)) (λ more. and_then (attributes_from more marks (drop 1 insides)) (λ others. Ok (attr_of (mark ∷ marks) insides ∷ others)))) is
    (ap (prefixed (attr_of (mark ∷ marks) insides ∷ [])) skipped)

attributes_step : (marks : List Mark) (insides : List Inside) (length : ℕ) → length ≡ attribute_length marks → 0 < length
    → prefixed (attr_of marks insides ∷ []) (attributes_from 0 (drop length marks) (drop length insides)) ≡ attributes_from 0 marks insides
unfolding attribute_length
attributes_step [] insides length is some = absurd (omega (arith, some, is))
attributes_step (mark ∷ marks) insides zero is some = absurd (omega (arith, some))
attributes_step (mark ∷ marks) insides (suc more) is some = attributes_past mark marks insides more (attribute_length (mark ∷ marks)) is

pub attributes_further : (at length : ℕ) (marks : List Mark) (insides : List Inside) (attrs : List Attr) (attr : Attr) → length ≡ attribute_length (drop at marks) → 0 < length → attr ≡ attr_of (drop at marks) (drop at insides)
    → prefixed (attrs ++ attr ∷ []) (attributes_from 0 (drop (at + length) marks) (drop (at + length) insides)) ≡ prefixed attrs (attributes_from 0 (drop at marks) (drop at insides))
attributes_further at length marks insides attrs attr is some same =
    let behind : attributes_from 0 (drop (at + length) marks) (drop (at + length) insides) ≡ attributes_from 0 (drop length (drop at marks)) (drop length (drop at insides)) =
    ap (λ m. attributes_from 0 m (drop (at + length) insides)) (sym (drop-drop length at marks)) ∙ ap (attributes_from 0 (drop length (drop at marks))) (sym (drop-drop length at insides)) in
    prefixed_more attrs (attr ∷ []) _ ∙ ap (prefixed attrs) (ap (prefixed (attr ∷ [])) behind ∙ ap (λ a. prefixed (a ∷ []) (attributes_from 0 (drop length (drop at marks)) (drop length (drop at insides)))) same ∙ attributes_step (drop at marks) (drop at insides) length is some)
