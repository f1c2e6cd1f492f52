-- Bindings one behind the other.
use Rattle.std.proofs.Common.{◌≡◌, refl, ℕ, zero, suc, ◌+◌, ◌<◌, ◌==◌, ◌∙◌, ap, sym, arith, append-nil, length, List, [], ◌∷◌, ◌++◌, take, drop, drop-drop, Some, None, Result, Ok, Err, false}
use Rattle.element_marks.specs.declared.mark.Mark.{Mark}
use Rattle.element_marks.specs.Answers.{and_then}
use Rattle.element_marks.specs.Runs.{binding_length}
use Rattle.decl_parser.specs.declared.fault.ParseFault.{ParseFault}
use Rattle.decl_parser.specs.declared.fault.ParseKind.TheVariants.{BadBinding}
use Rattle.decl_parser.specs.declared.inside.Inside.{Inside}
use Rattle.decl_parser.specs.declared.bindings.Bound.{Bound}
use Rattle.decl_parser.specs.Bindings.{binding_of, bindings_from}
use Rattle.decl_parser.specs.Faults.{fault}
use Rattle.decl_parser.specs.Held.{Held}
use Rattle.decl_parser.specs.Parts.{prefixed}
use Rattle.decl_parser.proofs.Prefixes.{prefixed_more}

skip : (inside : ℕ) (marks : List Mark) (insides : List Inside) (held : List Held) → bindings_from None inside marks insides held ≡ bindings_from None 0 (drop inside marks) (drop inside insides) (drop inside held)
skip zero [] insides held = refl
skip zero (mark ∷ marks) insides held = refl
skip (suc inside) [] insides held = refl
skip (suc inside) (mark ∷ marks) insides held =
    let at : 1 + inside ≡ suc inside = omega arith in
    skip inside marks (drop 1 insides) (drop 1 held)
    ∙ ap (λ l. bindings_from None 0 (drop inside marks) l (drop inside (drop 1 held))) (drop-drop inside 1 insides ∙ ap (λ n. drop n insides) at)
    ∙ ap (bindings_from None 0 (drop inside marks) (drop (suc inside) insides)) (drop-drop inside 1 held ∙ ap (λ n. drop n held) at)

pub some_left : (n : ℕ) → (n == 0) ≡ false → 0 < n
some_left zero empty = cc
some_left (suc n) empty = omega arith

-- the first binding, of so many elements, and those behind its comma
abbrev pub by_first : ℕ → List Mark → List Inside → List Held → Result (List Bound) ParseFault
by_first count rest within left = and_then (binding_of (take count rest) within left) (λ first. prefixed (first ∷ []) (bindings_from None 0 (drop count rest) (drop count within) (drop count left)))

first_then : (pattern : Mark) (marks : List Mark) (within : List Inside) (left : List Held) (n : ℕ) → and_then (binding_of (pattern ∷ take n marks) within left) (λ first. prefixed (first ∷ []) (bindings_from None n marks (drop 1 within) (drop 1 left))) ≡ by_first (suc n) (pattern ∷ marks) within left
first_then pattern marks within left n =
    let at : 1 + n ≡ suc n = omega arith in
    ap (λ r. and_then (binding_of (pattern ∷ take n marks) within left) (λ first. prefixed (first ∷ []) r))
    (skip n marks (drop 1 within) (drop 1 left)
    ∙ ap (λ l. bindings_from None 0 (drop n marks) l (drop n (drop 1 left))) (drop-drop n 1 within ∙ ap (λ n. drop n within) at)
    ∙ ap (bindings_from None 0 (drop n marks) (drop (suc n) within)) (drop-drop n 1 left ∙ ap (λ n. drop n left) at))

by_first_is : (anchor count : ℕ) (rest : List Mark) (within : List Inside) (left : List Held) → 0 < length rest → count ≡ 1 + binding_length false 0 0 (drop 1 rest) → bindings_from (Some anchor) 0 rest within left ≡ by_first count rest within left
by_first_is anchor count [] within left some is = absurd (omega (arith, some))
by_first_is anchor count (pattern ∷ marks) within left some is =
    let at : suc (binding_length false 0 0 marks) ≡ count = omega (arith, is) in
    first_then pattern marks within left (binding_length false 0 0 marks) ∙ ap (λ n. by_first n (pattern ∷ marks) within left) at

pub no_binding : (bounds : List Bound) (anchor : ℕ) (rest : List Mark) (within : List Inside) (left : List Held) → length rest ≡ 0 → Err (fault anchor BadBinding) ≡ prefixed bounds (bindings_from (Some anchor) 0 rest within left)
no_binding bounds anchor [] within left none = refl
no_binding bounds anchor (pattern ∷ marks) within left none = absurd (omega (arith, none))

pub bad_binding : (bounds : List Bound) (anchor count : ℕ) (rest : List Mark) (within : List Inside) (left : List Held) (bad : ParseFault) → 0 < length rest → count ≡ 1 + binding_length false 0 0 (drop 1 rest) → Err bad ≡ binding_of (take count rest) within left → Err bad ≡ prefixed bounds (bindings_from (Some anchor) 0 rest within left)
bad_binding bounds anchor count rest within left bad some is read =
    ap (λ first. prefixed bounds (and_then first (λ first. prefixed (first ∷ []) (bindings_from None 0 (drop count rest) (drop count within) (drop count left))))) read
    ∙ ap (prefixed bounds) (sym (by_first_is anchor count rest within left some is))

-- a binding is read, and then those behind it
one_more : (bounds : List Bound) (anchor count : ℕ) (rest : List Mark) (within : List Inside) (left : List Held) (bound : Bound) → 0 < length rest → count ≡ 1 + binding_length false 0 0 (drop 1 rest) → Ok bound ≡ binding_of (take count rest) within left → prefixed (bounds ++ bound ∷ []) (bindings_from None 0 (drop count rest) (drop count within) (drop count left)) ≡ prefixed bounds (bindings_from (Some anchor) 0 rest within left)
one_more bounds anchor count rest within left bound some is read =
    prefixed_more bounds (bound ∷ []) (bindings_from None 0 (drop count rest) (drop count within) (drop count left))
    ∙ ap (λ first. prefixed bounds (and_then first (λ first. prefixed (first ∷ []) (bindings_from None 0 (drop count rest) (drop count within) (drop count left))))) read
    ∙ ap (prefixed bounds) (sym (by_first_is anchor count rest within left some is))

nothing_left : (bounds : List Bound) (rest : List Mark) (within : List Inside) (left : List Held) → length rest ≡ 0 → Ok bounds ≡ prefixed bounds (bindings_from None 0 rest within left)
nothing_left bounds [] within left none = ap Ok (sym (append-nil bounds))
nothing_left bounds (mark ∷ marks) within left none = absurd (omega (arith, none))

pub last_binding : (bounds : List Bound) (anchor count : ℕ) (rest : List Mark) (within : List Inside) (left : List Held) (bound : Bound) → 0 < length rest → count ≡ 1 + binding_length false 0 0 (drop 1 rest) → Ok bound ≡ binding_of (take count rest) within left → length (drop count rest) ≡ 0 → Ok (bounds ++ bound ∷ []) ≡ prefixed bounds (bindings_from (Some anchor) 0 rest within left)
last_binding bounds anchor count rest within left bound some is read none =
    nothing_left (bounds ++ bound ∷ []) (drop count rest) (drop count within) (drop count left) none ∙ one_more bounds anchor count rest within left bound some is read

pub next_binding : (bounds : List Bound) (anchor count : ℕ) (rest : List Mark) (within : List Inside) (left : List Held) (bound : Bound) (comma : Mark) (others : List Mark) → 0 < length rest → count ≡ 1 + binding_length false 0 0 (drop 1 rest) → Ok bound ≡ binding_of (take count rest) within left → drop count rest ≡ comma ∷ others → prefixed (bounds ++ bound ∷ []) (bindings_from (Some comma.start) 0 others (drop 1 (drop count within)) (drop 1 (drop count left))) ≡ prefixed bounds (bindings_from (Some anchor) 0 rest within left)
next_binding bounds anchor count rest within left bound comma others some is read here =
    ap (λ l. prefixed (bounds ++ bound ∷ []) (bindings_from None 0 l (drop count within) (drop count left))) (sym here) ∙ one_more bounds anchor count rest within left bound some is read
