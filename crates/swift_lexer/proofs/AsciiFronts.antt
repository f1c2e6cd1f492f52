-- The table of the fronts of ASCII.
use Rattle.std.proofs.Common.{◌≡◌, ◌∙◌, refl, ap, sym, arith, ℕ, zero, suc, ◌+◌, ◌<◌, ◌==◌, ◌||◌, List, [], ◌∷◌, map, get_or, if◌then◌else◌}
use Rattle.std.specs.Char.{is_ascii_alphabetic}
use Rattle.unicode_ident.proofs.IdentLemmas.{is_xid_start-ascii}
use Rattle.swift_lexer.specs.declared.chars.Front.{Front}
use Rattle.swift_lexer.specs.declared.chars.Front.TheVariants as front
use Rattle.swift_lexer.specs.declared.chars.TheConstants.{FRONTS, UNDERSCORE, DOLLAR}
use Rattle.swift_lexer.specs.Chars.{front_of, is_operator, is_wide_operator, is_word_start}
use Rattle.swift_lexer.proofs.FrontKinds.{from_Blank}

ascii_front : ℕ → Front
ascii_front c = if is_ascii_alphabetic c || c == UNDERSCORE || c == DOLLAR then front.Word else from_Blank c

front_ascii : (c : ℕ) → c < 128 → front_of c ≡ ascii_front c
unfolding front_of is_word_start ascii_front
front_ascii c small = ap (λ b. if b || c == UNDERSCORE || c == DOLLAR then front.Word else from_Blank c) (is_xid_start-ascii c small)

numbers : ℕ → ℕ → List ℕ
numbers from zero = []
numbers from (suc n) = from ∷ numbers (from + 1) n

number_at : {A : Type 0} (f : ℕ → A) (default : A) (from n k : ℕ) → k < n → get_or (map f (numbers from n)) k default ≡ f (from + k)
unfolding numbers
number_at f default from zero k within = absurd (omega (arith, within))
number_at f default from (suc n) zero within = let here : from ≡ from + 0 = omega arith in ap f here
number_at f default from (suc n) (suc k) within =
    let there : from + 1 + k ≡ from + suc k = omega arith in
    number_at f default (from + 1) n k (omega (arith, within)) ∙ ap f there

whole_table : map ascii_front (numbers 0 128) ≡ FRONTS
unfolding numbers ascii_front is_operator is_wide_operator
whole_table = refl

pub front_at : (c : ℕ) (default : Front) → c < 128 → get_or FRONTS c default ≡ front_of c
front_at c default small =
    let same : 0 + c ≡ c = omega arith in
    ap (λ l. get_or l c default) (sym whole_table)
    ∙ number_at ascii_front default 0 128 c small
    ∙ ap ascii_front same
    ∙ sym (front_ascii c small)
