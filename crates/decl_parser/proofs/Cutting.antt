-- Walks over declarations: what is left behind those that were read.
use Rattle.std.proofs.Common.{◌≡◌, refl, ℕ, zero, suc, ◌+◌, ◌-◌, ◌<◌, ◌≤◌, ◌==◌, ◌∙◌, ap, sym, arith, List, [], ◌∷◌, ◌++◌, length, drop, take, map, Ok, Err, true, false, if◌then◌else◌}
use Rattle.std.proofs.Math.Dec.{eqb-suc-zero}
use Rattle.std.proofs.lemmas.List.{map_push, length-take}
use Rattle.swift_lexer.specs.declared.element.Element.{Element}
use Rattle.swift_lexer.specs.Trees.{Forest, forest_of}
use Rattle.element_marks.specs.Levels.{level}
use Rattle.swift_tree.specs.declared.item.Item.{Item}
use Rattle.swift_tree.specs.Outlines.{ItemSeen, item_of}
use Rattle.element_marks.specs.declared.mark.Mark.{Mark}
use Rattle.element_marks.specs.Sorts.{is_semicolon}
use Rattle.element_marks.specs.Heads.{first_is}
use Rattle.decl_parser.specs.declared.fault.ParseFault.{ParseFault}
use Rattle.decl_parser.specs.declared.fault.ParseKind.TheVariants.{NotADeclaration}
use Rattle.decl_parser.specs.declared.place.Place.{Place}
use Rattle.decl_parser.specs.declared.inside.Inside.{Inside}
use Rattle.decl_parser.specs.Faults.{fault}
use Rattle.decl_parser.specs.Held.{MembersRead, Held}
use Rattle.decl_parser.specs.Parts.{prefixed}
use Rattle.decl_parser.specs.Levels.{forest_size, held, insides, items_of_list}
use Rattle.decl_parser.specs.Cut.{count_of, cut_from, head_of, items_in, item_at, one_item, start_of, with_first}
use Rattle.decl_parser.proofs.Prefixes.{prefixed_more}
use Rattle.decl_parser.proofs.Grouped.{insides_take, insides_drop, held_take, held_drop}

module _ (place : Place) (marks : List Mark) (all_insides : List Inside) (all_held : List Held) where
  pub cut_skip : (at inside left : ℕ) → cut_from place marks all_insides all_held at inside left ≡ cut_from place marks all_insides all_held (at + inside) 0 (left - inside)
  cut_skip at inside zero = let none : 0 - inside ≡ 0 = omega arith in sym (ap (cut_from place marks all_insides all_held (at + inside) 0) none)
  cut_skip at zero (suc left) =
      let here : at ≡ at + 0 = omega arith in
      let all : suc left ≡ suc left - 0 = omega arith in
      ap (λ n. cut_from place marks all_insides all_held n 0 (suc left)) here ∙ ap (cut_from place marks all_insides all_held (at + 0) 0) all
  cut_skip at (suc inside) (suc left) =
      let there : suc at + inside ≡ at + suc inside = omega arith in
      let rest : left - inside ≡ suc left - suc inside = omega arith in
      cut_skip (suc at) inside left
      ∙ ap (λ n. cut_from place marks all_insides all_held n 0 (left - inside)) there ∙ ap (cut_from place marks all_insides all_held (at + suc inside) 0) rest

  -- what is left from a place on
  abbrev pub rest_from : ℕ → MembersRead
  rest_from at = cut_from place marks all_insides all_held at 0 (length marks - at)

  pub past_semicolon : (at : ℕ) → at < length marks → first_is is_semicolon (drop at marks) ≡ true → rest_from (at + 1) ≡ rest_from at
  past_semicolon at within is =
      let left = length marks - (at + 1) in
      let more : length marks - at ≡ suc left = omega (arith, within) in
      let next : at + 1 ≡ suc at = omega arith in
      ap (λ n. cut_from place marks all_insides all_held n 0 left) next
      ∙ sym (ap (λ b. if b then cut_from place marks all_insides all_held (suc at) 0 left else (if head_of (drop at marks) == 0 then Err (fault (start_of (drop at marks)) NotADeclaration) else with_first (one_item place marks all_insides all_held at) (cut_from place marks all_insides all_held (suc at) (count_of (drop at marks) - 1) left))) is)
      ∙ sym (ap (cut_from place marks all_insides all_held at 0) more)

  pub no_declaration : (at : ℕ) → at < length marks → first_is is_semicolon (drop at marks) ≡ false → (head_of (drop at marks) == 0) ≡ true → Err (fault (start_of (drop at marks)) NotADeclaration) ≡ rest_from at
  no_declaration at within is none =
      let left = length marks - (at + 1) in
      let more : length marks - at ≡ suc left = omega (arith, within) in
      sym (ap (cut_from place marks all_insides all_held at 0) more
      ∙ ap (λ b. if b then cut_from place marks all_insides all_held (suc at) 0 left else (if head_of (drop at marks) == 0 then Err (fault (start_of (drop at marks)) NotADeclaration) else with_first (one_item place marks all_insides all_held at) (cut_from place marks all_insides all_held (suc at) (count_of (drop at marks) - 1) left))) is
      ∙ ap (λ b. if b then Err (fault (start_of (drop at marks)) NotADeclaration) else with_first (one_item place marks all_insides all_held at) (cut_from place marks all_insides all_held (suc at) (count_of (drop at marks) - 1) left)) none)

  pub past_item : (at count : ℕ) → at < length marks → first_is is_semicolon (drop at marks) ≡ false → (head_of (drop at marks) == 0) ≡ false → count ≡ count_of (drop at marks) → 0 < count
      → with_first (one_item place marks all_insides all_held at) (rest_from (at + count)) ≡ rest_from at
  past_item at count within is some counted positive =
      let left = length marks - (at + 1) in
      let more : length marks - at ≡ suc left = omega (arith, within) in
      let there : suc at + (count - 1) ≡ at + count = omega (arith, positive) in
      let rest : left - (count - 1) ≡ length marks - (at + count) = omega (arith, positive) in
      let behind : rest_from (at + count) ≡ cut_from place marks all_insides all_held (suc at) (count_of (drop at marks) - 1) left =
      sym (ap (λ n. cut_from place marks all_insides all_held (suc at) (n - 1) left) (sym counted)
      ∙ cut_skip (suc at) (count - 1) left
      ∙ ap (λ n. cut_from place marks all_insides all_held n 0 (left - (count - 1))) there
      ∙ ap (cut_from place marks all_insides all_held (at + count) 0) rest) in
      ap (with_first (one_item place marks all_insides all_held at)) behind
      ∙ sym (ap (cut_from place marks all_insides all_held at 0) more
      ∙ ap (λ b. if b then cut_from place marks all_insides all_held (suc at) 0 left else (if head_of (drop at marks) == 0 then Err (fault (start_of (drop at marks)) NotADeclaration) else with_first (one_item place marks all_insides all_held at) (cut_from place marks all_insides all_held (suc at) (count_of (drop at marks) - 1) left))) is
      ∙ ap (λ b. if b then Err (fault (start_of (drop at marks)) NotADeclaration) else with_first (one_item place marks all_insides all_held at) (cut_from place marks all_insides all_held (suc at) (count_of (drop at marks) - 1) left)) some)

  -- one declaration more was read
  pub item_more : (before : List Item) (item : Item) (at count : ℕ) → at < length marks → first_is is_semicolon (drop at marks) ≡ false → (head_of (drop at marks) == 0) ≡ false → count ≡ count_of (drop at marks) → 0 < count
      → Ok (item_of item) ≡ one_item place marks all_insides all_held at
      → prefixed (map item_of (before ++ item ∷ [])) (rest_from (at + count)) ≡ prefixed (map item_of before) (rest_from at)
  item_more before item at count within is some counted positive read =
      ap (λ l. prefixed l (rest_from (at + count))) (map_push item_of before item)
      ∙ prefixed_more (map item_of before) (item_of item ∷ []) (rest_from (at + count))
      ∙ ap (prefixed (map item_of before)) (ap (λ one. with_first one (rest_from (at + count))) read ∙ past_item at count within is some counted positive)

  -- the first fault of a declaration is that of the list
  pub item_refused : (before : List ItemSeen) (found : ParseFault) (at : ℕ) → at < length marks → first_is is_semicolon (drop at marks) ≡ false → (head_of (drop at marks) == 0) ≡ false → 0 < count_of (drop at marks)
      → Err found ≡ one_item place marks all_insides all_held at → Err found ≡ prefixed before (rest_from at)
  item_refused before found at within is some positive read =
      ap (prefixed before) (ap (λ one. with_first one (rest_from (at + count_of (drop at marks)))) read ∙ past_item at (count_of (drop at marks)) within is some refl positive)

-- a declaration by its own elements
pub one_item_is : (place : Place) (marks : List Mark) (text : List ℕ) (elements : List Element) (at count : ℕ) → count ≡ count_of (drop at marks)
    → item_at place (take (at + count) marks) at (drop (at + count) marks) (insides text (forest_of (take count (drop at elements)))) (held text (forest_of (take count (drop at elements))))
    ≡ one_item place marks (insides text (forest_of elements)) (held text (forest_of elements)) at
one_item_is place marks text elements at count counted =
    ap (λ l. item_at place (take (at + count) marks) at (drop (at + count) marks) l (held text (forest_of (take count (drop at elements))))) (insides_take text count (drop at elements) ∙ ap (take count) (insides_drop text at elements))
    ∙ ap (item_at place (take (at + count) marks) at (drop (at + count) marks) (take count (drop at (insides text (forest_of elements))))) (held_take text count (drop at elements) ∙ ap (take count) (held_drop text at elements))
    ∙ ap (λ n. item_at place (take (at + n) marks) at (drop (at + n) marks) (take n (drop at (insides text (forest_of elements)))) (take n (drop at (held text (forest_of elements))))) counted

pub count_positive : (marks : List Mark) → 0 < head_of marks → 0 < count_of marks
count_positive marks some = omega (arith, some)

pub not_zero : (n : ℕ) → 0 < n → (n == 0) ≡ false
not_zero zero some = absurd (omega (arith, some))
not_zero (suc n) some = eqb-suc-zero n

-- the whole list
pub whole_list : (place : Place) (text : List ℕ) (forest : Forest) → rest_from place (level text forest) (insides text forest) (held text forest) 0 ≡ items_of_list place text forest
unfolding items_of_list items_in
whole_list place text forest =
    let all : length (level text forest) - 0 ≡ length (level text forest) = omega arith in
    ap (cut_from place (level text forest) (insides text forest) (held text forest) 0 0) all

-- a part of a list is no larger
pub size_take : (n : ℕ) (elements : List Element) → forest_size (forest_of (take n elements)) ≤ forest_size (forest_of elements)
size_take zero [] = omega arith
size_take zero (element ∷ elements) = omega arith
size_take (suc n) [] = omega arith
size_take (suc n) (element ∷ elements) = omega (arith, size_take n elements)

pub size_drop : (n : ℕ) (elements : List Element) → forest_size (forest_of (drop n elements)) ≤ forest_size (forest_of elements)
size_drop zero [] = omega arith
size_drop zero (element ∷ elements) = omega arith
size_drop (suc n) [] = omega arith
size_drop (suc n) (element ∷ elements) = omega (arith, size_drop n elements)

pub within_front : (at more : ℕ) (marks : List Mark) → at < length marks → at ≤ length (take (at + more) marks)
within_front at more marks within = omega (arith, within, length-take (at + more) marks)
