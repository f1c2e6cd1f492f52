-- What each step of grouping does to where it stands.
use Rattle.std.proofs.Common.{◌≡◌, ◌≢◌, ℕ, ◌<◌, ◌≤◌, List, [], ◌∷◌, ◌++◌, length, map, Ok, Err, sym, refl, ap, subst, arith, ◌∙◌, append-nil, true, false}
use Rattle.std.proofs.lemmas.List.{map_push}
use Rattle.swift_lexer.specs.declared.token.Class.TheVariants.{LeftBracket, RightBracket}
use Rattle.swift_lexer.specs.declared.token.Token.{Token}
use Rattle.swift_lexer.specs.declared.element.TheConstants.{DEEPEST}
use Rattle.swift_lexer.specs.declared.element.Element.{Element}
use Rattle.swift_lexer.specs.declared.element.GroupKind.TheVariants.{Unopened, Unclosed, Mismatched, TooDeep}
use Rattle.swift_lexer.specs.declared.grouping.OpenGroup.{OpenGroup}
use Rattle.swift_lexer.specs.declared.grouping.Grouping.{Grouping}
use Rattle.swift_lexer.specs.Trees.{Tree, leaf, nest, none, forest_tokens, closes, forest_from, forest_of, tree_of}
use Rattle.swift_lexer.specs.Groups.{Level, Reaches, IsGrouped, grouped, unopened, mismatched, too_deep, unclosed}
use Rattle.swift_lexer.specs.Openings.{level_of, Stands, Passes, Stops}
use Rattle.swift_lexer.proofs.Reaching.{Reaches-push, Reaches-open, Reaches-close, low_innermost}

length_levels : (groups : List OpenGroup) → length (map level_of groups) ≡ length groups
length_levels [] = refl
length_levels (group ∷ groups) = omega (arith, length_levels groups)

-- one element more at the end of a row
here_push : (items longer : List Element) (element : Element) (tree : Tree) → longer ≡ items ++ element ∷ [] → tree_of element ≡ tree → forest_of longer ≡ forest_from (map tree_of items ++ tree ∷ [])
here_push items longer element tree pushed is =
    ap forest_of pushed ∙ ap forest_from (map_push tree_of items element ∙ ap (λ t. map tree_of items ++ t ∷ []) is)

pub Stands-start : (text : List ℕ) (tokens : List Token) (grouping : Grouping) → grouping.levels.items ≡ [] → grouping.here.items ≡ [] → Stands text tokens grouping tokens
unfolding Stands
Stands-start text tokens grouping no_levels nothing =
    let here : Reaches text tokens [] none tokens = record { split = refl; open_levels = tt; matched = tt; depth = omega arith } in
    subst (λ levels. Reaches text tokens (map level_of levels) (forest_of grouping.here.items) tokens) (sym no_levels) (subst (λ items. Reaches text tokens [] (forest_of items) tokens) (sym nothing) here)

pub Passes-leaf : (text : List ℕ) (token : Token) (old new : Grouping) (element : Element) → new.levels.items ≡ old.levels.items → new.here.items ≡ old.here.items ++ element ∷ [] → tree_of element ≡ leaf token → token.class ≢ LeftBracket → token.class ≢ RightBracket → Passes text token old new
unfolding Stands
Passes-leaf text token old new element same_levels pushed is_leaf not_left not_right tokens rest stands =
    let levels = map level_of old.levels.items in
    let reached = Reaches-push text tokens levels (map tree_of old.here.items) (leaf token) rest stands (not_left, not_right) (omega (arith, stands.depth)) in
    subst (λ items. Reaches text tokens (map level_of items) (forest_of new.here.items) rest) (sym same_levels) (subst (λ here. Reaches text tokens levels here rest) (sym (here_push _ _ element (leaf token) pushed is_leaf)) reached)

pub Passes-open : (text : List ℕ) (left : Token) (old new : Grouping) (group : OpenGroup) → new.levels.items ≡ old.levels.items ++ group ∷ [] → group.before ≡ old.here → group.left ≡ left → new.here.items ≡ [] → left.class ≡ LeftBracket → length old.levels.items < DEEPEST → Passes text left old new
unfolding Stands
Passes-open text left old new group pushed before is_left nothing class low tokens rest stands =
    let levels = map level_of old.levels.items in
    let level : Level = record { before = forest_of old.here.items; left = left } in
    let reached = Reaches-open text tokens levels (forest_of old.here.items) left rest stands class (omega (arith, length_levels old.levels.items)) in
    let same : level_of group ≡ level = λ i. record { before = forest_of (before i).items; left = is_left i } in
    let longer : map level_of new.levels.items ≡ levels ++ level ∷ [] = ap (map level_of) pushed ∙ map_push level_of old.levels.items group ∙ ap (λ l. levels ++ l ∷ []) same in
    subst (λ l. Reaches text tokens l (forest_of new.here.items) rest) (sym longer) (subst (λ items. Reaches text tokens (levels ++ level ∷ []) (forest_of items) rest) (sym nothing) reached)

module _ (text : List ℕ) (right : Token) (old : Grouping) (shorter : List OpenGroup) (group : OpenGroup) (popped : old.levels.items ≡ shorter ++ group ∷ []) where
  -- where the state stands, by its innermost level
  innermost : (tokens rest : List Token) → Stands text tokens old rest → Reaches text tokens (map level_of shorter ++ level_of group ∷ []) (forest_of old.here.items) rest
  unfolding Stands
  innermost tokens rest stands =
      subst (λ l. Reaches text tokens l (forest_of old.here.items) rest) (ap (map level_of) popped ∙ map_push level_of shorter group) stands

  pub Passes-close : (new : Grouping) (element : Element) → new.levels.items ≡ shorter → tree_of element ≡ nest group.left (forest_of old.here.items) right → new.here.items ≡ group.before.items ++ element ∷ [] → right.class ≡ RightBracket → closes text group.left right ≡ true → Passes text right old new
  unfolding Stands
  Passes-close new element is_shorter is_nest pushed class of_one_kind tokens rest stands =
      let levels = map level_of shorter in
      let tree : Tree = nest group.left (forest_of old.here.items) right in
      let inside = innermost tokens (right ∷ rest) stands in
      let level = low_innermost text tokens levels (level_of group) (forest_of old.here.items) (right ∷ rest) inside in
      let around = Reaches-close text tokens levels (level_of group) (forest_of old.here.items) right rest inside in
      let reached = Reaches-push text tokens levels (map tree_of group.before.items) tree rest around (level.0, class, of_one_kind, inside.matched) level.1 in
      subst (λ items. Reaches text tokens (map level_of items) (forest_of new.here.items) rest) (sym is_shorter) (subst (λ here. Reaches text tokens levels here rest) (sym (here_push _ _ element tree pushed is_nest)) reached)

  pub Stops-mismatched : right.class ≡ RightBracket → closes text group.left right ≡ false → Stops text right old (Err (record { at = right.start; kind = Mismatched }))
  Stops-mismatched class differs tokens rest stands =
      mismatched (map level_of shorter) (level_of group) (forest_of old.here.items) right rest (innermost tokens (right ∷ rest) stands) class differs

  pub unclosed_at_end : (tokens : List Token) → Stands text tokens old [] → IsGrouped text tokens (Err (record { at = group.left.start; kind = Unclosed }))
  unclosed_at_end tokens stands =
      unclosed (map level_of shorter) (level_of group) (forest_of old.here.items) (innermost tokens [] stands)

pub Stops-too_deep : (text : List ℕ) (left : Token) (old : Grouping) → left.class ≡ LeftBracket → DEEPEST ≤ length old.levels.items → Stops text left old (Err (record { at = left.start; kind = TooDeep }))
unfolding Stands
Stops-too_deep text left old class deep tokens rest stands =
    too_deep (map level_of old.levels.items) (forest_of old.here.items) left rest stands class (omega (arith, stands.depth, length_levels old.levels.items))

pub Stops-unopened : (text : List ℕ) (right : Token) (old : Grouping) → right.class ≡ RightBracket → old.levels.items ≡ [] → Stops text right old (Err (record { at = right.start; kind = Unopened }))
unfolding Stands
Stops-unopened text right old class none_open tokens rest stands =
    unopened (forest_of old.here.items) right rest (subst (λ items. Reaches text tokens (map level_of items) (forest_of old.here.items) (right ∷ rest)) none_open stands) class

pub grouped_at_end : (text : List ℕ) (tokens : List Token) (old : Grouping) → old.levels.items ≡ [] → Stands text tokens old [] → IsGrouped text tokens (Ok (forest_of old.here.items))
unfolding Stands
grouped_at_end text tokens old none_open stands =
    let reached : Reaches text tokens [] (forest_of old.here.items) [] = subst (λ items. Reaches text tokens (map level_of items) (forest_of old.here.items) []) none_open stands in
    grouped (forest_of old.here.items) (sym (reached.split ∙ append-nil (forest_tokens (forest_of old.here.items)))) reached.matched (omega (arith, reached.depth))
