-- What is kept of a group's elements, with one element more.
use Rattle.std.proofs.Common.{◌≡◌, ◌∙◌, ap, ℕ, List, ◌++◌, append_assoc, append-nil, sym, true}
use Rattle.std.specs.List.{flat_map}
use Rattle.swift_lexer.specs.Trees.{Tree, Forest, cons}
use Rattle.decl_parser.specs.declared.inside.Inside.{Inside}
use Rattle.decl_parser.specs.declared.gathering.Told.{Told}
use Rattle.decl_parser.specs.Gathering.{IsTold}
use Rattle.decl_parser.specs.Insides.{nothing_inside}
use Rattle.decl_parser.proofs.QuietGroups.{blank_leaf}
use Rattle.decl_parser.specs.Levels.{inside_of, insides, is_leaf}

pub told_more : (text : List ℕ) (old new : Told) (tree : Tree) (others elements : Forest) (inside : Inside) → inside ≡ inside_of text tree
    → IsTold text old (cons tree others) elements
    → new.uses.items ≡ old.uses.items ++ inside.uses
    → new.locals.items ≡ old.locals.items ++ inside.locals
    → IsTold text new others elements
unfolding insides
told_more text old new tree others elements inside is told uses locals =
    let more : List Inside = insides text others in
    record {
      quiet = told.quiet;
      no_accessor = told.no_accessor;
      uses = ap (λ l. l ++ flat_map (λ i. i.uses) more) uses
          ∙ append_assoc old.uses.items inside.uses (flat_map (λ i. i.uses) more)
          ∙ ap (λ i. old.uses.items ++ (i.uses ++ flat_map (λ j. j.uses) more)) is
          ∙ told.uses;
      locals = ap (λ l. l ++ flat_map (λ i. i.locals) more) locals
          ∙ append_assoc old.locals.items inside.locals (flat_map (λ i. i.locals) more)
          ∙ ap (λ i. old.locals.items ++ (i.locals ++ flat_map (λ j. j.locals) more)) is
          ∙ told.locals;
    }

-- the same for a token, inside which nothing stands
pub told_token : (text : List ℕ) (told : Told) (tree : Tree) (others elements : Forest) → is_leaf tree ≡ true → IsTold text told (cons tree others) elements → IsTold text told others elements
told_token text told tree others elements leaf is =
    told_more text told told tree others elements nothing_inside (blank_leaf text tree leaf) is (sym (append-nil told.uses.items)) (sym (append-nil told.locals.items))
