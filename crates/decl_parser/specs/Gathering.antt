-- What is kept of a group's elements while they are read: this project's own.
use Rattle.std.specs.Prelude.{◌≡◌, ℕ, List, ◌++◌, true, false}
use Rattle.std.specs.List.{flat_map}
use Rattle.swift_lexer.specs.Trees.{Forest}
use Rattle.element_marks.specs.Quiet.{is_quiet, may_list_accessors}
use Rattle.decl_parser.specs.Levels.{insides}
use Rattle.decl_parser.specs.declared.gathering.Told.{Told}
use Rattle.decl_parser.specs.declared.gathering.Gathered.{Gathered}
use Rattle.decl_parser.specs.declared.gathering.Gathered.TheVariants.{Each, Quiet}

-- what a list tells, with what the elements from here on tell
pub record IsTold (text : List ℕ) (told : Told) (rest elements : Forest) : Type 0 where
  pub quiet : is_quiet elements ≡ true
  pub no_accessor : may_list_accessors text elements ≡ false
  pub uses : told.uses.items ++ flat_map (λ inside. inside.uses) (insides text rest) ≡ flat_map (λ inside. inside.uses) (insides text elements)
  pub locals : told.locals.items ++ flat_map (λ inside. inside.locals) (insides text rest) ≡ flat_map (λ inside. inside.locals) (insides text elements)

-- what is kept, where the elements from here on are still to be read
abbrev pub IsGathered : List ℕ → Gathered → Forest → Forest → Type 0
IsGathered text (Each list) rest elements = list.items ++ insides text rest ≡ insides text elements
IsGathered text (Quiet told) rest elements = IsTold text told rest elements
